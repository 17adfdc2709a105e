-- The answers for all terminals at once: a pass over the vertices, and one in order of visits.
--   built_ready                                what the type tells
--   cells_put, apart_self                      a list that is filled cell by cell
--   block_span, count_cell, count_small        the children of a vertex
--   stored_inside, stored_apart, order_cell    the stored numbers are those of 0 to n - 1, each once
--   never_refused, root_parent, risen_parent   the parent of a vertex
--   root_head, bridge_head, risen_head         its head, by that of its parent
--   filled                                     the whole table
use mathlib.Core.Path.{◌≡◌, refl, sym, ap, subst, ◌∙◌}
use mathlib.Core.Logic.{inl, inr}
use mathlib.Core.List.{List}
use mathlib.Core.Option.{some}
use Prim.Native.Nat.{ℕ, zero, suc, ◌+◌, ◌-◌, ◌*◌, ◌≤◌, ◌<◌}
use native.Mathlib.Decide.{dec_lt}
use native.Mathlib.Numerals.{add-one}
use native.Mathlib.Omega.{arith}
use lib.ListN.{length, get_or, set, take, drop, length-set, length-take}
use Rattle.bits.specs.Bits.{count}
use Rattle.bits.specs.Laws.Rank.{count_le}
use Rattle.graph.specs.Graph.{WellFormed}
use Rattle.graph.specs.Search.{Forest, starts_from}
use Rattle.graph.specs.Forest.{number, vertex_at, parent, head, children}
use Rattle.graph.specs.Laws.Joined.Spanning.{Covers}
use Rattle.graph.specs.Theorems.{number_in_range, vertex_in_range, vertex_of_number, number_of_vertex}
use Rattle.graph.specs.Theorems.{parent_before_child}
use Rattle.record.specs.Record.{unary, blocks, terminals}
use Rattle.record.specs.Answers.{Answer, answered, said}
use Rattle.record.specs.Starts.{starts_of}
use Rattle.adjacency.specs.Laws.Stores.{cell_same, cell_other}
use Rattle.queries.specs.View.{View, view_by, section_of, number_of, block_marks}
use Rattle.queries.specs.Queries.{Step, stuck, top, rise, step_up, parent_by, parent_of, head_by, head_next}
use Rattle.queries.specs.Queries.{child_count}
use Rattle.queries.specs.Answers.{or_zero, unless_zero}
use Rattle.queries.specs.Operations.{visit, parent as the_parent_answer, head as the_head_answer}
use Rattle.queries.specs.Operations.{children as the_children_answer}
use Rattle.std.specs.Prelude.{Result, Ok, Err, IsOk}
use Rattle.std.specs.Prelude as code
use Rattle.record.specs.declared.Refusal.{Refusal}
use Rattle.queries.specs.declared.climbs.Rise.{Rise}
use Rattle.queries.specs.Steps.{Beside, risen, step_of}
use Rattle.queries.specs.Written.{forest_from, Terminal}
use Rattle.queries.specs.Table.{columns, answers_of, table_on}
use Rattle.queries.specs.declared.built.Built.{Built}
use Rattle.queries.specs.Filling.{Ready, Cells, parent_at, head_at, ParentsTo, HeadsTo}
use Rattle.queries.specs.Laws.Shown.{Shows, parent_shown, head_shown, head_stopped, head_risen, count_shown}
use Rattle.queries.specs.Laws.Built.{as_many}
use Rattle.queries.specs.Laws.Ready.{ready_beside}
use Rattle.queries.specs.Laws.Answered as Answered
use Rattle.queries.specs.Laws.Answered.{same_answer, visit_answer, parent_answer, children_answer, head_answer}
use Rattle.queries.specs.Laws.Columns.{column_told}
use Rattle.queries.proofs.Laws.Climbing.{block_from, block_to, rise_to, refused_told}
use Rattle.queries.specs.Laws.Framed.{length_p}
use Rattle.queries.proofs.Laws.Stepping.{block_bounds}
use Rattle.queries.proofs.Laws.Singles.{children_counted}

-- what the type tells
pub built_ready : (b : Built)
    → Ready b.indexed.layout.bytes.now b.indexed.index.now b.indexed.layout.n b.indexed.layout.m
built_ready b = record {
  written = record { accepted = b.accepted; start = b.start.0; taken = b.taken; is = b.is };
  is_n = b.indexed.layout.sound.is_n;
  is_m = b.indexed.layout.sound.is_m;
}

-- ---- cells, one after another

-- the cell of k is stored, which is none of those before
pub cells_put : {at value : ℕ → ℕ} {n k : ℕ} {l : List ℕ} → Cells at value n k l → ((i : ℕ) → i < k → at i ≡ at k → ⊥)
    → {a x : ℕ} {next : List ℕ}
    → a ≡ at k → at k < n → x ≡ value k → next ≡ set l a x → Cells at value n (k + 1) next
cells_put {at} {value} {n} {k} {l} c apart {a} {x} {next} ea h ex e = record {
  size = ap length e ∙ length-set l a x ∙ c.size;
  cells = λ i j. ap (λ (t : List ℕ). get_or t (at i) 0) e ∙ go i j (dec_lt i k);
}
  where
    go : (i : ℕ) → i < k + 1 → Dec (i < k) → get_or (set l a x) (at i) 0 ≡ value i
    go i j (yes b) = cell_other l x (λ q. apart i b (q ∙ ea)) ∙ c.cells i b
    go i j (no b) =
        let z : i ≡ k = omega arith in
        let s = c.size in
        cell_same l x (ap at z ∙ sym ea) (rw ea (omega arith)) ∙ ex ∙ ap value (sym z)

-- by the vertex itself
pub apart_self : {k : ℕ} (i : ℕ) → i < k → i ≡ k → ⊥
apart_self i h e = omega arith

-- ---- the children of a vertex

module _ {bytes index : List ℕ} {n m : ℕ} (o : Beside bytes index n m) {starts : List ℕ} {v a b : ℕ}
    (es : starts ≡ starts_of (unary bytes)) (h : v < n) (ga : a ≡ get_or starts v 0) (gb : b ≡ get_or starts (v + 1) 0) where
  from : a ≡ get_or (starts_of (unary bytes)) v 0
  from = block_from o es h ga gb

  to : b ≡ get_or (starts_of (unary bytes)) (v + 1) 0
  to = block_to o es h ga gb

  -- the block, by the numbers that the code reads
  pub block_span : (a ≤ b) × (b ≤ 2 * m)
  block_span = block_bounds o.sound h from to

  module _ {c : ℕ} (ec : c ≡ count (take (b - a) (drop (a + v + 1) (section_of n m index 0)))) where
    pub count_cell : c ≡ child_count (view_by n m bytes index) v
    count_cell = children_counted index o.sound h from to ec

    pub count_small : c < 65536
    count_small =
        let (p, q) = block_span in
        let f = o.sound.m_fits in
        let l = length-take (b - a) (drop (a + v + 1) (section_of n m index 0)) in
        let k = count_le (take (b - a) (drop (a + v + 1) (section_of n m index 0))) in
        omega arith

-- ---- what Build wrote

module _ {bytes index : List ℕ} {n m : ℕ} (r : Ready bytes index n m) where
  abbrev F : Forest
  F = forest_from bytes r.written.start

  abbrev view : View
  view = view_by n m bytes index

  abbrev stored : ℕ → ℕ
  stored = number_of n m index

  vertices : length (blocks bytes) ≡ n
  vertices = as_many r.written.accepted ∙ sym r.is_n

  formed : WellFormed (blocks bytes)
  formed = Answered.formed r.written

  covered : Covers (blocks bytes) (starts_from (length (blocks bytes)) (r.written.start - 1))
  covered = Answered.covered r.written

  inside : {v : ℕ} → v < n → v < length (blocks bytes)
  inside h = rw vertices h

  shows : Shows (view_by n m bytes index) F
  shows =
      subst (λ (x : ℕ). Shows (view_by x m bytes index) F) (sym r.is_n)
      (subst (λ (y : ℕ). Shows (view_by (terminals bytes) y bytes index) F) (sym r.is_m)
      (Answered.shown r.written))

  -- ---- the order of visits

  stored_is : {v : ℕ} → v < n → stored v ≡ number F v
  stored_is {v} h = shows.shows_numbers v (inside h)

  pub stored_inside : {v : ℕ} → v < n → number_of n m index v < n
  stored_inside {v} h =
      omega (arith, vertices, stored_is h, number_in_range formed.in_range covered v (inside h))

  pub stored_apart : {u v : ℕ} → u < n → v < n → number_of n m index u ≡ number_of n m index v → u ≡ v
  stored_apart {u} {v} hu hv e =
      let q : number F u ≡ number F v = sym (stored_is hu) ∙ e ∙ stored_is hv in
      sym (vertex_of_number formed.in_range covered u (inside hu))
      ∙ ap (vertex_at F) q
      ∙ vertex_of_number formed.in_range covered v (inside hv)

  pub stored_before : {v : ℕ} → v < n → (u : ℕ) → u < v → number_of n m index u ≡ number_of n m index v → ⊥
  stored_before h u l e =
      let same = stored_apart (omega arith) h e in
      omega arith

  -- the k-th of the vertices in order of visits
  pub order_cell : {order : List ℕ} → Cells (number_of n m index) (λ v. v) n n order → {k x : ℕ} → k < n
      → x ≡ get_or order k 0 → (x < n) × (number_of n m index x ≡ k)
  order_cell {order} c {k} {x} h e =
      let v : ℕ = vertex_at F k in
      let inner : v < n = omega (arith, vertices, vertex_in_range formed.in_range covered k (inside h)) in
      let is : stored v ≡ k = stored_is inner ∙ number_of_vertex formed.in_range covered k (inside h) in
      let found : x ≡ v = e ∙ ap (λ (i : ℕ). get_or order i 0) (sym is) ∙ c.cells v inner in
      (rw found inner, ap stored found ∙ is)

  -- ---- parents and heads

  module _ {v : ℕ} (h : v < n) where
    abbrev step : Step
    step = step_up (blocks bytes) (block_marks bytes (section_of n m index 1)) v

    never_stuck : stuck ≡ step → {A : Type 0} → A
    unfolding parent_of
    never_stuck e =
        let q = ap parent_by e ∙ parent_shown formed covered shows v (inside h) in
        let z : ◌≡◌ {A = ℕ} 0 1 = cc in
        absurd (omega arith)

    -- so the code has no refusal of a step
    pub never_refused : (r : Result (code.Option Rise) Refusal) → step_of r ≡ risen step → IsOk r
    never_refused (Ok x) e = refl
    never_refused (Err q) e = never_stuck (refused_told step e).1

    pub root_parent : top ≡ step → 0 ≡ parent_at bytes index n m v
    unfolding parent_of said
    root_parent e = ap (λ (s : Step). said or_zero (parent_by s)) e

    pub risen_parent : {j p : ℕ} → rise j p ≡ step → p + 1 ≡ parent_at bytes index n m v
    unfolding parent_of said
    risen_parent {p = p} e = add-one p ∙ ap (λ (s : Step). said or_zero (parent_by s)) e

    pub risen_to : {starts : List ℕ} {a b : ℕ} → starts ≡ starts_of (unary bytes) → a ≡ get_or starts v 0
        → b ≡ get_or starts (v + 1) 0 → {j p : ℕ} → rise j p ≡ step → p < n
    risen_to es ga gb e =
        let o = ready_beside r in
        rise_to o.sound h (block_from o es h ga gb) (block_to o es h ga gb) (section_of n m index 1)
        (length_p o.framed) e

    head_is : head_at bytes index n m v ≡ suc (head (blocks bytes) F v)
    unfolding said
    head_is = ap (said (λ u. u)) (head_shown formed covered shows v (inside h))

    pub bridge_head : inl (answered (suc v)) ≡ head_next (view_by n m bytes index) v
        → v + 1 ≡ head_at bytes index n m v
    bridge_head e =
        add-one v ∙ same_answer (head_stopped formed covered shows v (inside h) (sym e)) ∙ sym head_is

    pub root_head : top ≡ step → v + 1 ≡ head_at bytes index n m v
    root_head e = bridge_head (ap (head_by view v) e)

  -- the parent is visited before
  module _ {v p j : ℕ} (h : v < n) (l : p < n) (e : rise j p ≡ step h)
      (up : inr p ≡ head_next (view_by n m bytes index) v) where
    above : stored p < stored v
    unfolding parent_of
    above =
        let q : parent F v ≡ suc p =
        sym (some_is (parent F v) (same_answer (ap parent_by e ∙ parent_shown formed covered shows v (inside h)))) in
        let b = parent_before_child formed.in_range covered p v (inside h) q in
        omega (arith, b, stored_is h, stored_is l)
      where
        some_is : (k : ℕ) {u : ℕ} → some u ≡ unless_zero k → u ≡ k
        some_is zero e = absurd (let z : ◌≡◌ {A = ℕ} 0 1 = cc in omega arith)
        some_is (suc k) e = cc

    pub risen_head : {heads : List ℕ} → HeadsTo bytes index n m (number_of n m index v) heads → {x : ℕ}
        → x ≡ get_or heads p 0 → x ≡ head_at bytes index n m v
    risen_head t ex =
        ex ∙ t.cells p l above ∙ head_is l
        ∙ sym (same_answer (head_risen formed covered shows (inside h) (inside l) (sym up)))
        ∙ sym (head_is h)

  -- ---- the whole table

  -- a list of what a query answers
  module _ {A : Type 0} (value : A → ℕ) (ask : ℕ → Answer A) (f : ℕ → A)
      (answer : (v : ℕ) → Terminal bytes v → ask v ≡ answered (f (v - 1))) where
    column : {l : List ℕ} → length l ≡ n → ((v : ℕ) → v < n → get_or l v 0 ≡ value (f v))
        → l ≡ answers_of value ask (terminals bytes)
    column size cells =
        let e = r.is_n in
        column_told value ask (terminals bytes) f answer (size ∙ e) (λ i h. cells i (omega arith))

  module _ {visits parents counts heads : List ℕ} where
    pub filled : Cells (λ v. v) (λ v. suc (number_of n m index v)) n n visits → ParentsTo bytes index n m n parents
        → Cells (λ v. v) (child_count (view_by n m bytes index)) n n counts → HeadsTo bytes index n m n heads
        → columns visits parents counts heads ≡ table_on bytes index
    unfolding table_on said
    filled cv cp cc ch =
        let w = r.written in
        let v = column (λ i. i) (visit bytes index) (λ u. suc (number F u)) (λ v t. visit_answer w t)
        {l = visits} cv.size (λ i h. cv.cells i h ∙ ap suc (stored_is h)) in
        let p =
        column or_zero (the_parent_answer bytes index) (λ u. unless_zero (parent F u)) (λ v t. parent_answer w t)
        {l = parents} cp.size (λ i h. cp.cells i h (stored_inside h)
        ∙ ap (said or_zero) (parent_shown formed covered shows i (inside h))) in
        let c =
        column (λ k. k) (the_children_answer bytes index) (λ u. length (children F u)) (λ v t. children_answer w t)
        {l = counts} cc.size (λ i h. cc.cells i h ∙ count_shown formed covered shows i (inside h)) in
        let t =
        column (λ u. u) (the_head_answer bytes index) (λ u. suc (head (blocks bytes) F u)) (λ v t. head_answer w t)
        {l = heads} ch.size (λ i h. ch.cells i h (stored_inside h) ∙ head_is h) in
        rw (v, p, c, t)
