-- From what the laws say of a built view to the answers of the operations, for an index that Build wrote.
use Rattle.std.specs.Prelude.{◌≡◌, refl, ◌⊎◌, ℕ, suc, ◌-◌, ◌<◌, length, get_or}
use Rattle.std.proofs.Common.{sym, ap, subst, ◌∙◌, inl, inr, arith}
use Rattle.std.proofs.Math.Bool.{true, false}
use mathlib.Core.List.{List, [], ◌∷◌, ◌++◌}
use borrow.Author.Tests.{eq-eqb, ne_eqb, lt-ltb, le-ltb}
use Rattle.graph.specs.Graph.{Blocks, WellFormed}
use Rattle.graph.specs.Search.{Forest, starts_from}
use Rattle.graph.specs.Forest.{number, vertex_at, parent as parent_in, head as head_in, children as children_in}
use Rattle.graph.specs.Theorems.{start_covers, number_in_range, vertex_in_range, vertex_of_number, number_of_vertex}
use Rattle.graph.specs.Theorems.{same_heads, start_visited_first}
use Rattle.graph.specs.Laws.Tree.Ancestors.{ancestor as ancestor_in}
use Rattle.graph.specs.Laws.Joined.Spanning.{Covers}
use Rattle.graph.specs.Laws.Joined.Starts.{Startable, First}
use Rattle.record.specs.Record.{terminals, wires, blocks}
use Rattle.record.specs.Rules.{Rule, first_broken}
use Rattle.record.specs.Answers.{Answer, refused, answered, tried_then}
use Rattle.record.specs.Operations.{out_of_range}
use Rattle.record.specs.Laws.First.{first_broken_lem, first_kept, rule_kept, both_kept}
use Rattle.record.specs.Laws.First.{check_numbered}
use Rattle.record.specs.Laws.Range.{inside_range}
use Rattle.record.specs.Laws.Sound.{accepted_well_formed}
use Rattle.record.specs.Laws.Told.{untold_back, then_told, then_untold, then_passed, buffer_written}
use Rattle.forest.specs.Index.{index_of}
use Rattle.forest.specs.Operations.{build_rules, build, built}
use Rattle.forest.specs.Laws.Taken.{taken_inside}
use Rattle.queries.specs.View.{view_of}
use Rattle.queries.specs.Queries.{child_count, child_of}
use Rattle.queries.specs.Answers.{unless_zero}
use Rattle.queries.specs.Operations.{order_q, parent, head, ancestor_rules, ancestor, children, no_child}
use Rattle.queries.specs.Operations.{child_rules, child, visit, visited}
use Rattle.queries.specs.Steps.{Beside}
use Rattle.queries.specs.Written.{Written, forest_from, Terminal, VisitNumber, HeadsTell}
use Rattle.queries.specs.Laws.Shown.{Shows, parent_shown, head_shown, ancestor_shown, count_shown, child_shown}
use Rattle.queries.specs.Laws.Shown.{visit_shown, visited_shown}
use Rattle.queries.specs.Laws.Asked.{order_numbered_q, asked_inside}
use Rattle.queries.specs.Laws.Built.{as_many, built_shows}
use Rattle.queries.specs.Laws.Ready.{ready_beside}

pub same_answer : {A : Type 0} {a b : A} → answered a ≡ answered b → a ≡ b
same_answer e = cc

same_suc : {a b : ℕ} → suc a ≡ suc b → a ≡ b
same_suc e = omega arith

-- where Build refuses nothing, it has written the index with the start that it was given
pub written_by : (bytes : List ℕ) (start : ℕ) (work buffer : List ℕ) → build bytes start work buffer ≡ answered tt
    → (w : Written bytes (built bytes start work buffer)) × (w.start ≡ start)
unfolding build built build_rules
written_by bytes start work buffer e =
    let rules : List Rule = build_rules bytes start work buffer in
    let k : first_broken rules ≡ 0 = (untold_back (first_broken rules) tt (sym e)).0 in
    let (checked, more) = both_kept (check_numbered bytes) _ k in
    let (_, rest) = rule_kept 8 _ _ more in
    let (_, last) = rule_kept 9 _ _ rest in (
      record {
        accepted = record { unbroken = checked };
        start = start;
        taken = (rule_kept 13 _ _ last).0;
        is = sym (buffer_written rules (index_of (blocks bytes) (start - 1)) buffer k);
      },
      refl,
    )

module _ {bytes index : List ℕ} (w : Written bytes index) where
  abbrev g : Blocks
  g = blocks bytes

  abbrev F : Forest
  F = forest_from bytes w.start

  pub formed : WellFormed (blocks bytes)
  formed = accepted_well_formed w.accepted

  startable : Startable (blocks bytes) (w.start - 1)
  startable = rw (as_many w.accepted) (taken_inside (terminals bytes) w.start w.taken)

  pub covered : Covers (blocks bytes) (starts_from (length (blocks bytes)) (w.start - 1))
  covered = start_covers (blocks bytes) (w.start - 1) startable

  pub shown : Shows (view_of bytes index) (forest_from bytes w.start)
  shown =
      subst (λ (x : List ℕ). Shows (view_of bytes x) (forest_from bytes w.start)) (sym w.is)
      (built_shows w.accepted (w.start - 1) startable)

  pub vertex_of_lem : {v : ℕ} → Terminal bytes v → v - 1 < length (blocks bytes)
  vertex_of_lem t = omega (arith, as_many w.accepted, t.some, t.upto)

  -- the start is the first vertex that is visited, and a root
  pub first : Terminal bytes w.start → First (forest_from bytes w.start) (w.start - 1)
  first t = start_visited_first formed.in_range (vertex_of_lem t)

  -- ---- nothing of order Q is broken

  pub beside_written : Beside bytes index (terminals bytes) (wires bytes)
  beside_written = ready_beside (record { written = w; is_n = refl; is_m = refl })

  module _ {v : ℕ} (t : Terminal bytes v) where
    kept : first_broken (order_q bytes index v) ≡ 0
    kept = (asked_inside beside_written v t).kept

    asked : {A : Type 0} {x y : Answer A} → x ≡ y → tried_then (order_q bytes index v) x ≡ y
    asked {x = x} e = sym (then_untold (order_q bytes index v) x kept) ∙ e

    -- rules after order Q
    module _ {A : Type 0} (more : List Rule) where
      further : (x : Answer A) → tried_then (order_q bytes index v ++ more) x ≡ tried_then more x
      further x = sym (then_passed more x (order_numbered_q bytes index v) kept)

      asked_then : first_broken more ≡ 0 → {x y : Answer A} → x ≡ y → tried_then (order_q bytes index v ++ more) x ≡ y
      asked_then k {x} e = further x ∙ sym (then_untold more x k) ∙ e

      refused_then : {k : ℕ} (x : Answer A) → first_broken more ≡ suc k
          → tried_then (order_q bytes index v ++ more) x ≡ refused (suc k)
      refused_then x k = further x ∙ sym (then_told more x k)

    -- ---- the queries

    pub parent_answer : parent bytes index v ≡ answered (unless_zero (parent_in F (v - 1)))
    unfolding parent
    parent_answer = asked (parent_shown formed covered shown (v - 1) (vertex_of_lem t))

    pub head_answer : head bytes index v ≡ answered (suc (head_in g F (v - 1)))
    unfolding head
    head_answer = asked (head_shown formed covered shown (v - 1) (vertex_of_lem t))

    count_is : child_count (view_of bytes index) (v - 1) ≡ length (children_in F (v - 1))
    count_is = count_shown formed covered shown (v - 1) (vertex_of_lem t)

    pub children_answer : children bytes index v ≡ answered (length (children_in F (v - 1)))
    unfolding children
    children_answer = asked (ap answered count_is)

    pub child_answer : {k : ℕ} → k < length (children_in F (v - 1))
        → child bytes index v (suc k) ≡ answered (suc (get_or (children_in F (v - 1)) k 0))
    unfolding child child_rules no_child first_broken
    child_answer {k} l =
        let few = le-ltb (child_count (view_of bytes index) (v - 1)) (suc k) (omega (arith, count_is)) in
        let e : no_child bytes index v (suc k) ≡ false = rw (no_child, ne_eqb (suc k) 0 (λ z. omega arith), few) in
        let rule : List Rule = (13, no_child bytes index v (suc k)) ∷ [] in
        asked_then rule (first_kept 13 [] e) (child_shown formed covered shown (v - 1) k (vertex_of_lem t) l)

    pub child_refused : (j : ℕ) → (j ≡ 0) ⊎ (length (children_in F (v - 1)) < j) → child bytes index v j ≡ refused 13
    unfolding child child_rules no_child
    child_refused j h =
        let rule : List Rule = (13, no_child bytes index v j) ∷ [] in
        refused_then rule (child_of (view_of bytes index) (v - 1) j) (first_broken_lem 13 [] (none h))
      where
        none : (j ≡ 0) ⊎ (length (children_in F (v - 1)) < j) → no_child bytes index v j ≡ true
        none (inl e) = rw (no_child, eq-eqb j 0 e)
        none (inr l) =
            let many = lt-ltb (child_count (view_of bytes index) (v - 1)) j (omega (arith, count_is)) in
            rw (no_child, ne_eqb j 0 (λ z. omega arith), many)

    pub visit_answer : visit bytes index v ≡ answered (suc (number F (v - 1)))
    unfolding visit
    visit_answer = asked (visit_shown formed covered shown (v - 1) (vertex_of_lem t))

    pub ancestor_answer : {x : ℕ} → Terminal bytes x
        → ancestor bytes index v x ≡ answered (ancestor_in F (v - 1) (x - 1))
    unfolding ancestor ancestor_rules first_broken
    ancestor_answer {x} r =
        let rule : List Rule = (11, out_of_range (terminals bytes) x) ∷ [] in
        let k = first_kept 11 [] (inside_range (terminals bytes) x r.some r.upto) in
        asked_then rule k (ancestor_shown formed covered shown (v - 1) (x - 1) (vertex_of_lem r))

  pub visited_answer : {i : ℕ} → VisitNumber bytes i → visited bytes index i ≡ answered (suc (vertex_at F (i - 1)))
  unfolding visited
  visited_answer {i} t = asked t (visited_shown formed covered shown (i - 1) (vertex_of_lem t))

  -- ---- visit numbers and terminals are inverse

  pub visited_back : {v i : ℕ} → Terminal bytes v → visit bytes index v ≡ answered i
      → visited bytes index i ≡ answered v
  visited_back {v} {i} t e =
      let q : suc (number F (v - 1)) ≡ i = same_answer (sym (visit_answer t) ∙ e) in
      let l = as_many w.accepted in
      let k = number_in_range formed.in_range covered (v - 1) (vertex_of_lem t) in
      let r : VisitNumber bytes i = record { some = omega arith; upto = omega arith } in
      let z : i - 1 ≡ number F (v - 1) = omega arith in
      let y = vertex_of_number formed.in_range covered (v - 1) (vertex_of_lem t) in
      let x = ap (vertex_at F) z in
      let s = t.some in
      visited_answer r ∙ ap answered (omega arith)

  pub visit_back : {v i : ℕ} → VisitNumber bytes i → visited bytes index i ≡ answered v
      → visit bytes index v ≡ answered i
  visit_back {v} {i} t e =
      let q : suc (vertex_at F (i - 1)) ≡ v = same_answer (sym (visited_answer t) ∙ e) in
      let l = as_many w.accepted in
      let k = vertex_in_range formed.in_range covered (i - 1) (vertex_of_lem t) in
      let r : Terminal bytes v = record { some = omega arith; upto = omega arith } in
      let z : v - 1 ≡ vertex_at F (i - 1) = omega arith in
      let y = number_of_vertex formed.in_range covered (i - 1) (vertex_of_lem t) in
      let x = ap (number F) z in
      let s = t.some in
      visit_answer r ∙ ap answered (omega arith)

  -- ---- equal heads

  pub heads_answer : {u v : ℕ} → Terminal bytes u → Terminal bytes v
      → HeadsTell bytes w.start u v (head bytes index u) (head bytes index v)
  heads_answer {u} {v} t r =
      let x = head_answer t in
      let y = head_answer r in
      let q = same_heads formed covered (u - 1) (v - 1) (vertex_of_lem t) (vertex_of_lem r) in
      record {
        first_head = x;
        second_head = y;
        equal_exactly = (
          λ e. q.0 (same_suc (same_answer (sym x ∙ e ∙ y))),
          λ d. x ∙ ap (λ (z : ℕ). answered (suc z)) (q.1 d) ∙ sym y,
        );
      }
