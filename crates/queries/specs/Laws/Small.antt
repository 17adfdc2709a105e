-- Every number that a query answers is one of 16 bits, for every record and index.
use Rattle.std.specs.Prelude.{◌≡◌, ◌⊎◌, false, ℕ, zero, suc, ◌-◌, ◌≤◌, ◌<◌, ltb, length, get_or}
use Rattle.std.proofs.Math.Bool.{Bool}
use mathlib.Core.List.{List, map}
use Rattle.std.proofs.Math.Option as Option
use Rattle.std.proofs.Common.{arith, ltb-true}
use Rattle.std.proofs.Math.Dec.{eqb}
use Rattle.std.proofs.Math.ListN.{drop, length-take}
use Rattle.bits.specs.Bits.{count, select}
use Rattle.bits.specs.Laws.Rank.{count_le}
use Rattle.bits.specs.Laws.Select.{select_le}
use Rattle.graph.specs.Graph.{Blocks, block, target}
use Rattle.graph.specs.Search.{count_up}
use Rattle.graph.specs.Laws.Heads.Walks.{Steps, stops, leads, walk_has}
use Rattle.graph.specs.Laws.Places.Basics.{Told, pass, fail, told}
use Rattle.graph.specs.Laws.Places.CountUp.{length_each}
use Rattle.record.specs.Record.{terminals, wires, unary, blocks}
use Rattle.record.specs.Rules.{first_broken}
use Rattle.record.specs.Answers.{Answer, refused, answered}
use Rattle.record.specs.Sized.{sizes_of}
use Rattle.record.specs.Laws.First.{both_kept}
use Rattle.record.specs.Laws.Sounded.{sound_vertices}
use Rattle.record.specs.Laws.Spans.{block_small}
use Rattle.record.specs.Laws.Told.{untold}
use Rattle.record.specs.Laws.Valued.{Valued, none, value, Small, then_valued}
use Rattle.queries.specs.View.{View, view_of, block_marks, section_of}
use Rattle.queries.specs.Queries.{Step, stuck, top, rise, step_up, parent_by, parent_of, head_by, head_next, head_of}
use Rattle.queries.specs.Queries.{child_count, vertex_or, child_of, visit_of, found, visited_of}
use Rattle.queries.specs.Answers.{or_zero}
use Rattle.queries.specs.Operations.{order_q, parent, head, children, child_rules, child, visit, visited}
use Rattle.queries.specs.Laws.Asked.{Asked, asked, order_numbered_q}
use Rattle.queries.specs.Laws.Inside.{Inside, step_inside}

-- a parent, or none, whose number is one of 16 bits
abbrev pub SmallParent : Answer (Option.Option ℕ) → Type 0
SmallParent a = Valued (λ (p : Option.Option ℕ). or_zero p < 65536) a

-- a vertex of a graph of at most 4,096, counted from 1
vertex_small : (w : View) → length w.graph ≤ 4096 → (v : ℕ) → Small (vertex_or w v)
vertex_small w l v = go (told (ltb v (length w.graph)))
  where
    go : Told (ltb v (length w.graph)) → Small (vertex_or w v)
    go (pass e) = let h = ltb-true v (length w.graph) e in rw (e, vertex_or) (value (suc v) (omega arith))
    go (fail e) = rw (e, vertex_or) none

parent_by_lem : (g : Blocks) → length g ≤ 4096 → (s : Step) → Inside g s → SmallParent (parent_by s)
parent_by_lem g l stuck i = none
parent_by_lem g l top i = value Option.none (omega arith)
parent_by_lem g l (rise j p) i = value (Option.some (suc p)) (omega arith)

-- a climb: each step stops with a small number, or leads to a vertex
abbrev Climbs : ℕ → Answer ℕ ⊎ ℕ → Type 0
Climbs b = Steps Small (λ u. u < b)

head_by_lem : (w : View) → length w.graph ≤ 4096 → (u : ℕ) → u < length w.graph → (s : Step) → Inside w.graph s
    → Climbs (length w.graph) (head_by w u s)
head_by_lem w l u h stuck i = stops none
head_by_lem w l u h top i = stops (value (suc u) (omega arith))
head_by_lem w l u h (rise j p) i = go (told (get_or (w.marks_b u) j false))
  where
    go : Told (get_or (w.marks_b u) j false) → Climbs (length w.graph) (head_by w u (rise j p))
    go (pass e) = rw (e, head_by) (stops (value (suc u) (omega arith)))
    go (fail e) = rw (e, head_by) (leads i)

found_small : (k : ℕ) → k ≤ 4096 → Small (found k)
found_small zero h = none
found_small (suc k) h = value (suc k) (omega arith)

module _ (bytes index : List ℕ) where
  abbrev w : View
  w = view_of bytes index

  -- order Q is kept
  here : (v : ℕ) → first_broken (order_q bytes index v) ≡ 0 → Asked bytes index v (terminals bytes) (wires bytes)
  here v k = asked bytes index v {s = sizes_of bytes} (untold (sizes_of bytes) k)

  vertices : (v : ℕ) → first_broken (order_q bytes index v) ≡ 0
      → (length (blocks bytes) ≤ 4096) × (v - 1 < length (blocks bytes))
  vertices v k =
      let q = here v k in
      let s = q.beside.sound in
      let l = sound_vertices s in
      let f = s.n_fits in
      let a = q.ranged.some in
      let b = q.ranged.upto in
      (omega arith, omega arith)

  pub parent_small : (v : ℕ) → SmallParent (parent bytes index v)
  unfolding parent parent_of step_up
  parent_small v = then_valued (order_q bytes index v) (parent_of w (v - 1)) (λ k. (
      let marks = w.marks_p (v - 1) in
      let i = step_inside (blocks bytes) (v - 1) (count marks) (select marks 1 - 1) in
      parent_by_lem (blocks bytes) (vertices v k).0 (step_up (blocks bytes) w.marks_p (v - 1)) i
      ))

  pub head_small : (v : ℕ) → Small (head bytes index v)
  unfolding head head_of step_up
  head_small v = then_valued (order_q bytes index v) (head_of w (v - 1)) (λ k. (
      let (l, h) = vertices v k in
      let g = blocks bytes in
      walk_has (head_next w) (refused 12) none (λ u i. (
      let marks = w.marks_p u in
      let inside = step_inside g u (count marks) (select marks 1 - 1) in
      head_by_lem w l u i (step_up g w.marks_p u) inside
      )) (length g - 1) (v - 1) h
      ))

  pub children_small : (v : ℕ) → Small (children bytes index v)
  unfolding children child_count block_marks
  children_small v = then_valued (order_q bytes index v) (answered (child_count w (v - 1))) (λ k. (
      let q = here v k in
      let a = q.ranged.some in
      let b = q.ranged.upto in
      let c = count_le (w.marks_e (v - 1)) in
      let start = select (unary bytes) (suc (v - 1)) in
      let marks = drop start (section_of (terminals bytes) (wires bytes) index 0) in
      let d = length-take (length (block (blocks bytes) (v - 1))) marks in
      let e = block_small q.beside.sound {u = v - 1} (omega arith) in
      value (child_count w (v - 1)) (omega arith)
      ))

  pub child_small : (v j : ℕ) → Small (child bytes index v j)
  unfolding child child_rules child_of
  child_small v j = then_valued (child_rules bytes index v j) (child_of w (v - 1) j) (λ k. (
      let (l, h) = vertices v (both_kept (order_numbered_q bytes index v) _ k).0 in
      vertex_small w l (target (blocks bytes) (v - 1) (select (w.marks_e (v - 1)) j - 1))
      ))

  pub visit_small : (v : ℕ) → Small (visit bytes index v)
  unfolding visit visit_of
  visit_small v =
      then_valued (order_q bytes index v) (visit_of w (v - 1))
      (λ k. vertex_small w (vertices v k).0 (w.stored (v - 1)))

  pub visited_small : (i : ℕ) → Small (visited bytes index i)
  unfolding visited visited_of
  visited_small i = then_valued (order_q bytes index i) (visited_of w (i - 1)) (λ k. (
      let t : List Bool = map (λ u. eqb (w.stored u) (i - 1)) (count_up 0 (length (blocks bytes))) in
      let a = (vertices i k).0 in
      let b = select_le t 1 in
      let c = length_each (λ u. eqb (w.stored u) (i - 1)) 0 (length (blocks bytes)) in
      found_small (select t 1) (omega arith)
      ))
