-- What the queries answer on a view that shows the forest of its graph.
use Rattle.std.specs.Prelude.{◌≡◌}
use Rattle.std.proofs.Math.Path.{refl, sym, ap, ap₂}
use Rattle.std.proofs.Common.{◌∙◌, inl, inr}
use Rattle.std.proofs.Math.Bool.{Bool, true, false}
use mathlib.Core.List.{List, map}
use Prim.Native.Nat.{ℕ, zero, suc, ◌-◌, ◌<◌}
use Rattle.std.proofs.Math.Numerals.{add-one}
use native.Mathlib.Omega.{arith}
use borrow.Author.Tests.{eq-eqb, ne_eqb, eqb-true, lt-ltb}
use Rattle.std.proofs.Math.Dec.{eqb}
use Rattle.std.proofs.Math.ListN.{length, get_or}
use Rattle.bits.specs.Bits.{count, select}
use Rattle.bits.specs.Laws.Select.{select_bounds}
use Rattle.graph.specs.Graph.{block, target, position, WellFormed}
use Rattle.graph.specs.Search.{Forest, all, search, count_up}
use Rattle.graph.specs.Joined.{bridge}
use Rattle.graph.specs.Forest.{number, vertex_at, parent, head, children, child_mark, parent_mark}
use Rattle.graph.specs.Theorems.{wires_balance, number_in_range, vertex_in_range, vertex_of_number, number_of_vertex}
use Rattle.graph.specs.Theorems.{children_as_listed, children_counted, parent_mark_once, parent_mark_none}
use Rattle.graph.specs.Theorems.{ancestor_by_steps, head_by_steps, head_of_step}
use Rattle.graph.specs.Laws.Places.Basics.{clash}
use Rattle.graph.specs.Laws.Places.CountUp.{length_each, each_is}
use Rattle.graph.specs.Laws.Places.Pairing.{place_at, source}
use Rattle.graph.specs.Laws.Tree.Ancestors.{ancestor}
use Rattle.graph.specs.Laws.Joined.Spanning.{Covers, search_spans}
use Rattle.graph.specs.Laws.Edges.Marks.{back_place, back_marked, back_parent, first_back}
use Rattle.graph.specs.Laws.Heads.Walks.{walk_stop, HeadSteps, AncestorSteps}
use Rattle.record.specs.Answers.{Answer, refused, answered}
use Rattle.forest.specs.Laws.Ones.{count_row}
use Rattle.queries.specs.View.{View}
use Rattle.queries.specs.Queries.{top, rise, step_by, step_up, parent_by, parent_of, head_by, head_next}
use Rattle.queries.specs.Answers.{unless_zero}
use Rattle.queries.specs.Queries.{head_of, ancestor_by, ancestor_next, ancestor_of, child_count, vertex_or, child_of}
use Rattle.queries.specs.Queries.{visit_of, found, visited_of}
use Rattle.queries.specs.Laws.Marks.{set_inside, none_set, first_set, one_set, select_each}

-- the marks of each block and the stored numbers are the forest's
pub record Shows (w : View) (F : Forest) : Type 0 where
  pub shows_e : (u : ℕ) → u < length w.graph
      → w.marks_e u ≡ map (child_mark F u) (count_up 0 (length (block w.graph u)))
  pub shows_p : (u : ℕ) → u < length w.graph
      → w.marks_p u ≡ map (parent_mark w.graph w.graph F u) (count_up 0 (length (block w.graph u)))
  pub shows_b : (u : ℕ) → u < length w.graph
      → w.marks_b u ≡ map (bridge w.graph u) (count_up 0 (length (block w.graph u)))
  pub shows_numbers : (u : ℕ) → u < length w.graph → w.stored u ≡ number F u

-- a mark of a block
each_set : (f : ℕ → Bool) (n i : ℕ) → get_or (map f (count_up 0 n)) i false ≡ true → (i < n) × (f i ≡ true)
each_set f n i e =
    let l = length_each f 0 n in
    let s = set_inside (map f (count_up 0 n)) i e in
    let h : i < n = omega arith in
    (h, sym (each_is f false n i h) ∙ e)

module _ {w : View} {starts : List ℕ} (wf : WellFormed w.graph) (cov : Covers w.graph starts)
    (s : Shows w (search w.graph all starts)) where
  abbrev F : Forest
  F = search w.graph all starts

  -- ---- one step up

  root_step : (u : ℕ) → u < length w.graph → parent F u ≡ 0 → step_up w.graph w.marks_p u ≡ top
  unfolding step_up step_by
  root_step u h e =
      let t : List Bool = map (parent_mark w.graph w.graph F u) (count_up 0 (length (block w.graph u))) in
      let none = (parent_mark_none wf.in_range cov (wires_balance wf) u h).0 e in
      let c : count (w.marks_p u) ≡ 0 = ap count (s.shows_p u h) ∙ none_set t (λ i l q. (
      let (a, b) = each_set (parent_mark w.graph w.graph F u) (length (block w.graph u)) i q in
      clash b (none i a)
      )) in
      ap (λ (k : ℕ). step_by w.graph u k (select (w.marks_p u) 1 - 1)) c

  child_step : (u i : ℕ) → i < length (block w.graph u) → parent_mark w.graph w.graph F u i ≡ true
      → step_up w.graph w.marks_p u ≡ rise i (target w.graph u i)
  unfolding step_up step_by
  child_step u i l m =
      let f : ℕ → Bool = parent_mark w.graph w.graph F u in
      let k : ℕ = length (block w.graph u) in
      let t : List Bool = map f (count_up 0 k) in
      let h : u < length w.graph = source (place_at {g = w.graph} {u = u} l) in
      let at : get_or t i false ≡ true = each_is f false k i l ∙ m in
      let only : (j : ℕ) → get_or t j false ≡ true → j ≡ i = λ j q. (
      let (a, b) = each_set f k j q in
      parent_mark_once wf.in_range cov (wires_balance wf) (place_at a) (place_at l) b m
      ) in
      let c : count (w.marks_p u) ≡ 1 = ap count (s.shows_p u h) ∙ one_set t i at only in
      let p : select (w.marks_p u) 1 - 1 ≡ i =
      ap (λ (x : List Bool). select x 1 - 1) (s.shows_p u h) ∙ ap (λ (x : ℕ). x - 1) (first_set t i at only)
      ∙ omega arith in
      let r : target w.graph u i < length w.graph = wf.in_range u i (target w.graph u i) (place_at l) in
      ap₂ (step_by w.graph u) c p ∙ rw (step_by, lt-ltb (target w.graph u i) (length w.graph) r)

  -- ---- Parent

  pub parent_shown : (u : ℕ) → u < length w.graph → parent_of w u ≡ answered (unless_zero (parent F u))
  unfolding parent_of
  parent_shown u h = go (parent F u) refl
    where
      go : (p : ℕ) → parent F u ≡ p → parent_by (step_up w.graph w.marks_p u) ≡ answered (unless_zero (parent F u))
      go zero e = ap parent_by (root_step u h e) ∙ ap (λ (x : ℕ). answered (unless_zero x)) (sym e)
      go (suc p) e =
          let span = search_spans wf.in_range cov in
          let bal = wires_balance wf in
          let b = first_back span bal h e in
          let q = back_parent bal span.built b in
          let at = position p (block w.graph u) 0 in
          let up = child_step u at (back_place bal span.built b) (back_marked bal span.built b) in
          ap parent_by up ∙ ap (λ (x : ℕ). answered (unless_zero x)) (sym q)

  -- ---- Head

  bridge_bit : (u i : ℕ) → i < length (block w.graph u) → get_or (w.marks_b u) i false ≡ bridge w.graph u i
  bridge_bit u i l =
      let h : u < length w.graph = source (place_at {g = w.graph} {u = u} l) in
      ap (λ (t : List Bool). get_or t i false) (s.shows_b u h)
      ∙ each_is (bridge w.graph u) false (length (block w.graph u)) i l

  head_steps : HeadSteps w.graph F (λ v. answered (suc v)) (head_next w)
  head_steps = record {
    root_stops = λ v h e. ap (head_by w v) (root_step v h e);
    bridge_stops = λ v i l m b. ap (head_by w v) (child_step v i l m) ∙ here v i (bridge_bit v i l ∙ b);
    goes_up = λ v i l m b. ap (head_by w v) (child_step v i l m) ∙ up v i (bridge_bit v i l ∙ b);
  }
    where
      here : (v i : ℕ) → get_or (w.marks_b v) i false ≡ true
          → head_by w v (rise i (target w.graph v i)) ≡ inl (answered (suc v))
      here v i e = rw (e, head_by)

      up : (v i : ℕ) → get_or (w.marks_b v) i false ≡ false
          → head_by w v (rise i (target w.graph v i)) ≡ inr (target w.graph v i)
      up v i e = rw (e, head_by)

  pub head_shown : (u : ℕ) → u < length w.graph → head_of w u ≡ answered (suc (head w.graph F u))
  unfolding head_of
  head_shown u h = head_by_steps wf cov head_steps (refused 12) u h

  -- where one step stops, and where it goes up
  pub head_stopped : (u : ℕ) → u < length w.graph → {a : Answer ℕ} → head_next w u ≡ inl a
      → a ≡ answered (suc (head w.graph F u))
  head_stopped u h e =
      sym (walk_stop (head_next w) (refused 12) (length w.graph - 1) e)
      ∙ head_by_steps wf cov head_steps (refused 12) u h

  pub head_risen : {u p : ℕ} → u < length w.graph → p < length w.graph → head_next w u ≡ inr p
      → answered (suc (head w.graph F u)) ≡ answered (suc (head w.graph F p))
  head_risen h l e = head_of_step wf cov head_steps h l e

  -- ---- Ancestor

  module _ (x : ℕ) where
    ancestor_steps : AncestorSteps w.graph w.graph F x answered (ancestor_next w x)
    ancestor_steps = record {
      found = λ v h e. yes_at v e;
      root_stops = λ v h d e. no_at v d ∙ ap ancestor_by (root_step v h e);
      goes_up = λ v i d l m. no_at v d ∙ ap ancestor_by (child_step v i l m);
    }
      where
        yes_at : (v : ℕ) → x ≡ v → ancestor_next w x v ≡ inl (answered true)
        yes_at v e = rw (eq-eqb x v e, ancestor_next)

        no_at : (v : ℕ) → (x ≡ v → ⊥) → ancestor_next w x v ≡ ancestor_by (step_up w.graph w.marks_p v)
        no_at v d = rw (ne_eqb x v d, ancestor_next)

    pub ancestor_shown : (u : ℕ) → u < length w.graph → ancestor_of w x u ≡ answered (ancestor F x u)
    unfolding ancestor_of
    ancestor_shown u h = ancestor_by_steps wf.in_range cov (wires_balance wf) ancestor_steps (refused 12) u h

  -- ---- Children and Child

  pub count_shown : (u : ℕ) → u < length w.graph → child_count w u ≡ length (children F u)
  unfolding child_count
  count_shown u h =
      ap count (s.shows_e u h) ∙ count_row (child_mark F u) (length (block w.graph u))
      ∙ sym (children_counted wf.in_range cov u)

  pub child_shown : (u k : ℕ) → u < length w.graph → k < length (children F u)
      → child_of w u (suc k) ≡ answered (suc (get_or (children F u) k 0))
  unfolding child_of child_count
  child_shown u k h l =
      let n : ℕ = length (block w.graph u) in
      let t : List Bool = map (child_mark F u) (count_up 0 n) in
      let c = count_shown u h in
      let e : count (w.marks_e u) ≡ count t = ap count (s.shows_e u h) in
      let z : k < count t = omega arith in
      let (a, b) = select_bounds t (suc k) (omega arith) (omega arith) in
      let d = length_each (child_mark F u) 0 n in
      let p : select t (suc k) - 1 < n = omega arith in
      let r : target w.graph u (select t (suc k) - 1) < length w.graph =
      wf.in_range u (select t (suc k) - 1) (target w.graph u (select t (suc k) - 1)) (place_at p) in
      let q : target w.graph u (select t (suc k) - 1) ≡ get_or (children F u) k 0 =
      select_each (child_mark F u) (block w.graph u) k z
      ∙ ap (λ (x : List ℕ). get_or x k 0) (sym (children_as_listed wf.in_range cov u)) in
      ap (λ (x : List Bool). vertex_or w (target w.graph u (select x (suc k) - 1))) (s.shows_e u h)
      ∙ yes_at (target w.graph u (select t (suc k) - 1)) r ∙ ap (λ (x : ℕ). answered (suc x)) q
    where
      yes_at : (v : ℕ) → v < length w.graph → vertex_or w v ≡ answered (suc v)
      yes_at v h = rw (lt-ltb v (length w.graph) h, vertex_or)

  -- ---- Visit and Visited

  pub visit_shown : (u : ℕ) → u < length w.graph → visit_of w u ≡ answered (suc (number F u))
  unfolding visit_of
  visit_shown u h =
      ap (vertex_or w) (s.shows_numbers u h)
      ∙ rw (lt-ltb (number F u) (length w.graph) (number_in_range wf.in_range cov u h), vertex_or)

  pub visited_shown : (k : ℕ) → k < length w.graph → visited_of w k ≡ answered (suc (vertex_at F k))
  unfolding visited_of
  visited_shown k h =
      let f : ℕ → Bool = λ u. eqb (w.stored u) k in
      let n : ℕ = length w.graph in
      let v : ℕ = vertex_at F k in
      let l : v < n = vertex_in_range wf.in_range cov k h in
      let at : get_or (map f (count_up 0 n)) v false ≡ true =
      each_is f false n v l ∙ eq-eqb (w.stored v) k (s.shows_numbers v l ∙ number_of_vertex wf.in_range cov k h) in
      let only : (j : ℕ) → get_or (map f (count_up 0 n)) j false ≡ true → j ≡ v = λ j q. (
      let (a, b) = each_set f n j q in
      let e : number F j ≡ k = sym (s.shows_numbers j a) ∙ eqb-true (w.stored j) k b in
      sym (vertex_of_number wf.in_range cov j a) ∙ ap (vertex_at F) e
      ) in
      ap found (first_set (map f (count_up 0 n)) v at only ∙ add-one v)
