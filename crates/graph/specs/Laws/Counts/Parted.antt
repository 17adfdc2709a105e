-- A sum over the places, parted: a wire of the forest has a child mark at one of its ends, and any other at neither.
-- What is the same at both ends of a wire counts twice for each tree place.
use Rattle.std.specs.Prelude.{ℕ, ◌+◌, ◌*◌, ◌≡◌, true}
use native.Mathlib.Omega.{arith}
use Rattle.graph.specs.Graph.{Blocks, target, Place, twin, WellFormed}
use Rattle.graph.specs.Search.{Forest, PlaceTest}
use Rattle.graph.specs.Forest.{child_mark}
use Rattle.graph.specs.Counts.{when, over, at_neither}
use Rattle.graph.specs.Laws.Places.Basics.{Told, pass, fail, told}
use Rattle.graph.specs.Laws.Places.Pairing.{place_at, twin_place}
use Rattle.graph.specs.Laws.Tree.Numbers.{parent_first}
use Rattle.graph.specs.Laws.Joined.Spanning.{Spanning}
use Rattle.graph.specs.Laws.Edges.Marks.{child_mark_entry}
use Rattle.graph.specs.Laws.Counts.Places.{over_same, over_add, over_twin}
use Rattle.graph.specs.Laws.Counts.Entries.{tally, over_marked}

module _ {g : Blocks} (wf : WellFormed g) {F : Forest} (span : Spanning g F) where
  -- a child mark is not at both ends of a wire
  one_end : {u j v : ℕ} → Place g u j v → child_mark F u j ≡ true → child_mark F v (twin g u j) ≡ true → ⊥
  one_end p e f =
      let a = parent_first span.built ((child_mark_entry span.built p).0 e) in
      let b = parent_first span.built ((child_mark_entry span.built (twin_place wf p)).0 f) in
      omega arith

  pub over_parted : (w : ℕ → ℕ → ℕ) → ((u j v : ℕ) → Place g u j v → w v (twin g u j) ≡ w u j)
      → over g w ≡ 2 * tally w F + over g (λ u j. when (at_neither g (child_mark F) u j) (w u j))
  unfolding at_neither
  over_parted w both =
      let a = over_same g (λ u j l k. split u j (place_at k) (told (child_mark F u j)) (told (far u j))) in
      let b = over_add g (λ u j. near u j + near (target g u j) (twin g u j)) outside in
      let c = over_add g near (λ u j. near (target g u j) (twin g u j)) in
      let d = over_twin wf near in
      let e = over_marked span.built w in
      omega arith
    where
      far : PlaceTest
      far u j = child_mark F (target g u j) (twin g u j)

      near : ℕ → ℕ → ℕ
      near u j = when (child_mark F u j) (w u j)

      outside : ℕ → ℕ → ℕ
      outside u j = when (at_neither g (child_mark F) u j) (w u j)

      split : (u j : ℕ) → Place g u j (target g u j) → Told (child_mark F u j) → Told (far u j)
          → w u j ≡ (near u j + near (target g u j) (twin g u j)) + outside u j
      split u j p (pass e) (pass e') = absurd (one_end p e e')
      split u j p (pass e) (fail e') = rw (e, e') (omega arith)
      split u j p (fail e) (pass e') = rw (e, e', both u j (target g u j) p) (omega arith)
      split u j p (fail e) (fail e') = rw (e, e') (omega arith)
