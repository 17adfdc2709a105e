-- The sections: each is named by its head, which is a root or stands below a bridge of the forest.
--   sections_edges   as many sections as roots and bridges
use Prim.Native.Nat.{ℕ, ◌+◌, ◌<◌}
use Rattle.std.specs.Prelude.{◌≡◌, refl, false, not, ◌||◌, eqb, length}
use mathlib.Core.List.{Memᴰ}
use Rattle.std.proofs.Common.{arith, eq-eqb, ne_eqb}
use Rattle.graph.specs.Graph.{Blocks, target, Place, twin, WellFormed}
use Rattle.graph.specs.Search.{via, Forest}
use Rattle.graph.specs.Joined.{bridge}
use Rattle.graph.specs.Forest.{roots, head, child_mark, parent_mark}
use Rattle.graph.specs.Counts.{when, count_places, count_edges, at_neither, sections}
use Rattle.graph.specs.Laws.Places.Basics.{Told, pass, fail, told, clash}
use Rattle.graph.specs.Laws.Places.Pairing.{place_at}
use Rattle.graph.specs.Laws.Tree.Entries.{entry_entered, entry_once, root_no_child}
use Rattle.graph.specs.Laws.Joined.Spanning.{Spanning}
use Rattle.graph.specs.Laws.Bridges.Crossings.{bridge_twin, outside_no_bridge}
use Rattle.graph.specs.Laws.Heads.Sections.{Top, top_root, top_bridge, top_entered, top_head, head_top}
use Rattle.graph.specs.Laws.Heads.Sections.{head_root, head_bridge}
use Rattle.graph.specs.Laws.Counts.Sums.{when_no}
use Rattle.graph.specs.Laws.Counts.Places.{over_zero}
use Rattle.graph.specs.Laws.Counts.Entries.{tally, aims_parted, sum_aims}
use Rattle.graph.specs.Laws.Counts.Parted.{over_parted}
use Rattle.graph.specs.Laws.Counts.Names.{Names, named}
use Rattle.graph.proofs.Different.{different_names}
use Rattle.graph.specs.Laws.Counts.Sections.{bridges_twice}

-- 1 at a place of a bridge
abbrev single : Blocks → ℕ → ℕ → ℕ
single g u j = when (bridge g u j) 1

-- ---- heads

module _ {g : Blocks} {F : Forest} (span : Spanning g F) where
  headed : (v : ℕ) → v < length g → Top g F (head g F v)
  headed v h = head_top span v (span.whole v h)

  heads_name : Names (length g) (head g F)
  heads_name = record {
    inside = λ v h. span.within (head g F v) (top_entered (headed v h));
    settled = λ v h. top_head span.built (headed v h);
  }

  -- a child is its own head where the wire above it is a bridge
  own_head : {u j v : ℕ} → Memᴰ (via u j v) F → when (eqb (head g F v) v) 1 ≡ single g u j
  own_head {u} {j} {v} m = go (told (bridge g u j))
    where
      apart : bridge g u j ≡ false → Top g F v → ⊥
      apart e (top_root r) = root_no_child span.built r m
      apart e (top_bridge p k r f) =
          let q = entry_once span.built m r refl in
          let a : u ≡ p = cc in
          let b : j ≡ k = cc in
          clash (rw (a, b) f) e

      go : Told (bridge g u j) → when (eqb (head g F v) v) 1 ≡ single g u j
      go (pass e) = rw (e, eq-eqb (head g F v) v (head_bridge g span.built m e))
      go (fail e) =
          rw (e, ne_eqb (head g F v) v (λ q. apart e (rw q at (head_top span v (entry_entered m)))))

-- ---- bridges

module _ {g : Blocks} (wf : WellFormed g) {F : Forest} (span : Spanning g F) where
  -- a wire with a child mark at neither end is no bridge
  outside_single : (u j : ℕ) → Place g u j (target g u j) → when (at_neither g (child_mark F) u j) (single g u j) ≡ 0
  unfolding at_neither parent_mark
  outside_single u j p = go (told (child_mark F u j)) (told (child_mark F (target g u j) (twin g u j)))
    where
      go : Told (child_mark F u j) → Told (child_mark F (target g u j) (twin g u j))
          → when (not (child_mark F u j || child_mark F (target g u j) (twin g u j))) (single g u j) ≡ 0
      go (pass e) f = rw e
      go (fail e) (pass f) = rw (e, f)
      go (fail e) (fail f) = rw (e, f) (when_no 1 (outside_no_bridge wf span p e f))

  bridges_tree : count_edges g (bridge g) ≡ tally (single g) F
  unfolding count_places
  bridges_tree =
      let a = over_parted wf span (single g) (λ u j v p. rw (bridge_twin wf p)) in
      let b = over_zero g (λ u j l k. outside_single u j (place_at k)) in
      omega (arith, a, b, bridges_twice wf)

  pub sections_edges : sections g F ≡ roots F + count_edges g (bridge g)
  unfolding sections named
  sections_edges =
      let w : ℕ → ℕ = λ v. when (eqb (head g F v) v) 1 in
      let a = different_names (heads_name span) in
      let b = sum_aims span w in
      let c = aims_parted w (single g) F (λ v m. rw (eq-eqb (head g F v) v (head_root g span.built m)))
      (λ u j v m. own_head span m) in
      omega (arith, a, b, c, bridges_tree)
