-- How many roots a spanning forest has.
--   roots_parentless         as many as vertices without a parent
--   roots_by                 as many as names, where joined vertices are named by one of them
--   roots_most, roots_fewer  at most as many as vertices, and fewer where there is a wire
use Rattle.std.specs.Prelude.{ℕ, suc, ◌≤◌, ◌<◌, ◌≡◌, refl, ◌↔◌, eqb, length}
use Rattle.std.proofs.Common.{◌∙◌, arith, eq-eqb, ne_eqb}
use mathlib.Core.List.{[], ◌∷◌, flatten, Memᴰ}
use Rattle.graph.specs.Graph.{Blocks, target, Place, WellFormed}
use Rattle.graph.specs.Search.{root, via, Forest, all}
use Rattle.graph.specs.Joined.{Chain}
use Rattle.graph.specs.Forest.{parent, roots, root_of}
use Rattle.graph.specs.Counts.{when, sum}
use Rattle.graph.specs.Laws.Places.Pairing.{place_at}
use Rattle.graph.specs.Laws.Tree.Entries.{entry_entered, Entry, as_root, as_child, entry, via_root}
use Rattle.graph.specs.Laws.Tree.Entries.{root_no_child}
use Rattle.graph.specs.Laws.Tree.Climbs.{parent_root, parent_child, root_itself, root_is_root}
use Rattle.graph.specs.Laws.Joined.Spanning.{Spanning, source_entered, target_entered, forest_length}
use Rattle.graph.specs.Laws.Joined.Roots.{place_root, same_root_joined}
use Rattle.graph.specs.Laws.Counts.Sums.{when_yes, when_no}
use Rattle.graph.specs.Laws.Counts.Entries.{tally, entries_parted, aims_parted, sum_aims}
use Rattle.graph.specs.Laws.Counts.Names.{Names, named, same_number}

tally_zero : (F : Forest) → tally (λ u j. 0) F ≡ 0
unfolding tally
tally_zero [] = refl
tally_zero (root v ∷ F) = tally_zero F
tally_zero (via u j v ∷ F) = let e = tally_zero F in omega arith

tally_some : {u j v : ℕ} {F : Forest} → Memᴰ (via u j v) F → 0 < tally (λ u j. 1) F
unfolding tally
tally_some {F = []} m = elim m [ ]
tally_some {F = root v ∷ F} (Memᴰ.head e) = absurd (via_root e)
tally_some {F = root v ∷ F} (Memᴰ.tail m) = tally_some m
tally_some {F = via u j v ∷ F} m = omega arith

-- where there are places there is a first one
some_place : (g : Blocks) → 0 < length (flatten g) → (u : ℕ) × (j : ℕ) × Place g u j (target g u j)
unfolding flatten
some_place [] h = absurd (omega arith)
some_place ([] ∷ g) h =
    let (u, j, p) = some_place g h in
    (suc u, j, place_at p.fits)
some_place ((v ∷ l) ∷ g) h = (0, 0, place_at (omega arith))

module _ {g : Blocks} {F : Forest} (span : Spanning g F) where
  -- the vertices that are joined are named by their root
  roots_name : Names (length g) (root_of F)
  roots_name = record {
    inside = λ v l. span.within (root_of F v) (entry_entered (root_is_root span.built v (span.whole v l)));
    settled = λ v l. root_itself span.built (root_is_root span.built v (span.whole v l));
  }

  child_no_root : {u j v : ℕ} → Memᴰ (via u j v) F → root_of F v ≡ v → ⊥
  child_no_root {v = v} m e =
      root_no_child span.built (rw e at (root_is_root span.built v (entry_entered m))) m

  -- weights of 1 at the roots and of 0 elsewhere
  roots_weighed : (w : ℕ → ℕ) → ((v : ℕ) → Memᴰ (root v) F → w v ≡ 1)
      → ((u j v : ℕ) → Memᴰ (via u j v) F → w v ≡ 0) → sum (length g) w ≡ roots F
  roots_weighed w r s =
      let a = sum_aims span w in
      let b = aims_parted w (λ u j. 0) F r s in
      let c = tally_zero F in
      omega arith

  roots_named : named (length g) (root_of F) ≡ roots F
  unfolding named
  roots_named =
      roots_weighed (λ v. when (eqb (root_of F v) v) 1)
      (λ v m. when_yes 1 (eq-eqb (root_of F v) v (root_itself span.built m)))
      (λ u j v m. when_no 1 (ne_eqb (root_of F v) v (child_no_root m)))

  pub roots_parentless : sum (length g) (λ v. when (eqb (parent F v) 0) 1) ≡ roots F
  roots_parentless =
      roots_weighed (λ v. when (eqb (parent F v) 0) 1)
      (λ v m. when_yes 1 (eq-eqb (parent F v) 0 (parent_root span.built m)))
      (λ u j v m. when_no 1 (ne_eqb (parent F v) 0 (λ z. omega (arith, z, parent_child span.built m))))

  pub roots_most : roots F ≤ length g
  roots_most = omega (arith, entries_parted F, forest_length span)

module _ {g : Blocks} (wf : WellFormed g) {F : Forest} (span : Spanning g F) where
  pub roots_by : {f : ℕ → ℕ} → Names (length g) f
      → ((u v : ℕ) → u < length g → v < length g → (f u ≡ f v) ↔ Chain g all u v) → named (length g) f ≡ roots F
  roots_by {f} na told = same_number na (roots_name span) same ∙ roots_named span
    where
      same : (u v : ℕ) → u < length g → v < length g → (f u ≡ f v) ↔ (root_of F u ≡ root_of F v)
      same u v hu hv =
          let s = told u v hu hv in
          let t = same_root_joined span wf u v hu hv in
          (λ e. t.1 (s.0 e), λ e. s.1 (t.0 e))

  -- the ends of a wire are not both roots
  pub roots_fewer : 0 < length (flatten g) → roots F < length g
  roots_fewer h =
      let (u, j, p) = some_place g h in
      go p (entry (source_entered span p)) (entry (target_entered span p))
    where
      fewer : {a b c : ℕ} → Memᴰ (via a b c) F → roots F < length g
      fewer m = omega (arith, tally_some m, entries_parted F, forest_length span)

      go : {u j v : ℕ} → Place g u j v → Entry F u → Entry F v → roots F < length g
      go p (as_child a b m) e = fewer m
      go p (as_root r) (as_child a b m) = fewer m
      go {u} {j} {v} p (as_root r) (as_root s) =
          let x = root_itself span.built r in
          let y = root_itself span.built s in
          let z = place_root span wf p in
          let e : v ≡ u = cc in
          absurd (wf.no_loop u j (record { fits = p.fits; leads = p.leads ∙ e }))
