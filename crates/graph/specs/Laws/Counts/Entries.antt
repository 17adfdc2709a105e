-- Sums over the entries of a forest: over the vertices entered, and over the tree places.
--   tally                         the sum over the tree places; `aims`, over the vertices, is in Laws/Tree/Numbers
--   entries_parted, aims_parted   an entry is a root or has a tree place
--   sum_aims                      the sum over the vertices is a sum over the entries
--   over_marked                   and so is the sum over the places that have a child mark
use Rattle.std.specs.Prelude.{ℕ, zero, suc, ◌+◌, ◌≡◌, refl, true, ◌||◌, eqb, length}
use mathlib.Core.List.{[], ◌∷◌, Memᴰ}
use Rattle.std.proofs.Common.{arith, eqb-true}
use Rattle.graph.specs.Graph.{Blocks, Place}
use Rattle.graph.specs.Search.{root, via, Forest, entered}
use Rattle.graph.specs.Forest.{roots, child_mark}
use Rattle.graph.specs.Counts.{when, sum, over}
use Rattle.graph.specs.Laws.Places.Basics.{Told, pass, fail, told, and_parts}
use Rattle.graph.specs.Laws.Places.Pairing.{source}
use Rattle.graph.specs.Laws.Tree.Entries.{entry_entered, Built, built_nil, built_root, built_via}
use Rattle.graph.specs.Laws.Tree.Numbers.{left, left_none, aims, left_entered}
use Rattle.graph.specs.Laws.Joined.Spanning.{Spanning}
use Rattle.graph.specs.Laws.Edges.Marks.{child_mark_entry}
use Rattle.graph.specs.Laws.Counts.Places.{at, at_yes, at_no, over_same, over_zero, over_add, over_one}

unfoldable pub tally : (ℕ → ℕ → ℕ) → Forest → ℕ  -- the sum of w over the tree places
tally w [] = 0
tally w (root v ∷ F) = tally w F
tally w (via u j v ∷ F) = w u j + tally w F

-- an entry is a root or has a tree place
pub entries_parted : (F : Forest) → tally (λ u j. 1) F + roots F ≡ length F
unfolding tally roots
entries_parted [] = refl
entries_parted (root v ∷ F) = let e = entries_parted F in omega arith
entries_parted (via u j v ∷ F) = let e = entries_parted F in omega arith

-- weights of 1 at the roots, and of the tree place at the others
pub aims_parted : (w : ℕ → ℕ) (z : ℕ → ℕ → ℕ) (F : Forest) → ((v : ℕ) → Memᴰ (root v) F → w v ≡ 1)
    → ((u j v : ℕ) → Memᴰ (via u j v) F → w v ≡ z u j) → aims w F ≡ roots F + tally z F
unfolding aims tally roots
aims_parted w z [] r s = refl
aims_parted w z (root v ∷ F) r s =
    let a = r v (Memᴰ.head refl) in
    let b = aims_parted w z F (λ x m. r x (Memᴰ.tail m)) (λ u j x m. s u j x (Memᴰ.tail m)) in
    omega arith
aims_parted w z (via u j v ∷ F) r s =
    let a = s u j v (Memᴰ.head refl) in
    let b = aims_parted w z F (λ x m. r x (Memᴰ.tail m)) (λ u' j' x m. s u' j' x (Memᴰ.tail m)) in
    omega arith

-- ---- the vertices: each is entered once

left_all : (w : ℕ → ℕ) (n : ℕ) → left w [] n ≡ sum n w
unfolding left entered sum
left_all w zero = refl
left_all w (suc n) = let e = left_all w n in omega arith

-- the sum over the vertices is the sum over the entries
pub sum_aims : {g : Blocks} {F : Forest} → Spanning g F → (w : ℕ → ℕ) → sum (length g) w ≡ aims w F
sum_aims {g} {F} span w =
    let a = left_entered w (length g) span.built span.within in
    let b = left_none w F (length g) span.whole in
    let c = left_all w (length g) in
    omega arith

-- ---- the tree places: each has its mark once

-- the sum over the marked places is the sum over the entries
pub over_marked : {g : Blocks} {F : Forest} → Built (Place g) F → (w : ℕ → ℕ → ℕ)
    → over g (λ u j. when (child_mark F u j) (w u j)) ≡ tally w F
unfolding child_mark tally
over_marked {g} built_nil w = over_zero g (λ u j l k. refl)
over_marked {g} (built_root h b) w = over_marked b w
over_marked {g} (built_via {u = u} {j = j} {v = v} {F = F} h i o b) w =
    let a = over_same g (λ x k l c. split x k (told (at u j x k)) (told (child_mark F x k))) in
    let c = over_add g (λ x k. when (at u j x k) (w x k)) (λ x k. when (child_mark F x k) (w x k)) in
    let d = over_one g u j (source o) o.fits (λ x k l c n. at_no {a = u} {b = j} {u = x} {j = k} (w x k) n) in
    let e = at_yes {a = u} {b = j} (w u j) refl refl in
    let f = over_marked b w in
    omega arith
  where
    split : (x k : ℕ) → Told (at u j x k) → Told (child_mark F x k)
        → when (at u j x k || child_mark F x k) (w x k)
        ≡ when (at u j x k) (w x k) + when (child_mark F x k) (w x k)
    split x k (fail p) t = rw p (omega arith)
    split x k (pass p) (fail q) = rw (p, q) (omega arith)
    split x k (pass p) (pass q) =
        let (a, e) = and_parts (eqb x u) (eqb k j) p in
        let xu : x ≡ u = eqb-true x u a in
        let kj : k ≡ j = eqb-true k j e in
        let m : child_mark F u j ≡ true = cc in
        absurd (h (entry_entered ((child_mark_entry b o).0 m)))
