-- What `any_in` and `any_place` say: a test fails for each number of a list, or at each place of the blocks, or holds
-- at one.
use Rattle.std.specs.Prelude.{◌≡◌, refl, Bool, true, false, ◌||◌, ◌&&◌, List, [], ◌∷◌, ◌↔◌, ℕ, zero, suc, ◌<◌, length}
use Rattle.std.specs.Prelude.{get_or}
use Rattle.std.proofs.Common.{sym, ◌∙◌, arith}
use Rattle.std.proofs.Math.Path.{ap}
use Rattle.std.proofs.Math.Bool.{not, not-not}
use borrow.Author.Tests.{not-true, not-false}
use Rattle.graph.specs.Graph.{Blocks, Place}
use Rattle.graph.specs.Laws.Places.Basics.{Told, pass, fail, told, clash}
use Rattle.graph.specs.Laws.Places.Each.{each_of, each_from, each, each_place}
use Rattle.adjacency.specs.Places.{any_in, any_from, any_place}

-- neither of two tests passes
pub neither : (a b : Bool) → (a || b) ≡ false → (a ≡ false) × (b ≡ false)
neither true b e = absurd (clash refl e)
neither false b e = (refl, e)

-- a test holds for no number of a list exactly where it fails for each
pub none_in : (test : ℕ → Bool) (l : List ℕ)
    → (any_in test l ≡ false) ↔ ((i : ℕ) → i < length l → test (get_or l i 0) ≡ false)
unfolding any_in
none_in test [] = (λ e i h. absurd (omega arith), λ h. refl)
none_in test (v ∷ l) = (there (none_in test l).0, back (none_in test l).1)
  where
    there : (any_in test l ≡ false → (i : ℕ) → i < length l → test (get_or l i 0) ≡ false)
        → any_in test (v ∷ l) ≡ false → (i : ℕ) → i < length (v ∷ l) → test (get_or (v ∷ l) i 0) ≡ false
    there rec e zero h = (neither (test v) (any_in test l) e).0
    there rec e (suc i) h = rec (neither (test v) (any_in test l) e).1 i (omega arith)

    back : (((i : ℕ) → i < length l → test (get_or l i 0) ≡ false) → any_in test l ≡ false)
        → ((i : ℕ) → i < length (v ∷ l) → test (get_or (v ∷ l) i 0) ≡ false) → any_in test (v ∷ l) ≡ false
    back rec h = rw (h 0 (omega arith)) (rec (λ i c. h (suc i) (omega arith)))

-- ---- a test holds somewhere where it does not fail everywhere

either : {a c : Bool} (b d : Bool) → a ≡ not b → c ≡ not d → (a || c) ≡ not (b && d)
either true d e f = rw e f
either false d e f = rw e

any_in_lem : (test : ℕ → Bool) (i : ℕ) (l : List ℕ) → any_in test l ≡ not (each_of (λ j v. not (test v)) i l)
unfolding any_in each_of
any_in_lem test i [] = refl
any_in_lem test i (v ∷ l) =
    either (not (test v)) (each_of (λ j w. not (test w)) (suc i) l) (sym (not-not (test v))) (any_in_lem test (suc i) l)

any_from_lem : (test : ℕ → ℕ → Bool) (u : ℕ) (g : Blocks)
    → any_from test u g ≡ not (each_from (λ w j v. not (test w v)) u g)
unfolding any_from each_from
any_from_lem test u [] = refl
any_from_lem test u (b ∷ g) =
    either (each_of (λ j v. not (test u v)) 0 b) (each_from (λ w j v. not (test w v)) (suc u) g)
    (any_in_lem (test u) 0 b) (any_from_lem test (suc u) g)

-- a test fails at a place
fails : (ℕ → ℕ → Bool) → ℕ → ℕ → ℕ → Bool
fails test u j v = not (test u v)

module _ (test : ℕ → ℕ → Bool) (g : Blocks) where
  any_each : any_place test g ≡ not (each (fails test) g)
  unfolding each fails
  any_each = any_from_lem test 0 g

  -- it holds nowhere exactly where it fails at each place
  pub nowhere : (any_place test g ≡ false) ↔ ((u j v : ℕ) → Place g u j v → test u v ≡ false)
  unfolding fails
  nowhere = (
    λ e u j v p. not-true _ ((each_place (fails test) g).0 (not-false _ (sym any_each ∙ e)) u j v p),
    λ h. any_each ∙ ap not ((each_place (fails test) g).1 (λ u j v p. ap not (h u j v p))),
  )

  -- a place where it holds is enough
  pub somewhere : (u j v : ℕ) → Place g u j v → test u v ≡ true → any_place test g ≡ true
  somewhere u j v p e = go (told (any_place test g))
    where
      go : Told (any_place test g) → any_place test g ≡ true
      go (pass t) = t
      go (fail f) = absurd (clash e (nowhere.0 f u j v p))
