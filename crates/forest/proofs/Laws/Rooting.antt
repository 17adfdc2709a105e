-- The roots in a list of parents, by the library's count.
use mathlib.Core.Path.{◌≡◌, refl, ◌∙◌}
use mathlib.Core.Bool.{Bool, true, false, cond}
use mathlib.Core.List.{List, ◌∷◌}
use Prim.Native.Nat.{ℕ, ◌+◌}
use native.Mathlib.Omega.{arith}
use lib.Dec.{eqb}
use lib.ListN.{length, get_or}
use Rattle.std.specs.Prelude.{count_by}
use Rattle.std.proofs.lemmas.List.Recursion.{is_count_by}
use Rattle.graph.specs.Counts.{when, sum}
use Rattle.graph.specs.Laws.Counts.Sums.{sum_first}
use Rattle.forest.specs.Operations.{roots_in}

one_more : (b : Bool) (k : ℕ) → when b 1 + k ≡ cond b (1 + k) k
one_more true k = refl
one_more false k = omega arith

first_root : (p : ℕ) (parents : List ℕ)
    → roots_in (p ∷ parents) ≡ cond (eqb p 0) (1 + roots_in parents) (roots_in parents)
unfolding roots_in
first_root p parents =
    sum_first (length parents) (λ v. when (eqb (get_or (p ∷ parents) v 0) 0) 1) ∙ one_more (eqb p 0) (roots_in parents)

pub roots_counted : (parents : List ℕ) → roots_in parents ≡ count_by (λ p. eqb p 0) parents
unfolding roots_in sum
roots_counted = is_count_by roots_in (λ p. eqb p 0) refl first_root
