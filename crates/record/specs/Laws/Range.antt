-- A number that counts from 1 is from 1 to n, or it is out of range.
use Rattle.std.specs.Prelude.{◌≡◌, true, false, ℕ, ◌≤◌, ◌<◌, eqb, ltb}
use Rattle.std.proofs.Common.{sym, ◌∙◌, arith, eq-eqb, ne_eqb, le-ltb, ltb-false}
use Rattle.std.proofs.Math.Decide.{ℕ_discrete}
use Rattle.graph.specs.Laws.Places.Basics.{clash}
use Rattle.adjacency.specs.Laws.Anywhere.{neither}
use Rattle.record.specs.Operations.{out_of_range}

-- the two tests of the range
pub zero_outside : (n k : ℕ) → k ≡ 0 → true ≡ out_of_range n k
unfolding out_of_range
zero_outside n k e = rw (eq-eqb k 0 e)

pub above_zero : (n k : ℕ) → (k ≡ 0 → ⊥) → ltb n k ≡ out_of_range n k
unfolding out_of_range
above_zero n k z = rw (ne_eqb k 0 z)

-- where both are passed
pub inside_range : (n k : ℕ) → 0 < k → k ≤ n → out_of_range n k ≡ false
inside_range n k s h = sym (above_zero n k (λ z. omega arith)) ∙ le-ltb n k h

pub range_inside : (n k : ℕ) → out_of_range n k ≡ false → (0 < k) × (k ≤ n)
unfolding out_of_range
range_inside n k e =
    let (a, b) = neither (eqb k 0) (ltb n k) e in
    (go (ℕ_discrete k 0) a, ltb-false n k b)
  where
    go : Dec (k ≡ 0) → eqb k 0 ≡ false → 0 < k
    go (yes q) f = absurd (clash (eq-eqb k 0 q) f)
    go (no q) f = omega arith
