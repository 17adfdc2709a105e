-- The cells of a list, added up one after the other.
use Rattle.std.specs.Prelude.{◌≡◌, ℕ, zero, suc, ◌+◌, ◌<◌, length, get_or, take}
use mathlib.Core.List.{List, [], ◌∷◌, sum}
use Rattle.std.proofs.Common.{arith}
use Rattle.adjacency.specs.Reverse.{total}

-- one cell more is added up
pub total_next : (l : List ℕ) (n : ℕ) → n < length l → total (take (suc n) l) ≡ total (take n l) + get_or l n 0
unfolding sum
total_next [] n h = absurd (omega arith)
total_next (x ∷ l) zero h = omega arith
total_next (x ∷ l) (suc n) h = let e = total_next l n (omega arith) in omega arith
