-- The room that the largest index takes, and the length of the buffer that Table lends to Build.
use mathlib.Core.Path.{◌≡◌}
use mathlib.Core.Bool.{Bool, true, false, not}
use Prim.Native.Nat.{ℕ, ◌+◌, ◌*◌, ◌/◌, ◌≤◌}
use native.Mathlib.Omega.{arith}
use borrow.Author.Tests.{eq-eqb, ne_eqb}
use lib.Dec.{eqb}
use mir.Val.{bool_byte}
use Rattle.bits.specs.Bits.{bit}
use Rattle.forest.specs.Index.{mark_bytes, number_bytes, index_length}

pub index_short : {n m : ℕ} → n ≤ 4096 → m ≤ 16384 → index_length n m ≤ 19968
unfolding index_length mark_bytes number_bytes
index_short {n} {m} a b =
    let marks : (n + 2 * m + 7) / 8 ≤ 4608 = omega arith in
    let numbers : (12 * n + 7) / 8 ≤ 6144 = omega arith in
    omega arith

-- a flag as a number
pub flag_small : (b : Bool) → bool_byte b ≤ 1
flag_small true = omega arith
flag_small false = omega arith

-- such a buffer has another length just where b holds, and is hardly longer
pub other_where : (k : ℕ) (b : Bool) → not (eqb (k + bit b) k) ≡ b
other_where k true = rw (ne_eqb (k + 1) k (λ q. omega arith))
other_where k false = rw (eq-eqb (k + 0) k (omega arith))

pub lent_short : {k : ℕ} (b : Bool) → k ≤ 19968 → k + bit b ≤ 19969
lent_short true h = omega arith
lent_short false h = omega arith
