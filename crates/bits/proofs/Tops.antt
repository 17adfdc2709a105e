-- The highest one of a number.
--   some_one       a number that has one is not 0
--   top_of         its place, by the zeros above it
--   top_turned     the number without it: that bit is turned
--   select_top     it is the first one of the number's bits
use mathlib.Core.Path.{◌≡◌, sym, ap, ap₂, ◌∙◌}
use mathlib.Core.List.{List}
use mathlib.Core.Bool.{Bool}
use Prim.Native.Nat.{ℕ, zero, suc, ◌+◌, ◌-◌, ◌*◌, ◌^◌, ◌≤◌, ◌<◌}
use native.Mathlib.Nat.{mod-eq_of_lt}
use native.Mathlib.Omega.{arith}
use lib.Bits.{bit_xor, xor_block, xor_self, xor_zero_r}
use lib.Count.{ones, ones_in, count_leading_zeros, leading_top}
use lib.ListN.{length, take}
use lib.Pow.{pow_pos, pow-add}
use lib.Seq.{take_all}
use Rattle.bits.specs.Bits.{to_bits, value, field, select}
use Rattle.bits.specs.Laws.Digits.{length_to_bits, value_to_bits}
use Rattle.bits.specs.Laws.Spans.{top_first, select_of_one}

pub some_one : (x : ℕ) → 1 ≤ ones x → 1 ≤ x
unfolding ones ones_in
some_one zero h = absurd (omega arith)
some_one (suc x) h = omega arith

pub top_of : (x : ℕ) → 1 ≤ x → x < 2 ^ 64
    → (count_leading_zeros 64 x ≤ 63) × (63 - count_leading_zeros 64 x < 64)
    × (2 ^ (63 - count_leading_zeros 64 x) ≤ x) × (x < 2 ^ (63 - count_leading_zeros 64 x + 1))
top_of x p h =
    let (j, e, l, u) = leading_top 64 x p h in
    let n : 63 - count_leading_zeros 64 x ≡ j = omega arith in
    let s : 63 - count_leading_zeros 64 x + 1 ≡ suc j = omega arith in
    (omega arith, omega arith, rw n l, rw s u)

pub top_turned : (x h : ℕ) → 2 ^ h ≤ x → x < 2 ^ (h + 1) → bit_xor x (2 ^ h) ≡ x - 2 ^ h
top_turned x h l u =
    let r : ℕ = x - 2 ^ h in
    let d = pow-add 2 h 1 in
    let e : x ≡ 1 * 2 ^ h + r = omega arith in
    let f : 2 ^ h ≡ 1 * 2 ^ h + 0 = omega arith in
    ap₂ bit_xor e f ∙ xor_block h 1 1 r 0 (omega arith) (pow_pos h)
    ∙ ap₂ (λ (a b : ℕ). a * 2 ^ h + b) (xor_self 1) (xor_zero_r r) ∙ omega arith

pub select_top : (w x h : ℕ) → x < 2 ^ w → 2 ^ h ≤ x → x < 2 ^ (h + 1) → select (to_bits w x) 1 ≡ w - h
unfolding field
select_top w x h b l u =
    let s : List Bool = to_bits w x in
    let n : length s ≡ w = length_to_bits w x in
    let all : take w s ≡ s = take_all w s (omega arith) in
    let e : x ≡ field w s 0 = sym (ap value all ∙ value_to_bits w x ∙ mod-eq_of_lt b) in
    let (k, one) = top_first s 0 w h (omega arith) e l u in
    ap (λ (t : List Bool). select t 1) (sym all) ∙ select_of_one s 0 w (omega arith) one (omega arith) ∙ omega arith
