-- The formula is the field, at every starting bit, and takes no byte but the field's own.
--   taken_own      each byte that it takes has a bit of the field
--   formula_field  it is the field
--   formula_at     the same at bit s of byte i, for a field of 12 bits, written out
use Rattle.std.specs.Prelude.{◌≡◌, refl, List, length}
use Prim.Native.Nat.{ℕ, zero, suc, ◌+◌, ◌-◌, ◌*◌, ◌/◌, ◌%◌, ◌^◌, ◌≤◌, ◌<◌}
use Rattle.std.proofs.Math.Decide.{dec_le}
use native.Mathlib.Omega.{arith}
use Rattle.std.proofs.Math.ListN.{get_or}
use Rattle.std.proofs.Math.Pow.{high, shr-shr}
use Rattle.bits.specs.Bits.{bits, field}
use Rattle.bits.specs.Steps.{joined, two, three}
use Rattle.bits.specs.Formula.{taken, field_formula, HasBit}
use Rattle.bits.specs.Laws.Bytes.{AreBytes}
use Rattle.bits.specs.Laws.Joined.{two_bytes, three_bytes, field_in_bytes}

pub taken_own : (w start j : ℕ) → 9 ≤ w → j < length (taken w start) → HasBit w start (get_or (taken w start) j 0)
taken_own w start zero h l = record {
  bit = start;
  from = omega arith;
  before = omega arith;
  in_byte = refl;
}
taken_own w start (suc zero) h l = record {
  bit = 8 * (start / 8 + 1);
  from = omega arith;
  before = omega arith;
  in_byte = omega arith;
}
taken_own w start (suc (suc zero)) h l = record {
  bit = start + w - 1;
  from = omega arith;
  before = omega arith;
  in_byte = omega arith;
}
taken_own w start (suc (suc (suc j))) h l = absurd (omega arith)

module _ (bytes : List ℕ) (start w : ℕ) (hb : AreBytes bytes) (h9 : 9 ≤ w) (h16 : w ≤ 16)
    (held : start + w ≤ 8 * length bytes) where
  at_bit : 8 * (start / 8) + start % 8 ≡ start
  at_bit = omega arith

  -- the field lies in two bytes: below it stands the second copy of the second
  ends_in_second : start % 8 + w ≤ 16 → field_formula w bytes start ≡ field w (bits bytes) start
  unfolding field_formula
  ends_in_second h =
      let last : (start % 8 + w - 1) / 8 ≡ 1 = omega arith in
      let k : ℕ = 16 - w - start % 8 in
      let shift : 24 - w - start % 8 ≡ 8 + k = omega arith in
      let x : ℕ = joined 0 (two bytes (start / 8) (start / 8 + 1)) in
      let cut = field_in_bytes bytes (start / 8) (start % 8) w k 2 hb (omega arith) (omega arith) in
      rw (last, shift, ← shr-shr (x * 256 + get_or bytes (start / 8 + 1) 0) 8 k, high x 8 (hb (start / 8 + 1)))
      (rw (two_bytes bytes (start / 8) (omega arith), at_bit) at cut)

  -- it lies in three
  ends_in_third : 16 < start % 8 + w → field_formula w bytes start ≡ field w (bits bytes) start
  unfolding field_formula
  ends_in_third h =
      let last : (start % 8 + w - 1) / 8 ≡ 2 = omega arith in
      let k : ℕ = 24 - w - start % 8 in
      let cut = field_in_bytes bytes (start / 8) (start % 8) w k 3 hb (omega arith) (omega arith) in
      rw last (rw (three_bytes bytes (start / 8) (omega arith), at_bit) at cut)

  pub formula_field : field_formula w bytes start ≡ field w (bits bytes) start
  formula_field =
      elim (dec_le (start % 8 + w) 16) [ yes h ↦ ends_in_second h | no h ↦ ends_in_third (omega arith) ]

pub formula_at : (bytes : List ℕ) (i s : ℕ) → AreBytes bytes → s < 8 → 8 * i + s + 12 ≤ 8 * length bytes
    → (get_or bytes i 0 * 2 ^ 16 + get_or bytes (i + 1) 0 * 2 ^ 8 + get_or bytes (i + (s + 11) / 8) 0) / 2 ^ (12 - s) % 2 ^ 12
    ≡ field 12 (bits bytes) (8 * i + s)
unfolding field_formula
formula_at bytes i s hb h hl =
    let in_byte : (8 * i + s) / 8 ≡ i = omega arith in
    let offset : (8 * i + s) % 8 ≡ s = omega arith in
    let last : s + 12 - 1 ≡ s + 11 = omega arith in
    let sum : get_or bytes i 0 * 2 ^ 16 + get_or bytes (i + 1) 0 * 2 ^ 8 + get_or bytes (i + (s + 11) / 8) 0
    ≡ joined 0 (three bytes i (i + (s + 11) / 8)) = omega arith in
    let same = formula_field bytes (8 * i + s) 12 hb (omega arith) (omega arith) hl in
    rw sum (rw (in_byte, offset, last) at same)
