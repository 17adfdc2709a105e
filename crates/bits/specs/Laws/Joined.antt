-- Bytes joined to a number are a field of their bits, and so a smaller field is cut out of them.
--   field_joined                         n bytes in a row are the field of their bits
--   two_bytes, three_bytes, eight_bytes  so many bytes in a row
--   field_in_bytes                       a field in n bytes
use Rattle.std.specs.Prelude.{◌≡◌, List, [], ◌∷◌, ℕ, suc, ◌+◌, ◌*◌, ◌/◌, ◌%◌, ◌^◌, ◌≤◌, length, take, drop}
use Rattle.std.proofs.Common.{sym, ap, ◌∙◌, add-mul, mul_assoc, mod-eq_of_lt, add-one, arith, pow-add, drop-cons}
use Rattle.std.proofs.Math.Numerals.{add-two, towards_suc}
use Rattle.bits.specs.Bits.{to_bits, bits, value, field}
use Rattle.bits.specs.Steps.{joined, eight, two, three}
use Rattle.bits.specs.Laws.Digits.{value_append, value_to_bits}
use Rattle.bits.specs.Laws.Bytes.{AreBytes, take_bytes, drop_bytes, length_bits, part_bits}
use Rattle.bits.specs.Laws.Fields.{field_inside}

joined_value : (a : ℕ) (bytes : List ℕ) → AreBytes bytes
    → joined a bytes ≡ a * 2 ^ (8 * length bytes) + value (bits bytes)
unfolding bits value
joined_value a [] h = omega arith
joined_value a (b ∷ bytes) h =
    let e : 8 * suc (length bytes) ≡ 8 + 8 * length bytes = omega arith in
    rw (
      joined_value (a * 256 + b) bytes (λ i. h (suc i)),
      value_append (to_bits 8 b) (bits bytes),
      value_to_bits 8 b,
      length_bits bytes,
      mod-eq_of_lt (h 0),
      e,
      pow-add 2 8 (8 * length bytes),
      add-mul (a * 256) b (2 ^ (8 * length bytes)),
      mul_assoc a 256 (2 ^ (8 * length bytes)),
    )
    (omega arith)

-- n bytes from byte f on are the field of their bits
pub field_joined : (bytes : List ℕ) (f n : ℕ) → AreBytes bytes
    → field (8 * n) (bits bytes) (8 * f) ≡ joined 0 (take n (drop f bytes))
unfolding field
field_joined bytes f n h =
    let part : List ℕ = take n (drop f bytes) in
    let e = joined_value 0 part (take_bytes n (drop f bytes) (drop_bytes f bytes h)) in
    ap value (sym (part_bits n f bytes)) ∙ omega arith

-- ---- two, three and eight bytes from byte f on

module _ (bytes : List ℕ) (f : ℕ) where
  pub two_bytes : f + 2 ≤ length bytes → take 2 (drop f bytes) ≡ two bytes f (f + 1)
  two_bytes h = rw (drop-cons bytes f 0 (omega arith), drop-cons bytes (suc f) 0 (omega arith), add-one f)

  pub three_bytes : f + 3 ≤ length bytes → take 3 (drop f bytes) ≡ three bytes f (f + 2)
  three_bytes h =
      rw (
        drop-cons bytes f 0 (omega arith),
        drop-cons bytes (suc f) 0 (omega arith),
        drop-cons bytes (suc (suc f)) 0 (omega arith),
        add-one f,
        add-two f,
      )

  pub eight_bytes : f + 8 ≤ length bytes → take 8 (drop f bytes) ≡ eight bytes f
  eight_bytes h =
      rw (
        drop-cons bytes f 0 (omega arith),
        drop-cons bytes (suc f) 0 (omega arith),
        drop-cons bytes (suc (suc f)) 0 (omega arith),
        drop-cons bytes (suc (suc (suc f))) 0 (omega arith),
        drop-cons bytes (suc (suc (suc (suc f)))) 0 (omega arith),
        drop-cons bytes (suc (suc (suc (suc (suc f))))) 0 (omega arith),
        drop-cons bytes (suc (suc (suc (suc (suc (suc f)))))) 0 (omega arith),
        drop-cons bytes (suc (suc (suc (suc (suc (suc (suc f))))))) 0 (omega arith),
      )
      (simp towards_suc)

-- the field of w bits from bit r of byte f on, in n bytes from there on that have k bits below it
pub field_in_bytes : (bytes : List ℕ) (f r w k n : ℕ) → AreBytes bytes → f + n ≤ length bytes → r + w + k ≡ 8 * n
    → joined 0 (take n (drop f bytes)) / 2 ^ k % 2 ^ w ≡ field w (bits bytes) (8 * f + r)
field_in_bytes bytes f r w k n hb h e =
    let inside = field_inside (bits bytes) (8 * f) r w k (rw (length_bits bytes) (omega arith)) in
    sym (rw (e, field_joined bytes f n hb) at inside)
