-- Shifts and masks cut fields out of bytes joined to a number.
use mathlib.Core.Path.{◌≡◌, refl, sym, ap, ◌∙◌}
use mathlib.Core.List.{List, [], ◌∷◌, ◌++◌}
use Prim.Native.Nat.{ℕ, zero, suc, ◌+◌, ◌-◌, ◌*◌, ◌/◌, ◌%◌, ◌^◌, ◌≤◌, ◌<◌}
use native.Mathlib.Nat.{add-zero, mod-eq_of_lt, one-mul}
use native.Mathlib.Omega.{arith}
use lib.Bits.{bit_and, and_mask}
use lib.ListN.{length, drop, get_or, replicate, length-append}
use lib.Pow.{pow-lt, high, shr-shr, ones_split, ones_lt}
use lib.Seq.{take_at}
use Rattle.bits.specs.Bits.{to_bits, bits, field}
use Rattle.bits.specs.Steps.{joined, eight, IsByte, FourAt}
use Rattle.bits.specs.Laws.Digits.{length_to_bits, value_to_bits}
use Rattle.bits.specs.Laws.Bytes.{AreBytes, length_bits, bits_append, byte_on}
use Rattle.bits.specs.Laws.Fields.{field_inside, field_front, field_back, field_append}
use Rattle.bits.specs.Laws.Joined.{field_joined, eight_bytes, field_in_bytes}

zeros_at : (n i : ℕ) → ◌≡◌ {A = ℕ} (get_or (replicate n 0) i 0) 0
zeros_at zero i = refl
zeros_at (suc n) zero = refl
zeros_at (suc n) (suc i) = zeros_at n i

padded_at : (bytes : List ℕ) (n i : ℕ) → get_or (bytes ++ replicate n 0) i 0 ≡ get_or bytes i 0
padded_at [] n i = zeros_at n i
padded_at (b ∷ bytes) n zero = refl
padded_at (b ∷ bytes) n (suc i) = padded_at bytes n i

-- the first n bits of the eight bytes, where the list holds these n: zeros past the end are shifted out
pub short_field : (bytes : List ℕ) (f n k : ℕ) → AreBytes bytes → n + k ≡ 64 → 8 * f + n ≤ 8 * length bytes
    → joined 0 (eight bytes f) / 2 ^ k ≡ field n (bits bytes) (8 * f)
short_field bytes f n k hb e h =
    let zeros : List ℕ = replicate 8 0 in
    let padded : List ℕ = bytes ++ zeros in
    let hp : AreBytes padded = λ i. rw (padded_at bytes 8 i) (hb i) in
    let lp : length padded ≡ length bytes + 8 = length-append bytes zeros in
    let lb = length_bits padded in
    let same = field_joined padded f 8 hp ∙ ap (joined 0) (eight_bytes padded f (omega arith)) in
    let w : joined 0 (eight bytes f) ≡ field 64 (bits padded) (8 * f) = simp (padded_at bytes 8) at (sym same) in
    rw (w, ← e, ← field_front (bits padded) (8 * f) n k (omega arith), bits_append bytes zeros)
    (field_append n (bits bytes) (bits zeros) (8 * f) (rw (length_bits bytes) h))

-- ---- fields by shifts and masks

-- the mask (1 << w) - 1, at 64 bits
pub shifted_one : (w : ℕ) → w < 64 → 1 * 2 ^ w % 2 ^ 64 ≡ 2 ^ w
shifted_one w h = rw (one-mul (2 ^ w)) (mod-eq_of_lt (pow-lt h))

-- and a number masked by it
pub masked : (x w : ℕ) → w < 64 → bit_and x (1 * 2 ^ w % 2 ^ 64 - 1) ≡ x % 2 ^ w
masked x w h = rw (shifted_one w h) (and_mask x w)

-- a field at the end of bits that start with its first byte
pub field_masked : (bytes : List ℕ) (start w : ℕ) → start + w ≤ 8 * length bytes
    → field (start % 8 + w) (bits bytes) (8 * (start / 8)) % 2 ^ w ≡ field w (bits bytes) start
field_masked bytes start w h =
    let s : 8 * (start / 8) + start % 8 ≡ start = omega arith in
    sym (rw s at (field_back (bits bytes) (8 * (start / 8)) (start % 8) w (rw (length_bits bytes) (omega arith))))

-- a mask of n ones, shifted to w of them
pub shifted_ones : (n w k : ℕ) → w + k ≡ n → (2 ^ n - 1) / 2 ^ k ≡ 2 ^ w - 1
shifted_ones n w k e =
    ap (λ (m : ℕ). (2 ^ m - 1) / 2 ^ k) (sym e) ∙ ap (λ (m : ℕ). m / 2 ^ k) (ones_split w k) ∙ high (2 ^ w - 1) k (ones_lt k)

-- four fields of 12 bits in a row, in the eight bytes from their first byte on
pub four_in_word : (bytes : List ℕ) (start : ℕ) {x a b c d : ℕ} → AreBytes bytes → start / 8 + 8 ≤ length bytes
    → x ≡ joined 0 (eight bytes (start / 8)) / 2 ^ (16 - start % 8)
    → a ≡ x / 2 ^ 36 % 2 ^ 12 → b ≡ x / 2 ^ 24 % 2 ^ 12 → c ≡ x / 2 ^ 12 % 2 ^ 12 → d ≡ x / 2 ^ 0 % 2 ^ 12
    → (a < 4096) × (b < 4096) × (c < 4096) × (d < 4096) → FourAt (bits bytes) start a b c d
four_in_word bytes start {x} hb h e ea eb ec ed small = record {
  first = ea ∙ cut 0 36 refl ∙ ap (field 12 (bits bytes)) (add-zero start);
  second = eb ∙ cut 12 24 refl;
  third = ec ∙ cut 24 12 refl;
  fourth = ed ∙ cut 36 0 refl;
  small = small;
}
  where
    cut : (r k : ℕ) → r + 12 + k ≡ 48 → x / 2 ^ k % 2 ^ 12 ≡ field 12 (bits bytes) (start + r)
    cut r k w =
        let f : ℕ = start / 8 in
        let off : ℕ = start % 8 in
        let low : ℕ = 16 - off in
        let at_bit : 8 * f + (off + r) ≡ start + r = omega arith in
        let whole : off + r + 12 + (low + k) ≡ 8 * 8 = omega arith in
        let inside = field_in_bytes bytes f (off + r) 12 (low + k) 8 hb h whole in
        rw (e, shr-shr (joined 0 (eight bytes f)) low k) (rw (eight_bytes bytes f h, at_bit) at inside)

-- a byte of a list
pub byte_in : {bytes : List ℕ} (at : ℕ) → AreBytes bytes → at < length bytes → IsByte bytes at (get_or bytes at 0)
byte_in at hb h = record { inside = h; same = refl; small = hb at }

-- the bits of one byte
pub byte_field : {bytes : List ℕ} {at b : ℕ} → IsByte bytes at b → field 8 (bits bytes) (8 * at) ≡ b
unfolding field
byte_field {bytes} {at} {b} byte =
    rw (
      byte_on at bytes byte.inside,
      ← byte.same,
      take_at (to_bits 8 b) (bits (drop (suc at) bytes)) 8 (length_to_bits 8 b),
      value_to_bits 8 b,
    )
    (mod-eq_of_lt byte.small)

pub field_in_byte : {bytes : List ℕ} {b : ℕ} (start w k : ℕ) → IsByte bytes (start / 8) b → start % 8 + w + k ≡ 8
    → b / 2 ^ k % 2 ^ w ≡ field w (bits bytes) start
field_in_byte {bytes} start w k byte e =
    let s : 8 * (start / 8) + start % 8 ≡ start = omega arith in
    let h = byte.inside in
    let i = field_inside (bits bytes) (8 * (start / 8)) (start % 8) w k (rw (length_bits bytes) (omega arith)) in
    sym (rw (s, e, byte_field byte) at i)
