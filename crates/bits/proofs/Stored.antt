-- Bytes stored into a slice: the bytes of a number into which a field was put are that field put into the slice's bits.
use mathlib.Core.Path.{◌≡◌, refl, sym, ap, ap₂, ◌∙◌}
use mathlib.Core.Bool.{Bool, true, false}
use mathlib.Core.List.{List, [], ◌∷◌, ◌++◌, append_assoc}
use Prim.Native.Nat.{ℕ, zero, suc, ◌+◌, ◌-◌, ◌*◌, ◌/◌, ◌%◌, ◌^◌, ◌≤◌, ◌<◌}
use native.Mathlib.Nat.{lt_of_lt_of_le, div-mul-le_self, mul_assoc, add-mul, add_comm}
use native.Mathlib.Nat.{max-eq_right, mod-eq_of_lt, mod-lt, add-zero, mul-mod_left}
use native.Mathlib.Numerals.{add-one, add-two}
use native.Mathlib.Omega.{arith}
use lib.Arith.{digits_lt}
use lib.Bits.{bit_and, bit_or, or_step, or_zero_r, or_block, or_lt, or_shifted, and_mask}
use borrow.Rule.Slice.PartMut.{put_mid}
use lib.ListN.{length, take, drop, get_or, set, replicate}
use lib.Pow.{shl_lt, shl-shr, shr-shr, split, pow-lt, pow_mono, pow-add, pow_pos}
use lib.Seq.{sets, sets-eq, drop-drop}
use Rattle.std.specs.Int.{w64, to_be_bytes}
use Rattle.bits.specs.Bits.{to_bits, bits, value, field, put}
use Rattle.bits.specs.Laws.Digits.{to_bits_agree, to_bits_append, to_bits_below}
use Rattle.bits.specs.Laws.Bytes.{AreBytes, length_bits, bits_append, take_bits, drop_bits}
use Rattle.bits.specs.Laws.Fields.{field_lt, field_front, field_back}
use Rattle.bits.specs.Laws.Packing.{take_replicate}
use Rattle.bits.specs.Laws.Puts.{length_put, field_put, put_replaced, put_one, put_beside}
use Rattle.bits.specs.Steps.{joined, two, three, byte_of, IsByte, front_of, Blank, replace}
use Rattle.bits.specs.Laws.Joined.{field_joined, two_bytes, three_bytes}
use Rattle.bits.proofs.Joined.{byte_field}

put_above : (hi w k v : ℕ) → hi * 2 ^ (w + k) + v * 2 ^ k ≡ (hi * 2 ^ w + v) * 2 ^ k
put_above hi w k v = rw (pow-add 2 w k, ← mul_assoc hi (2 ^ w) (2 ^ k)) (sym (add-mul (hi * 2 ^ w) v (2 ^ k)))

-- a number with a field replaced, by shifts and masks
pub replace_masked : (x w k v : ℕ) → w + k ≤ 24 → x < 2 ^ 24 → v < 2 ^ w
    → bit_or (bit_or (x / 2 ^ (w + k) * 2 ^ (w + k) % 2 ^ 64) (v * 2 ^ k % 2 ^ 64)) (bit_and x (2 ^ k - 1))
    ≡ replace x w k v
replace_masked x w k v hw hx hv =
    let top : ℕ = w + k in
    let hi : ℕ = x / 2 ^ top in
    let vl : v * 2 ^ k < 2 ^ top = shl_lt w k hv in
    let v64 : v * 2 ^ k < 2 ^ 64 = lt_of_lt_of_le vl (pow_mono {i = top} {j = 64} (omega arith)) in
    let h64 : hi * 2 ^ top < 2 ^ 64 = omega (arith, div-mul-le_self x (2 ^ top)) in
    rw (mod-eq_of_lt h64, mod-eq_of_lt v64, or_shifted hi top (v * 2 ^ k) vl, put_above hi w k v, and_mask x k)
    (or_shifted (hi * 2 ^ w + v) k (x % 2 ^ k) (mod-lt x (pow_pos k)))

or_one : (a : ℕ) → bit_or a 1 ≡ a / 2 * 2 + 1
or_one a = or_step a 1 ∙ ap₂ (λ (x y : ℕ). x * 2 + y) (or_zero_r (a / 2)) (max-eq_right (omega arith))

-- a number with one bit made a one
replace_or : (x k : ℕ) → bit_or x (2 ^ k) ≡ replace x 1 k 1
replace_or x k =
    let hi : ℕ = x / 2 ^ k in
    let one : 2 ^ k ≡ 1 * 2 ^ k + 0 = omega arith in
    let half : hi / 2 ≡ x / 2 ^ (1 + k) = shr-shr x k 1 ∙ ap (λ (n : ℕ). x / 2 ^ n) (add_comm k 1) in
    ap₂ bit_or (sym (split x k)) one
    ∙ or_block k hi 1 (x % 2 ^ k) 0 (mod-lt x (pow_pos k)) (pow_pos k)
    ∙ ap₂ (λ (a b : ℕ). a * 2 ^ k + b) (or_one hi ∙ ap (λ (n : ℕ). n * 2 + 1) half) (or_zero_r (x % 2 ^ k))

-- ---- the bytes of a number

above : (k y : ℕ) (vs : List ℕ) → bits vs ≡ to_bits k y → bits (byte_of y k ∷ vs) ≡ to_bits (8 + k) y
unfolding bits byte_of
above k y vs e = rw (e, to_bits_append 8 k y, to_bits_agree 8 (y / 2 ^ k % 256) (y / 2 ^ k) (omega arith))

bits_one : (y : ℕ) → bits (byte_of y 0 ∷ []) ≡ to_bits 8 y
unfolding bits to_bits
bits_one y = above 0 y [] refl

bits_two : (y : ℕ) → bits (byte_of y 8 ∷ byte_of y 0 ∷ []) ≡ to_bits 16 y
bits_two y = above 8 y (byte_of y 0 ∷ []) (bits_one y)

bits_three : (y : ℕ) → bits (byte_of y 16 ∷ byte_of y 8 ∷ byte_of y 0 ∷ []) ≡ to_bits 24 y
bits_three y = above 16 y (byte_of y 8 ∷ byte_of y 0 ∷ []) (bits_two y)

-- the lowest byte, and all eight, as the language has them
pub low_byte : (y : ℕ) → y % 256 ≡ byte_of y 0
unfolding byte_of
low_byte y = omega arith

abbrev eight_of : ℕ → List ℕ
eight_of y =
    byte_of y 56 ∷ byte_of y 48 ∷ byte_of y 40 ∷ byte_of y 32 ∷ byte_of y 24 ∷ byte_of y 16 ∷ byte_of y 8 ∷ byte_of y 0 ∷ []

eight_bytes_of : (y : ℕ) → to_be_bytes w64 y ≡ eight_of y
unfolding byte_of
eight_bytes_of y =
    ap (λ (b : ℕ). byte_of y 56 ∷ byte_of y 48 ∷ byte_of y 40 ∷ byte_of y 32 ∷ byte_of y 24 ∷ byte_of y 16 ∷ byte_of y 8 ∷ b ∷ [])
    (low_byte y)

bits_eight : (y : ℕ) → bits (eight_of y) ≡ to_bits 64 y
bits_eight y = above 56 y _ (above 48 y _ (above 40 y _ (above 32 y _ (above 24 y _ (bits_three y)))))

-- ---- stores

-- bytes vs in the place of those from byte f on
pasted : (bytes vs : List ℕ) (f : ℕ) → f + length vs ≤ length bytes
    → bits (take f bytes ++ (vs ++ drop (f + length vs) bytes))
    ≡ take (8 * f) (bits bytes) ++ (bits vs ++ drop (8 * f + 8 * length vs) (bits bytes))
pasted bytes vs f h =
    let e : 8 * f + 8 * length vs ≡ 8 * (f + length vs) = omega arith in
    rw (
      bits_append (take f bytes) (vs ++ drop (f + length vs) bytes),
      bits_append vs (drop (f + length vs) bytes),
      e,
      take_bits f bytes,
      drop_bits (f + length vs) bytes,
    )

-- and stored one by one
stored : (bytes vs : List ℕ) (f : ℕ) → f + length vs ≤ length bytes
    → bits (sets bytes f vs) ≡ take (8 * f) (bits bytes) ++ (bits vs ++ drop (8 * f + 8 * length vs) (bits bytes))
stored bytes vs f h =
    ap bits (sets-eq vs bytes f h ∙ append_assoc (take f bytes) vs (drop (f + length vs) bytes)) ∙ pasted bytes vs f h

-- a field inside the bytes vs, which are those of the number y: the former ones' number with v put into it
write : (bytes vs : List ℕ) (start w k v x y : ℕ) → start / 8 + length vs ≤ length bytes
    → start % 8 + (w + k) ≡ 8 * length vs → v < 2 ^ w
    → x ≡ field (8 * length vs) (bits bytes) (8 * (start / 8)) → y ≡ replace x w k v
    → bits vs ≡ to_bits (8 * length vs) y
    → bits (sets bytes (start / 8) vs) ≡ put w v (bits bytes) start
write bytes vs start w k v x y h e hv ex ey eb =
    let f : ℕ = start / 8 in
    let m : ℕ = 8 * length vs in
    let new = eb ∙ ap (to_bits m) (ey ∙ ap (λ (n : ℕ). replace n w k v) ex) in
    let s : 8 * f + start % 8 ≡ start = omega arith in
    stored bytes vs f h
    ∙ ap (λ (t : List Bool). take (8 * f) (bits bytes) ++ (t ++ drop (8 * f + m) (bits bytes))) new
    ∙ put_replaced (bits bytes) (8 * f) m (start % 8) w k v (omega (arith, length_bits bytes)) e hv
    ∙ ap (put w v (bits bytes)) s

-- what a write of one, two or three bytes leaves
write_one : {bytes : List ℕ} {x : ℕ} (start w k v y : ℕ) → IsByte bytes (start / 8) x → start % 8 + (w + k) ≡ 8
    → v < 2 ^ w → y ≡ replace x w k v
    → bits (set bytes (start / 8) (byte_of y 0)) ≡ put w v (bits bytes) start
write_one {bytes} {x} start w k v y byte e hv ey =
    let h = byte.inside in
    write bytes (byte_of y 0 ∷ []) start w k v x y (omega arith) e hv (sym (byte_field byte)) ey (bits_one y)

module _ (bytes : List ℕ) (start w k v x y : ℕ) (hb : AreBytes bytes) (hv : v < 2 ^ w) (ey : y ≡ replace x w k v) where
  pub write_two : {p q : ℕ} → start / 8 + 2 ≤ length bytes → start % 8 + (w + k) ≡ 16
      → x ≡ joined 0 (two bytes (start / 8) (start / 8 + 1))
      → p ≡ byte_of y 8 → q ≡ byte_of y 0
      → bits (set (set bytes (start / 8) p) (start / 8 + 1) q) ≡ put w v (bits bytes) start
  write_two h e ex ep eq =
      let old = field_joined bytes (start / 8) 2 hb ∙ ap (joined 0) (two_bytes bytes (start / 8) h) in
      rw (ep, eq, add-one (start / 8))
      (write bytes (byte_of y 8 ∷ byte_of y 0 ∷ []) start w k v x y h e hv (ex ∙ sym old) ey (bits_two y))

  pub write_three : {p q r : ℕ} → start / 8 + 3 ≤ length bytes → start % 8 + (w + k) ≡ 24
      → x ≡ joined 0 (three bytes (start / 8) (start / 8 + 2))
      → p ≡ byte_of y 16 → q ≡ byte_of y 8 → r ≡ byte_of y 0
      → bits (set (set (set bytes (start / 8) p) (start / 8 + 1) q) (start / 8 + 2) r) ≡ put w v (bits bytes) start
  write_three h e ex ep eq er =
      let vs = byte_of y 16 ∷ byte_of y 8 ∷ byte_of y 0 ∷ [] in
      let old = field_joined bytes (start / 8) 3 hb ∙ ap (joined 0) (three_bytes bytes (start / 8) h) in
      rw (ep, eq, er, add-one (start / 8), add-two (start / 8))
      (write bytes vs start w k v x y h e hv (ex ∙ sym old) ey (bits_three y))

-- what an or of one bit into its byte leaves
pub write_or : (bytes : List ℕ) (i : ℕ) → AreBytes bytes → i < 8 * length bytes
    → bits (set bytes (i / 8) (bit_or (get_or bytes (i / 8) 0) (128 / 2 ^ (i % 8)))) ≡ set (bits bytes) i true
unfolding byte_of
write_or bytes i hb h =
    let f : ℕ = i / 8 in
    let r : ℕ = i % 8 in
    let k : ℕ = 7 - r in
    let x : ℕ = get_or bytes f 0 in
    let y : ℕ = bit_or x (2 ^ k) in
    let byte : IsByte bytes f x = record { inside = omega arith; same = refl; small = hb f } in
    let all : k + r ≡ 7 = omega arith in
    let mask : 128 / 2 ^ r ≡ 2 ^ k =
    ap (λ (n : ℕ). n / 2 ^ r) (sym (ap (◌^◌ 2) all) ∙ pow-add 2 k r) ∙ shl-shr (2 ^ k) r in
    let lt : y < 256 = or_lt 8 x (2 ^ k) (hb f) (pow-lt {j = 8} (omega arith)) in
    let small : byte_of y 0 ≡ y = omega arith in
    ap (λ (n : ℕ). bits (set bytes f n)) (ap (bit_or x) mask ∙ sym small)
    ∙ write_one i 1 k 1 y byte (omega arith) (omega arith) (replace_or x k)
    ∙ put_one true (bits bytes) i (rw (length_bits bytes) h)

-- what a mask of all but the first bit leaves of the first byte
pub write_clear : (bytes : List ℕ) → AreBytes bytes → 0 < length bytes
    → bits (set bytes 0 (bit_and (get_or bytes 0 0) 127)) ≡ set (bits bytes) 0 false
unfolding byte_of
write_clear bytes hb h =
    let x : ℕ = get_or bytes 0 0 in
    let byte : IsByte bytes 0 x = record { inside = h; same = refl; small = hb 0 } in
    let small : x < 256 = hb 0 in
    let y : x % 2 ^ 7 ≡ replace x 1 7 0 = omega arith in
    let e : bit_and x 127 ≡ byte_of (x % 2 ^ 7) 0 = and_mask x 7 ∙ omega arith in
    ap (λ (n : ℕ). bits (set bytes 0 n)) e ∙ write_one 0 1 7 0 (x % 2 ^ 7) byte refl (omega arith) y
    ∙ put_one false (bits bytes) 0 (rw (length_bits bytes) (omega arith))

-- what two numbers of 12 bits stored in three bytes leave
pub write_beside : (bytes : List ℕ) (at a b x : ℕ) {p q r : ℕ} → at + 3 ≤ length bytes → a < 4096 → b < 4096
    → x ≡ a * 2 ^ 12 + b → p ≡ byte_of x 16 → q ≡ byte_of x 8 → r ≡ byte_of x 0
    → bits (set (set (set bytes at p) (at + 1) q) (at + 2) r) ≡ put 12 b (put 12 a (bits bytes) (8 * at)) (8 * at + 12)
write_beside bytes at a b x h ha hb e ep eq er =
    let s : List Bool = bits bytes in
    let l : length s ≡ 8 * length bytes = length_bits bytes in
    let vs : List ℕ = byte_of x 16 ∷ byte_of x 8 ∷ byte_of x 0 ∷ [] in
    let new : bits vs ≡ to_bits 12 a ++ to_bits 12 b = bits_three x ∙ ap (to_bits 24) e ∙ to_bits_below 12 12 a b hb in
    rw (ep, eq, er, add-one at, add-two at)
    (stored bytes vs at h ∙ ap (λ (t : List Bool). take (8 * at) s ++ (t ++ drop (8 * at + 24) s)) new
    ∙ sym (put_beside 12 a 12 b s (8 * at) (omega arith)))

-- the number that the two write, by a shift
pub beside_shifted : (a b : ℕ) → a < 4096 → b < 4096 → bit_or (a * 2 ^ 12 % 2 ^ 64) b ≡ a * 2 ^ 12 + b
beside_shifted a b ha hb =
    let e : a * 2 ^ 12 < 2 ^ 64 = omega arith in
    rw (mod-eq_of_lt e) (or_shifted a 12 b hb)

-- what the eight bytes of a number leave
pub write_word : (bytes : List ℕ) (at x n : ℕ) {vs : List ℕ} → at + 8 ≤ length bytes → n ≡ 8 → vs ≡ to_be_bytes w64 x
    → bits (put_mid at n bytes vs) ≡ put 64 x (bits bytes) (8 * at)
unfolding put
write_word bytes at x n h e ev =
    rw (e, ev ∙ eight_bytes_of x, drop-drop 8 at bytes)
    (pasted bytes (eight_of x) at h
    ∙ ap (λ (t : List Bool). take (8 * at) (bits bytes) ++ (t ++ drop (8 * at + 64) (bits bytes))) (bits_eight x))

-- ---- a field put among zeros

value_zeros : (k : ℕ) → value (replicate k false) ≡ 0
unfolding value
value_zeros zero = refl
value_zeros (suc k) = omega (arith, value_zeros k)

module _ {s : List Bool} {start : ℕ} (z : Blank s start) where
  blank_field : (w : ℕ) → start + w ≤ length s → field w s start ≡ 0
  unfolding field
  blank_field w h =
      ap (λ (t : List Bool). value (take w t)) z.clear
      ∙ ap value (take_replicate w (length s - start) false (omega arith)) ∙ value_zeros w

  -- a field that ends in zeros
  blank_end : (g r k : ℕ) → g + r ≡ start → start + k ≤ length s → field (r + k) s g ≡ field r s g * 2 ^ k
  blank_end g r k e h =
      let n : ℕ = field (r + k) s g in
      let top : n / 2 ^ k ≡ field r s g = sym (field_front s g r k (omega arith)) in
      let none : n % 2 ^ k ≡ 0 = sym (field_back s g r k (omega arith)) ∙ ap (field k s) e ∙ blank_field k h in
      sym (split n k) ∙ ap₂ (λ (x y : ℕ). x * 2 ^ k + y) top none ∙ add-zero _

-- what stands before a bit in its byte
pub byte_front : {bytes : List ℕ} {b : ℕ} (start : ℕ) → IsByte bytes (start / 8) b
    → b / 2 ^ (8 - start % 8) ≡ front_of (bits bytes) start
byte_front {bytes} start byte =
    let h = byte.inside in
    let e : start % 8 + (8 - start % 8) ≡ 8 = omega arith in
    let f = field_front (bits bytes) (8 * (start / 8)) (start % 8) (8 - start % 8)
    (omega (arith, length_bits bytes)) in
    sym (rw (e, byte_field byte) at f)

-- nothing does before the first bit of one
pub no_front : (s : List Bool) (start : ℕ) → start % 8 ≡ 0 → 0 ≡ front_of s start
unfolding field value
no_front s start e = rw e

-- after a field of w bits, a multiple of 8, it is the field's last bits
pub next_front : (s : List Bool) (start w v : ℕ) → start + w ≤ length s → w % 8 ≡ 0 → 8 ≤ w → v < 2 ^ w
    → v % 2 ^ (start % 8) ≡ front_of (put w v s start) (start + w)
next_front s start w v h e k hv =
    let r : ℕ = start % 8 in
    let t : List Bool = put w v s start in
    let same : (start + w) % 8 ≡ r = omega arith in
    let here : 8 * ((start + w) / 8) ≡ start + (w - r) = omega arith in
    let split : w - r + r ≡ w = omega arith in
    let end = field_back t start (w - r) r (rw (length_put w v s start h) (omega arith)) in
    sym (rw (same, here) (end ∙ ap (λ (n : ℕ). field n t start % 2 ^ r) split
    ∙ ap (λ (n : ℕ). n % 2 ^ r) (field_put w v s start h ∙ mod-eq_of_lt hv)))

-- a number that ends in zeros, with a field put above them
replace_zeros : (t w k v : ℕ) → replace (t * 2 ^ (w + k)) w k v ≡ (t * 2 ^ w + v) * 2 ^ k
replace_zeros t w k v =
    let two : t * 2 ^ (w + k) ≡ t * 2 ^ w * 2 ^ k =
    ap (λ (n : ℕ). t * n) (pow-add 2 w k) ∙ sym (mul_assoc t (2 ^ w) (2 ^ k)) in
    let none : t * 2 ^ (w + k) % 2 ^ k ≡ 0 = ap (λ (n : ℕ). n % 2 ^ k) two ∙ mul-mod_left (t * 2 ^ w) (2 ^ k) in
    rw (shl-shr t (w + k), none) (add-zero _)

-- w bits put among zeros, by a word that begins with what stands before them in their first byte
pub write_blank : {s : List Bool} (start w k v : ℕ) → Blank s start → 8 * (start / 8) + 64 ≤ length s
    → start % 8 + (w + k) ≡ 64 → v < 2 ^ w
    → {t : ℕ} → t ≡ front_of s start
    → put 64 (bit_or (t * 2 ^ w % 2 ^ 64) v * 2 ^ k % 2 ^ 64) s (8 * (start / 8)) ≡ put w v s start
unfolding put
write_blank {s} start w k v z h e hv {t} et =
    let g : ℕ = 8 * (start / 8) in
    let r : ℕ = start % 8 in
    let y : ℕ = field 64 s g in
    let at_start : g + r ≡ start = omega arith in
    let ey : y ≡ t * 2 ^ (w + k) =
    ap (λ (n : ℕ). field n s g) (sym e) ∙ blank_end z g r (w + k) at_start (omega arith)
    ∙ ap (λ (n : ℕ). n * 2 ^ (w + k)) (sym et) in
    let tl : t < 2 ^ r = rw et (field_lt r s g) in
    let whole : t * 2 ^ w + v < 2 ^ (r + w) = rw (pow-add 2 r w) (digits_lt {q = t} {m = 2 ^ r} tl hv) in
    let up : r + w + k ≡ 64 = omega arith in
    let x64 : (t * 2 ^ w + v) * 2 ^ k < 2 ^ 64 = rw up at (shl_lt (r + w) k whole) in
    let t64 : t * 2 ^ w < 2 ^ 64 = lt_of_lt_of_le (shl_lt r w tl) (pow_mono {i = r + w} {j = 64} (omega arith)) in
    let x : bit_or (t * 2 ^ w % 2 ^ 64) v * 2 ^ k % 2 ^ 64 ≡ replace y w k v =
    rw (mod-eq_of_lt t64, or_shifted t w v hv, mod-eq_of_lt x64, ey) (sym (replace_zeros t w k v)) in
    ap (λ (n : ℕ). take g s ++ (to_bits 64 n ++ drop (g + 64) s)) x
    ∙ put_replaced s g 64 r w k v h e hv ∙ ap (put w v s) at_start
