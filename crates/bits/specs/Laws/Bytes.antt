-- The bits of bytes: how many they are, and where whole bytes stand among them.
use Rattle.std.specs.Prelude.{◌≡◌, refl, List, [], ◌∷◌, ◌++◌, ℕ, zero, suc, ◌+◌, ◌*◌, ◌/◌, ◌≤◌, ◌<◌, length, take, drop}
use Rattle.std.specs.Prelude.{get_or}
use Rattle.std.proofs.Common.{sym, ap, ◌∙◌, append_assoc, arith, lit<, length-append, drop-cons, drop-drop, drop_at}
use Rattle.std.proofs.Common.{take_at, take-add, take-take, get_or-drop}
use Rattle.std.proofs.Math.Seq.{drop-nil, take-nil}
use Rattle.bits.specs.Bits.{to_bits, bits}
use Rattle.bits.specs.Laws.Digits.{length_to_bits}

-- every number of the list is a byte; past the end stands a 0
abbrev pub AreBytes : List ℕ → Type 0
AreBytes bytes = (i : ℕ) → get_or bytes i 0 < 256

pub drop_bytes : (n : ℕ) (bytes : List ℕ) → AreBytes bytes → AreBytes (drop n bytes)
drop_bytes n bytes h i = rw (get_or-drop n bytes i 0) (h (n + i))

pub take_bytes : (n : ℕ) (bytes : List ℕ) → AreBytes bytes → AreBytes (take n bytes)
take_bytes zero bytes h i = lit< tt
take_bytes (suc n) [] h i = lit< tt
take_bytes (suc n) (b ∷ bytes) h zero = h zero
take_bytes (suc n) (b ∷ bytes) h (suc i) = take_bytes n bytes (λ j. h (suc j)) i

pub length_bits : (bytes : List ℕ) → length (bits bytes) ≡ 8 * length bytes
unfolding bits
length_bits [] = refl
length_bits (b ∷ bytes) =
    length-append (to_bits 8 b) (bits bytes) ∙ omega (arith, length_to_bits 8 b, length_bits bytes)

pub bits_append : (xs ys : List ℕ) → bits (xs ++ ys) ≡ bits xs ++ bits ys
unfolding bits
bits_append [] ys = refl
bits_append (x ∷ xs) ys = rw (bits_append xs ys) (sym (append_assoc (to_bits 8 x) (bits xs) (bits ys)))

pub drop_bits : (n : ℕ) (bytes : List ℕ) → drop (8 * n) (bits bytes) ≡ bits (drop n bytes)
unfolding bits
drop_bits zero bytes = refl
drop_bits (suc n) [] = drop-nil (8 * suc n)
drop_bits (suc n) (b ∷ bytes) =
    let e : 8 * suc n ≡ 8 + 8 * n = omega arith in
    rw (e, ← drop-drop (8 * n) 8 (to_bits 8 b ++ bits bytes), drop_at (to_bits 8 b) (bits bytes) 8 (length_to_bits 8 b))
    (drop_bits n bytes)

pub take_bits : (n : ℕ) (bytes : List ℕ) → take (8 * n) (bits bytes) ≡ bits (take n bytes)
unfolding bits
take_bits zero bytes = refl
take_bits (suc n) [] = take-nil (8 * suc n)
take_bits (suc n) (b ∷ bytes) =
    let e : 8 * suc n ≡ 8 + 8 * n = omega arith in
    rw (
      e,
      take-add 8 (8 * n) (to_bits 8 b ++ bits bytes),
      take_at (to_bits 8 b) (bits bytes) 8 (length_to_bits 8 b),
      drop_at (to_bits 8 b) (bits bytes) 8 (length_to_bits 8 b),
      take_bits n bytes,
    )

-- the first m bits are those of the first n bytes, which hold them
pub first_bits : (m n : ℕ) (bytes : List ℕ) → m ≤ 8 * n → take m (bits (take n bytes)) ≡ take m (bits bytes)
first_bits m n bytes h = ap (take m) (sym (take_bits n bytes)) ∙ take-take m (8 * n) (bits bytes) h

-- the bits of n bytes from byte f on
pub part_bits : (n f : ℕ) (bytes : List ℕ) → bits (take n (drop f bytes)) ≡ take (8 * n) (drop (8 * f) (bits bytes))
part_bits n f bytes = rw (drop_bits f bytes, take_bits n (drop f bytes))

-- from byte f on: its own bits, and those of the bytes after it
pub byte_on : (f : ℕ) (bytes : List ℕ) → f < length bytes
    → drop (8 * f) (bits bytes) ≡ to_bits 8 (get_or bytes f 0) ++ bits (drop (suc f) bytes)
unfolding bits
byte_on f bytes h = drop_bits f bytes ∙ ap bits (drop-cons bytes f 0 h)

-- after the byte that bit `start` is in
pub after_byte : (bytes : List ℕ) (start room : ℕ) → start + room ≡ 8 * (start / 8 + 1)
    → drop room (drop start (bits bytes)) ≡ bits (drop (start / 8 + 1) bytes)
after_byte bytes start room e = rw (drop-drop room start (bits bytes), e) (drop_bits (start / 8 + 1) bytes)
