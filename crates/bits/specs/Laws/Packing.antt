-- Packing: packed bits read back, and so do unpacked bytes.
use Rattle.std.specs.Prelude.{◌≡◌, refl, Bool, false, List, [], ◌∷◌, ◌++◌, ℕ, zero, suc, ◌+◌, ◌-◌, ◌*◌, ◌/◌, ◌≤◌}
use Rattle.std.specs.Prelude.{length, take, drop, replicate}
use Rattle.std.proofs.Common.{sym, ap, ap₂, ◌∙◌, append_assoc, lt_of_lt_of_le, mod-eq_of_lt, le-leb, lit<, pow_mono}
use Rattle.std.proofs.Common.{arith, length-append, length-drop, take-append-drop, drop_of_length-le, length-take}
use Rattle.std.proofs.Common.{take_at, drop_at, length-take-le}
use Rattle.std.proofs.Math.Decide.{dec_le}
use Rattle.std.proofs.Math.Nat.{min-le_left}
use Rattle.std.proofs.lemmas.List.{replicate-append-replicate, take-append-le}
use Rattle.std.proofs.Math.Seq.{take-append-add}
use Rattle.bits.specs.Bits.{to_bits, bits, string, value, packed, pack}
use Rattle.bits.specs.Laws.Digits.{value_lt, length_to_bits, value_to_bits, to_bits_value}
use Rattle.bits.specs.Laws.Bytes.{AreBytes, length_bits}
use Rattle.bits.specs.Laws.Rank.{held}

length_packed : (n : ℕ) (s : List Bool) → length (packed n s) ≡ n
unfolding packed
length_packed zero s = refl
length_packed (suc n) s = ap suc (length_packed n (drop 8 s))

pub length_pack : (s : List Bool) → length (pack s) ≡ (length s + 7) / 8
unfolding pack
length_pack s = length_packed ((length s + 7) / 8) s

pub take_replicate : (k n : ℕ) (b : Bool) → k ≤ n → take k (replicate n b) ≡ replicate k b
take_replicate zero n b h = refl
take_replicate (suc k) zero b h = absurd (omega arith)
take_replicate (suc k) (suc n) b h = ap (λ (s : List Bool). b ∷ s) (take_replicate k n b (omega arith))

-- the next eight bits, and what follows them
next_byte : (s rest : List Bool) (n : ℕ) → length s ≤ 8 * suc n
    → rest ≡ drop 8 s ++ replicate (8 * n - length (drop 8 s)) false
    → take 8 (s ++ replicate 8 false) ++ rest ≡ s ++ replicate (8 * suc n - length s) false
next_byte s rest n h e = go (dec_le 8 (length s))
  where
    go : Dec (8 ≤ length s) → take 8 (s ++ replicate 8 false) ++ rest ≡ s ++ replicate (8 * suc n - length s) false
    go (yes k) =
        let c : 8 * n - length (drop 8 s) ≡ 8 * suc n - length s = omega (arith, length-drop 8 s) in
        rw (
          e,
          c,
          take-append-le 8 s (replicate 8 false) k,
          ← append_assoc (take 8 s) (drop 8 s)
              (replicate (8 * suc n - length s) false),
          take-append-drop 8 s,
        )
    go (no k) =
        let c : 8 * n - length (drop 8 s) ≡ 8 * n = omega (arith, length-drop 8 s) in
        let d : 8 ≡ length s + (8 - length s) = omega arith in
        let f : 8 - length s + 8 * n ≡ 8 * suc n - length s = omega arith in
        let g : take 8 (s ++ replicate 8 false) ≡ s ++ replicate (8 - length s) false =
        ap (λ (m : ℕ). take m (s ++ replicate 8 false)) d ∙ take-append-add s (replicate 8 false) (8 - length s)
        ∙ ap (λ (t : List Bool). s ++ t) (take_replicate (8 - length s) 8 false (omega arith)) in
        rw (
          e,
          c,
          g,
          drop_of_length-le s {i = 8} (omega arith),
          append_assoc s (replicate (8 - length s) false) (replicate (8 * n) false),
          replicate-append-replicate (8 - length s) (8 * n) false,
          f,
        )

bits_packed : (n : ℕ) (s : List Bool) → length s ≤ 8 * n → bits (packed n s) ≡ s ++ replicate (8 * n - length s) false
unfolding packed bits
bits_packed zero [] h = refl
bits_packed zero (b ∷ s) h = absurd (omega arith)
bits_packed (suc n) s h =
    let c : List Bool = take 8 (s ++ replicate 8 false) in
    let l : length c ≡ 8 =
    length-take-le 8 (s ++ replicate 8 false) (omega (arith, length-append s (replicate 8 false))) in
    ap (λ (t : List Bool). t ++ bits (packed n (drop 8 s))) (to_bits_value 8 c l)
    ∙ next_byte s (bits (packed n (drop 8 s))) n h (bits_packed n (drop 8 s) (simp length-drop (omega arith)))

-- packed bits read back, followed by the fill bits
pub bits_pack : (s : List Bool) → bits (pack s) ≡ s ++ replicate (8 * ((length s + 7) / 8) - length s) false
unfolding pack
bits_pack s = bits_packed ((length s + 7) / 8) s (omega arith)

-- as a string, they are the bits that were packed
pub string_pack : (s : List Bool) → string (pack s) 0 (length s) ≡ s
string_pack s =
    rw (
      held (pack s) 0 (length s) (le-leb (0 + length s) (8 * length (pack s)) (omega (arith, length_pack s))),
      bits_pack s,
    )
    (take_at s (replicate (8 * ((length s + 7) / 8) - length s) false) (length s) refl)

-- bytes of zero are zero bits
pub zero_bits : (k : ℕ) → bits (replicate k 0) ≡ replicate (8 * k) false
unfolding bits to_bits
zero_bits zero = refl
zero_bits (suc k) =
    let e : 8 * suc k ≡ suc (suc (suc (suc (suc (suc (suc (suc (8 * k)))))))) = omega arith in
    rw e (ap (λ (t : List Bool). to_bits 8 0 ++ t) (zero_bits k))

packed_bytes : (n : ℕ) (s : List Bool) → AreBytes (packed n s)
unfolding packed
packed_bytes zero s i = lit< tt
packed_bytes (suc n) s zero =
    lt_of_lt_of_le (value_lt (take 8 (s ++ replicate 8 false)))
    (pow_mono {j = 8} (simp length-take (min-le_left 8 (length (s ++ replicate 8 false)))))
packed_bytes (suc n) s (suc i) = packed_bytes n (drop 8 s) i

-- what packing gives are bytes
pub pack_bytes : (s : List Bool) → AreBytes (pack s)
unfolding pack
pack_bytes s = packed_bytes ((length s + 7) / 8) s

packed_bits : (bytes : List ℕ) → AreBytes bytes → packed (length bytes) (bits bytes) ≡ bytes
unfolding packed bits
packed_bits [] h = refl
packed_bits (b ∷ bytes) h =
    let l : length (to_bits 8 b) ≡ 8 = length_to_bits 8 b in
    ap₂ (λ (x : ℕ) (xs : List ℕ). x ∷ xs)
    (ap value
    (ap (take 8) (append_assoc (to_bits 8 b) (bits bytes) (replicate 8 false))
    ∙ take_at (to_bits 8 b) (bits bytes ++ replicate 8 false) 8 l)
    ∙ value_to_bits 8 b ∙ mod-eq_of_lt (h 0))
    (ap (packed (length bytes)) (drop_at (to_bits 8 b) (bits bytes) 8 l) ∙ packed_bits bytes (λ i. h (suc i)))

-- bytes are the packing of their bits
pub pack_bits : (bytes : List ℕ) → AreBytes bytes → pack (bits bytes) ≡ bytes
unfolding pack
pack_bits bytes h =
    let e : (length (bits bytes) + 7) / 8 ≡ length bytes = omega (arith, length_bits bytes) in
    ap (λ (n : ℕ). packed n (bits bytes)) e ∙ packed_bits bytes h

-- so bytes with the same bits are the same
pub bits_injective : (xs ys : List ℕ) → AreBytes xs → AreBytes ys → bits xs ≡ bits ys → xs ≡ ys
bits_injective xs ys h k e = sym (pack_bits xs h) ∙ ap pack e ∙ pack_bits ys k
