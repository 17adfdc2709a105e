-- Eight bytes joined the other way round, with the first lowest.
--   turned_joined  the lowest bytes of that number, joined, are the bytes joined the right way
--   turned_ones    it has as many ones as the bytes
use mathlib.Core.Path.{◌≡◌, refl, sym, ap, ap₂, ◌∙◌}
use mathlib.Core.List.{List, [], ◌∷◌, ◌++◌, reverse, reverse-cons}
use Prim.Native.Nat.{ℕ, zero, suc, ◌+◌, ◌*◌, ◌/◌, ◌%◌, ◌^◌, ◌≤◌, ◌<◌}
use native.Mathlib.Nat.{add_comm}
use native.Mathlib.Omega.{arith}
use lib.Count.{ones, ones_cat}
use lib.ListN.{length, take, drop}
use lib.Pow.{shr-shr, high}
use Rattle.bits.specs.Bits.{to_bits, bits, count}
use Rattle.bits.specs.Steps.{joined, eight, byte_of, low_bytes}
use Rattle.bits.specs.Laws.Bytes.{AreBytes, part_bits}
use Rattle.bits.specs.Laws.Rank.{count_append, count_to_bits}
use Rattle.bits.specs.Laws.Joined.{eight_bytes}

-- bytes that are given one by one
data EachByte : List ℕ → Type 0 where
  none : EachByte []
  more : {b : ℕ} {bytes : List ℕ} → b < 256 → EachByte bytes → EachByte (b ∷ bytes)

each_of_eight : (bytes : List ℕ) (f : ℕ) → AreBytes bytes → EachByte (eight bytes f)
each_of_eight bytes f h =
    more (h f) (more (h (f + 1)) (more (h (f + 2)) (more (h (f + 3))
    (more (h (f + 4)) (more (h (f + 5)) (more (h (f + 6)) (more (h (f + 7)) none)))))))

-- ---- one more byte below a number

joined_below : (a : ℕ) (xs : List ℕ) (b : ℕ) → joined a (xs ++ (b ∷ [])) ≡ joined a xs * 256 + b
joined_below a [] b = refl
joined_below a (x ∷ xs) b = joined_below (a * 256 + x) xs b

below : (b : ℕ) (xs : List ℕ) → joined 0 (reverse (b ∷ xs)) ≡ joined 0 (reverse xs) * 2 ^ 8 + b
below b xs = ap (joined 0) (reverse-cons b xs) ∙ joined_below 0 (reverse xs) b

low_later : (n k x : ℕ) → low_bytes n (k + 8) x ≡ low_bytes n k (x / 2 ^ 8)
unfolding byte_of
low_later zero k x = refl
low_later (suc n) k x =
    let e : x / 2 ^ (k + 8) ≡ x / 2 ^ 8 / 2 ^ k = ap (λ (m : ℕ). x / 2 ^ m) (add_comm k 8) ∙ sym (shr-shr x 8 k) in
    ap₂ (λ (d : ℕ) (ds : List ℕ). d % 256 ∷ ds) e (low_later n (k + 8) x)

-- ---- what was joined

-- the lowest bytes of the number are the bytes
low_bytes_lem : (xs : List ℕ) → EachByte xs → low_bytes (length xs) 0 (joined 0 (reverse xs)) ≡ xs
unfolding byte_of
low_bytes_lem [] none = refl
low_bytes_lem (b ∷ xs) (more h r) =
    let x : ℕ = joined 0 (reverse xs) in
    let e = below b xs in
    let l : byte_of (joined 0 (reverse (b ∷ xs))) 0 ≡ b = omega arith in
    let q : joined 0 (reverse (b ∷ xs)) / 2 ^ 8 ≡ x = ap (λ (n : ℕ). n / 2 ^ 8) e ∙ high x 8 h in
    ap₂ (λ (d : ℕ) (ds : List ℕ). d ∷ ds) l
    (low_later (length xs) 0 _ ∙ ap (low_bytes (length xs) 0) q ∙ low_bytes_lem xs r)

pub turned_joined : (bytes : List ℕ) (f : ℕ) → AreBytes bytes
    → joined 0 (low_bytes 8 0 (joined 0 (reverse (eight bytes f)))) ≡ joined 0 (eight bytes f)
turned_joined bytes f h = ap (joined 0) (low_bytes_lem (eight bytes f) (each_of_eight bytes f h))

-- and its ones are theirs
ones_joined : (xs : List ℕ) → EachByte xs → ones (joined 0 (reverse xs)) ≡ count (bits xs)
unfolding bits count ones
ones_joined [] none = refl
ones_joined (b ∷ xs) (more h r) =
    let c = count_append (to_bits 8 b) (bits xs) in
    let d = count_to_bits 8 b h in
    let e = ones_joined xs r in
    ap ones (below b xs) ∙ ones_cat 8 (joined 0 (reverse xs)) b h ∙ omega arith

pub turned_ones : (bytes : List ℕ) (f : ℕ) → AreBytes bytes → f + 8 ≤ length bytes
    → ones (joined 0 (reverse (eight bytes f))) ≡ count (take 64 (drop (8 * f) (bits bytes)))
turned_ones bytes f hb h =
    ones_joined (eight bytes f) (each_of_eight bytes f hb)
    ∙ ap (λ (l : List ℕ). count (bits l)) (sym (eight_bytes bytes f h)) ∙ ap count (part_bits 8 f bytes)
