-- Fields of any width at any starting bit: a field inside a field is cut out by a shift and a mask.
use Rattle.std.specs.Prelude.{◌≡◌, refl, Bool, false, List, [], ◌∷◌, ◌++◌, ℕ, zero, suc, ◌+◌, ◌/◌, ◌%◌, ◌^◌, ◌≤◌, ◌<◌}
use Rattle.std.specs.Prelude.{length, take, drop, get_or}
use Rattle.std.proofs.Common.{sym, ap, ◌∙◌, append_assoc, div-one, lt_of_lt_of_le, mod-eq_of_lt, arith, length-take}
use Rattle.std.proofs.Common.{length-drop, take-append-drop, pow_mono, shr_lt, drop-cons, drop-drop, drop_at, take_at}
use Rattle.std.proofs.Common.{take-take, length-take-le}
use Rattle.std.proofs.Math.Nat.{min-le_left}
use Rattle.std.proofs.Math.Pow.{high, low}
use Rattle.std.proofs.lemmas.List.{take-append-le, drop-append-le}
use Rattle.bits.specs.Bits.{to_bits, bit, value, field}
use Rattle.bits.specs.Laws.Digits.{value_append, value_lt, length_to_bits, value_to_bits}

pub field_lt : (w : ℕ) (s : List Bool) (start : ℕ) → field w s start < 2 ^ w
unfolding field
field_lt w s start =
    lt_of_lt_of_le (value_lt (take w (drop start s)))
    (pow_mono (simp length-take (min-le_left w (length (drop start s)))))

-- the bits f between p and l, by a shift and a mask
between : (p f l : List Bool) → value (p ++ (f ++ l)) / 2 ^ length l % 2 ^ length f ≡ value f
between p f l =
    rw (
      ← append_assoc p f l,
      value_append (p ++ f) l,
      high (value (p ++ f)) (length l) (value_lt l),
      value_append p f,
    )
    (low (value p) (length f) (value_lt f))

-- w bits from bit r on of a list of r + w + k bits
cut : (s : List Bool) (r w k : ℕ) → length s ≡ r + w + k → field w s r ≡ value s / 2 ^ k % 2 ^ w
unfolding field
cut s r w k e =
    let f : List Bool = take w (drop r s) in
    let l : List Bool = drop w (drop r s) in
    let lf : length f ≡ w = length-take-le w (drop r s) (simp length-drop (omega arith)) in
    let ll : length l ≡ k = simp length-drop (omega arith) in
    let whole : take r s ++ (f ++ l) ≡ s = rw (take-append-drop w (drop r s)) (take-append-drop r s) in
    sym (rw (whole, lf, ll) at (between (take r s) f l))

-- w bits of the first n
pub inner : (w r n : ℕ) (s : List Bool) → r + w ≤ n → take w (drop r (take n s)) ≡ take w (drop r s)
inner w zero n s h = take-take w n s (omega arith)
inner w (suc r) zero s h = absurd (omega arith)
inner w (suc r) (suc n) [] h = refl
inner w (suc r) (suc n) (b ∷ s) h = inner w r n s (omega arith)

-- a field of the n bits from bit g on is a field of the whole
pub field_part : (w r n g : ℕ) (s : List Bool) → r + w ≤ n → field w (take n (drop g s)) r ≡ field w s (g + r)
unfolding field
field_part w r n g s h = ap value (inner w r n (drop g s) h ∙ ap (take w) (drop-drop r g s))

-- the law of fields: w bits from bit r on of a field of r + w + k bits are cut out by a shift and a mask
pub field_inside : (s : List Bool) (g r w k : ℕ) → g + (r + w + k) ≤ length s
    → field w s (g + r) ≡ field (r + w + k) s g / 2 ^ k % 2 ^ w
unfolding field
field_inside s g r w k h =
    let n : ℕ = r + w + k in
    sym (field_part w r n g s (omega arith))
    ∙ cut (take n (drop g s)) r w k (length-take-le n (drop g s) (simp length-drop (omega arith)))

-- its first w bits need no mask
pub field_front : (s : List Bool) (g w k : ℕ) → g + (w + k) ≤ length s → field w s g ≡ field (w + k) s g / 2 ^ k
field_front s g w k h =
    let e : 0 + w + k ≡ w + k = omega arith in
    let z : g + 0 ≡ g = omega arith in
    let f : field w s g ≡ field (w + k) s g / 2 ^ k % 2 ^ w = rw (e, z) at (field_inside s g 0 w k (omega arith)) in
    f ∙ mod-eq_of_lt (shr_lt w k (field_lt (w + k) s g))

-- its last w bits need no shift
pub field_back : (s : List Bool) (g r w : ℕ) → g + (r + w) ≤ length s → field w s (g + r) ≡ field (r + w) s g % 2 ^ w
field_back s g r w h =
    let e : r + w + 0 ≡ r + w = omega arith in
    rw (e, div-one (field (r + w) s g)) at (field_inside s g r w 0 (omega arith))

-- bits after a field's end do not matter
pub field_append : (w : ℕ) (s t : List Bool) (start : ℕ) → start + w ≤ length s
    → field w (s ++ t) start ≡ field w s start
unfolding field
field_append w s t start h =
    ap value (ap (take w) (drop-append-le start s t (omega arith))
    ∙ take-append-le w (drop start s) t (simp length-drop (omega arith)))

-- a field that was laid between other bits reads back
pub field_laid : (w v : ℕ) (s t : List Bool) (start : ℕ) → length s ≡ start
    → field w (s ++ (to_bits w v ++ t)) start ≡ v % 2 ^ w
unfolding field
field_laid w v s t start e =
    ap (λ (x : List Bool). value (take w x)) (drop_at s (to_bits w v ++ t) start e)
    ∙ ap value (take_at (to_bits w v) t w (length_to_bits w v)) ∙ value_to_bits w v

-- a bit is a field of one bit
pub field_one : (s : List Bool) (i : ℕ) → i < length s → field 1 s i ≡ bit (get_or s i false)
unfolding field value
field_one s i h = rw (drop-cons s i false h) (omega arith)
