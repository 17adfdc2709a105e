-- Numbers laid one after another in fields of 12 bits: fields read, and fields written and read back.
use Rattle.std.specs.Prelude.{◌≡◌, refl, Bool, List, [], ◌∷◌, ◌++◌, ℕ, zero, suc, ◌+◌, ◌*◌, ◌≤◌, ◌<◌, length, take}
use Rattle.std.specs.Prelude.{drop, get_or}
use Rattle.std.proofs.Common.{sym, ap, ap₂, ◌∙◌, append_assoc, mod-eq_of_lt, arith, length-append, length-drop}
use Rattle.std.proofs.Common.{drop-drop, take-add, length-take-le}
use Rattle.bits.specs.Bits.{to_bits, field}
use Rattle.bits.specs.Laws.Digits.{length_to_bits, to_bits_value}
use Rattle.bits.specs.Laws.Fields.{field_laid}
use Rattle.record.specs.Record.{fields_from, field_bits}

-- ---- read

pub length_fields_from : (s : List Bool) (start k : ℕ) → length (fields_from s start k) ≡ k
unfolding fields_from
length_fields_from s start zero = refl
length_fields_from s start (suc k) = ap suc (length_fields_from s (start + 12) k)

pub fields_from_at : (s : List Bool) (start k p : ℕ) → p < k
    → get_or (fields_from s start k) p 0 ≡ field 12 s (start + 12 * p)
unfolding fields_from
fields_from_at s start zero p h = absurd (omega arith)
fields_from_at s start (suc k) zero h = ap (field 12 s) (omega arith)
fields_from_at s start (suc k) (suc p) h =
    fields_from_at s (start + 12) k p (omega arith) ∙ ap (field 12 s) (omega arith)

-- ---- written

pub length_field_bits : (xs : List ℕ) → length (field_bits xs) ≡ 12 * length xs
unfolding field_bits
length_field_bits [] = refl
length_field_bits (x ∷ xs) =
    length-append (to_bits 12 x) (field_bits xs) ∙ omega (arith, length_to_bits 12 x, length_field_bits xs)

pub field_bits_append : (x y : List ℕ) → field_bits (x ++ y) ≡ field_bits x ++ field_bits y
unfolding field_bits
field_bits_append [] y = refl
field_bits_append (v ∷ x) y =
    ap (λ (t : List Bool). to_bits 12 v ++ t) (field_bits_append x y)
    ∙ sym (append_assoc (to_bits 12 v) (field_bits x) (field_bits y))

-- fields that were read write the bits that they were read from
pub field_bits_from : (s : List Bool) (start k : ℕ) → start + 12 * k ≤ length s
    → field_bits (fields_from s start k) ≡ take (12 * k) (drop start s)
unfolding field_bits fields_from field
field_bits_from s start zero h = refl
field_bits_from s start (suc k) h =
    let e : 12 * suc k ≡ 12 + 12 * k = omega arith in
    let l : length (take 12 (drop start s)) ≡ 12 = length-take-le 12 (drop start s) (simp length-drop (omega arith)) in
    rw (e, take-add 12 (12 * k) (drop start s), drop-drop 12 start s)
    (ap₂ ◌++◌ (to_bits_value 12 (take 12 (drop start s)) l) (field_bits_from s (start + 12) k (omega arith)))

-- fields that were written, between other bits, read back
pub from_field_bits : (xs : List ℕ) (s t : List Bool) (start : ℕ) → length s ≡ start → ((p : ℕ) → get_or xs p 0 < 4096)
    → fields_from (s ++ (field_bits xs ++ t)) start (length xs) ≡ xs
unfolding field_bits fields_from to_bits
from_field_bits [] s t start e h = refl
from_field_bits (x ∷ xs) s t start e h =
    let f : length (s ++ to_bits 12 x) ≡ start + 12 =
    length-append s (to_bits 12 x) ∙ omega (arith, length_to_bits 12 x) in
    rw (append_assoc (to_bits 12 x) (field_bits xs) t)
    (ap₂ (λ (y : ℕ) (ys : List ℕ). y ∷ ys)
    (field_laid 12 x s (field_bits xs ++ t) start e ∙ mod-eq_of_lt (h 0))
    (ap (λ (r : List Bool). fields_from r (start + 12) (length xs))
    (sym (append_assoc s (to_bits 12 x) (field_bits xs ++ t)))
    ∙ from_field_bits xs (s ++ to_bits 12 x) t (start + 12) f (λ p. h (suc p))))
