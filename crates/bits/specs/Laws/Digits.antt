-- Numbers and their bits: `to_bits` and `value` are inverse to each other at each width.
use Rattle.std.specs.Prelude.{◌≡◌, refl, Bool, true, false, List, [], ◌∷◌, ◌++◌, ℕ, zero, suc, ◌+◌, ◌*◌, ◌/◌, ◌%◌, ◌^◌}
use Rattle.std.specs.Prelude.{◌<◌, eqb, length}
use Rattle.std.proofs.Common.{sym, ap, ap₂, ◌∙◌, mul_assoc, add-mul, mod-lt, mod-eq_of_lt, one-add, arith, lit<}
use Rattle.std.proofs.Common.{length-append, pow-add}
use Rattle.std.proofs.Math.Nat.{mod-one}
use Rattle.std.proofs.Math.Arith.{digits_lt}
use Rattle.std.proofs.lemmas.Nat.{mod-pow-add}
use Rattle.std.proofs.Math.Pow.{high, low}
use Rattle.bits.specs.Bits.{to_bits, bit, value}

-- ---- one bit

pub bit_lt : (b : Bool) → bit b < 2
bit_lt true = lit< tt
bit_lt false = lit< tt

bit_injective : (b d : Bool) → bit b ≡ bit d → b ≡ d
bit_injective true true e = refl
bit_injective true false e = absurd (omega arith)
bit_injective false true e = absurd (omega arith)
bit_injective false false e = refl

pub eqb_bit : (b : Bool) → eqb (bit b) 1 ≡ b
eqb_bit true = refl
eqb_bit false = refl

bit_of : (x : ℕ) → x < 2 → bit (eqb x 1) ≡ x
bit_of zero h = refl
bit_of (suc zero) h = refl
bit_of (suc (suc x)) h = absurd (omega arith)

-- ---- the value of a list of bits

pub value_append : (s t : List Bool) → value (s ++ t) ≡ value s * 2 ^ length t + value t
unfolding value
value_append [] t = omega arith
value_append (b ∷ s) t =
    rw (
      length-append s t,
      pow-add 2 (length s) (length t),
      value_append s t,
      ← mul_assoc (bit b) (2 ^ length s) (2 ^ length t),
      add-mul (bit b * 2 ^ length s) (value s) (2 ^ length t),
    )
    (omega arith)

pub value_lt : (s : List Bool) → value s < 2 ^ length s
unfolding value
value_lt [] = omega arith
value_lt (b ∷ s) =
    rw (← one-add (length s), pow-add 2 1 (length s)) (digits_lt {q = bit b} {m = 2} (bit_lt b) (value_lt s))

-- two lists of bits of one length are the same where their values are
pub value_injective : (s t : List Bool) → length s ≡ length t → value s ≡ value t → s ≡ t
unfolding value
value_injective [] [] l e = refl
value_injective [] (d ∷ t) l e = absurd (omega arith)
value_injective (b ∷ s) [] l e = absurd (omega arith)
value_injective (b ∷ s) (d ∷ t) l e =
    let k : length t ≡ length s = omega arith in
    let lt : value t < 2 ^ length s = rw k at (value_lt t) in
    let e' : bit b * 2 ^ length s + value s ≡ bit d * 2 ^ length s + value t = rw k at e in
    let top : bit b ≡ bit d =
    sym (high (bit b) (length s) (value_lt s)) ∙ ap (λ (n : ℕ). n / 2 ^ length s) e' ∙ high (bit d) (length s) lt in
    let rest : value s ≡ value t =
    sym (low (bit b) (length s) (value_lt s)) ∙ ap (λ (n : ℕ). n % 2 ^ length s) e' ∙ low (bit d) (length s) lt in
    ap₂ (λ (x : Bool) (r : List Bool). x ∷ r) (bit_injective b d top) (value_injective s t (sym k) rest)

-- ---- the bits of a number

pub length_to_bits : (w v : ℕ) → length (to_bits w v) ≡ w
unfolding to_bits
length_to_bits zero v = refl
length_to_bits (suc w) v = ap suc (length_to_bits w v)

pub value_to_bits : (w v : ℕ) → value (to_bits w v) ≡ v % 2 ^ w
unfolding value to_bits
value_to_bits zero v = sym (mod-one v)
value_to_bits (suc w) v =
    rw (bit_of (v / 2 ^ w % 2) (mod-lt (v / 2 ^ w) (lit< tt)), length_to_bits w v, value_to_bits w v, ← one-add w)
    (sym (mod-pow-add v 1 w))

pub to_bits_value : (n : ℕ) (s : List Bool) → length s ≡ n → to_bits n (value s) ≡ s
to_bits_value n s e =
    value_injective (to_bits n (value s)) s (length_to_bits n (value s) ∙ sym e)
    (value_to_bits n (value s) ∙ mod-eq_of_lt (rw e at (value_lt s)))

-- the bits of numbers that agree below 2 ^ n
pub to_bits_agree : (n u v : ℕ) → u % 2 ^ n ≡ v % 2 ^ n → to_bits n u ≡ to_bits n v
to_bits_agree n u v e =
    value_injective (to_bits n u) (to_bits n v) (length_to_bits n u ∙ sym (length_to_bits n v))
    (value_to_bits n u ∙ e ∙ sym (value_to_bits n v))

-- the high bits, and then the low ones
pub to_bits_append : (a b v : ℕ) → to_bits (a + b) v ≡ to_bits a (v / 2 ^ b) ++ to_bits b v
to_bits_append a b v =
    value_injective (to_bits (a + b) v) (to_bits a (v / 2 ^ b) ++ to_bits b v)
    (rw (length-append, length_to_bits (a + b) v, length_to_bits a (v / 2 ^ b), length_to_bits b v))
    (value_to_bits (a + b) v ∙ mod-pow-add v a b
    ∙ sym (rw (
      value_append (to_bits a (v / 2 ^ b)) (to_bits b v),
      length_to_bits b v,
      value_to_bits a (v / 2 ^ b),
      value_to_bits b v,
    )))

-- a number below another
pub to_bits_below : (a b x y : ℕ) → y < 2 ^ b → to_bits (a + b) (x * 2 ^ b + y) ≡ to_bits a x ++ to_bits b y
to_bits_below a b x y h =
    to_bits_append a b (x * 2 ^ b + y)
    ∙ ap₂ ◌++◌ (ap (to_bits a) (high x b h)) (to_bits_agree b (x * 2 ^ b + y) y (low x b h ∙ sym (mod-eq_of_lt h)))
