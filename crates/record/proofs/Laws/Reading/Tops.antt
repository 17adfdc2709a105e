-- The highest one of the number that some bits write: zeros before it, and after it the bits of what is left of the
-- number.
use mathlib.Core.Path.{◌≡◌, sym, ap, ◌∙◌}
use mathlib.Core.Bool.{Bool, true, false}
use mathlib.Core.List.{List}
use Prim.Native.Nat.{ℕ, ◌+◌, ◌-◌, ◌*◌, ◌/◌, ◌%◌, ◌^◌, ◌≤◌, ◌<◌}
use native.Mathlib.Decide.{dec_le}
use native.Mathlib.Nat.{div-eq_of_lt, mod-eq_of_lt}
use native.Mathlib.Omega.{arith}
use lib.ListN.{length, get_or}
use lib.Pow.{pow-add, pow_mono, pow_pos, high, low}
use Rattle.bits.specs.Bits.{bit, field}
use Rattle.bits.specs.Laws.Fields.{field_lt, field_inside, field_front, field_back, field_one}

-- of a number below 2 ^ (h + 1), from 2 ^ h on
module _ (x h : ℕ) (l : 2 ^ h ≤ x) (u : x < 2 ^ (h + 1)) where
  twice : 2 ^ (h + 1) ≡ 2 ^ h * 2
  twice = pow-add 2 h 1

  parts : x ≡ 1 * 2 ^ h + (x - 2 ^ h)
  parts = omega arith

  rest_lt : x - 2 ^ h < 2 ^ h
  rest_lt = let t = twice in omega arith

  top_high : x / 2 ^ h ≡ 1
  top_high = ap (λ (y : ℕ). y / 2 ^ h) parts ∙ high 1 h rest_lt

  top_low : x % 2 ^ h ≡ x - 2 ^ h
  top_low = ap (λ (y : ℕ). y % 2 ^ h) parts ∙ low 1 h rest_lt

is_zero : (b : Bool) → bit b ≡ 0 → b ≡ false
is_zero true e = absurd (omega arith)
is_zero false e = cc

is_one : (b : Bool) → bit b ≡ 1 → b ≡ true
is_one true e = cc
is_one false e = absurd (omega arith)

-- a number 0 is written by zeros
pub none_first : (s : List Bool) (g j : ℕ) → g + (1 + j) ≤ length s → field (1 + j) s g ≡ 0 → get_or s g false ≡ false
none_first s g j h z =
    is_zero (get_or s g false)
    (sym (field_one s g (omega arith)) ∙ field_front s g 1 j h ∙ ap (λ (y : ℕ). y / 2 ^ j) z ∙ div-eq_of_lt (pow_pos j))

pub none_rest : (s : List Bool) (g j : ℕ) → g + (1 + j) ≤ length s → field (1 + j) s g ≡ 0 → field j s (g + 1) ≡ 0
none_rest s g j h z = field_back s g 1 j h ∙ ap (λ (y : ℕ). y % 2 ^ j) z ∙ mod-eq_of_lt (pow_pos j)

-- the number has no more digits than the field
pub top_inside : (w : ℕ) (s : List Bool) (g h : ℕ) → 2 ^ h ≤ field w s g → h < w
top_inside w s g h l = go (dec_le w h)
  where
    go : Dec (w ≤ h) → h < w
    go (yes n) = absurd (omega (arith, pow_mono n, field_lt w s g))
    go (no n) = omega arith

-- a bits before the highest one of the field of a + 1 + h bits from bit g on, and h after it
module _ (s : List Bool) (g a h : ℕ) (i : g + (a + 1 + h) ≤ length s) (l : 2 ^ h ≤ field (a + 1 + h) s g)
    (u : field (a + 1 + h) s g < 2 ^ (h + 1)) where
  pub top_zeros : field a s g ≡ 0
  top_zeros =
      let e : a + (h + 1) ≡ a + 1 + h = omega arith in
      field_front s g a (h + 1) (omega arith) ∙ div-eq_of_lt (rw e u)

  pub top_one : get_or s (g + a) false ≡ true
  top_one =
      is_one (get_or s (g + a) false)
      (sym (field_one s (g + a) (omega arith)) ∙ field_inside s g a 1 h i
      ∙ ap (λ (y : ℕ). y % 2 ^ 1) (top_high (field (a + 1 + h) s g) h l u))

  pub top_rest : field h s (g + (a + 1)) ≡ field (a + 1 + h) s g - 2 ^ h
  top_rest = field_back s g (a + 1) h i ∙ top_low (field (a + 1 + h) s g) h l u
