-- A field by one formula in its starting bit (document 02, wish 2). A field of 9 to 16 bits lies in two bytes or in
-- three; the formula does not ask which.
use Rattle.std.specs.Prelude.{◌≡◌, List, [], ◌∷◌, map, ℕ, ◌+◌, ◌-◌, ◌/◌, ◌%◌, ◌^◌, ◌≤◌, ◌<◌, get_or}
use Rattle.bits.specs.Steps.{joined}

-- which bytes the formula takes, for the field of w bits from bit `start` on: the one in which the field begins, the
-- next, and the one in which it ends
abbrev pub taken : ℕ → ℕ → List ℕ
taken w start = (start / 8) ∷ (start / 8 + 1) ∷ (start / 8 + (start % 8 + w - 1) / 8) ∷ []

-- the formula: these three, joined to a number of 24 bits, without the bits below the field and those above it; where
-- the field ends in the second byte, that byte's second copy is below it
unfoldable pub field_formula : ℕ → List ℕ → ℕ → ℕ
field_formula w bytes start =
    joined 0 (map (λ k. get_or bytes k 0) (taken w start)) / 2 ^ (24 - w - start % 8) % 2 ^ w

-- byte k has a bit of the field of w bits from bit `start` on
pub record HasBit (w start k : ℕ) : Type 0 where
  pub bit : ℕ
  pub from : start ≤ bit
  pub before : bit < start + w
  pub in_byte : bit / 8 ≡ k
