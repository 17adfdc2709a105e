-- The numbers that functions of the C interface return. One of 32 bits has the refusal's number, or 0, in its high
-- half, and the value, or 0 where there is none, in its low half.
use Rattle.std.specs.Prelude.{◌≡◌, List, ℕ, ◌+◌, ◌*◌, length, Result, Ok, Err}
use Rattle.record.specs.Answers.{Answer, refused, answered, number}
use Rattle.record.specs.declared.Refusal.{Refusal}
use Rattle.record.specs.Operations.{neighbours, neighbours_before}

-- `low` is the low half for each value
unfoldable pub code : {A : Type 0} → (A → ℕ) → Answer A → ℕ
code low (refused k) = 65536 * k
code low (answered a) = low a

-- the same of what the code answers
abbrev pub coded : {T : Type 0} → (T → ℕ) → Result T Refusal → ℕ
coded low (Ok a) = low a
coded low (Err r) = 65536 * number r

-- ---- the low half of each kind of value

-- nothing to tell but that nothing is refused
unfoldable pub nothing : Unit {0} → ℕ
nothing a = 0

-- a number stands for itself
unfoldable pub itself : ℕ → ℕ
itself k = k

-- ---- two numbers in one of 64 bits

abbrev pub in_halves : ℕ → ℕ → ℕ
in_halves high low = 4294967296 * high + low

-- of Neighbours' part of any list of len numbers: how many numbers stand before it, and how many it has
pub record TellsPart (bytes : List ℕ) (len v r : ℕ) : Type 0 where
  pub tells : (list : List ℕ) → length list ≡ len
      → r ≡ in_halves (neighbours_before bytes list v) (length (neighbours bytes list v))

-- ---- the version

abbrev pub version : ℕ → ℕ → ℕ → ℕ
version major minor patch = 65536 * major + 256 * minor + patch
