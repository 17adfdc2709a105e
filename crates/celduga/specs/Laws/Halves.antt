-- What a C program reads in the two halves of a result.
use Rattle.std.specs.Prelude.{◌≡◌, Bool, true, false, List, ℕ, ◌/◌, ◌%◌, ◌<◌}
use Rattle.std.proofs.Math.Option.{Option}
use Rattle.std.proofs.Common.{arith}
use Rattle.bits.specs.Bits.{bit}
use Rattle.record.specs.Answers.{Answer, refused, answered, said}
use Rattle.record.specs.Operations.{PartOf}
use Rattle.record.specs.Laws.OneBlock.{part_near}
use Rattle.record.specs.Laws.Valued.{Valued, none, value, Small}
use Rattle.queries.specs.Answers.{or_zero}
use Rattle.queries.specs.Laws.Small.{SmallParent}
use Rattle.celduga.specs.Code.{code, nothing, itself, in_halves}

-- the refusal's number, 0 where there is none
unfoldable pub refusal : {A : Type 0} → Answer A → ℕ
refusal (refused k) = k
refusal (answered a) = 0

pub halves : {A : Type 0} {P : A → Type 0} (low : A → ℕ) → ((a : A) → P a → low a < 65536) → {a : Answer A} → Valued P a
    → (code low a / 65536 ≡ refusal a) × (code low a % 65536 ≡ said low a)
unfolding code refusal said
halves low fits none = (omega arith, omega arith)
halves low fits (value a h) = let k = fits a h in (omega arith, omega arith)

-- for answers that tell nothing, or yes or no: any value fits
module _ {A : Type 0} (low : A → ℕ) (fits : (a : A) → low a < 65536) where
  always : (a : Answer A) → Valued (λ (x : A). low x < 65536) a
  always (refused k) = none
  always (answered x) = value x (fits x)

  pub halves_always : (a : Answer A) → (code low a / 65536 ≡ refusal a) × (code low a % 65536 ≡ said low a)
  halves_always a = halves low (λ x h. h) (always a)

pub halves_nothing : (a : Answer (Unit {0}))
    → (code nothing a / 65536 ≡ refusal a) × (code nothing a % 65536 ≡ said nothing a)
unfolding nothing
halves_nothing = halves_always nothing (λ x. omega arith)

pub halves_yes : (a : Answer Bool) → (code bit a / 65536 ≡ refusal a) × (code bit a % 65536 ≡ said bit a)
halves_yes = halves_always bit fits
  where
    fits : (b : Bool) → bit b < 65536
    fits true = omega arith
    fits false = omega arith

-- for numbers, and for parents
pub halves_number : {a : Answer ℕ} → Small a
    → (code itself a / 65536 ≡ refusal a) × (code itself a % 65536 ≡ said itself a)
unfolding itself
halves_number s = halves itself (λ k h. h) s

pub halves_parent : {a : Answer (Option ℕ)} → SmallParent a
    → (code or_zero a / 65536 ≡ refusal a) × (code or_zero a % 65536 ≡ said or_zero a)
halves_parent s = halves or_zero (λ p h. h) s

-- where Neighbours' part stands, and how many numbers it has
pub halves_part : {bytes : List ℕ} {len v from size : ℕ} → PartOf bytes len v from size
    → (in_halves from size / 4294967296 ≡ from) × (in_halves from size % 4294967296 ≡ size)
halves_part p = let n = part_near p in (omega arith, omega arith)
