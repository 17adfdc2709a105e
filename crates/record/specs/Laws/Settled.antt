-- An answer settles the code's value: for each kind of answer there is a function back, so a contract `said r ≡ a`
-- leaves r no choice.
--
--   named            the refusal of a number
--   number_bounds    the numbers that refusals have
--   settled          what has a way back is settled
--   result_of, answer_settles    a call's result, by its answer
--   verdict_settles, counted_settles, shape_settles, laid_settles    the results of this crate
use Rattle.std.specs.Prelude.{◌≡◌, refl, List, [], ◌∷◌, ℕ, ◌-◌, ◌≤◌, get_or, Result, Ok, Err}
use Rattle.std.proofs.Common.{sym, ap, ◌∙◌, arith}
use Rattle.record.specs.Answers.{Answer, refused, answered, number, answer, verdict, counted}
use Rattle.record.specs.Sized.{Sizes, sizes, shape, laid_shape}
use Rattle.record.specs.declared.Refusal.{Refusal}
use Rattle.record.specs.declared.layout.Layout.{Layout}
use Rattle.record.specs.declared.layout.LaidOut.{LaidOut}

-- ---- refusals

refusals : List Refusal
refusals =
    Refusal.TooShort
    ∷ Refusal.OverLimit
    ∷ Refusal.WrongLength
    ∷ Refusal.BadUnary
    ∷ Refusal.SpareSet
    ∷ Refusal.StrayNeighbour
    ∷ Refusal.DoubledNeighbour
    ∷ Refusal.OneSidedWire
    ∷ Refusal.ShortWork
    ∷ Refusal.WrongBuffer
    ∷ Refusal.NoTerminal
    ∷ Refusal.BadIndex
    ∷ Refusal.NoChild
    ∷ Refusal.NoStart
    ∷ Refusal.BadList
    ∷ Refusal.BadLists
    ∷ Refusal.WrongRecordBuffer
    ∷ []

pub named : ℕ → Refusal
unfolding refusals
named k = get_or refusals (k - 1) Refusal.WrongRecordBuffer

pub named_number : (r : Refusal) → named (number r) ≡ r
unfolding refusals named
named_number Refusal.TooShort = refl
named_number Refusal.OverLimit = refl
named_number Refusal.WrongLength = refl
named_number Refusal.BadUnary = refl
named_number Refusal.SpareSet = refl
named_number Refusal.StrayNeighbour = refl
named_number Refusal.DoubledNeighbour = refl
named_number Refusal.OneSidedWire = refl
named_number Refusal.ShortWork = refl
named_number Refusal.WrongBuffer = refl
named_number Refusal.NoTerminal = refl
named_number Refusal.BadIndex = refl
named_number Refusal.NoChild = refl
named_number Refusal.NoStart = refl
named_number Refusal.BadList = refl
named_number Refusal.BadLists = refl
named_number Refusal.WrongRecordBuffer = refl

-- the documents' numbers
pub number_bounds : (r : Refusal) → (1 ≤ number r) × (number r ≤ 17)
number_bounds Refusal.TooShort = (omega arith, omega arith)
number_bounds Refusal.OverLimit = (omega arith, omega arith)
number_bounds Refusal.WrongLength = (omega arith, omega arith)
number_bounds Refusal.BadUnary = (omega arith, omega arith)
number_bounds Refusal.SpareSet = (omega arith, omega arith)
number_bounds Refusal.StrayNeighbour = (omega arith, omega arith)
number_bounds Refusal.DoubledNeighbour = (omega arith, omega arith)
number_bounds Refusal.OneSidedWire = (omega arith, omega arith)
number_bounds Refusal.ShortWork = (omega arith, omega arith)
number_bounds Refusal.WrongBuffer = (omega arith, omega arith)
number_bounds Refusal.NoTerminal = (omega arith, omega arith)
number_bounds Refusal.BadIndex = (omega arith, omega arith)
number_bounds Refusal.NoChild = (omega arith, omega arith)
number_bounds Refusal.NoStart = (omega arith, omega arith)
number_bounds Refusal.BadList = (omega arith, omega arith)
number_bounds Refusal.BadLists = (omega arith, omega arith)
number_bounds Refusal.WrongRecordBuffer = (omega arith, omega arith)

-- ---- answers

pub settled : {A B : Type 0} (said : A → B) (back : B → A) → ((a : A) → back (said a) ≡ a) → (a : A) {b : B}
    → said a ≡ b → a ≡ back b
settled said back h a e = sym (h a) ∙ ap back e

-- what a call says by an answer, where the value has a way back
pub result_of : {A B : Type 0} → (B → A) → Answer B → Result A Refusal
result_of back (answered b) = Ok (back b)
result_of back (refused k) = Err (named k)

pub answer_settles : {A B : Type 0} (value : A → B) (back : B → A) → ((a : A) → back (value a) ≡ a)
    → (r : Result A Refusal) {b : Answer B} → answer value r ≡ b → r ≡ result_of back b
unfolding result_of
answer_settles {A} {B} value back h = settled (answer value) (result_of back) again
  where
    again : (r : Result A Refusal) → result_of back (answer value r) ≡ r
    again (Ok a) = ap Ok (h a)
    again (Err r) = ap Err (named_number r)

pub verdict_of : Answer (Unit {0}) → Result (Unit {0}) Refusal
verdict_of a = result_of (λ u. u) a

pub verdict_settles : (r : Result (Unit {0}) Refusal) {a : Answer (Unit {0})} → verdict r ≡ a → r ≡ verdict_of a
unfolding verdict_of
verdict_settles = answer_settles (λ u. u) (λ u. u) (λ u. refl)

pub counted_of : Answer ℕ → Result ℕ Refusal
counted_of a = result_of (λ k. k) a

pub counted_settles : (r : Result ℕ Refusal) {a : Answer ℕ} → counted r ≡ a → r ≡ counted_of a
unfolding counted_of
counted_settles = answer_settles (λ k. k) (λ k. k) (λ k. refl)

-- the sizes of a layout, or why there is none
pub sized : Result Layout Refusal → Result Sizes Refusal
sized (Ok l) = Ok (sizes l)
sized (Err r) = Err r

pub shape_of : Answer Sizes → Result Sizes Refusal
shape_of a = result_of (λ s. s) a

pub shape_settles : (r : Result Layout Refusal) {a : Answer Sizes} → shape r ≡ a → sized r ≡ shape_of a
unfolding sized shape_of
shape_settles (Ok l) e = answer_settles (λ s. s) (λ s. s) (λ s. refl) (Ok (sizes l)) e
shape_settles (Err r) e = answer_settles (λ s. s) (λ s. s) (λ s. refl) (Err r) e

pub laid_sized : Result LaidOut Refusal → Result Sizes Refusal
laid_sized (Ok l) = Ok (sizes l.layout)
laid_sized (Err r) = Err r

pub laid_settles : (r : Result LaidOut Refusal) {a : Answer Sizes} → laid_shape r ≡ a → laid_sized r ≡ shape_of a
unfolding laid_sized shape_of
laid_settles (Ok l) e = answer_settles (λ s. s) (λ s. s) (λ s. refl) (Ok (sizes l.layout)) e
laid_settles (Err r) e = answer_settles (λ s. s) (λ s. s) (λ s. refl) (Err r) e
