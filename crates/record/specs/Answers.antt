-- Answers: what an operation says, and the documents' number for each named case of the code's answers.
use Rattle.std.specs.Prelude.{ℕ, zero, suc, eqb, true, false, List, Result, Ok, Err}
use Rattle.record.specs.Rules.{Rule, first_broken}
use Rattle.record.specs.declared.Refusal.{Refusal}
use Rattle.record.specs.declared.Refusal.TheVariants.{TooShort, OverLimit, WrongLength, BadUnary, SpareSet}
use Rattle.record.specs.declared.Refusal.TheVariants.{StrayNeighbour, DoubledNeighbour, OneSidedWire, ShortWork}
use Rattle.record.specs.declared.Refusal.TheVariants.{WrongBuffer, NoTerminal, BadIndex, NoChild, NoStart}
use Rattle.record.specs.declared.Refusal.TheVariants.{BadList, BadLists, WrongRecordBuffer}

-- a refusal with its number and no value, or a value
pub data Answer (A : Type 0) : Type 0 where
  refused : ℕ → Answer A
  answered : A → Answer A

-- the refusal of the first broken rule; if none is broken, the value
unfoldable pub outcome : {A : Type 0} → ℕ → A → Answer A
outcome zero a = answered a
outcome (suc k) a = refused (suc k)

abbrev pub tried : {A : Type 0} → List Rule → A → Answer A
tried rules a = outcome (first_broken rules) a

-- the refusal of the first broken rule; if none is broken, a further answer
unfoldable pub otherwise : {A : Type 0} → ℕ → Answer A → Answer A
otherwise zero a = a
otherwise (suc k) a = refused (suc k)

abbrev pub tried_then : {A : Type 0} → List Rule → Answer A → Answer A
tried_then rules a = otherwise (first_broken rules) a

-- what a result buffer, or several, hold afterwards: written where no rule is broken, else as it was
unfoldable pub buffer_after : {A : Type 0} → List Rule → A → A → A
buffer_after rules written former = elim (eqb (first_broken rules) 0) [ true ↦ written | false ↦ former ]

-- the value as a number, 0 where there is none
unfoldable pub said : {A : Type 0} → (A → ℕ) → Answer A → ℕ
said number (refused k) = 0
said number (answered a) = number a

-- the number of a refusal
abbrev pub number : Refusal → ℕ
number TooShort = 1
number OverLimit = 2
number WrongLength = 3
number BadUnary = 4
number SpareSet = 5
number StrayNeighbour = 6
number DoubledNeighbour = 7
number OneSidedWire = 8
number ShortWork = 9
number WrongBuffer = 10
number NoTerminal = 11
number BadIndex = 12
number NoChild = 13
number NoStart = 14
number BadList = 15
number BadLists = 16
number WrongRecordBuffer = 17

-- what a call answers, in the documents' words: its value, or the number of its refusal
abbrev pub answer : {A B : Type 0} → (A → B) → Result A Refusal → Answer B
answer value (Ok a) = answered (value a)
answer value (Err r) = refused (number r)

-- an answer that only reports that nothing is refused
abbrev pub verdict : Result (Unit {0}) Refusal → Answer (Unit {0})
verdict r = answer (λ u. u) r

-- a count
abbrev pub counted : Result ℕ Refusal → Answer ℕ
counted r = answer (λ k. k) r
