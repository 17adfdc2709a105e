-- Answers: what an operation says, and what it leaves in a result buffer.
--   Answer                a refusal with its number, or a value
--   outcome, tried        the refusal of the first broken rule, or the value
--   otherwise, tried_then  the refusal of the first broken rule, or a further answer
--   buffer_after           a result buffer afterwards
--   said                  the value as a number
use Rattle.std.specs.Prelude.{true, false, List, ℕ, zero, suc, eqb}
use Rattle.answers.specs.Rules.{Rule, first_broken}

-- a refusal with its number and no value, or a value
pub data Answer (A : Type 0) : Type 0 where
  refused : ℕ → Answer A
  answered : A → Answer A

-- the refusal of the first broken rule; if none is broken, the value
unfoldable pub outcome : {A : Type 0} → ℕ → A → Answer A
outcome zero a = answered a
outcome (suc k) a = refused (suc k)

abbrev pub tried : {A : Type 0} → List Rule → A → Answer A
tried rules a = outcome (first_broken rules) a

-- the refusal of the first broken rule; if none is broken, a further answer
unfoldable pub otherwise : {A : Type 0} → ℕ → Answer A → Answer A
otherwise zero a = a
otherwise (suc k) a = refused (suc k)

abbrev pub tried_then : {A : Type 0} → List Rule → Answer A → Answer A
tried_then rules a = otherwise (first_broken rules) a

-- what a result buffer, or several, hold afterwards: written where no rule is broken, else as it was
unfoldable pub buffer_after : {A : Type 0} → List Rule → A → A → A
buffer_after rules written former = elim (eqb (first_broken rules) 0) [ true ↦ written | false ↦ former ]

-- the value as a number, 0 where there is none
unfoldable pub said : {A : Type 0} → (A → ℕ) → Answer A → ℕ
said number (refused k) = 0
said number (answered a) = number a
