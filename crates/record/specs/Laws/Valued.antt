-- What is known of an answer's value, where it has one.
--   Valued         it is such a value
--   Small          it is a number of 16 bits
--   value_at       the value at hand
--   tried_valued   rules, and then a value
--   then_valued    rules, and then a further answer
use Rattle.std.specs.Prelude.{◌≡◌, List}
use Rattle.std.proofs.Math.Path.{refl}
use Rattle.std.proofs.Common.{subst, arith}
use Prim.Native.Nat.{ℕ, zero, suc, ◌<◌}
use Rattle.record.specs.Rules.{Rule, first_broken}
use Rattle.record.specs.Answers.{Answer, refused, answered, outcome, otherwise, tried, tried_then}

pub data Valued {A : Type 0} (P : A → Type 0) : Answer A → Type 0 where
  none : {k : ℕ} → Valued P (refused k)
  value : (a : A) → P a → Valued P (answered a)

abbrev pub Small : Answer ℕ → Type 0
Small a = Valued (λ (k : ℕ). k < 65536) a

module _ {A : Type 0} {P : A → Type 0} where
  pub value_at : {x : Answer A} {a : A} → Valued P x → answered a ≡ x → P a
  value_at none e = absurd (let z : ◌≡◌ {A = ℕ} 0 1 = cc in omega arith)
  value_at {a = a} (value b h) e = let z : b ≡ a = cc in subst P z h

  outcome_valued : (k : ℕ) (a : A) → (k ≡ 0 → P a) → Valued P (outcome k a)
  unfolding outcome
  outcome_valued zero a h = value a (h refl)
  outcome_valued (suc k) a h = none

  pub tried_valued : (rules : List Rule) (a : A) → (first_broken rules ≡ 0 → P a) → Valued P (tried rules a)
  tried_valued rules a h = outcome_valued (first_broken rules) a h

  otherwise_valued : (k : ℕ) (a : Answer A) → (k ≡ 0 → Valued P a) → Valued P (otherwise k a)
  unfolding otherwise
  otherwise_valued zero a h = h refl
  otherwise_valued (suc k) a h = none

  pub then_valued : (rules : List Rule) (a : Answer A) → (first_broken rules ≡ 0 → Valued P a)
      → Valued P (tried_then rules a)
  then_valued rules a h = otherwise_valued (first_broken rules) a h
