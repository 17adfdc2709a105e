-- A test with its outcome, and what the outcome of a compound test says of its parts.
use Rattle.std.specs.Prelude.{ℕ, ◌≡◌, refl, ◌⊎◌, ◌↔◌, Bool, true, false, ◌&&◌, ◌||◌}
use Rattle.std.proofs.Common.{inl, inr, arith}

-- a test passes or fails, with the equation
pub data Told (b : Bool) : Type 0 where
  pass : b ≡ true → Told b
  fail : b ≡ false → Told b

pub told : (b : Bool) → Told b
told true = pass refl
told false = fail refl

-- a test does not both pass and fail
pub clash : {b : Bool} → b ≡ true → b ≡ false → ⊥
clash p q = let z : ◌≡◌ {A = ℕ} 0 1 = cc in omega arith

-- a test that cannot pass fails
pub fails : (b : Bool) → (b ≡ true → ⊥) → b ≡ false
fails true h = absurd (h refl)
fails false h = refl

pub or_cases : (a b : Bool) → (a || b) ≡ true → (a ≡ true) ⊎ (b ≡ true)
or_cases true b e = inl refl
or_cases false b e = inr e

pub or_left : {a : Bool} (b : Bool) → a ≡ true → (a || b) ≡ true
or_left b e = rw e

pub or_right : (a : Bool) {b : Bool} → b ≡ true → (a || b) ≡ true
or_right true e = refl
or_right false e = e

pub and_parts : (a b : Bool) → (a && b) ≡ true → (a ≡ true) × (b ≡ true)
and_parts true b e = (refl, e)
and_parts false b e = absurd (clash e refl)

pub and_both : {a b : Bool} → a ≡ true → b ≡ true → (a && b) ≡ true
and_both p q = rw (p, q)

-- two tests that pass together have one outcome
pub same_outcome : (a b : Bool) → (a ≡ true) ↔ (b ≡ true) → a ≡ b
same_outcome true true h = refl
same_outcome true false h = absurd (clash (h.0 refl) refl)
same_outcome false true h = absurd (clash (h.1 refl) refl)
same_outcome false false h = refl
