-- The first broken rule of a list.
--   first_broken_lem, first_kept      a first rule that is broken, or not
--   Numbered                      the rules are numbered from 1
--   rule_kept                     no rule is broken: nor the first, nor one of the rest
--   only_one, one_of_two          which rule it is, of one or of two
--   append_kept, append_broken    one list of rules and then another, the first unbroken, or broken
--   both_kept                     neither is broken
use Rattle.std.specs.Prelude.{◌≡◌, refl, Bool, true, false, List, [], ◌∷◌, ◌++◌, ◌⊎◌, ℕ, suc}
use Rattle.std.proofs.Common.{sym, ◌∙◌, inl, inr, arith}
use Rattle.answers.specs.Rules.{Rule, first_broken}

-- ---- one rule and the rest

module _ (k : ℕ) (rules : List Rule) {b : Bool} where
  -- a broken first rule is told
  pub first_broken_lem : b ≡ true → first_broken ((k, b) ∷ rules) ≡ k
  unfolding first_broken
  first_broken_lem e = rw (e, first_broken)

  -- an unbroken one is passed over
  pub first_kept : b ≡ false → first_broken ((k, b) ∷ rules) ≡ first_broken rules
  unfolding first_broken
  first_kept e = rw (e, first_broken)

-- the rules are numbered from 1, so that 0 tells that none is broken
pub data Numbered : List Rule → Type 0 where
  none : Numbered []
  rule : {k : ℕ} {b : Bool} {rules : List Rule} → Numbered rules → Numbered ((suc k, b) ∷ rules)

-- where none is broken, the first is not, nor one of the rest
pub rule_kept : (k : ℕ) (b : Bool) (rules : List Rule) → first_broken ((suc k, b) ∷ rules) ≡ 0
    → (b ≡ false) × (first_broken rules ≡ 0)
unfolding first_broken
rule_kept k true rules e = absurd (omega arith)
rule_kept k false rules e = (refl, e)

-- the only rule
pub only_one : (n : ℕ) (b : Bool) {k : ℕ} → first_broken ((n, b) ∷ []) ≡ suc k → suc k ≡ n
unfolding first_broken
only_one n true e = sym e
only_one n false e = absurd (omega arith)

-- the first or the second of two
pub one_of_two : (n m : ℕ) (a b : Bool) {k : ℕ} → first_broken ((n, a) ∷ (m, b) ∷ []) ≡ suc k → (suc k ≡ n) ⊎ (suc k ≡ m)
unfolding first_broken
one_of_two n m true b e = inl (sym e)
one_of_two n m false b e = inr (only_one m b e)

-- ---- one list of rules and then another

-- the first list is unbroken
pub append_kept : {a : List Rule} → Numbered a → (c : List Rule) → first_broken a ≡ 0
    → first_broken (a ++ c) ≡ first_broken c
append_kept none c e = refl
append_kept (rule {k} {b} {rules} r) c e =
    let (f, g) = rule_kept k b rules e in
    first_kept (suc k) (rules ++ c) f ∙ append_kept r c g

-- it is broken
pub append_broken : (a c : List Rule) (k : ℕ) → first_broken a ≡ suc k → first_broken (a ++ c) ≡ suc k
unfolding first_broken
append_broken [] c k e = absurd (omega arith)
append_broken ((n, true) ∷ a) c k e = e
append_broken ((n, false) ∷ a) c k e = append_broken a c k e

-- neither is broken
pub both_kept : {a : List Rule} → Numbered a → (c : List Rule) → first_broken (a ++ c) ≡ 0
    → (first_broken a ≡ 0) × (first_broken c ≡ 0)
unfolding first_broken
both_kept none c e = (refl, e)
both_kept (rule {k} {b} {rules} r) c e =
    let (f, g) = rule_kept k b (rules ++ c) e in
    let (h, i) = both_kept r c g in
    (first_kept (suc k) rules f ∙ h, i)
