-- How an answer tells the first broken rule, or that none is broken, and what it tells at the exit of a `?`; and the
-- result buffer then.
use Rattle.std.proofs.Math.Path.{◌≡◌, refl}
use Rattle.std.proofs.Common.{sym, ap, ◌∙◌, arith}
use Rattle.std.specs.Prelude.{List, ◌++◌, Result}
use Rattle.std.specs.Result.{IsErrAnd}
use Rattle.std.proofs.lemmas.Result.{err_from_is_err_and}
use Prim.Native.Nat.{ℕ, zero, suc, ◌≤◌}
use borrow.Author.Tests.{eq-eqb, ne_eqb}
use Rattle.std.proofs.Math.Dec.{eqb}
use Rattle.std.proofs.Math.Bool.{true, false}
use Rattle.record.specs.Rules.{Rule, first_broken}
use Rattle.record.specs.declared.Refusal.{Refusal}
use Rattle.record.specs.Answers.{Answer, refused, answered, outcome, tried, otherwise, tried_then, buffer_after}
use Rattle.record.specs.Answers.{number, answer}
use Rattle.record.specs.Laws.First.{Numbered, append_kept, append_broken}

module _ {A : Type 0} where
  pub told : {j k : ℕ} (a : A) → j ≡ suc k → refused (suc k) ≡ outcome j a
  unfolding outcome
  told a e = rw e

  pub untold : {j : ℕ} (a : A) → j ≡ 0 → answered a ≡ outcome j a
  unfolding outcome
  untold a e = rw e

  -- by a number other than 0
  pub told_number : (j : ℕ) (a : A) {k : ℕ} → j ≡ k → 1 ≤ k → refused k ≡ outcome j a
  told_number zero a e h = absurd (omega arith)
  told_number (suc j) a e h = ap refused (sym e) ∙ told a refl

  -- the other way round
  pub told_back : (j : ℕ) (a : A) {k : ℕ} → refused k ≡ outcome j a → (i : ℕ) × (j ≡ suc i) × (k ≡ suc i)
  unfolding outcome
  told_back zero a e = absurd (let z : ◌≡◌ {A = ℕ} 0 1 = cc in omega arith)
  told_back (suc j) a e = (j, refl, cc)

  pub untold_back : (j : ℕ) (a : A) {b : A} → answered b ≡ outcome j a → (j ≡ 0) × (b ≡ a)
  unfolding outcome
  untold_back zero a e = (refl, cc)
  untold_back (suc j) a e = absurd (let z : ◌≡◌ {A = ℕ} 0 1 = cc in omega arith)

-- a refusal by the first rules is the refusal by all
pub told_append : {A B : Type 0} (first more : List Rule) (a : A) (b : B) {k : ℕ} → refused k ≡ tried first a
    → refused k ≡ tried (first ++ more) b
told_append first more a b e =
    let (i, f, g) = told_back (first_broken first) a e in
    rw g (told b (append_broken first more i f))

-- one list of rules, told by two operations
module _ {A B : Type 0} (rules : List Rule) (a : A) (b : B) where
  pub told_same : {k : ℕ} → refused k ≡ tried rules a → refused k ≡ tried rules b
  told_same e =
      let (i, f, g) = told_back (first_broken rules) a e in
      rw g (told b f)

  pub untold_same : {x : A} → answered x ≡ tried rules a → answered b ≡ tried rules b
  untold_same e = untold b (untold_back (first_broken rules) a e).0

-- the exit of a `?` tells the refusal that it met
pub exit_told : {A B : Type 0} (value : A → B) (r : Result A Refusal) (e : Refusal) → IsErrAnd r (λ d. d ≡ e)
    → answer value r ≡ refused (number e)
exit_told value r e h = let (d, is, same) = err_from_is_err_and r h in rw (is, same)

-- ---- rules, and then a further answer

module _ {A : Type 0} where
  otherwise_told : {j k : ℕ} (a : Answer A) → j ≡ suc k → refused (suc k) ≡ otherwise j a
  unfolding otherwise
  otherwise_told a e = rw e

  pub then_told : (rules : List Rule) (a : Answer A) {k : ℕ} → first_broken rules ≡ suc k
      → refused (suc k) ≡ tried_then rules a
  then_told rules a e = otherwise_told a e

  pub then_untold : (rules : List Rule) (a : Answer A) → first_broken rules ≡ 0 → a ≡ tried_then rules a
  unfolding otherwise
  then_untold rules a e = rw e

  -- the refusal of the first rules, by an operation that tells another value
  pub then_refused : {B : Type 0} (first more : List Rule) (b : B) (a : Answer A) {k : ℕ} → refused k ≡ tried first b
      → refused k ≡ tried_then (first ++ more) a
  then_refused first more b a e =
      let (i, f, g) = told_back (first_broken first) b e in
      rw g (then_told (first ++ more) a (append_broken first more i f))

  -- the first rules are kept
  pub then_passed : {first : List Rule} (more : List Rule) (a : Answer A) → Numbered first → first_broken first ≡ 0
      → tried_then more a ≡ tried_then (first ++ more) a
  then_passed more a n e = ap (λ (j : ℕ). otherwise j a) (sym (append_kept n more e))

-- ---- the result buffer afterwards

module _ {A : Type 0} (rules : List Rule) (written former : A) where
  pub buffer_kept : {k : ℕ} → first_broken rules ≡ suc k → former ≡ buffer_after rules written former
  unfolding buffer_after
  buffer_kept e =
      let f : eqb (first_broken rules) 0 ≡ false = ne_eqb (first_broken rules) 0 (λ z. omega arith) in
      rw (f, buffer_after)

  pub buffer_written : first_broken rules ≡ 0 → written ≡ buffer_after rules written former
  unfolding buffer_after
  buffer_written e = let f : eqb (first_broken rules) 0 ≡ true = eq-eqb (first_broken rules) 0 e in rw (f, buffer_after)
