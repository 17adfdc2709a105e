-- From an operation's answer to the number that is returned.
use mathlib.Core.Path.{◌≡◌, refl, sym, ap, subst, ◌∙◌}
use Prim.Native.Nat.{ℕ, ◌<◌}
use Rattle.std.specs.Prelude.{Result, Ok, Err, IfOk}
use Rattle.record.specs.Answers.{Answer, answer}
use Rattle.record.specs.declared.Refusal.{Refusal}
use Rattle.record.specs.Laws.Valued.{Valued, value_at}
use Rattle.celduga.specs.Code.{code, coded}

-- the call answers what the definition says, b
module _ {T A : Type 0} (value : T → A) (low : A → ℕ) where
  coded_answer : (r : Result T Refusal) → coded (λ t. low (value t)) r ≡ code low (answer value r)
  unfolding code
  coded_answer (Ok a) = refl
  coded_answer (Err k) = refl

  pub code_call : (r : Result T Refusal) {b : Answer A} {k : ℕ} → answer value r ≡ b
      → k ≡ coded (λ t. low (value t)) r → k ≡ code low b
  code_call r e h = h ∙ coded_answer r ∙ ap (code low) e

  fits_answer : (r : Result T Refusal) → Valued (λ a. low a < 65536) (answer value r)
      → IfOk r (λ t. low (value t) < 65536)
  fits_answer (Ok a) v = value_at v refl
  fits_answer (Err k) v = tt

  pub fits_call : (r : Result T Refusal) {b : Answer A} → answer value r ≡ b → Valued (λ a. low a < 65536) b
      → IfOk r (λ t. low (value t) < 65536)
  fits_call r e v = fits_answer r (subst (Valued (λ a. low a < 65536)) (sym e) v)
