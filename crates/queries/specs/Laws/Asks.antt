-- The questions to the numbers of a list, in list order.
--   refusal_first    a refused question is the first broken rule
--   value_passed     one that is answered is passed over
--   asked_refused, asked_passed, asked_all    the questions from cell i on
--   passed_to        where those before cell i are answered
--   all_answered     where none is broken, all are
use Rattle.std.specs.Prelude.{◌≡◌, refl, List, [], ◌∷◌, ℕ, zero, suc, ◌+◌, ◌≤◌, ◌<◌, length, drop, get_or}
use Rattle.std.proofs.Common.{sym, ap, ◌∙◌, add-one, arith, drop-cons}
use Rattle.std.proofs.Math.Seq.{drop-length}
use Rattle.record.specs.Rules.{Rule, first_broken}
use Rattle.record.specs.Answers.{Answer, refused, answered}
use Rattle.queries.specs.Lookup.{refused_by, asks}

module _ {A : Type 0} (rest : List Rule) {a : Answer A} where
  pub refusal_first : {k : ℕ} → refused k ≡ a → first_broken (refused_by a ∷ rest) ≡ k
  unfolding refused_by first_broken
  refusal_first e = rw (← e)

  pub value_passed : {x : A} → answered x ≡ a → first_broken (refused_by a ∷ rest) ≡ first_broken rest
  unfolding refused_by first_broken
  value_passed e = rw (← e)

module _ {A : Type 0} (ask : ℕ → Answer A) (list : List ℕ) where
  -- the questions from cell i on
  abbrev from : ℕ → List Rule
  from i = asks ask (drop i list)

  from_cons : {i : ℕ} → i < length list → from i ≡ refused_by (ask (get_or list i 0)) ∷ from (i + 1)
  from_cons {i} h =
      ap (asks ask) (drop-cons list i 0 h)
      ∙ ap (λ (k : ℕ). refused_by (ask (get_or list i 0)) ∷ from k) (sym (add-one i))

  pub asked_refused : {i k : ℕ} → i < length list → refused k ≡ ask (get_or list i 0) → first_broken (from i) ≡ k
  asked_refused {i} h e = ap first_broken (from_cons h) ∙ refusal_first (from (i + 1)) e

  pub asked_passed : {i : ℕ} {x : A} → i < length list → answered x ≡ ask (get_or list i 0)
      → first_broken (from i) ≡ first_broken (from (i + 1))
  asked_passed {i} h e = ap first_broken (from_cons h) ∙ value_passed (from (i + 1)) e

  pub asked_all : {i : ℕ} → i ≡ length list → first_broken (from i) ≡ 0
  unfolding first_broken
  asked_all e = rw (e, drop-length list)

  -- those before cell i are answered
  pub passed_to : (i : ℕ) → i ≤ length list → ((j : ℕ) → j < i → (x : A) × (answered x ≡ ask (get_or list j 0)))
      → first_broken (from 0) ≡ first_broken (from i)
  passed_to zero h each = refl
  passed_to (suc i) h each =
      let (x, e) = each i (omega arith) in
      passed_to i (omega arith) (λ j l. each j (omega arith))
      ∙ asked_passed (omega arith) e
      ∙ ap (λ (k : ℕ). first_broken (from k)) (add-one i)

-- where none is broken, all are answered, if none is refused with 0
pub all_answered : {A : Type 0} (ask : ℕ → Answer A) → ((v k : ℕ) → refused k ≡ ask v → 1 ≤ k) → (list : List ℕ)
    → first_broken (asks ask list) ≡ 0
    → (i : ℕ) → i < length list → (x : A) × (answered x ≡ ask (get_or list i 0))
all_answered ask some [] k i h = absurd (omega arith)
all_answered {A} ask some (v ∷ list) k i h = go (ask v) refl (λ e. all_answered ask some list e) i h
  where
    go : (a : Answer A) → a ≡ ask v
        → (first_broken (asks ask list) ≡ 0 → (i : ℕ) → i < length list
        → (x : A) × (answered x ≡ ask (get_or list i 0)))
        → (i : ℕ) → i < length (v ∷ list) → (x : A) × (answered x ≡ ask (get_or (v ∷ list) i 0))
    go (refused j) e more i h =
        let z = some v j e in
        let f = refusal_first (asks ask list) e in
        absurd (omega arith)
    go (answered x) e more zero h = (x, e)
    go (answered x) e more (suc i) h =
        more (sym (value_passed (asks ask list) e) ∙ k) i (omega arith)
