-- Which refusals a list of rules can give: the numbers of its rules, and no other.
--   has           k is the number of one of the rules
--   broken_has    the first broken rule is one of them
--   never_tried   a number that none of them has is not given
--   never_then    nor where a further answer does not give it
use Rattle.std.specs.Prelude.{◌≡◌, Bool, true, false, ◌||◌, List, [], ◌∷◌, eqb}
use Rattle.std.proofs.Math.Path.{refl}
use Rattle.std.proofs.Common.{sym, ◌∙◌, arith, eq-eqb}
use Prim.Native.Nat.{ℕ, zero, suc}
use Rattle.graph.specs.Laws.Places.Basics.{clash, or_left, or_right}
use Rattle.record.specs.Rules.{Rule, first_broken}
use Rattle.record.specs.Answers.{Answer, refused, tried, otherwise, tried_then}
use Rattle.record.specs.Laws.Told.{told_back}

unfoldable pub has : ℕ → List Rule → Bool
has k [] = false
has k (r ∷ rules) = eqb k r.0 || has k rules

pub broken_has : (rules : List Rule) {k : ℕ} → first_broken rules ≡ suc k → has (suc k) rules ≡ true
unfolding first_broken has
broken_has [] e = absurd (omega arith)
broken_has ((n, true) ∷ rules) {k} e = or_left (has (suc k) rules) (eq-eqb (suc k) n (sym e))
broken_has ((n, false) ∷ rules) {k} e = or_right (eqb (suc k) n) (broken_has rules e)

module _ {A : Type 0} (rules : List Rule) {k : ℕ} (lacks : has (suc k) rules ≡ false) where
  pub never_tried : (a : A) → tried rules a ≡ refused (suc k) → ⊥
  never_tried a e =
      let (i, f, g) = told_back (first_broken rules) a (sym e) in
      clash (broken_has rules (f ∙ sym g)) lacks

  pub never_then : (a : Answer A) → (a ≡ refused (suc k) → ⊥) → tried_then rules a ≡ refused (suc k) → ⊥
  unfolding otherwise
  never_then a n e = go (first_broken rules) refl e
    where
      go : (j : ℕ) → first_broken rules ≡ j → otherwise j a ≡ refused (suc k) → ⊥
      go zero f q = n q
      go (suc j) f q = clash (broken_has rules (f ∙ cc)) lacks
