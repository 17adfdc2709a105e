-- `lists::sum_of` meets its contract: the sum of the iterator is the sum of the list.
use Rattle.std.proofs.Common.{rules, ◌≡◌, refl, ap, ◌∙◌, ◌+◌, ℕ, List, [], ◌∷◌}
use mathlib.Core.List.{sum}
use Rattle.std.specs.List.{sum_by}
use Rattle.std.proofs.lemmas.List.Sums.{sum_by-cons}
use Rattle.adjacency.specs.Reverse.{total}
use Rattle.record.proofs.lists.sum_of.Goals as goal

added : (l : List ℕ) → sum_by (λ x. x) l ≡ total l
unfolding sum
added [] = refl
added (x ∷ l) = sum_by-cons (λ y. y) x l ∙ ap (λ (s : ℕ). x + s) (added l)

pub returns : goal.returns
returns c =
    let h : c.sum.result ≡ sum_by (λ x. x) c.args.degrees.now = search rules in
    h ∙ added _
