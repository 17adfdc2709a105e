-- `range::out_of_range` meets its contract.
use mathlib.Core.Path.{◌∙◌}
use borrow.Author.Tests.{eq-eqb}
use Rattle.record.specs.Laws.Range.{zero_outside, above_zero}
use Rattle.record.proofs.range.out_of_range.Goals as goal

pub returns-then-k-eq0 : goal.returns-then-k-eq0
returns-then-k-eq0 c =
    eq-eqb c.args.k 0 c.if-k-eq0.true ∙ zero_outside c.args.n c.args.k c.if-k-eq0.true

pub returns-else-k-eq0 : goal.returns-else-k-eq0
returns-else-k-eq0 c = above_zero c.args.n c.args.k c.if-k-eq0.false
