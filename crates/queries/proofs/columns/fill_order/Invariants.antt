-- `columns::fill_order` meets its contract.
use Rattle.queries.specs.Seen.{seen}
use Rattle.queries.specs.Filling.{Cells}
use Rattle.queries.proofs.columns.fill_order.Given as goal

abbrev pub invariant-loop-v : goal.invariant-loop-v
invariant-loop-v l = Cells (seen l.b.indexed).stored (λ x. x) l.b.indexed.layout.n l.v l.order
