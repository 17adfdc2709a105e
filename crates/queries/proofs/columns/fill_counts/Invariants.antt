-- `columns::fill_counts` meets its contract.
use Rattle.queries.specs.Seen.{seen}
use Rattle.queries.specs.Queries.{child_count}
use Rattle.queries.specs.Filling.{Cells}
use Rattle.queries.proofs.columns.fill_counts.Given as goal

abbrev pub invariant-loop-v : goal.invariant-loop-v
invariant-loop-v l = Cells (λ u. u) (child_count (seen l.a.indexed)) l.a.indexed.layout.n l.v l.counts
