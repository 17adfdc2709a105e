-- `columns::fill_visits` meets its contract.
use Rattle.queries.specs.Seen.{seen}
use Rattle.queries.specs.Filling.{Cells}
use Prim.Native.Nat.{suc}
use Rattle.queries.proofs.columns.fill_visits.Given as goal

abbrev pub invariant-loop-v : goal.invariant-loop-v
invariant-loop-v l = Cells (λ u. u) (λ u. suc ((seen l.i).stored u)) l.i.layout.n l.v l.visits
