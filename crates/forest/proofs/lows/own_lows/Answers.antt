-- `lows::own_lows` meets its contract: the vertices before c have their numbers.
use native.Mathlib.Omega.{arith}
use Rattle.forest.proofs.Laws.Graphs.{many}
use Rattle.forest.proofs.Laws.Lifted.{filled_end}
use Rattle.forest.proofs.lows.own_lows.Goals as goal

pub returns : goal.returns
returns c = filled_end c.loop-c.invariant (many c.args.g.now) (omega arith)
