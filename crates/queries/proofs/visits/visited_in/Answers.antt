-- `visits::visited_in` meets its contract: the numbers that were read are others, up to the first that is not.
use Rattle.queries.proofs.Laws.Climbing.{beside}
use Rattle.queries.proofs.Laws.Visiting.{next_told, none_told}
use Rattle.queries.proofs.visits.visited_in.Goals as goal

pub returns-then-stored-k : goal.returns-then-stored-k
returns-then-stored-k c =
    next_told c.loop-u.invariant (beside c.args.i.now) c.loop-u-test.true c.stored.ensures.0 c.if-stored-k.true

pub returns : goal.returns
returns c = none_told c.loop-u.invariant (beside c.args.i.now) c.loop-u-test.false
