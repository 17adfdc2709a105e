-- `reverse::turn_block` meets its contract: the places passed are turned round.
use Rattle.adjacency.specs.Tally.{yea, nay}
use Rattle.adjacency.specs.Laws.Tells.{told_yes, told_no}
use Rattle.adjacency.proofs.Laws.Loops.{block_end}
use Rattle.adjacency.proofs.Laws.Turned.{turning_on}
use Rattle.adjacency.proofs.reverse.turn_block.Goals as goal

pub returns-then-not-turn_place : goal.returns-then-not-turn_place
returns-then-not-turn_place c = nay (told_no c.turn_place.ensures c.if-not-turn_place.true)

pub loop-p-preserved : goal.loop-p-preserved
loop-p-preserved c = told_yes c.turn_place.ensures c.if-not-turn_place.false

pub returns : goal.returns
returns c =
    let divided = c.args.lists.now.divided in
    yea (turning_on c.loop-p.invariant
    (block_end c.args.u divided c.requires.1 c.get-from.ensures.0 c.get-end.ensures.0 c.loop-p.auto.p-end
    c.loop-p-test.false))
