-- `reverse::turn_all` meets its contract: the blocks passed are turned round.
use mathlib.Core.Path.{subst}
use native.Mathlib.Omega.{arith}
use Rattle.adjacency.specs.Reverse.{TurnedBefore}
use Rattle.adjacency.specs.Tally.{yea, nay}
use Rattle.adjacency.specs.Laws.Tells.{told_yes, told_no}
use Rattle.adjacency.proofs.Laws.Turned.{turning_start}
use Rattle.adjacency.proofs.reverse.turn_all.Goals as goal

pub loop-u-init : goal.loop-u-init
loop-u-init c = turning_start c.args.lists.now.divided c.requires.0 c.requires.1

pub returns-then-not-turn_block : goal.returns-then-not-turn_block
returns-then-not-turn_block c = nay (told_no c.turn_block.ensures c.if-not-turn_block.true)

pub loop-u-preserved : goal.loop-u-preserved
loop-u-preserved c = told_yes c.turn_block.ensures c.if-not-turn_block.false

pub returns : goal.returns
returns c = yea (subst (TurnedBefore _ _ _ _) (omega arith) c.loop-u.invariant)
