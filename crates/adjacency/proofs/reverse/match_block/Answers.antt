-- `reverse::match_block` meets its contract: the places passed are found again.
use mathlib.Core.Path.{subst}
use Rattle.adjacency.specs.Reverse.{Turned}
use Rattle.adjacency.specs.Tally.{yea, nay}
use Rattle.adjacency.specs.Laws.Tells.{told_no}
use Rattle.adjacency.proofs.Laws.Loops.{block_end}
use Rattle.adjacency.proofs.reverse.match_block.Goals as goal

pub returns-then-not-match_place : goal.returns-then-not-match_place
returns-then-not-match_place c = nay (told_no c.match_place.ensures c.if-not-match_place.true)

pub returns : goal.returns
returns c =
    let end = block_end c.args.u c.args.parts.now.divided c.requires.1 c.get-from.ensures.0 c.get-end.ensures.0
    c.loop-p.auto.p-end c.loop-p-test.false in
    yea (subst (Turned _ _ _ _) end c.loop-p.invariant)
