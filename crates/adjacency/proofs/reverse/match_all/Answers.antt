-- `reverse::match_all` meets its contract: the parts passed are found again.
use mathlib.Core.Path.{refl, subst}
use native.Mathlib.Omega.{arith}
use Rattle.adjacency.specs.Reverse.{Matching}
use Rattle.adjacency.specs.Tally.{yea, nay}
use Rattle.adjacency.specs.Laws.Tells.{told_yes, told_no}
use Rattle.adjacency.proofs.Laws.Turned.{turned_start}
use Rattle.adjacency.proofs.reverse.match_all.Goals as goal

pub loop-u-init : goal.loop-u-init
loop-u-init c =
    let d = c.args.parts.now.divided in
    turned_start d refl c.requires d.first

pub returns-then-not-match_block : goal.returns-then-not-match_block
returns-then-not-match_block c = nay (told_no c.match_block.ensures c.if-not-match_block.true)

pub loop-u-preserved : goal.loop-u-preserved
loop-u-preserved c = told_yes c.match_block.ensures c.if-not-match_block.false

pub returns : goal.returns
returns c = yea (subst (Matching _ _ _) (omega arith) c.loop-u.invariant)
