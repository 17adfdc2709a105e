-- `lows::own_low` meets its contract: before p every place is looked at.
use native.Mathlib.Omega.{arith}
use Rattle.forest.proofs.Laws.Lowest.{looked_inside, looked_more, looked_end}
use Rattle.forest.proofs.lows.own_low.Goals as goal

pub next_low-own-requires : goal.next_low-own-requires
next_low-own-requires c =
    let inside = looked_inside c.args.g.now c.requires.1 c.get-p-end.ensures.0 c.loop-p-test.true in
    (c.requires.0, c.requires.1, inside)

pub loop-p-preserved : goal.loop-p-preserved
loop-p-preserved c =
    looked_more c.args.g.now c.requires.1 c.loop-p.invariant c.get-up.ensures.0 (omega arith) c.next_low-own.ensures

pub returns : goal.returns
returns c = looked_end c.args.g.now c.requires.1 c.loop-p.invariant (omega arith)
