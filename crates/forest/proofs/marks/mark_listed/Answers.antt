-- `marks::mark_listed` meets its contract: the bits of the list so far are set.
use lib.ListN.{length}
use Rattle.forest.proofs.Laws.Listed.{marking_begin, marking_more}
use Rattle.forest.proofs.marks.mark_listed.Goals as goal

pub loop-bit-init : goal.loop-bit-init
loop-bit-init c =
    marking_begin _ (length c.args.section.now) (c.fill.ensures.after (λ y same. same))

pub loop-bit-preserved : goal.loop-bit-preserved
loop-bit-preserved c =
    marking_more c.loop-bit.invariant c.loop-bit-test.true c.from.ensures c.set_bit.ensures
