-- `marks::mark_bridges` meets its contract: the marks of the vertices before c are there.
use native.Mathlib.Omega.{arith}
use Rattle.forest.proofs.Laws.Graphs.{many, marks_sized}
use Rattle.forest.proofs.Laws.Bridged.{bridging_begin, bridging_asks, bridging_more, bridging_end}
use Rattle.forest.proofs.marks.mark_bridges.Goals as goal

pub loop-c-init : goal.loop-c-init
loop-c-init c =
    let k = marks_sized c.args.g.now c.requires.0 in
    let zeros = c.fill.ensures.after (λ y same. same) in
    bridging_begin c.args.g.now.s c.args.work.now k zeros (λ j. (c.type_inv.section j).fits)

pub mark_bridge-requires : goal.mark_bridge-requires
mark_bridge-requires c =
    let g = c.args.g.now in
    let k = marks_sized g c.requires.0 in
    let z = c.fill.ensures.len in
    let (room, inside) = bridging_asks g.formed c.loop-c.invariant k z c.requires.1 c.loop-c-test.true in
    record { room = room; bits_in = inside }

pub loop-c-preserved : goal.loop-c-preserved
loop-c-preserved c =
    let g = c.args.g.now in
    bridging_more g.formed c.loop-c.invariant (many g) c.loop-c-test.true (λ j. (c.type_inv.section j).fits)
    c.mark_bridge.ensures.section_len_unchanged c.mark_bridge.ensures.bridge_step

pub returns : goal.returns
returns c =
    bridging_end c.args.g.now.formed c.loop-c.invariant (many c.args.g.now) c.requires.1 (omega arith)
