-- `starts::fill_starts` meets its contract: the starts of the blocks whose ones were read are entered, and in a part of
-- D each turn enters the start of the highest one that is left.
use mathlib.Core.Path.{◌∙◌}
use Prim.Native.Nat.{◌-◌}
use native.Mathlib.Omega.{arith}
use Rattle.record.specs.Record.{unary}
use Rattle.record.specs.Laws.Sounded.{sound_places, sound_ones, sound_part}
use Rattle.record.proofs.Laws.Reading.Filled.{filling_start, filling_bounds, filling_end}
use Rattle.record.proofs.Laws.Reading.Filled.{entering_start, entering_bounds, entering_more, entering_end}
use Rattle.record.proofs.starts.fill_starts.Goals as goal
use Rattle.record.proofs.starts.fill_starts.Goals.{After-top-h}

pub loop-i-init : goal.loop-i-init
loop-i-init c =
    let layout = c.args.layout.now in
    let n = sound_ones layout.sound in
    filling_start (unary layout.bytes.now) c.args.starts.now (omega arith)

pub loop-left-init : goal.loop-left-init
loop-left-init c =
    let loop = c.loop-i in
    let sound = c.args.layout.now.sound in
    let end = c.part_end-end.result in
    let places = sound_places sound in
    let part = c.read_long-left.ensures ∙ sound_part sound (end - loop.i) loop.i (omega arith) in
    entering_start end loop.invariant (omega arith) (omega arith) part

pub overflow_sub-end-in-loop-left : goal.overflow_sub-end-in-loop-left
overflow_sub-end-in-loop-left c =
    omega (arith, entering_bounds c.loop-left.invariant c.top-h.result c.top-h.ensures.1)

pub overflow_sub-end-in-loop-left-2 : goal.overflow_sub-end-in-loop-left-2
overflow_sub-end-in-loop-left-2 c =
    omega (arith, entering_bounds c.loop-left.invariant c.top-h.result c.top-h.ensures.1)

pub loop-left-preserved : goal.loop-left-preserved
loop-left-preserved c =
    let (_, low, high) = c.top-h.ensures in
    entering_more c.loop-left.invariant c.top-h.result low high c.put.ensures c.without-left.ensures

pub loop-i-preserved : goal.loop-i-preserved
loop-i-preserved c = entering_end c.loop-left.invariant c.loop-left-test.false

pub put-requires-2 : goal.put-requires-2
put-requires-2 c =
    let b = filling_bounds c.loop-i.invariant in
    let places = sound_places c.args.layout.now.sound in
    omega arith

pub returns : goal.returns
returns c =
    let places = sound_places c.args.layout.now.sound in
    filling_end c.loop-i.invariant (omega arith) c.put-2.ensures
