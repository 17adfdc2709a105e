-- `parts::Front::next_from` meets its contract: no one stands in the parts passed.
use Prim.Native.Nat.{◌+◌, ◌-◌, ◌<◌}
use native.Mathlib.Omega.{arith}
use Rattle.bits.specs.Bits.{bits}
use Rattle.bits.specs.Spans.{NextAt, PartOf}
use Rattle.bits.specs.Laws.Bytes.{length_bits}
use Rattle.bits.specs.Laws.Spans.{next_end}
use Rattle.bits.proofs.Passes.{part_aligned, cleared_start, cleared_more, cleared_end, topped_next}
use Rattle.bits.proofs.parts.Front.next_from.Goals as goal
use Rattle.bits.proofs.parts.Front.next_from.Goals.{After-part_from-part, After-top}

part : (c : After-part_from-part)
    → PartOf (bits c.args.self.now.bytes.now) c.loop-at.at c.args.self.now.end c.part_from-part.result.width
    c.part_from-part.result.bits
part c = part_aligned (c.loop-at.invariant.1 c.loop-at-test.true) c.part_from-part.ensures

found : (c : After-top)
    → (c.top.result < c.part_from-part.result.width)
    × NextAt (bits c.args.self.now.bytes.now) c.args.from c.args.self.now.end
    (c.loop-at.at + c.part_from-part.result.width - 1 - c.top.result)
found c =
    let n = length_bits c.args.self.now.bytes.now in
    topped_next (record {
      held = omega arith;
      clear = c.loop-at.invariant.0;
      part = part_aligned (c.loop-at.invariant.1 c.loop-at-test.true) c.part_from-part.ensures;
      from = c.top.ensures.1;
      below = c.top.ensures.2;
    })

pub loop-at-init : goal.loop-at-init
loop-at-init c =
    let a = c.args in
    (cleared_start (bits a.self.now.bytes.now) a.from a.self.now.end c.requires.0, c.requires.1)

pub overflow_sub-result : goal.overflow_sub-result
overflow_sub-result c = let p = part (goal.at.overflow_sub-result c).After-part_from-part in omega arith

pub overflow_sub-result-then-part-ne0 : goal.overflow_sub-result-then-part-ne0
overflow_sub-result-then-part-ne0 c =
    let b = (found (goal.at.overflow_sub-result-then-part-ne0 c).After-top).0 in omega arith

pub returns-then-part-ne0 : goal.returns-then-part-ne0
returns-then-part-ne0 c = (found (goal.at.returns-then-part-ne0 c).After-top).1

pub loop-at-preserved : goal.loop-at-preserved
loop-at-preserved c =
    let p = part (goal.at.loop-at-preserved c).After-part_from-part in
    let goes = c.loop-at-test.true in
    let inv = c.loop-at.invariant in
    let e = inv.1 goes in
    (cleared_more inv.0 goes p c.if-part-ne0.false, λ l. omega arith)

pub returns : goal.returns
returns c =
    let k = c.loop-at.invariant.0 in
    next_end _ _ (omega arith) (cleared_end k c.loop-at-test.false)
