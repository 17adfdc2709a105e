-- `spans::lone_from` meets its contract: no one stands in the parts passed.
use mathlib.Core.Path.{◌≡◌, ◌∙◌}
use Prim.Native.Nat.{◌+◌}
use native.Mathlib.Omega.{arith}
use Rattle.bits.specs.Bits.{bits}
use Rattle.bits.specs.Spans.{ones_between}
use Rattle.bits.specs.Laws.Bytes.{length_bits}
use Rattle.bits.specs.Laws.Spans.{between_told, lone_none}
use Rattle.bits.proofs.Passes.{cleared_start, cleared_more, cleared_end}
use Rattle.bits.proofs.Passes.{Topped, topped_one, lone_second, lone_further, lone_only}
use Rattle.bits.proofs.spans.lone_from.Goals as goal
use Rattle.bits.proofs.spans.lone_from.Goals.{After-ones_from, After-top-h}

topped : (c : After-top-h)
    → Topped (bits c.args.bytes.now) c.args.start
    (c.args.start + c.args.places) c.loop-at.at
    c.part_from-part.result.width c.part_from-part.result.bits c.top-h.result
topped c =
    let l = length_bits c.args.bytes.now in
    record {
      held = omega arith;
      clear = c.loop-at.invariant;
      part = c.part_from-part.ensures;
      from = c.top-h.ensures.1;
      below = c.top-h.ensures.2;
    }

pub loop-at-init : goal.loop-at-init
loop-at-init c =
    let a = c.args in
    cleared_start (bits a.bytes.now) a.start (a.start + a.places) (omega arith)

pub returns-then-without-ne0 : goal.returns-then-without-ne0
returns-then-without-ne0 c =
    let at = (goal.at.returns-then-without-ne0 c).After-top-h in
    lone_second c.args.places (topped at) c.without.ensures c.if-without-ne0.true

-- the ones after it
later : (c : After-ones_from)
    → ones_between (bits c.args.bytes.now) (c.loop-at.at + c.part_from-part.result.width)
    (c.args.start + c.args.places)
    ≡ c.ones_from.result
later c = between_told (bits c.args.bytes.now) _ _ c.ones_from.ensures

pub returns-then-ones_from-ne0 : goal.returns-then-ones_from-ne0
returns-then-ones_from-ne0 c =
    let at = goal.at.returns-then-ones_from-ne0 c in
    lone_further c.args.places (topped at.After-top-h) (later at.After-ones_from) c.if-ones_from-ne0.true

pub overflow_sub-result : goal.overflow_sub-result
overflow_sub-result c = let l = (topped_one (topped (goal.at.overflow_sub-result c).After-top-h)).0 in omega arith

pub overflow_sub-result-then-part-ne0 : goal.overflow_sub-result-then-part-ne0
overflow_sub-result-then-part-ne0 c =
    let l = (topped_one (topped (goal.at.overflow_sub-result-then-part-ne0 c).After-top-h)).0 in
    omega arith

pub overflow_sub-result-then-part-ne0-2 : goal.overflow_sub-result-then-part-ne0-2
overflow_sub-result-then-part-ne0-2 c =
    let l = (topped_one (topped (goal.at.overflow_sub-result-then-part-ne0-2 c).After-top-h)).0 in
    omega arith

pub returns-then-part-ne0 : goal.returns-then-part-ne0
returns-then-part-ne0 c =
    let none = later (goal.at.returns-then-part-ne0 c).After-ones_from ∙ c.if-ones_from-ne0.false in
    let at = (goal.at.returns-then-part-ne0 c).After-top-h in
    lone_only c.args.places (topped at) c.without.ensures c.if-without-ne0.false none

pub loop-at-preserved : goal.loop-at-preserved
loop-at-preserved c =
    cleared_more c.loop-at.invariant (omega arith) c.part_from-part.ensures c.if-part-ne0.false

pub returns : goal.returns
returns c =
    let a = c.args in
    let n = length_bits a.bytes.now in
    let none = cleared_end c.loop-at.invariant (omega arith) in
    lone_none (bits a.bytes.now) a.start a.places (omega arith) none
