-- `halving::halve` meets its contract, by the law of each half.
use native.Mathlib.Omega.{arith}
use Rattle.bits.proofs.Joined.{masked}
use Rattle.bits.proofs.Halves.{halve_high, halve_low}
use Rattle.bits.proofs.halving.halve.Goals as goal

pub invariant_of-result : goal.invariant_of-result
invariant_of-result c =
    let half = c.args.half in
    let pre = c.requires in
    let low = halve_low c.args.width half.bits half.left half.before pre.2 half.some.0 c.args.c pre.3
    (masked half.bits c.args.width (omega arith)) c.if-c-half.true half.some.1 in
    record { some = (low.some, low.few) }

pub returns-then-c-half : goal.returns-then-c-half
returns-then-c-half c =
    let half = c.args.half in
    let pre = c.requires in
    halve_low c.args.width half.bits half.left half.before pre.2 half.some.0 c.args.c pre.3
    (masked half.bits c.args.width (omega arith)) c.if-c-half.true half.some.1

pub returns : goal.returns
returns c =
    let half = c.args.half in
    halve_high c.args.width half.bits half.left half.before c.requires.2 half.some.0 (omega arith)
