-- `halving::in_pair` meets its contract: in the half of two bits in which the one stands it is the only bit.
use Prim.Native.Nat.{◌/◌}
use native.Mathlib.Omega.{arith}
use Rattle.bits.proofs.Halves.{ones_bit, select_bit}
use Rattle.bits.proofs.halving.in_pair.Goals as goal

pub halve-requires : goal.halve-requires
halve-requires c =
    let pre = c.requires in
    (omega arith, omega arith, pre.0, ones_bit (c.args.half.bits / 2) (omega arith))

pub returns : goal.returns
returns c =
    let h = c.halve.result in
    let e = c.halve.ensures in
    let one = select_bit h.bits h.left e.small e.some e.few in
    omega arith
