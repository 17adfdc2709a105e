-- `fields::cut` meets its contract: a shift, and a mask of ones.
use Prim.Native.Nat.{◌/◌, ◌^◌}
use native.Mathlib.Omega.{arith}
use lib.Bits.{and_mask, mask_lt}
use lib.Pow.{pow_pos}
use Rattle.bits.proofs.Joined.{shifted_one}
use Rattle.bits.proofs.fields.cut.Goals as goal

pub overflow_sub-result : goal.overflow_sub-result
overflow_sub-result c =
    let w = c.args.width in
    rw (shifted_one w (omega arith)) (pow_pos w)

pub returns : goal.returns
returns c =
    let w = c.args.width in
    let high = c.args.x / 2 ^ c.args.low in
    rw (shifted_one w (omega arith)) (and_mask high w, mask_lt high w)
