-- `halving::ones4` meets its contract: the table's rule at one entry.
use mathlib.Core.Path.{◌≡◌, ◌∙◌}
use Prim.Native.Nat.{◌*◌, ◌/◌, ◌^◌}
use native.Mathlib.Omega.{arith}
use lib.Bits.{bit_and, and_mask}
use lib.Count.{ones, ones-le}
use Rattle.bits.proofs.Halves.{ones_nibble}
use Rattle.bits.proofs.halving.ones4.Goals as goal

pub returns : goal.returns
returns c =
    let x = c.args.x in
    let high = 0x4332322132212110 / 2 ^ (4 * x) in
    let e : bit_and high 15 ≡ ones x = and_mask high 4 ∙ ones_nibble x c.requires in
    (e, omega (arith, ones-le 4 x c.requires))
