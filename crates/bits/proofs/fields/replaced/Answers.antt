-- `fields::replaced` meets its contract: shifts and masks put a number into a field of another.
use native.Mathlib.Omega.{arith}
use lib.Pow.{pow_pos}
use Rattle.bits.proofs.Joined.{shifted_one}
use Rattle.bits.proofs.Stored.{replace_masked}
use Rattle.bits.proofs.fields.replaced.Goals as goal

pub overflow_sub-result : goal.overflow_sub-result
overflow_sub-result c = rw (shifted_one c.args.low (omega arith)) (pow_pos c.args.low)

pub returns : goal.returns
returns c =
    rw (shifted_one c.args.low (omega arith))
    (replace_masked c.args.x c.args.width c.args.low c.args.v c.requires.0 c.requires.1 c.requires.2)
