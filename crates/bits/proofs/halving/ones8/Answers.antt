-- `halving::ones8` meets its contract: the ones of eight bits are those of two times four.
use lib.Bits.{and_mask, mask_lt}
use Rattle.bits.proofs.Halves.{ones_byte}
use Rattle.bits.proofs.halving.ones8.Goals as goal

pub ones4-requires-2 : goal.ones4-requires-2
ones4-requires-2 c = mask_lt c.args.x 4

pub returns : goal.returns
returns c =
    let x = c.args.x in
    ones_byte x c.ones4.ensures.0 (and_mask x 4) c.ones4-2.ensures.0
