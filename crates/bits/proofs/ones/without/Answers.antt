-- `ones::without` meets its contract: the highest one is turned to a zero.
use Rattle.bits.proofs.Joined.{shifted_one}
use Rattle.bits.proofs.Tops.{top_turned}
use Rattle.bits.proofs.ones.without.Goals as goal

pub returns : goal.returns
returns c =
    let h = c.args.h in
    rw (shifted_one h c.requires.0) (top_turned c.args.x h c.requires.1 c.requires.2)
