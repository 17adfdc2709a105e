-- `ones::top` meets its contract: the zeros above a number's highest one give its place.
use Rattle.bits.proofs.Tops.{top_of}
use Rattle.bits.proofs.ones.top.Goals as goal

pub returns : goal.returns
returns c = let t = top_of c.args.x c.requires c.ranges.x.fits in (t.1, t.2, t.3)
