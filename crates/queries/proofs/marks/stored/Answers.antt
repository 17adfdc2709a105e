-- `marks::stored` meets its contract: a stored number is a field of the index.
use native.Mathlib.Omega.{arith}
use Rattle.queries.specs.Laws.Framed.{numbers_fit, number_at}
use Rattle.queries.proofs.marks.stored.Goals as goal

pub read-requires : goal.read-requires
read-requires c = (omega arith, omega arith, omega (arith, c.mark_bytes.ensures.0, numbers_fit c.args.i.now.framed))

pub returns : goal.returns
returns c =
    let (e, l) = c.read.ensures in
    (number_at c.args.i.now.framed c.requires (omega (arith, c.mark_bytes.ensures.0)) e, l)
