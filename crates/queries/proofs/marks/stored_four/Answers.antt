-- `marks::stored_four` meets its contract: stored numbers are fields of the index, and a word lies in five of them.
use native.Mathlib.Omega.{arith}
use Rattle.queries.specs.Laws.Framed.{numbers_fit, number_at}
use Rattle.queries.proofs.marks.stored_four.Goals as goal

pub read_four-requires : goal.read_four-requires
read_four-requires c = omega (arith, c.mark_bytes.ensures.0, numbers_fit c.args.i.now.framed)

pub returns : goal.returns
returns c =
    let f = c.args.i.now.framed in
    let b = c.mark_bytes.ensures.0 in
    let four = c.read_four.ensures in
    record {
      first = number_at f (omega arith) (omega (arith, b)) four.first;
      second = number_at f (omega arith) (omega (arith, b)) four.second;
      third = number_at f (omega arith) (omega (arith, b)) four.third;
      fourth = number_at f (omega arith) (omega (arith, b)) four.fourth;
    }
