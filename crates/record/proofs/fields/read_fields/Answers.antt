-- `fields::read_fields` meets its contract: the list is filled from the front, by fours, and then on to its end.
use native.Mathlib.Omega.{arith}
use Rattle.record.proofs.Laws.Reading.Unpacked.{reads_more, reads_end}
use Rattle.record.proofs.fields.read_fields.Goals as goal

pub loop-i-preserved : goal.loop-i-preserved
loop-i-preserved c =
    reads_more c.loop-i.invariant c.read.result (omega arith) c.read.ensures.0 c.put.ensures

pub returns : goal.returns
returns c = reads_end c.loop-i.invariant (omega arith)
