-- `fields::read_four` meets its contract: the list is filled on by four fields.
use Rattle.record.proofs.Laws.Reading.Unpacked.{reads_four}
use Rattle.record.proofs.fields.read_four.Goals as goal

pub returns : goal.returns
returns c =
    reads_four c.requires.reading c.requires.i_bound.1 c.read_four-x.ensures
    c.put.ensures
    c.put-2.ensures
    c.put-3.ensures
    c.put-4.ensures
