-- `arrays::fill_arrays` meets its contract.
use Rattle.record.specs.Laws.Unpacked.{arrays_read}
use Rattle.record.proofs.arrays.fill_arrays.Goals as goal

pub returns : goal.returns
returns c =
    arrays_read c.args.l.now.sound c.requires.1 c.fill_starts.ensures
    c.read_fields.ensures
