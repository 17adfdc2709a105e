-- `arrays::check_arrays` meets its contract: rules 6 and 8 are those of the record's graph.
use Rattle.record.specs.Steps.{Laid}
use Rattle.record.specs.Laws.Unpacked.{divided_of, check_told}
use Rattle.record.proofs.arrays.check_arrays.Goals as goal

pub invariant_of-try_rules : goal.invariant_of-try_rules
invariant_of-try_rules c = record { divided = divided_of c.fill_arrays.ensures }

pub returns : goal.returns
returns c =
    let laid = c.args.laid.now in
    let is_laid : Laid laid.layout.bytes.now laid.layout.n laid.layout.m =
    record { sound = laid.layout.sound; clear = laid.clear } in
    (check_told is_laid c.fill_arrays.ensures c.try_rules.ensures, c.fill_arrays.ensures)
