-- `neighbours` meets its contract: it is the part of the list that `part_of` names.
use mathlib.Core.Path.{refl, ap}
use native.Mathlib.Omega.{arith}
use Rattle.record.specs.Operations.{further}
use Rattle.record.specs.Laws.OneBlock.{part_fits, part_listed, part_near}
use Rattle.record.proofs.neighbours.Goals as goal

pub overflow_add-result : goal.overflow_add-result
overflow_add-result c = let n = part_near c.part_of-p.ensures in omega arith

pub offset_bounds-list-p : goal.offset_bounds-list-p
offset_bounds-list-p c = let n = part_near c.part_of-p.ensures in omega arith

pub slice_bounds-result-end : goal.slice_bounds-result-end
slice_bounds-result-end c =
    let args = c.args in
    let f = part_fits args.bytes.now args.list.now args.v.0 c.part_of-p.ensures in
    omega arith

pub returns : goal.returns
returns c =
    let args = c.args in
    let p = c.part_of-p.ensures in (
      part_listed args.bytes.now args.list.now args.v.0 p,
      ap (further args.list.ref_ptr) (p.begins args.list.now refl),
    )
