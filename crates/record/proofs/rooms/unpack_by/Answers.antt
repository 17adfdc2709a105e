-- `rooms::unpack_by` meets its contract: Check first, and then a list of the right length.
use Rattle.record.specs.Laws.Told.{exit_told}
use Rattle.record.proofs.Laws.Telling.Unpacking.{short_of, handed_refused, handed_misfit, handed_done}
use Rattle.record.proofs.rooms.unpack_by.Goals as goal

pub hand_on-requires : goal.hand_on-requires
hand_on-requires c =
    (c.if-list-nbrs.true, short_of c.in_ok-check_arrays.ensures.1)

pub returns-in_err-check_arrays : goal.returns-in_err-check_arrays
returns-in_err-check_arrays c =
    rw (exit_told (λ u. u) _ _ c.from_residual.ensures.1) (handed_refused c.in_err-check_arrays.ensures.0)

pub returns-then-list-nbrs : goal.returns-then-list-nbrs
returns-then-list-nbrs c =
    let (told, arrays) = c.in_ok-check_arrays.ensures in
    handed_done arrays told c.if-list-nbrs.true c.hand_on.ensures

pub returns-else-list-nbrs : goal.returns-else-list-nbrs
returns-else-list-nbrs c =
    let (told, arrays) = c.in_ok-check_arrays.ensures in
    handed_misfit arrays told c.if-list-nbrs.false
