-- `file` meets its contract: rule 16, rules 6 and 8 in a room, rule 17, and then the record.
use mathlib.Core.Path.{sym, ◌∙◌}
use Rattle.record.specs.Steps.{Listed}
use Rattle.record.specs.Laws.Listed.{listed}
use Rattle.record.specs.Laws.Told.{exit_told}
use Rattle.record.proofs.Laws.Telling.Filing.{file_bad_lists, file_refused, file_numbers, file_misfit, file_done}
use Rattle.record.proofs.file.Goals as goal
use Rattle.record.proofs.file.Goals.{Else-bad_lists}

-- rule 16 lets the lists pass
passed : (c : Else-bad_lists) → Listed c.args.degrees.now c.args.neighbours.now
passed c = listed _ _ (sym c.bad_lists.ensures ∙ c.if-bad_lists.false)

pub returns-then-bad_lists : goal.returns-then-bad_lists
returns-then-bad_lists c = file_bad_lists _ _ _ (sym c.bad_lists.ensures ∙ c.if-bad_lists.true)

pub invariant_of-lists : goal.invariant_of-lists
invariant_of-lists c = record { listed = passed (goal.at.invariant_of-lists c).Else-bad_lists }

pub returns-in_err-in_room : goal.returns-in_err-in_room
returns-in_err-in_room c =
    let l = passed (goal.at.returns-in_err-in_room c).Else-bad_lists in
    let (told, left) = file_refused l _ c.in_err-in_room.ensures in
    (exit_told _ _ _ c.from_residual.ensures.1 ∙ told, left)

pub returns-then-bytes-record_length : goal.returns-then-bytes-record_length
returns-then-bytes-record_length c =
    let l = passed (goal.at.returns-then-bytes-record_length c).Else-bad_lists in
    file_misfit l _ c.in_ok-in_room.ensures
    (λ same. c.if-bytes-record_length.true (same ∙ sym c.record_length.ensures))

pub write_record-requires : goal.write_record-requires
write_record-requires c =
    let l = passed (goal.at.write_record-requires c).Else-bad_lists in
    (file_numbers l c.args.bytes.now c.in_ok-in_room.ensures, c.if-bytes-record_length.false ∙ c.record_length.ensures)

pub returns : goal.returns
returns c =
    let l = passed (goal.at.returns c).Else-bad_lists in
    let (told, left) =
    file_done l _ c.in_ok-in_room.ensures (c.if-bytes-record_length.false ∙ c.record_length.ensures) in
    (told, c.write_record.ensures ∙ left)
