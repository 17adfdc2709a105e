-- `accept` meets its contract: order R and rule 5 first, and then the rest in a room.
use Rattle.record.specs.Laws.Sounded.{told_laid}
use Rattle.record.specs.Laws.Told.{exit_told}
use Rattle.record.proofs.Laws.Telling.Unpacking.{accept_unread, accept_refused, accept_passed}
use mathlib.Core.Path.{refl, ◌∙◌}
use Rattle.record.proofs.accept.Goals as goal

pub returns-in_err-laid-clause-told : goal.returns-in_err-laid-clause-told
returns-in_err-laid-clause-told c =
    let (told, left) = accept_unread c.args.bytes.now c.args.list.now c.in_err-laid.ensures.sizes in
    (exit_told _ _ _ c.from_residual.ensures.1 ∙ told, left)

pub returns-in_err-in_room-clause-told : goal.returns-in_err-in_room-clause-told
returns-in_err-in_room-clause-told c =
    let (told, left) = rw c.in_ok-laid.ensures.same at (accept_refused c.in_err-in_room.ensures refl) in
    (exit_told _ _ _ c.from_residual-in_err-in_room.ensures.1 ∙ told, left)

pub returns-clause-told : goal.returns-clause-told
returns-clause-told c =
    accept_passed (rw c.in_ok-laid.ensures.same at c.in_ok-in_room.ensures)
    (told_laid c.args.bytes.now c.in_ok-laid.ensures.sizes) refl
