-- `figures::figure_by` meets its contract: Check first, in the front part of the work slice.
use mathlib.Core.Path.{sym, ap, ◌∙◌}
use Rattle.record.specs.Rules.{check_rules}
use Rattle.record.specs.Answers.{answered}
use Rattle.record.specs.Operations.{check}
use Rattle.record.specs.Laws.Sounded.{check_accepted}
use Rattle.record.specs.Laws.Told.{exit_told, told_same}
use Rattle.forest.specs.Operations.{loops, loop_figure}
use Rattle.forest.specs.Laws.Figures.{figure_told}
use Rattle.forest.proofs.figures.figure_by.Goals as goal

pub figure_from-requires-clause-accepted : goal.figure_from-requires-clause-accepted
figure_from-requires-clause-accepted c =
    let (told, arrays) = c.in_ok-check_arrays.ensures in
    (check_accepted told, arrays)

pub returns-in_err-check_arrays : goal.returns-in_err-check_arrays
unfolding check loop_figure
returns-in_err-check_arrays c =
    let bytes = c.args.laid.now.layout.bytes.now in
    exit_told _ _ _ c.from_residual.ensures.1
    ∙ told_same (check_rules bytes) tt (loops bytes) c.in_err-check_arrays.ensures.0

pub returns : goal.returns
returns c =
    ap answered c.figure_from.ensures ∙ sym (figure_told (check_accepted c.in_ok-check_arrays.ensures.0))
