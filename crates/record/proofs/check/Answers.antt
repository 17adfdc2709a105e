-- `check` meets its contract.
use mathlib.Core.Path.{◌∙◌}
use Rattle.record.specs.Sized.{sizes_of}
use Rattle.record.specs.Operations.{check}
use Rattle.record.specs.Rules.{check_rules}
use Rattle.record.specs.Laws.Told.{exit_told, told_same, untold_same}
use Rattle.record.proofs.check.Goals as goal

pub returns-in_err-accept : goal.returns-in_err-accept
unfolding check
returns-in_err-accept c =
    exit_told _ _ _ c.from_residual.ensures.1
    ∙ told_same (check_rules c.args.bytes.now) (sizes_of c.args.bytes.now) tt c.in_err-accept.ensures.told.0

pub returns : goal.returns
unfolding check
returns c =
    untold_same (check_rules c.args.bytes.now) (sizes_of c.args.bytes.now) tt c.in_ok-accept.ensures.told.0
