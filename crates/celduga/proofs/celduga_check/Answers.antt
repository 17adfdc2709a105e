-- `celduga_check` meets its contract.
use Rattle.celduga.proofs.Laws.Coded.{code_call}
use Rattle.celduga.specs.Code.{nothing}
use Rattle.celduga.proofs.celduga_check.Goals as goal

pub returns : goal.returns
unfolding nothing
returns c = code_call (λ u. u) nothing c.check.result c.check.ensures c.code.ensures
