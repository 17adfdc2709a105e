-- `celduga_build` meets its contract.
use Rattle.celduga.proofs.Laws.Coded.{code_call}
use Rattle.celduga.specs.Code.{nothing}
use Rattle.celduga.proofs.celduga_build.Goals as goal

pub returns : goal.returns
unfolding nothing
returns c = (code_call (λ u. u) nothing c.build.result c.build.ensures.0 c.code.ensures, c.build.ensures.1)
