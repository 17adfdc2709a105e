-- `celduga_unpack` meets its contract.
use Rattle.celduga.proofs.Laws.Coded.{code_call}
use Rattle.celduga.specs.Code.{nothing}
use Rattle.celduga.proofs.celduga_unpack.Goals as goal

pub returns : goal.returns
unfolding nothing
returns c = (code_call (λ u. u) nothing c.unpack.result c.unpack.ensures.0 c.code.ensures, c.unpack.ensures.1)
