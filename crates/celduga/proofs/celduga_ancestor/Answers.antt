-- `celduga_ancestor` meets its contract.
use mathlib.Core.Bool.{Bool}
use Rattle.bits.specs.Bits.{bit}
use Rattle.celduga.proofs.Laws.Coded.{code_call}
use Rattle.celduga.proofs.celduga_ancestor.Goals as goal

pub returns : goal.returns
returns c = code_call (λ (b : Bool). b) bit c.ancestor.result c.ancestor.ensures c.code.ensures
