-- `fields::read` meets its contract: the formula is the field.
use mathlib.Core.Path.{◌∙◌}
use native.Mathlib.Omega.{arith}
use Rattle.bits.specs.Bits.{bits}
use Rattle.bits.specs.Laws.Fields.{field_lt}
use Rattle.bits.specs.Laws.Formula.{formula_field}
use Rattle.bits.proofs.fields.read.Goals as goal

pub returns : goal.returns
returns g c =
    let a = c.args in
    let same =
    c.formula.ensures
    ∙ formula_field a.bytes.now a.start g.row.WIDTH (λ i. (c.type_inv.bytes i).fits) (omega arith) (omega arith)
    (omega arith) in
    (same, rw same (field_lt g.row.WIDTH (bits a.bytes.now) a.start))
