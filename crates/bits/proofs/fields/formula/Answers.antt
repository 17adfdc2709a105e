-- `fields::formula` meets its contract: three bytes are joined, and the field is cut out.
use mathlib.Core.Path.{◌∙◌, ap}
use Prim.Native.Nat.{ℕ, ◌-◌, ◌/◌, ◌%◌, ◌^◌}
use Rattle.bits.specs.Formula.{field_formula}
use Rattle.bits.proofs.fields.formula.Goals as goal

pub returns : goal.returns
unfolding field_formula
returns g c =
    let a = c.args in
    let k = 24 - g.row.WIDTH - a.start % 8 in
    c.cut.ensures.0 ∙ ap (λ (n : ℕ). n / 2 ^ k % 2 ^ g.row.WIDTH) c.join3.ensures.0
