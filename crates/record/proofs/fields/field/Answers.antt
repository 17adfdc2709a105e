-- `fields::field` meets its contract.
use mathlib.Core.Path.{◌∙◌}
use Rattle.record.specs.Laws.Sounded.{sound_field}
use Rattle.record.proofs.fields.field.Goals as goal

pub returns : goal.returns
returns c = (
  c.read.ensures.0 ∙ sound_field c.args.layout.now.sound c.args.p c.requires,
  c.read.ensures.1,
)
