-- `starts::span_of` meets its contract: the v-th one of D stands after the zeros of the blocks before it.
use native.Mathlib.Omega.{arith}
use Rattle.record.specs.Laws.Sounded.{sound_one, sound_span}
use Rattle.record.proofs.starts.span_of.Goals as goal

pub span_from-requires : goal.span_from-requires
span_from-requires c =
    (omega arith, sound_one c.args.layout.now.sound c.requires, omega arith, omega arith)

pub returns : goal.returns
returns c =
    sound_span c.args.layout.now.sound c.requires c.span_from.ensures
