-- `fields::read_long` meets its contract: a field at the end of the bits from its first byte on is these bits, masked.
use mathlib.Core.Path.{◌∙◌, ap}
use Prim.Native.Nat.{ℕ, ◌-◌, ◌%◌, ◌^◌}
use native.Mathlib.Omega.{arith}
use lib.Bits.{and_mask}
use Rattle.bits.proofs.Joined.{shifted_ones, field_masked}
use Rattle.bits.proofs.fields.read_long.Goals as goal

pub returns : goal.returns
returns c =
    let args = c.args in
    let width = args.width in
    rw (shifted_ones 64 width (64 - width) (omega arith))
    (and_mask c.short_word.result width ∙ ap (λ (x : ℕ). x % 2 ^ width) c.short_word.ensures
    ∙ field_masked args.bytes.now args.start width (omega arith))
