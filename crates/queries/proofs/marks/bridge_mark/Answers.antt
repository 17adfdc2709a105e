-- `marks::bridge_mark` meets its contract: B is the third section.
use mathlib.Core.Bool.{false}
use mathlib.Core.Path.{sym, ap, ◌∙◌}
use native.Mathlib.Omega.{arith}
use Prim.Native.Nat.{ℕ, ◌+◌, ◌*◌}
use lib.ListN.{get_or}
use Rattle.bits.specs.Bits.{bits}
use Rattle.queries.specs.Laws.Framed.{marks_fit, section_bit_lem}
use Rattle.queries.proofs.marks.bridge_mark.Goals as goal

pub read_bit-requires : goal.read_bit-requires
read_bit-requires c =
    let (a, b) = marks_fit c.args.i.now.framed in
    omega (arith, c.mark_bytes.ensures.0, c.requires)

pub returns : goal.returns
returns c =
    let i = c.args.i.now in
    let index = i.index.now in
    c.read_bit.ensures
    ∙ ap (λ (b : ℕ). get_or (bits index) (8 * (2 * b) + c.args.bit) false) c.mark_bytes.ensures.0
    ∙ sym (section_bit_lem index i.layout.n i.layout.m i.framed.sized 2 c.args.bit (omega arith) c.requires)
