-- `fields::read_bit` meets its contract: a bit is a field of one bit inside a byte.
use mathlib.Core.Bool.{false}
use mathlib.Core.Path.{◌≡◌, ◌∙◌, ap}
use Prim.Native.Nat.{ℕ, ◌-◌, ◌/◌, ◌%◌, ◌^◌}
use native.Mathlib.Omega.{arith}
use lib.Bits.{bit_and, and_mask}
use lib.Dec.{eqb}
use lib.ListN.{get_or}
use Rattle.bits.specs.Bits.{bits, bit}
use Rattle.bits.specs.Steps.{IsByte}
use Rattle.bits.specs.Laws.Bytes.{length_bits}
use Rattle.bits.specs.Laws.Digits.{eqb_bit}
use Rattle.bits.specs.Laws.Fields.{field_one}
use Rattle.bits.proofs.Joined.{byte_in, field_in_byte}
use Rattle.bits.proofs.fields.read_bit.Goals as goal

pub returns : goal.returns
returns c =
    let bytes = c.args.bytes.now in
    let s = bits bytes in
    let index = c.args.index in
    let k = 7 - index % 8 in
    let b = get_or bytes (index / 8) 0 in
    let byte : IsByte bytes (index / 8) b = byte_in (index / 8) (λ i. (c.type_inv.bytes i).fits) (omega arith) in
    let e : bit_and (b / 2 ^ k) 1 ≡ bit (get_or s index false) =
    and_mask (b / 2 ^ k) 1 ∙ field_in_byte index 1 k byte (omega arith)
    ∙ field_one s index (rw (length_bits bytes) (omega arith)) in
    ap (λ (x : ℕ). eqb x 1) e ∙ eqb_bit (get_or s index false)
