-- `words::byte_rest` meets its contract: a field at the end of a byte is the byte, masked.
use mathlib.Core.Path.{◌∙◌, ap, sym}
use Prim.Native.Nat.{ℕ, ◌-◌, ◌/◌, ◌%◌, ◌^◌}
use native.Mathlib.Nat.{div-one, lt_of_le_of_lt}
use native.Mathlib.Omega.{arith}
use lib.Bits.{and_le_l, and_mask}
use lib.ListN.{get_or}
use Rattle.bits.specs.Steps.{IsByte}
use Rattle.bits.proofs.Joined.{byte_in, field_in_byte, shifted_ones}
use Rattle.bits.proofs.words.byte_rest.Goals as goal

pub returns : goal.returns
returns c =
    let a = c.args in
    let room = 8 - a.start % 8 in
    let b = get_or a.bytes.now (a.start / 8) 0 in
    let byte : IsByte a.bytes.now (a.start / 8) b =
    byte_in (a.start / 8) (λ i. (c.type_inv.bytes i).fits) (omega arith) in
    rw (shifted_ones 8 room (a.start % 8) (omega arith)) (record {
      inside = c.requires;
      same = and_mask b room ∙ ap (λ (x : ℕ). x % 2 ^ room) (sym (div-one b))
          ∙ field_in_byte a.start room 0 byte (omega arith);
      small = lt_of_le_of_lt (and_le_l b (2 ^ room - 1)) byte.small;
    })
