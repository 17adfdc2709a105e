-- `fields::front_of` meets its contract: the byte without what it has from bit `start` on.
use native.Mathlib.Omega.{arith}
use Rattle.bits.specs.Bits.{bits}
use Rattle.bits.proofs.Joined.{byte_in}
use Rattle.bits.proofs.Stored.{byte_front, no_front}
use Rattle.bits.proofs.fields.front_of.Goals as goal

pub returns-then-at-bytes : goal.returns-then-at-bytes
returns-then-at-bytes c =
    rw c.from.ensures (byte_front c.args.start (byte_in _ (λ i. (c.type_inv.bytes i).fits) c.if-at-bytes.true))

pub returns-else-at-bytes : goal.returns-else-at-bytes
returns-else-at-bytes c =
    let h = c.requires in
    no_front (bits c.args.bytes.now) c.args.start (omega arith)
