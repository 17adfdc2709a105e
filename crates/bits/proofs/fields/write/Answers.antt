-- `fields::write` meets its contract: a field put into the two bytes or the three that hold it.
use mathlib.Core.Path.{refl}
use Prim.Native.Nat.{◌+◌, ◌-◌, ◌%◌}
use native.Mathlib.Omega.{arith}
use lib.ListN.{length-set}
use Rattle.bits.specs.Steps.{byte_of}
use Rattle.bits.specs.Laws.Bytes.{AreBytes}
use Rattle.bits.proofs.Stored.{low_byte, write_two, write_three}
use Rattle.bits.proofs.fields.write.Goals as goal

pub returns-then-end-le16 : goal.returns-then-end-le16
unfolding byte_of
returns-then-end-le16 g c =
    let a = c.args in
    let known : AreBytes a.bytes.now = λ i. (c.slice_known-1.given i).fits in
    let stored = write_two a.bytes.now a.start g.row.WIDTH (16 - (a.start % 8 + g.row.WIDTH)) a.v
    c.join2-x.result
    c.replaced.result known c.requires.3 c.replaced.ensures (omega arith) (omega arith)
    c.join2-x.ensures.0 refl (low_byte _) in
    rw c.to_be_bytes-y.ensures (stored, simp length-set)

pub returns-else-end-le16 : goal.returns-else-end-le16
unfolding byte_of
returns-else-end-le16 g c =
    let a = c.args in
    let known : AreBytes a.bytes.now = λ i. (c.slice_known-1.given i).fits in
    let stored = write_three a.bytes.now a.start g.row.WIDTH (24 - (a.start % 8 + g.row.WIDTH)) a.v
    c.join3-x.result
    c.replaced-else-end-le16.result known c.requires.3 c.replaced-else-end-le16.ensures (omega arith) (omega arith)
    c.join3-x.ensures.0 refl refl (low_byte _) in
    rw c.to_be_bytes-y-else-end-le16.ensures (stored, simp length-set)
