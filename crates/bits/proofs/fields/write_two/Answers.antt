-- `fields::write_two` meets its contract: two fields side by side are the bits of the three bytes stored.
use mathlib.Core.Path.{refl}
use lib.ListN.{length-set}
use Rattle.bits.specs.Steps.{byte_of}
use Rattle.bits.proofs.Stored.{low_byte, write_beside, beside_shifted}
use Rattle.bits.proofs.fields.write_two.Goals as goal

pub returns : goal.returns
unfolding byte_of
returns c =
    let args = c.args in
    let pre = c.requires in
    let x = beside_shifted args.a args.b pre.1 pre.2 in
    rw c.to_be_bytes-x.ensures (
      write_beside args.bytes.now args.at args.a args.b _ pre.0 pre.1 pre.2 x refl refl (low_byte _),
      simp length-set,
    )
