-- `fields::set_bit` meets its contract: an or with the bit's mask puts a one into its byte.
use lib.ListN.{length-set}
use Rattle.bits.proofs.Stored.{write_or}
use Rattle.bits.proofs.fields.set_bit.Goals as goal

pub returns : goal.returns
returns c =
    let args = c.args in (
      write_or args.bytes.now args.index (λ i. (c.slice_known-1.given i).fits) c.requires,
      simp length-set,
    )
