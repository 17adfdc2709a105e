-- `fields::clear_first` meets its contract: a mask puts a zero into the first bit of its byte.
use lib.ListN.{length-set}
use Rattle.bits.proofs.Stored.{write_clear}
use Rattle.bits.proofs.fields.clear_first.Goals as goal

pub returns : goal.returns
returns c =
    let args = c.args in
    let known = c.slice_known-1 in (
      write_clear args.bytes.now (λ i. (known.given i).fits) c.requires,
      simp length-set,
    )
