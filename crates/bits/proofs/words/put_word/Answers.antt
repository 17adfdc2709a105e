-- `words::put_word` meets its contract: the bytes stored are those of the number.
use mathlib.Core.Path.{◌∙◌}
use Prim.Native.Nat.{◌+◌, ◌-◌}
use borrow.Rule.Slice.PartMut.{same_len_mid}
use native.Mathlib.Omega.{arith}
use Rattle.bits.proofs.Stored.{write_word}
use Rattle.bits.proofs.words.put_word.Goals as goal

pub returns : goal.returns
returns c =
    let a = c.args in
    (write_word a.bytes.now a.at a.x _ c.requires (omega arith) (c.copy_from_slice.ensures.after ∙ c.to_be_bytes.ensures), same_len_mid a.at (a.at + 8 - a.at) a.bytes.now _ c.copy_from_slice.ensures.len)
