-- `words::word_ones` meets its contract: the ones of eight bytes are the same in either order.
use mathlib.Core.Path.{◌∙◌, ap}
use native.Mathlib.Omega.{arith}
use lib.Count.{ones, ones-le}
use Rattle.bits.proofs.Turned.{turned_ones}
use Rattle.bits.proofs.words.word_ones.Goals as goal

pub returns : goal.returns
returns c =
    let args = c.args in
    let same = turned_ones args.bytes.now args.at (λ i. (c.type_inv.bytes i).fits) (omega arith) in
    (ap ones c.low_word.ensures ∙ same, ones-le 64 c.low_word.result (omega arith))
