-- `words::short_ones` meets its contract: the ones of a field are those of its bits.
use mathlib.Core.Path.{◌≡◌, ◌∙◌, ap}
use Prim.Native.Nat.{◌*◌}
use native.Mathlib.Omega.{arith}
use lib.Count.{ones}
use lib.ListN.{take, drop}
use Rattle.bits.specs.Bits.{bits, count}
use Rattle.bits.specs.Laws.Rank.{count_take_le, ones_field}
use Rattle.bits.proofs.words.short_ones.Goals as goal

pub returns : goal.returns
returns c =
    let n = c.args.n in
    let at = c.args.at in
    let s = bits c.args.bytes.now in
    let e : ones c.short_word.result ≡ count (take n (drop (8 * at) s)) =
    ap ones c.short_word.ensures ∙ ones_field n s (8 * at) in
    (e, omega (arith, count_take_le n (drop (8 * at) s)))
