-- `words::short_word` meets its contract: the first bits of eight bytes.
use mathlib.Core.Path.{◌∙◌, ap}
use Prim.Native.Nat.{ℕ, ◌-◌, ◌/◌, ◌^◌}
use native.Mathlib.Omega.{arith}
use Rattle.bits.proofs.Joined.{short_field}
use Rattle.bits.proofs.words.short_word.Goals as goal

pub returns : goal.returns
returns c =
    let a = c.args in
    let k = 64 - a.n in
    ap (λ (x : ℕ). x / 2 ^ k) c.word_or_padded.ensures
    ∙ short_field a.bytes.now a.at a.n k (λ i. (c.type_inv.bytes i).fits) (omega arith) (omega arith)
