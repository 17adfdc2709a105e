-- `fields::write_four` meets its contract: the word has the bits before `start`, the four numbers, and zeros.
use mathlib.Core.Path.{refl, ap, ◌∙◌}
use Prim.Native.Nat.{ℕ, ◌-◌, ◌%◌}
use native.Mathlib.Omega.{arith}
use lib.Pow.{pow_pos}
use Rattle.bits.specs.Bits.{bits, put}
use Rattle.bits.specs.Laws.Bytes.{length_bits}
use Rattle.bits.proofs.Joined.{shifted_one, masked}
use Rattle.bits.proofs.Stored.{next_front, write_blank}
use Rattle.bits.proofs.fields.write_four.Goals as goal

pub returns : goal.returns
returns c =
    let a = c.args in
    let l = length_bits a.bytes.now in
    let h = c.requires.start_in_bounds.0 in
    let four = c.join_four-four.ensures in
    let word = c.put_word.ensures in
    let stored = word.0
    ∙ write_blank a.start 48 (16 - a.start % 8) _ c.requires.start_in_bounds.1 (omega arith) (omega arith) four.1
    c.requires.front_value in
    let front = masked c.join_four-four.result (a.start % 8) (omega arith)
    ∙ next_front (bits a.bytes.now) a.start 48 c.join_four-four.result (omega arith) refl (omega arith)
    four.1 in
    (stored ∙ ap (λ (v : ℕ). put 48 v (bits a.bytes.now) a.start) four.0, word.1, rw stored front)

pub overflow_sub-result : goal.overflow_sub-result
overflow_sub-result c =
    rw (shifted_one (c.args.start % 8) (omega arith)) (pow_pos (c.args.start % 8))
