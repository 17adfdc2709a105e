-- `fields::read_four` meets its contract: four fields are cut out of one word.
use mathlib.Core.Path.{ap}
use Prim.Native.Nat.{ℕ, ◌-◌, ◌/◌, ◌%◌, ◌^◌}
use Rattle.bits.proofs.Joined.{four_in_word}
use Rattle.bits.proofs.fields.read_four.Goals as goal

pub returns : goal.returns
returns c =
    let a = c.args in
    let p = c.cut.ensures in
    let q = c.cut-2.ensures in
    let r = c.cut-3.ensures in
    let s = c.cut-4.ensures in
    let x = ap (λ (n : ℕ). n / 2 ^ (16 - a.start % 8)) c.word.ensures in
    four_in_word a.bytes.now a.start (λ i. (c.type_inv.bytes i).fits) c.requires x p.0 q.0 r.0 s.0
    (p.1, q.1, r.1, s.1)
