-- `writing::Row::write_four` meets its contract: the fields are written on by four.
use mathlib.Core.Path.{◌≡◌, sym, ◌∙◌}
use Prim.Native.Nat.{ℕ, ◌+◌, ◌-◌, ◌*◌, ◌<◌}
use mathlib.Core.List.{map}
use native.Mathlib.Omega.{arith}
use lib.ListN.{length, get_or, length-map}
use Rattle.bits.specs.Laws.Bytes.{length_bits}
use Rattle.std.proofs.lemmas.List.{get_or-map}
use Rattle.record.proofs.Laws.Writing.Fields.{laying_blank, laying_four}
use Rattle.record.proofs.writing.Row.write_four.Goals as goal

pub write_four-requires-clause-start_in_bounds : goal.write_four-requires-clause-start_in_bounds
write_four-requires-clause-start_in_bounds c =
    let bits = length_bits c.args.bytes.now in
    (omega arith, laying_blank c.requires.laying.0 (omega arith))

pub returns : goal.returns
returns c =
    let list = c.args.self.now.neighbours.now in
    let start = c.args.self.now.start in
    let i = c.args.i in
    let bits = length_bits c.args.bytes.now in
    let size = length-map list (λ v. v - 1) in
    let a = c.number-a.ensures in
    let b = c.number-b.ensures in
    let d = c.number-c.ensures in
    let e = c.number-d.ensures in
    let w = c.write_four.ensures in
    let at : (j : ℕ) → j < length list → get_or list j 0 - 1 ≡ get_or (map (λ v. v - 1) list) j 0 =
    λ j h. sym (get_or-map (λ v. v - 1) list j 0 0 h) in
    let four = laying_four c.requires.laying.0 (omega arith) (omega arith) w.1 (omega arith)
    (a.0 ∙ at i (omega arith), a.1) (b.0 ∙ at (i + 1) (omega arith), b.1)
    (d.0 ∙ at (i + 2) (omega arith), d.1) (e.0 ∙ at (i + 3) (omega arith), e.1) w.0 in
    let next : start + 12 * i + 48 ≡ start + 12 * (i + 4) = omega arith in
    (four, rw next at w.2)
