-- `writing::Row::write` meets its contract: the fields are written from the front, by fours, and then on to the last.
use mathlib.Core.Path.{◌≡◌, sym, ◌∙◌}
use mathlib.Core.List.{map}
use Prim.Native.Nat.{◌+◌, ◌-◌, ◌*◌}
use native.Mathlib.Omega.{arith}
use lib.ListN.{length-map}
use Rattle.bits.specs.Laws.Bytes.{length_bits}
use Rattle.std.proofs.lemmas.List.{get_or-map}
use Rattle.record.proofs.Laws.Writing.Fields.{laying_start, laying_same, laying_on, laying_more}
use Rattle.record.proofs.writing.Row.write.Goals as goal

pub loop-k-init : goal.loop-k-init
loop-k-init c =
    let row = c.args.self.now in
    let bytes = c.args.bytes.now in
    let bits = length_bits bytes in
    let (fits, blank) = c.requires in
    let laying = laying_start (map (λ v. v - 1) row.neighbours.now) bytes row.start (omega arith) blank in
    let none : row.start ≡ row.start + 0 = omega arith in
    record { laying = laying; front = rw none at c.front_of-front.ensures }

pub write_four-front-requires-clause-laying : goal.write_four-front-requires-clause-laying
write_four-front-requires-clause-laying c =
    let bits = length_bits c.args.bytes.now in
    let inv = c.loop-k.invariant in
    (laying_same inv.laying (omega arith), inv.front)

pub loop-k-preserved : goal.loop-k-preserved
loop-k-preserved c =
    let bits = length_bits c.args.bytes.now in
    let inv = c.loop-k.invariant in
    let (written, front) = c.write_four-front.ensures in
    let next : 4 * c.loop-k.k + 4 ≡ 4 * (c.loop-k.k + 1) = omega arith in
    record { laying = rw next at (laying_on inv.laying (omega arith) written); front = rw next at front }

pub loop-i-preserved : goal.loop-i-preserved
loop-i-preserved c =
    let neighbours = c.args.self.now.neighbours.now in
    let loop = c.loop-i in
    let bits = length_bits c.args.bytes.now in
    let numbers = length-map neighbours (λ v. v - 1) in
    let (put, same) = c.write.ensures in
    let x = c.number.ensures.0 ∙ sym (get_or-map (λ v. v - 1) neighbours loop.i 0 0 c.loop-i-test.true) in
    laying_more loop.invariant (omega arith) (omega arith) same _ (omega arith) x put
