-- `writing::Row::write` meets its contract: the fields are written from the front, by fours, and then on to the last.
use mathlib.Core.Path.{◌≡◌}
use mathlib.Core.List.{map}
use Prim.Native.Nat.{◌+◌, ◌-◌, ◌*◌}
use Rattle.bits.specs.Bits.{bits}
use Rattle.bits.specs.Steps.{front_of}
use Rattle.record.specs.Steps.{Laying}
use Rattle.record.proofs.writing.Row.write.Given as goal

abbrev pub invariant-loop-k : goal.invariant-loop-k
invariant-loop-k l = record {
  laying : Laying l.self.start (bits l.initial.bytes) (map (λ v. v - 1) l.self.neighbours.now) l.bytes (4 * l.k);
  front : l.front ≡ front_of (bits l.bytes) (l.self.start + 12 * (4 * l.k));
}

abbrev pub invariant-loop-i : goal.invariant-loop-i
invariant-loop-i l = Laying l.self.start (bits l.fn.bytes) (map (λ v. v - 1) l.self.neighbours.now) l.bytes l.i
