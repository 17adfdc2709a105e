-- `spans::nth_from` meets its contract: the parts passed have fewer ones than are left to go.
use mathlib.Core.Path.{◌≡◌, refl}
use mathlib.Core.Bool.{Bool}
use mathlib.Core.List.{List}
use Prim.Native.Nat.{ℕ, ◌+◌, ◌-◌, ◌≤◌}
use native.Mathlib.Omega.{arith}
use lib.ListN.{take, drop}
use Rattle.bits.specs.Bits.{bits, select}
use Rattle.bits.specs.Laws.Bytes.{length_bits}
use Rattle.bits.proofs.Passes.{sought_start, nth_more, nth_found, nth_none}
use Rattle.bits.proofs.spans.nth_from.Goals as goal
use Rattle.bits.proofs.spans.nth_from.Goals.{After-nth_in_word}

abbrev string : After-nth_in_word → List Bool
string c =
    let a = c.args in
    take a.places (drop a.start (bits a.bytes.now))

abbrev to : After-nth_in_word → ℕ
to c = c.loop-at.at + c.part_from-part.result.width + c.nth_in_word.result

found : (c : After-nth_in_word)
    → (64 ≤ to c) × (c.args.start ≤ to c - 64)
    × (to c - 64 - c.args.start ≡ select (string c) c.args.k)
found c =
    let a = c.args in
    let l = length_bits a.bytes.now in
    let inv = c.loop-at.invariant in
    let p = c.nth_in_word in
    nth_found a.places inv (omega arith) c.part_from-part.ensures p.result (omega arith) (omega arith)
    p.ensures.0

pub loop-at-init : goal.loop-at-init
loop-at-init c =
    let a = c.args in
    sought_start (bits a.bytes.now) a.start (a.start + a.places) a.k (omega arith) c.requires.0

pub overflow_sub-result : goal.overflow_sub-result
overflow_sub-result c = (found (goal.at.overflow_sub-result c).After-nth_in_word).0

pub overflow_sub-result-then-left-c : goal.overflow_sub-result-then-left-c
overflow_sub-result-then-left-c c = (found (goal.at.overflow_sub-result-then-left-c c).After-nth_in_word).1

pub returns-then-left-c : goal.returns-then-left-c
returns-then-left-c c = (found (goal.at.returns-then-left-c c).After-nth_in_word).2

pub loop-at-preserved : goal.loop-at-preserved
loop-at-preserved c =
    let inv = c.loop-at.invariant in
    let part = c.part_from-part.ensures in
    nth_more c.args.places inv (omega arith) part _ refl c.if-left-c.false

pub returns : goal.returns
returns c = nth_none c.args.places c.loop-at.invariant (omega arith)
