-- `spans::span_from` meets its contract: the one in its word, and the next, in the same word or later.
use mathlib.Core.Path.{◌≡◌}
use Prim.Native.Nat.{ℕ, ◌+◌, ◌-◌, ◌*◌, ◌%◌, ◌^◌, ◌≤◌, ◌<◌}
use native.Mathlib.Omega.{arith}
use lib.Bits.{bit_and}
use Rattle.bits.specs.Bits.{bits}
use Rattle.bits.specs.Laws.Bytes.{length_bits}
use Rattle.bits.specs.Laws.Spans.{between_count}
use Rattle.bits.proofs.Joined.{masked}
use Rattle.bits.proofs.Windows.{Standing, span_bounds, span_top, span_here, span_beyond}
use Rattle.bits.proofs.spans.span_from.Goals as goal
use Rattle.bits.proofs.spans.span_from.Goals.{After-in_word-left, After-top}

-- the one in its word
standing : (c : After-in_word-left)
    → Standing (bits c.args.bytes.now) c.args.start c.args.places c.args.k
    c.window_of-w.result.from c.window_of-w.result.width c.window_of-w.result.bits
    c.window_of-w.result.left c.in_word-left.result
standing c =
    let l = length_bits c.args.bytes.now in
    let pre = c.requires in
    record { held = omega arith; window = c.window_of-w.ensures; place = c.in_word-left.ensures.0 }

-- the bits after it
rest : (c : After-in_word-left)
    → bit_and c.window_of-w.result.bits (1 * 2 ^ (64 - c.in_word-left.result) % 2 ^ 64 - 1)
    ≡ c.window_of-w.result.bits % 2 ^ (64 - c.in_word-left.result)
rest c = masked c.window_of-w.result.bits (64 - c.in_word-left.result) (omega arith)

abbrev end : After-top → ℕ
end c = c.window_of-w.result.from + c.window_of-w.result.width

next : (c : After-top)
    → (c.top.result < end c) × (c.args.start ≤ end c - 1 - c.top.result)
next c =
    let a = c.args in
    let w = c.window_of-w.result in
    let left = 64 - c.in_word-left.result in
    let stands : Standing (bits a.bytes.now) a.start a.places a.k w.from w.width w.bits w.left c.in_word-left.result =
    let l = length_bits a.bytes.now in
    let pre = c.requires in
    record { held = omega arith; window = c.window_of-w.ensures; place = c.in_word-left.ensures.0 } in
    let cut : bit_and w.bits (1 * 2 ^ left % 2 ^ 64 - 1) ≡ w.bits % 2 ^ left = masked w.bits left (omega arith) in
    span_top stands c.top.result cut c.top.ensures.1 c.top.ensures.2

pub window_of-w-requires : goal.window_of-w-requires
window_of-w-requires c =
    let a = c.args in
    let e = between_count (bits a.bytes.now) a.start a.places in
    omega arith

pub overflow_sub-from : goal.overflow_sub-from
overflow_sub-from c = let b = span_bounds (standing (goal.at.overflow_sub-from c).After-in_word-left) in omega arith

pub overflow_sub-from-2 : goal.overflow_sub-from-2
overflow_sub-from-2 c = let b = span_bounds (standing (goal.at.overflow_sub-from-2 c).After-in_word-left) in omega arith

pub overflow_sub-result : goal.overflow_sub-result
overflow_sub-result c = let b = span_bounds (standing (goal.at.overflow_sub-result c).After-in_word-left) in omega arith

pub overflow_sub-result-then-rest-ne0 : goal.overflow_sub-result-then-rest-ne0
overflow_sub-result-then-rest-ne0 c =
    let b = next (goal.at.overflow_sub-result-then-rest-ne0 c).After-top in
    omega arith

pub overflow_sub-result-then-rest-ne0-2 : goal.overflow_sub-result-then-rest-ne0-2
overflow_sub-result-then-rest-ne0-2 c =
    let b = next (goal.at.overflow_sub-result-then-rest-ne0-2 c).After-top in
    omega arith

pub returns-then-rest-ne0 : goal.returns-then-rest-ne0
returns-then-rest-ne0 c =
    let at = (goal.at.returns-then-rest-ne0 c).After-in_word-left in
    span_here (standing at) c.top.result (rest at) c.top.ensures.1 c.top.ensures.2

pub returns : goal.returns
returns c =
    let at = (goal.at.returns c).After-in_word-left in
    span_beyond (standing at) (rest at) c.if-rest-ne0.false c.next_from.ensures
