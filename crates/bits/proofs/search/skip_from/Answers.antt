-- `search::skip_from` meets its contract: the words passed have fewer ones than are left to go.
use mathlib.Core.Path.{◌≡◌}
use Prim.Native.Nat.{◌+◌, ◌-◌, ◌*◌, ◌/◌}
use native.Mathlib.Omega.{arith}
use lib.ListN.{length}
use Rattle.bits.specs.Bits.{bits}
use Rattle.bits.specs.Laws.Spans.{between_count}
use Rattle.bits.proofs.Passes.{sought_start, sought_more, skip_ones}
use Rattle.bits.proofs.search.skip_from.Goals as goal

pub loop-i-init : goal.loop-i-init
loop-i-init c =
    let a = c.args in
    let bytes = a.bytes.now in
    let e : a.first + 8 * 0 ≡ a.first = omega arith in
    rw e (sought_start (bits bytes) (8 * a.first) (8 * length bytes) a.k (omega arith) c.requires.1)

pub returns-then-left-c : goal.returns-then-left-c
returns-then-left-c c =
    let l = c.loop-i in
    let at = c.args.first + 8 * l.i in
    let e = c.word_ones-c.ensures.0 in
    let z = between_count (bits c.args.bytes.now) (8 * at) 64 in
    record { sought = l.invariant; full = λ h. omega arith }

pub loop-i-preserved : goal.loop-i-preserved
loop-i-preserved c =
    let bytes = c.args.bytes.now in
    let l = c.loop-i in
    let at = c.args.first + 8 * l.i in
    let w = c.word_ones-c in
    let more = skip_ones (bits bytes) at w.ensures.0 in
    let e : c.args.first + 8 * (l.i + 1) ≡ at + 8 = omega arith in
    rw e (sought_more w.result (8 * (at + 8)) l.invariant (omega arith) (omega arith) more c.if-left-c.false)

pub returns : goal.returns
returns c =
    let a = c.args in
    let e : (length a.bytes.now - a.first) / 8 ≡ c.loop-i.i = omega arith in
    record { sought = rw e c.loop-i.invariant; full = λ h. absurd (omega arith) }
