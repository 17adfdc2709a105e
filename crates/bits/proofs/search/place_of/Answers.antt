-- `search::place_of` meets its contract: the bytes passed have fewer ones than are looked for.
use mathlib.Core.Path.{◌∙◌, sym, refl}
use native.Mathlib.Omega.{arith}
use Rattle.bits.proofs.Joined.{byte_in}
use Rattle.bits.proofs.Found.{passed_byte, found_bounds, found_within, missing}
use Rattle.bits.proofs.search.place_of.Goals as goal

pub within-requires : goal.within-requires
within-requires c =
    let byte = byte_in c.loop-at.at (λ i. (c.type_inv.bytes i).fits) c.loop-at-test.true in
    found_bounds byte c.loop-at.invariant (omega arith) c.in_byte.ensures

pub returns-then-left-c : goal.returns-then-left-c
returns-then-left-c c =
    let byte = byte_in c.loop-at.at (λ i. (c.type_inv.bytes i).fits) c.loop-at-test.true in
    c.within.ensures ∙ found_within byte c.loop-at.invariant (omega arith) c.in_byte.ensures c.args.limit

pub loop-at-preserved : goal.loop-at-preserved
loop-at-preserved c =
    let byte = byte_in c.loop-at.at (λ i. (c.type_inv.bytes i).fits) c.loop-at-test.true in
    passed_byte byte c.loop-at.invariant _ refl c.if-left-c.false

pub returns : goal.returns
returns c =
    let a = c.args in
    sym (missing a.bytes.now a.limit c.loop-at.invariant c.loop-at-test.false)
