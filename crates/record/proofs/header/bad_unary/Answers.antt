-- `header::bad_unary` meets its contract: the ones of D, and its first bit.
use mathlib.Core.Bool.{not}
use mathlib.Core.Path.{◌∙◌, ap}
use native.Mathlib.Omega.{arith}
use borrow.Author.Tests.{eq-eqb, ne_eqb}
use Rattle.record.specs.Record.{used_bits}
use Rattle.record.proofs.Laws.Reading.Headers.{holds_all, ones_differ, no_first, first_is}
use Rattle.record.proofs.header.bad_unary.Goals as goal

pub returns-then-rank-n : goal.returns-then-rank-n
returns-then-rank-n c =
    ap not (ne_eqb _ _ c.if-rank-n.true) ∙ ones_differ c.requires c.rank.ensures c.if-rank-n.true

pub returns-else-places-ne0 : goal.returns-else-places-ne0
returns-else-places-ne0 c =
    ap not (eq-eqb _ _ c.if-places-ne0.false)
    ∙ no_first c.requires c.rank.ensures c.if-rank-n.false c.if-places-ne0.false

pub read_bit-requires : goal.read_bit-requires
unfolding used_bits
read_bit-requires c = let h = holds_all c.requires in omega arith

pub returns-then-places-ne0 : goal.returns-then-places-ne0
returns-then-places-ne0 c =
    ap not c.read_bit.ensures ∙ first_is c.requires c.rank.ensures c.if-rank-n.false (omega arith)
