-- `blocks::part_in` meets its contract: the part between two starts.
use mathlib.Core.Bool.{false}
use mathlib.Core.Path.{◌≡◌, refl, sym, ◌∙◌}
use native.Mathlib.Omega.{arith}
use Prim.Native.Nat.{◌-◌, ◌≤◌, ◌<◌}
use lib.ListN.{length}
use Rattle.graph.specs.Graph.{block}
use Rattle.record.specs.Record.{blocks}
use Rattle.record.specs.Operations.{out_of_range, degree}
use Rattle.record.specs.Laws.Range.{range_inside}
use Rattle.record.specs.Laws.Told.{told}
use Rattle.record.specs.Laws.OneBlock.{outside, places_rise, degree_spanned, part_spanned}
use Rattle.record.proofs.blocks.part_in.Goals as goal
use Rattle.record.proofs.blocks.part_in.Goals.{Else-out_of_range}

inside : (c : Else-out_of_range) → out_of_range c.args.l.now.n c.args.v.0 ≡ false
inside c = sym c.out_of_range.ensures ∙ c.if-out_of_range.false

upto : (c : Else-out_of_range) → (0 < c.args.v.0) × (c.args.v.0 ≤ c.args.l.now.n)
upto c = range_inside c.args.l.now.n c.args.v.0 (inside c)

pub returns-then-out_of_range-clause-degree : goal.returns-then-out_of_range-clause-degree
unfolding degree
returns-then-out_of_range-clause-degree c =
    let l = c.args.l.now in
    told (length (block (blocks l.bytes.now) (c.args.v.0 - 1)))
    (outside l.sound c.args.v.0 (sym c.out_of_range.ensures ∙ c.if-out_of_range.true))

pub overflow_sub-t : goal.overflow_sub-t
overflow_sub-t c = let z = (upto (goal.at.overflow_sub-t c).Else-out_of_range).0 in omega arith

pub span_of-s-requires : goal.span_of-s-requires
span_of-s-requires c = let (z, u) = upto (goal.at.span_of-s-requires c).Else-out_of_range in omega arith

pub returns-clause-degree : goal.returns-clause-degree
returns-clause-degree c =
    let (f, t) = c.span_of-s.ensures in
    degree_spanned c.args.l.now.sound c.args.v.0 (inside (goal.at.returns-clause-degree c).Else-out_of_range) f t

pub returns-clause-part : goal.returns-clause-part
returns-clause-part c =
    let (f, t) = c.span_of-s.ensures in
    part_spanned c.args.l.now.sound c.args.v.0 (inside (goal.at.returns-clause-part c).Else-out_of_range) f t refl

pub overflow_sub-result-2 : goal.overflow_sub-result-2
overflow_sub-result-2 c =
    let (f, t) = c.span_of-s.ensures in
    (places_rise c.args.l.now.sound c.args.v.0 (inside (goal.at.overflow_sub-result-2 c).Else-out_of_range) f t).1
