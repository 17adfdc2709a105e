-- `ancestor` meets its contract: order Q for the first terminal, then 11 for the second, and then the view.
use mathlib.Core.Path.{sym, ◌∙◌}
use Rattle.record.specs.Laws.Told.{exit_told}
use Rattle.queries.specs.Operations.{ancestor_rules, ancestor}
use Rattle.queries.specs.Laws.Asked.{order_numbered_q}
use Rattle.queries.proofs.Laws.Asking.{query_refused, query_ranged, second_outside, second_inside, then_append}
use Rattle.queries.proofs.Laws.Asking.{ranged_by}
use Rattle.queries.proofs.ancestor.Goals as goal

pub returns-in_err-i : goal.returns-in_err-i
unfolding ancestor ancestor_rules
returns-in_err-i c =
    let bytes = c.args.bytes.now in
    let index = c.args.index.now in
    exit_told _ _ _ c.from_residual.ensures.1
    ∙ query_refused bytes index c.args.u.0 _ c.in_err-i.ensures
    ∙ sym (then_append (order_numbered_q bytes index c.args.u.0) _ _)

pub returns-then-out_of_range : goal.returns-then-out_of_range
returns-then-out_of_range c =
    let args = c.args in
    second_outside args.bytes.now args.index.now args.u.0 args.v.0 c.in_ok-i.i c.in_ok-i.ensures
    (sym c.out_of_range.ensures) c.if-out_of_range.true

pub ancestor_in-requires : goal.ancestor_in-requires
ancestor_in-requires c =
    let args = c.args in (
      query_ranged args.bytes.now args.index.now args.u.0 c.in_ok-i.i c.in_ok-i.ensures,
      ranged_by c.out_of_range.ensures c.if-out_of_range.false,
    )

pub returns : goal.returns
returns c =
    let args = c.args in
    second_inside args.bytes.now args.index.now args.u.0 args.v.0 c.in_ok-i.i c.in_ok-i.ensures
    (sym c.out_of_range.ensures) c.if-out_of_range.false c.ancestor_in.ensures
