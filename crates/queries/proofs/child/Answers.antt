-- `child` meets its contract: order Q first, then 13, and then the view.
use mathlib.Core.List.{[], ◌∷◌}
use mathlib.Core.Path.{sym, ◌∙◌}
use Prim.Native.Nat.{◌-◌}
use Rattle.record.specs.Answers.{tried_then}
use Rattle.record.specs.Laws.Told.{exit_told}
use Rattle.queries.specs.Operations.{no_child, child_rules, child}
use Rattle.queries.specs.Queries.{child_of, past_count}
use Rattle.queries.specs.View.{View}
use Rattle.queries.specs.Laws.Asked.{order_numbered_q}
use Rattle.queries.proofs.Laws.Asking.{query_refused, query_ranged, query_answered, then_append}
use Rattle.queries.proofs.child.Goals as goal

pub returns-in_err-i : goal.returns-in_err-i
unfolding child child_rules
returns-in_err-i c =
    let bytes = c.args.bytes.now in
    let index = c.args.index.now in
    exit_told _ _ _ c.from_residual.ensures.1
    ∙ query_refused bytes index c.args.v.0 _ c.in_err-i.ensures
    ∙ sym (then_append (order_numbered_q bytes index c.args.v.0) _ _)

pub child_in-requires : goal.child_in-requires
child_in-requires c = query_ranged c.args.bytes.now c.args.index.now c.args.v.0 c.in_ok-i.i c.in_ok-i.ensures

pub returns : goal.returns
unfolding child child_rules no_child
returns c =
    let bytes = c.args.bytes.now in
    let index = c.args.index.now in
    let u = c.args.v.0 - 1 in
    let j = c.args.j in
    query_answered bytes index c.args.v.0 c.in_ok-i.i c.in_ok-i.ensures
    (λ (w : View). tried_then ((13, past_count w u j) ∷ []) (child_of w u j)) c.child_in.ensures
    ∙ sym (then_append (order_numbered_q bytes index c.args.v.0) _ _)
