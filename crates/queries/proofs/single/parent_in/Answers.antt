-- `single::parent_in` meets its contract: the step up, told as a parent.
use mathlib.Core.Option.{some}
use Prim.Native.Nat.{ℕ}
use mathlib.Core.Path.{ap, ◌∙◌}
use native.Mathlib.Omega.{arith}
use native.Mathlib.Numerals.{add-one}
use Rattle.record.specs.Answers.{refused, answered}
use Rattle.record.specs.Laws.Told.{exit_told}
use Rattle.queries.specs.Laws.Asked.{vertex_in}
use Rattle.queries.specs.Laws.Framed.{length_p}
use Rattle.queries.specs.Queries.{parent_by, parent_of}
use Rattle.queries.specs.View.{section_of}
use Rattle.queries.proofs.Laws.Climbing.{refused_told, top_read, rise_read, rise_to}
use Rattle.queries.proofs.single.parent_in.Goals as goal

pub returns-in_err-step_up : goal.returns-in_err-step_up
unfolding parent_of
returns-in_err-step_up c =
    let (k, s) = refused_told _ c.in_err-step_up.ensures in
    exit_told _ _ _ c.from_residual.ensures.1 ∙ ap refused k ∙ ap parent_by s

pub overflow_add-result : goal.overflow_add-result
overflow_add-result c =
    let i = c.args.i.now in
    let f = c.fields_of-s.ensures in
    let s = section_of i.layout.n i.layout.m i.index.now 1 in
    let to = rise_to i.layout.sound (vertex_in c.requires) f.from f.to s (length_p i.framed)
    (rise_read c.in_ok-step_up.was c.step_up.ensures c.in-Some.is) in
    omega (arith, to, i.framed.n_fits)

pub returns-in-None : goal.returns-in-None
unfolding parent_of
returns-in-None c = ap parent_by (top_read c.in_ok-step_up.was c.step_up.ensures c.in-None.is)

pub returns-in-Some : goal.returns-in-Some
unfolding parent_of
returns-in-Some c =
    ap (λ (p : ℕ). answered (some p)) (add-one c.in-Some.rise.to)
    ∙ ap parent_by (rise_read c.in_ok-step_up.was c.step_up.ensures c.in-Some.is)
