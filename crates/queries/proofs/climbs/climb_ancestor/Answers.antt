-- `climbs::climb_ancestor` meets its contract: what is left of the climb answers as the whole does.
use mathlib.Core.Bool.{Bool}
use mathlib.Core.Logic.{inl}
use mathlib.Core.Path.{◌≡◌, sym, ap, ◌∙◌}
use native.Mathlib.Omega.{arith}
use Rattle.std.specs.Prelude.{Ok}
use Rattle.record.specs.Answers.{Answer, refused}
use Rattle.record.specs.Laws.Sounded.{sound_vertices}
use Rattle.record.specs.Laws.Told.{exit_told}
use Rattle.queries.specs.Queries.{ancestor_next, ancestor_of}
use Rattle.queries.specs.Seen.{seen}
use Rattle.queries.specs.Steps.{turn_of}
use Rattle.queries.proofs.Laws.Climbing.{climb_stop, climb_on, climb_late, ancestor_inside, ancestor_begin}
use Rattle.queries.proofs.climbs.climb_ancestor.Goals as goal
use Rattle.queries.proofs.climbs.climb_ancestor.Goals.{After-ancestor_turn}

pub loop-init : goal.loop-init
loop-init c =
    let i = c.args.a.now.indexed in
    (c.requires, ancestor_begin i.layout.sound i.index.now c.args.v c.requires c.args.x)

-- the climb ends with this step
stop : (c : After-ancestor_turn) {a : Answer Bool} → let w = seen c.args.a.now.indexed in
    inl a ≡ ancestor_next w c.args.x c.loop.u → a ≡ ancestor_of w c.args.x c.args.v
stop c =
    let i = c.args.a.now.indexed in
    let l = c.loop in
    climb_stop (ancestor_next (seen i) c.args.x) (refused 12) i.layout.n l.counter l.u l.invariant.1 c.loop-test.true

pub returns-in_err-answer : goal.returns-in_err-answer
returns-in_err-answer c =
    exit_told _ _ _ c.from_residual.ensures.1
    ∙ stop (goal.at.returns-in_err-answer c).After-ancestor_turn c.in_err-answer.ensures

pub returns-in-Break : goal.returns-in-Break
returns-in-Break c =
    let e = sym (ap turn_of (c.in_ok-answer.was ∙ ap Ok c.in-Break.is)) ∙ c.ancestor_turn.ensures in
    stop (goal.at.returns-in-Break c).After-ancestor_turn e

pub loop-preserved : goal.loop-preserved
loop-preserved c =
    let i = c.args.a.now.indexed in
    let e = sym (ap turn_of (c.in_ok-answer.was ∙ ap Ok c.in-Continue.is)) ∙ c.ancestor_turn.ensures in (
      omega (arith, ancestor_inside (seen i) c.args.x c.loop.u e, sound_vertices i.layout.sound),
      climb_on (ancestor_next (seen i) c.args.x) (refused 12) i.layout.n c.loop.counter c.loop.u c.loop.invariant.1
          c.loop-test.true e,
    )

pub returns : goal.returns
returns c =
    let i = c.args.a.now.indexed in
    let l = c.loop in
    climb_late (ancestor_next (seen i) c.args.x) (refused 12) i.layout.n l.counter l.u l.invariant.1 c.loop-test.false
