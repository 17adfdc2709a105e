-- `climbs::climb_head` meets its contract: what is left of the climb answers as the whole does.
use mathlib.Core.Logic.{inl}
use mathlib.Core.Path.{◌≡◌, sym, ap, ◌∙◌}
use Prim.Native.Nat.{ℕ}
use native.Mathlib.Numerals.{add-one}
use native.Mathlib.Omega.{arith}
use Rattle.std.specs.Prelude.{Ok}
use Rattle.record.specs.Answers.{Answer, refused, answered}
use Rattle.record.specs.Laws.Sounded.{sound_vertices}
use Rattle.record.specs.Laws.Told.{exit_told}
use Rattle.queries.specs.Queries.{head_next, head_of}
use Rattle.queries.specs.Seen.{seen}
use Rattle.queries.specs.Steps.{move_of}
use Rattle.queries.proofs.Laws.Climbing.{climb_stop, climb_on, climb_late, head_inside, head_begin}
use Rattle.queries.proofs.climbs.climb_head.Goals as goal
use Rattle.queries.proofs.climbs.climb_head.Goals.{After-head_move}

pub loop-init : goal.loop-init
loop-init c =
    let i = c.args.a.now.indexed in
    (c.requires, head_begin i.layout.sound i.index.now c.args.v c.requires)

-- the climb ends with this step
stop : (c : After-head_move) {a : Answer ℕ} → let w = seen c.args.a.now.indexed in
    inl a ≡ head_next w c.loop.u → a ≡ head_of w c.args.v
stop c =
    let i = c.args.a.now.indexed in
    let l = c.loop in
    climb_stop (head_next (seen i)) (refused 12) i.layout.n l.counter l.u l.invariant.1 c.loop-test.true

pub returns-in_err-head_move : goal.returns-in_err-head_move
returns-in_err-head_move c =
    exit_told _ _ _ c.from_residual.ensures.1
    ∙ stop (goal.at.returns-in_err-head_move c).After-head_move c.in_err-head_move.ensures

pub returns-in-None : goal.returns-in-None
returns-in-None c =
    let e = sym (ap (move_of c.loop.u) (c.in_ok-head_move.was ∙ ap Ok c.in-None.is)) ∙ c.head_move.ensures in
    ap answered (add-one c.loop.u) ∙ stop (goal.at.returns-in-None c).After-head_move e

pub loop-preserved : goal.loop-preserved
loop-preserved c =
    let i = c.args.a.now.indexed in
    let e = sym (ap (move_of c.loop.u) (c.in_ok-head_move.was ∙ ap Ok c.in-Some.is)) ∙ c.head_move.ensures in (
      omega (arith, head_inside (seen i) c.loop.u e, sound_vertices i.layout.sound),
      climb_on (head_next (seen i)) (refused 12) i.layout.n c.loop.counter c.loop.u c.loop.invariant.1
          c.loop-test.true e,
    )

pub returns : goal.returns
returns c =
    let i = c.args.a.now.indexed in
    let l = c.loop in
    climb_late (head_next (seen i)) (refused 12) i.layout.n l.counter l.u l.invariant.1 c.loop-test.false
