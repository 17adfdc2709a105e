-- `known::find_head` meets its contract: the heads that are known stay so, and those on the way get the head of where
-- it leads.
use mathlib.Core.Path.{sym, ap, ◌∙◌}
use mathlib.Core.Logic.{inl}
use Prim.Native.Nat.{ℕ, ◌+◌}
use native.Mathlib.Numerals.{add-one}
use native.Mathlib.Omega.{arith}
use Rattle.std.specs.Prelude.{Ok}
use Rattle.std.proofs.lemmas.Result.{err_from_is_err_and}
use Rattle.record.specs.Answers.{answered}
use Rattle.record.specs.Laws.Sounded.{sound_vertices}
use Rattle.queries.specs.Seen.{seen}
use Rattle.queries.specs.Steps.{move_of}
use Rattle.queries.proofs.Laws.Climbing.{beside, head_inside}
use Rattle.queries.proofs.Laws.Knowing.{head_here, WayTo, way_put, way_head, way_kept}
use Rattle.queries.proofs.Laws.Knowing.{climbed_begins, climbed_known, climbed_stops, climbed_on}
use Rattle.queries.proofs.known.find_head.Goals as goal
use Rattle.queries.proofs.known.find_head.Goals.{After-put}

-- with the vertex at hand, too
along : (c : After-put) → let i = c.args.a.now.indexed in
    WayTo (seen i) i.layout.n c.args.v c.put.new.cells (c.loop-k.k + 1) c.loop-k.u
along c = way_put c.loop-k.invariant.along c.loop-k-test.true c.put.ensures

pub loop-k-init : goal.loop-k-init
loop-k-init c = climbed_begins (beside c.args.a.now.indexed) c.requires.0 c.requires.1 c.requires.2

pub returns-then-h-gt0 : goal.returns-then-h-gt0
returns-then-h-gt0 c =
    let is = climbed_known c.loop-k.invariant c.get-h.ensures.0 c.if-h-gt0.true in (
      way_head c.loop-k.invariant.along is (sound_vertices c.args.a.now.indexed.layout.sound) c.requires.2,
      way_kept c.loop-k.invariant.along is c.loop-k.invariant.heads c.keep.ensures,
    )

pub returns-in_err-head_move : goal.returns-in_err-head_move
returns-in_err-head_move c =
    let p = err_from_is_err_and c.from_residual.result c.from_residual.ensures.1 in
    let d = climbed_stops c.loop-k.invariant c.loop-k-test.true c.in_err-head_move.ensures in
    rw (p.1, p.2) (d, c.loop-k.invariant.heads)

pub returns-in-None : goal.returns-in-None
returns-in-None c =
    let e = sym (ap (move_of c.loop-k.u) (c.in_ok-head_move.was ∙ ap Ok c.in-None.is)) ∙ c.head_move.ensures in
    let is = head_here (ap (λ (x : ℕ). inl (answered x)) (add-one c.loop-k.u) ∙ e) in
    let y = along (goal.at.returns-in-None c).After-put in (
      way_head y is (sound_vertices c.args.a.now.indexed.layout.sound) c.requires.2,
      way_kept y is c.loop-k.invariant.heads c.keep-in-None.ensures,
    )

pub loop-k-preserved : goal.loop-k-preserved
loop-k-preserved c =
    let i = c.args.a.now.indexed in
    let e = sym (ap (move_of c.loop-k.u) (c.in_ok-head_move.was ∙ ap Ok c.in-Some.is)) ∙ c.head_move.ensures in
    climbed_on c.loop-k.invariant c.loop-k-test.true c.put.ensures e
    (omega (arith, head_inside (seen i) c.loop-k.u e, sound_vertices i.layout.sound))
