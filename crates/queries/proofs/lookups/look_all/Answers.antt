-- `lookups::look_all` meets its contract: the terminals before cell i are answered.
use mathlib.Core.Path.{◌≡◌, ap, ◌∙◌}
use native.Mathlib.Omega.{arith}
use lib.ListN.{get_or}
use Rattle.std.specs.Prelude.{Ok}
use Rattle.std.proofs.lemmas.Result.{err_from_is_err_and}
use Rattle.queries.specs.Lookup.{head_and_visit}
use Rattle.queries.specs.Looking.{looked_of}
use Rattle.queries.proofs.Laws.Looking.{both_near, looking_begins, looking_heads}
use Rattle.queries.proofs.Laws.Looking.{looking_visits, looking_stops, looking_on, looking_ends}
use Rattle.queries.proofs.lookups.look_all.Goals as goal
use Rattle.queries.proofs.lookups.look_all.Goals.{In_ok-s}

-- what is found of the terminal at hand
told : (c : In_ok-s) → let i = c.args.a.now.indexed in
    looked_of (Ok c.in_ok-s.s) ≡ head_and_visit i.layout.bytes.now i.index.now (get_or c.args.list.now c.loop-i.i 0)
told c =
    let i = c.args.a.now.indexed in
    c.in_ok-s.ensures.0 ∙ ap (head_and_visit i.layout.bytes.now i.index.now) c.from.ensures

pub loop-i-init : goal.loop-i-init
loop-i-init c =
    let i = c.args.a.now.indexed in (
      c.requires.0,
      c.requires.1,
      looking_begins i.layout.bytes.now i.index.now c.args.list.now c.requires.2 c.requires.3,
    )

pub returns-in_err-s : goal.returns-in_err-s
returns-in_err-s c =
    let i = c.args.a.now.indexed in
    let p = err_from_is_err_and c.from_residual.result c.from_residual.ensures.1 in
    let d =
    looking_stops i.layout.bytes.now i.index.now c.args.list.now c.loop-i.invariant.2 c.loop-i-test.true
    c.in_err-s.field-0.0 (c.in_err-s.ensures.0 ∙ ap (head_and_visit i.layout.bytes.now i.index.now) c.from.ensures) in
    rw (p.1, p.2) d

pub put-requires : goal.put-requires
put-requires c =
    let i = c.args.a.now.indexed in
    let near = both_near i.layout.bytes.now i.index.now _ (told (goal.at.put-requires c).In_ok-s) in
    let size = looking_heads i.layout.bytes.now i.index.now c.args.list.now c.loop-i.invariant.2 in
    (omega (arith, c.loop-i-test.true, size), near.0)

pub put-requires-in-loop-i : goal.put-requires-in-loop-i
put-requires-in-loop-i c =
    let i = c.args.a.now.indexed in
    let near = both_near i.layout.bytes.now i.index.now _ (told (goal.at.put-requires-in-loop-i c).In_ok-s) in
    let size = looking_visits i.layout.bytes.now i.index.now c.args.list.now c.loop-i.invariant.2 in
    (omega (arith, c.loop-i-test.true, size), near.1)

pub loop-i-preserved : goal.loop-i-preserved
loop-i-preserved c =
    let i = c.args.a.now.indexed in (
      c.look.ensures.1,
      c.look.auto.way ∙ c.loop-i.invariant.1,
      looking_on i.layout.bytes.now i.index.now c.args.list.now c.loop-i.invariant.2 c.loop-i-test.true
          (told (goal.at.loop-i-preserved c).In_ok-s) c.put.ensures c.put-in-loop-i.ensures,
    )

pub returns : goal.returns
returns c =
    let i = c.args.a.now.indexed in
    looking_ends i.layout.bytes.now i.index.now c.args.list.now c.loop-i.invariant.2 c.loop-i-test.false
