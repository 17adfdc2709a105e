-- `reverse::match_place` meets its contract: the part of the vertex at p has u next.
use mathlib.Core.Path.{refl, sym, ◌∙◌}
use native.Mathlib.Omega.{arith}
use Rattle.adjacency.specs.Tally.{yea, nay}
use Rattle.adjacency.proofs.Laws.Turned.{turned_place, next_place, turned_more}
use Rattle.adjacency.proofs.Laws.Reversed.{read_on}
use Rattle.adjacency.proofs.Laws.Orderly.{next_is}
use Rattle.adjacency.proofs.reverse.match_place.Goals as goal

pub get-w-requires : goal.get-w-requires
get-w-requires c =
    turned_place c.requires.0 c.requires.1

pub get-q-requires : goal.get-q-requires
get-q-requires c =
    let (t, h) = c.requires in
    let r = c.args.parts.now.reversed in
    omega (arith, (read_on t h r c.get-w.ensures.0 refl).inside, t.cells)

pub get-requires : goal.get-requires
get-requires c =
    let (t, h) = c.requires in
    let r = c.args.parts.now.reversed in
    let o = read_on t h r c.get-w.ensures.0 c.get-q.ensures.0 in
    (next_place t c.get-w.result o.inside c.get-q.ensures.0 o.free).1

pub returns-then-get-u : goal.returns-then-get-u
returns-then-get-u c =
    let (t, h) = c.requires in
    let r = c.args.parts.now.reversed in
    let o = read_on t h r c.get-w.ensures.0 c.get-q.ensures.0 in
    nay (λ y. c.if-get-u.true (c.get.ensures.0
    ∙ next_is t y h c.get-w.ensures.0 o.inside c.get-q.ensures.0 o.free))

pub put-requires : goal.put-requires
put-requires c =
    let (t, h) = c.requires in
    let r = c.args.parts.now.reversed in
    let o = read_on t h r c.get-w.ensures.0 c.get-q.ensures.0 in
    let m = next_place t c.get-w.result o.inside c.get-q.ensures.0 o.free in
    let s = t.cells in
    (omega arith, omega arith)

pub returns : goal.returns
returns c =
    let (t, h) = c.requires in
    let r = c.args.parts.now.reversed in
    let o = read_on t h r c.get-w.ensures.0 c.get-q.ensures.0 in
    yea (turned_more t c.get-w.result o.inside c.get-q.ensures.0 o.free h
    c.get-w.ensures.0 (sym c.get.ensures.0 ∙ c.if-get-u.false) c.put.ensures)
