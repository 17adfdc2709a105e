-- `reverse::turn_place` meets its contract: the part of the neighbour at p has u in it.
use mathlib.Core.Path.{sym, ◌∙◌}
use native.Mathlib.Omega.{arith}
use Rattle.adjacency.specs.Tally.{yea, nay}
use Rattle.adjacency.proofs.Laws.Turned.{turned_place, next_place, turning_more}
use Rattle.adjacency.proofs.Laws.Orderly.{no_vertex, no_own, full_refused}
use Rattle.adjacency.proofs.reverse.turn_place.Goals as goal

pub get-v-requires : goal.get-v-requires
get-v-requires c =
    turned_place c.requires.0.turned c.requires.1

pub returns-then-lists-v : goal.returns-then-lists-v
returns-then-lists-v c =
    nay (λ k. no_vertex c.args.lists.now.divided c.requires.1 c.get-v.ensures.0 k c.if-lists-v.true)

pub returns-then-v-u : goal.returns-then-v-u
returns-then-v-u c =
    nay (λ k. no_own c.args.lists.now.divided c.requires.1 c.get-v.ensures.0 k c.if-v-u.true)

pub returns-then-q-get : goal.returns-then-q-get
returns-then-q-get c =
    nay (λ k. full_refused c.requires.0.turned c.requires.1 c.get-v.ensures.0 (omega arith) k
    c.get-q.ensures.0 (c.if-q-get.true ∙ c.get.ensures.0))

pub put-requires : goal.put-requires
put-requires c =
    let k = c.requires.1.inside in
    let l = c.args.lists.now.divided.few_blocks in
    let m = next_place c.requires.0.turned c.get-v.result (omega arith) c.get-q.ensures.0
    (λ e. c.if-q-get.false (e ∙ sym c.get.ensures.0)) in
    (m.1, omega arith)

pub returns : goal.returns
returns c =
    yea (turning_more c.requires.0 c.requires.1 c.get-v.ensures.0 (omega arith) c.if-v-u.false
    c.get-q.ensures.0 (λ e. c.if-q-get.false (e ∙ sym c.get.ensures.0))
    c.put.ensures c.put-2.ensures)
