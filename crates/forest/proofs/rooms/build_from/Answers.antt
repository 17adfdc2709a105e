-- `rooms::build_from` meets its contract.
use native.Mathlib.Omega.{arith}
use mathlib.Core.Path.{sym, ◌∙◌}
use Rattle.forest.specs.Laws.Taken.{taken_range, taken_inside}
use Rattle.forest.proofs.Laws.Building.{done_short, done_misfit, done_unstarted, done_empty, done_written}
use Rattle.forest.proofs.Laws.Building.{graph_asked}
use Rattle.forest.proofs.rooms.build_from.Goals as goal

pub returns-then-work-n : goal.returns-then-work-n
returns-then-work-n c =
    done_short c.requires.0 c.requires.1 c.if-work-n.true

pub returns-then-index-index_length : goal.returns-then-index-index_length
returns-then-index-index_length c =
    done_misfit c.requires.0 c.requires.1 c.if-work-n.false
    (λ e. c.if-index-index_length.true (e ∙ sym c.index_length.ensures))

pub returns-then-no_start : goal.returns-then-no_start
returns-then-no_start c =
    done_unstarted c.requires.0 c.requires.1 c.if-work-n.false
    (c.if-index-index_length.false ∙ c.index_length.ensures)
    (sym c.no_start.ensures ∙ c.if-no_start.true)

pub returns-then-n-eq0 : goal.returns-then-n-eq0
returns-then-n-eq0 c =
    done_empty c.requires.0 c.requires.1 c.if-work-n.false
    (c.if-index-index_length.false ∙ c.index_length.ensures)
    (sym c.no_start.ensures ∙ c.if-no_start.false) c.if-n-eq0.true

pub invariant_of-g : goal.invariant_of-g
invariant_of-g c =
    let (arrays, formed, sized, places) = graph_asked c.requires.0 c.requires.1 in
    record { arrays = arrays; formed = formed; sized = sized; places = places; apart = c.stride.ensures }

pub overflow_sub-start : goal.overflow_sub-start
overflow_sub-start c =
    let some = c.if-n-eq0.false in
    (taken_range c.args.l.now.n _ (sym c.no_start.ensures ∙ c.if-no_start.false) (omega arith)).0

pub write_index-requires : goal.write_index-requires
write_index-requires c =
    let some = c.if-n-eq0.false in
    let taken = sym c.no_start.ensures ∙ c.if-no_start.false in
    let first = taken_inside c.args.l.now.n c.args.start.0 taken (omega arith) in
    record { room = (first, c.if-work-n.false); size = c.if-index-index_length.false ∙ c.index_length.ensures }

pub returns : goal.returns
returns c =
    done_written c.requires.0 c.requires.1 c.if-work-n.false
    (c.if-index-index_length.false ∙ c.index_length.ensures)
    (sym c.no_start.ensures ∙ c.if-no_start.false) c.write_index.ensures
