-- `strays::stray_in` meets its contract: the slice is the block.
use mathlib.Core.Path.{ap, ap₂, ◌∙◌, sym}
use mathlib.Core.Bool.{◌||◌}
use native.Mathlib.Omega.{arith}
use Rattle.std.proofs.Common.{ℕ, ◌+◌, ◌-◌, leb, eqb, length, take, drop, rules, tests}
use Rattle.std.proofs.lemmas.Iterator.{YieldsList-from_slice}
use Rattle.std.proofs.lemmas.Iterator.Search.{any_from_yields_List}
use Rattle.adjacency.specs.Arrays.{cut}
use Rattle.adjacency.specs.Places.{any_in, stray}
use Rattle.adjacency.specs.Laws.Rows.{cut_block, starts_fit}
use Rattle.adjacency.proofs.Laws.Strays.{stray_any}
use Rattle.adjacency.proofs.strays.stray_in.Goals as goal

pub slice_bounds-iter-end : goal.slice_bounds-iter-end
slice_bounds-iter-end c =
    let l = c.args.lists.now in
    let f = starts_fit l.divided (c.args.u + 1) c.requires in
    omega arith

pub returns : goal.returns
returns c =
    let l = c.args.lists.now in
    any_from_yields_List (λ (v : ℕ). leb (length l.starts.now - 1) v || eqb v c.args.u) _ _ c.any.result
    c.any.ensures.ran (YieldsList-from_slice _ c.iter.ensures.rest) (λ x b q k. search (rules, tests))
    ∙ stray_any l.starts.now l.nbrs.now _ c.args.u
    ∙ ap (any_in (stray (cut l.starts.now l.nbrs.now) c.args.u))
    (ap₂ (λ (x y : ℕ). take (x - y) (drop y l.nbrs.now)) c.get-end.ensures.0 c.get-from.ensures.0
    ∙ sym (cut_block l.starts.now l.nbrs.now c.args.u c.requires))
