-- `tables::some_misfit` meets its contract.
use mathlib.Core.Logic.{inl, inr}
use Rattle.queries.proofs.Laws.TableRules.{misfit_visits, misfit_parents, misfit_counts, misfit_heads}
use Rattle.queries.proofs.tables.some_misfit.Goals as goal

pub returns-then-counts-n : goal.returns-then-counts-n
returns-then-counts-n c =
    let a = c.args in
    elim c.if-counts-n.either [
      | inl d ↦ let e = misfit_visits a.n a.visits.now a.parents.now a.counts.now a.heads.now d in cc
      | inr (inl (v, d)) ↦ let e = misfit_parents a.n a.visits.now a.parents.now a.counts.now a.heads.now v d in cc
      | inr (inr (v, p, d)) ↦ let e = misfit_counts a.n a.visits.now a.parents.now a.counts.now a.heads.now v p d in cc
    ]

pub returns-else-counts-n : goal.returns-else-counts-n
returns-else-counts-n c =
    let a = c.args in
    let (v, p, k) = c.if-counts-n.false in
    misfit_heads a.n a.visits.now a.parents.now a.counts.now a.heads.now v p k
