-- `lookups::lookup_by` meets its contract: the lists are written once the last answer is known.
use mathlib.Core.Path.{◌≡◌, refl, sym, ap₂, ◌∙◌}
use Prim.Native.Nat.{◌≤◌}
use lib.ListN.{length}
use Rattle.std.proofs.lemmas.Result.{err_from_is_err_and}
use Rattle.queries.specs.Lookup.{Lists, lists}
use Rattle.queries.proofs.Laws.Looking.{lookup_refused, lookup_filled, lists_fit}
use Rattle.queries.proofs.Laws.Climbing.{beside}
use Rattle.queries.proofs.lookups.lookup_by.Goals as goal
use Rattle.queries.proofs.lookups.lookup_by.Goals.{Start}

abbrev lent : Start → Lists
lent s = lists s.args.heads.now s.args.visits.now

-- the lists fit the answers
fit : (s : Start)
    → (length s.args.list.now ≤ 512)
    × (length s.args.heads.now ≡ length s.args.list.now)
    × (length s.args.visits.now ≡ length s.args.list.now)
fit s = lists_fit s.args.list.now s.args.heads.now s.args.visits.now s.requires.0

pub returns-in_err-look_all : goal.returns-in_err-look_all
returns-in_err-look_all c =
    let i = c.args.i.now in
    let p = err_from_is_err_and c.from_residual.result c.from_residual.ensures.1 in
    let d =
    lookup_refused i.layout.bytes.now i.index.now c.args.list.now (lent (goal.at.returns-in_err-look_all c).Start)
    (beside i) c.requires.0 c.in_err-look_all.ensures.answers in
    rw (p.1, p.2) d

pub copy-requires : goal.copy-requires
copy-requires c =
    (fit (goal.at.copy-requires c).Start).1 ∙ sym (c.look_all.auto.heads ∙ c.requires.4)

pub copy-requires-2 : goal.copy-requires-2
copy-requires-2 c =
    (fit (goal.at.copy-requires-2 c).Start).2 ∙ sym (c.look_all.auto.visits ∙ c.requires.5)

pub returns : goal.returns
returns c =
    let i = c.args.i.now in
    lookup_filled i.layout.bytes.now i.index.now c.args.list.now (lent (goal.at.returns c).Start) (beside i)
    c.requires.0 c.in_ok-look_all.ensures.answers
    (ap₂ lists c.copy.ensures c.copy-2.ensures ∙ c.in_ok-look_all.ensures.finds refl)
