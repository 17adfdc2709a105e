-- `rank` meets its contract: of a string that its bytes hold, the ones up to place p.
use mathlib.Core.Path.{◌≡◌, ◌∙◌, sym}
use mathlib.Core.Bool.{Bool, true}
use mathlib.Core.List.{List}
use Prim.Native.Nat.{ℕ, ◌+◌, ◌*◌, ◌≤◌, min}
use native.Mathlib.Decide.{dec_le}
use native.Mathlib.Omega.{arith}
use borrow.Author.Tests.{leb-true}
use lib.Dec.{leb}
use lib.ListN.{length, take, drop}
use Rattle.bits.specs.Bits.{bits, string, count, rank}
use Rattle.bits.specs.Laws.Rank.{rank_inside, rank_beyond, rank_not_held}
use Rattle.bits.proofs.rank.Goals as goal
use Rattle.bits.proofs.rank.Goals.{After-holds}

told : (c : After-holds) {t : Bool} → c.holds.result ≡ t
    → leb (c.before.before.args.start + c.before.before.args.places) (8 * length c.before.before.args.bytes.now) ≡ t
told c e = sym c.holds.ensures ∙ e

held : (c : After-holds) → c.holds.result ≡ true
    → c.args.start + c.args.places ≤ 8 * length c.args.bytes.now
held c e = leb-true _ _ (told c e)

-- the ones up to place p, or all
up_to : (bytes : List ℕ) (start places p m : ℕ) → leb (start + places) (8 * length bytes) ≡ true → m ≡ min p places
    → count (take m (drop start (bits bytes))) ≡ rank (string bytes start places) p
up_to bytes start places p m e em = go (dec_le p places)
  where
    go : Dec (p ≤ places) → count (take m (drop start (bits bytes))) ≡ rank (string bytes start places) p
    go (yes h) =
        let q : m ≡ p = omega arith in
        rw q (sym (rank_inside bytes start places p e h))
    go (no h) =
        let q : m ≡ places = omega arith in
        rw q (sym (rank_beyond bytes start places p e (omega arith)))

pub returns-then-holds : goal.returns-then-holds
returns-then-holds c =
    let a = c.args in
    let e = told (goal.at.returns-then-holds c).After-holds c.if-holds.true in
    c.ones_from.ensures ∙ up_to a.bytes.now a.start a.places a.p c.min.result e c.min.ensures

pub returns-else-holds : goal.returns-else-holds
returns-else-holds c =
    let a = c.args in
    sym (rank_not_held a.bytes.now a.start a.places a.p (told (goal.at.returns-else-holds c).After-holds c.if-holds.false))
