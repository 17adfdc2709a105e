-- `select` meets its contract: of a string that its bytes hold, the place of the k-th one.
use mathlib.Core.Path.{◌≡◌, ◌∙◌, ap, sym}
use mathlib.Core.Bool.{Bool, true}
use Prim.Native.Nat.{ℕ, ◌+◌, ◌*◌, ◌≤◌}
use borrow.Author.Tests.{leb-true}
use lib.Dec.{leb}
use lib.ListN.{length}
use Rattle.bits.specs.Bits.{string, select}
use Rattle.bits.specs.Laws.Select.{select_zero, select_empty, select_held, select_not_held}
use Rattle.bits.proofs.select.Goals as goal
use Rattle.bits.proofs.select.Goals.{After-holds, then-k-eq0-via-then-k-eq0, then-k-eq0-via-else-k-eq0+then-places-eq0}

pub returns-then-k-eq0 : goal.returns-then-k-eq0
returns-then-k-eq0 c =
    let a = c.args in
    let bytes = a.bytes.now in
    let s = string bytes a.start a.places in
    elim c.then-k-eq0.branch [
      | then-k-eq0-via-then-k-eq0 w ↦ sym (ap (select s) w.if-k-eq0.true ∙ select_zero s)
      | then-k-eq0-via-else-k-eq0+then-places-eq0 w ↦
          sym (ap (λ (n : ℕ). select (string bytes a.start n) a.k) w.if-places-eq0.true ∙ select_empty bytes a.start a.k)
    ]

told : (c : After-holds) {t : Bool} → c.holds.result ≡ t
    → (let a = c.before.before.before.before.args in leb (a.start + a.places) (8 * length a.bytes.now) ≡ t)
told c e = sym c.holds.ensures ∙ e

held : (c : After-holds) → c.holds.result ≡ true
    → c.args.start + c.args.places ≤ 8 * length c.args.bytes.now
held c e = leb-true _ _ (told c e)

pub returns-then-holds : goal.returns-then-holds
returns-then-holds c =
    let a = c.args in
    c.place_from.ensures
    ∙ sym (select_held a.bytes.now a.start a.places a.k (told (goal.at.returns-then-holds c).After-holds c.if-holds.true))

pub returns-else-holds : goal.returns-else-holds
returns-else-holds c =
    let a = c.args in
    sym (select_not_held a.bytes.now a.start a.places a.k (told (goal.at.returns-else-holds c).After-holds c.if-holds.false))
