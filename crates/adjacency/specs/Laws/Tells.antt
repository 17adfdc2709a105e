-- What a test tells, by its answer.
use Rattle.std.specs.Prelude.{◌≡◌, Bool, true, false}
use Rattle.std.proofs.Common.{sym, true≢false}
use Rattle.adjacency.specs.Tally.{Tells, yea, nay}

module _ {A B : Type 0} where
  pub told_yes : {r : Bool} → Tells A B r → r ≡ true → A
  told_yes (yea a) e = a
  told_yes (nay n) e = absurd (true≢false (sym e))

  pub told_no : {r : Bool} → Tells A B r → r ≡ false → B → ⊥
  told_no (yea a) e = absurd (true≢false e)
  told_no (nay n) e = n

  pub told_on : {C D : Type 0} {r : Bool} → Tells A B r → (A → C) → (D → B) → Tells C D r
  told_on (yea a) f g = yea (f a)
  told_on (nay n) f g = nay (λ d. n (g d))
