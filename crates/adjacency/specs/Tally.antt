-- What the passes over the places tell, which contracts inside this crate cite: a yes brings one thing, and a no rules
-- another out.
use Rattle.std.specs.Prelude.{Bool, true, false}

pub data Tells (A B : Type 0) : Bool → Type 0 where
  yea : A → Tells A B true
  nay : (B → ⊥) → Tells A B false
