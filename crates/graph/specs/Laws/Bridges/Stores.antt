-- Arrays as functions of an index, of which only the cells below n matter.
use Rattle.std.specs.Prelude.{ℕ, ◌<◌, ◌≡◌}

-- from f to f', cell u was set to x and the other cells below n stay
pub record Stored (n : ℕ) (f f' : ℕ → ℕ) (u x : ℕ) : Type 0 where
  pub hit : f' u ≡ x
  pub rest : (i : ℕ) → i < n → (i ≡ u → ⊥) → f' i ≡ f i

-- all cells below n stay
abbrev pub Agree : ℕ → (ℕ → ℕ) → (ℕ → ℕ) → Type 0
Agree n f f' = (i : ℕ) → i < n → f' i ≡ f i
