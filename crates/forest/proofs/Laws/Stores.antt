-- One store, in a list and in an array that is a function of an index.
--   Put                               cell a of a list becomes x
--   put_length, put_other, put_here   the list after it
--   changed, stored_changed           a function that is x at u, and else as it was
--   stored_after                      a store after others that leave the cells
use mathlib.Core.Path.{◌≡◌, refl, ap, ◌∙◌}
use mathlib.Core.Bool.{true, false}
use mathlib.Core.List.{List}
use Prim.Native.Nat.{ℕ, ◌<◌}
use borrow.Author.Tests.{eq-eqb, ne_eqb}
use lib.Dec.{eqb}
use lib.ListN.{length, get_or, set, length-set}
use Rattle.graph.specs.Laws.Bridges.Stores.{Stored, Agree}
use Rattle.adjacency.specs.Laws.Stores.{cell_same, cell_other}

pub record Put (w w' : List ℕ) (a x : ℕ) : Type 0 where
  pub is : w' ≡ set w a x

module _ {w w' : List ℕ} {a x : ℕ} (p : Put w w' a x) where
  pub put_length : length w' ≡ length w
  put_length = ap length p.is ∙ length-set w a x

  pub put_other : (i : ℕ) → (i ≡ a → ⊥) → get_or w' i 0 ≡ get_or w i 0
  put_other i h = ap (λ (l : List ℕ). get_or l i 0) p.is ∙ cell_other w x h

  pub put_here : a < length w → get_or w' a 0 ≡ x
  put_here h = ap (λ (l : List ℕ). get_or l a 0) p.is ∙ cell_same w x refl h

pub changed : (ℕ → ℕ) → ℕ → ℕ → ℕ → ℕ
changed f u x i = elim (eqb i u) [ true ↦ x | false ↦ f i ]

pub stored_changed : (n : ℕ) (f : ℕ → ℕ) (u x : ℕ) → Stored n f (changed f u x) u x
unfolding changed
stored_changed n f u x = record { hit = rw (eq-eqb u u refl, changed); rest = λ i h d. rw (ne_eqb i u d, changed) }

pub stored_after : {n u x : ℕ} {f f₁ f₂ : ℕ → ℕ} → Agree n f f₁ → Stored n f₁ f₂ u x → Stored n f f₂ u x
stored_after s t = record { hit = t.hit; rest = λ i h d. t.rest i h d ∙ s i h }
