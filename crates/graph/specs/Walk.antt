-- A climb, with a bound as the queries do it, and without.
use Rattle.std.specs.Prelude.{◌≡◌, ℕ, zero, suc, ◌⊎◌}
use Rattle.std.proofs.Common.{inl, inr}

-- from v: an answer, or a step up to the next vertex; after k steps a further one gives `late`
unfoldable pub walk : {A : Type 0} → (ℕ → A ⊎ ℕ) → A → ℕ → ℕ → A
walk next late zero v = elim (next v) [ inl a ↦ a | inr u ↦ late ]
walk next late (suc k) v = elim (next v) [ inl a ↦ a | inr u ↦ walk next late k u ]

-- a climb without a bound: from u it stops with a, after d steps
pub data Ends {A : Type 0} (next : ℕ → A ⊎ ℕ) : ℕ → ℕ → A → Type 0 where
  here : {u : ℕ} {a : A} → next u ≡ inl a → Ends next 0 u a
  up : {d u p : ℕ} {a : A} → next u ≡ inr p → Ends next d p a → Ends next (suc d) u a
