-- Visited: stored numbers that are others than k are passed over.
--   passed_none  there are none before vertex 0
--   passed_one   one more is another
--   next_told    the next one is k
--   none_told    all are others
use mathlib.Core.Path.{◌≡◌, sym, ap, ◌∙◌}
use mathlib.Core.List.{List}
use Prim.Native.Nat.{ℕ, ◌+◌, ◌≤◌, ◌<◌}
use native.Mathlib.Decide.{dec_lt}
use native.Mathlib.Omega.{arith}
use Rattle.record.specs.Answers.{refused, answered}
use Rattle.record.specs.Laws.Sounded.{sound_vertices}
use Rattle.queries.specs.View.{view_by, number_of}
use Rattle.queries.specs.Queries.{visited_of}
use Rattle.queries.specs.Steps.{Beside, Passed}
use Rattle.queries.proofs.Laws.Singles.{met, unmet}

pub passed_none : (index : List ℕ) (n m k : ℕ) → Passed index n m k 0
passed_none index n m k = record { upto = omega arith; others = λ v h. absurd (omega arith) }

module _ {index : List ℕ} {n m k u : ℕ} (p : Passed index n m k u) where
  pub passed_one : {x : ℕ} (w : ℕ) → w ≡ u + 1 → u < n → x ≡ number_of n m index u → (x ≡ k → ⊥) → Passed index n m k w
  passed_one {x} w next l e d = record { upto = omega arith; others = others }
    where
      others : (v : ℕ) → v < w → number_of n m index v ≡ k → ⊥
      others v h = go (dec_lt v u)
        where
          go : Dec (v < u) → number_of n m index v ≡ k → ⊥
          go (yes b) = p.others v b
          go (no b) =
              let same : u ≡ v = omega arith in
              λ z. d (e ∙ ap (number_of n m index) same ∙ z)

  module _ {bytes : List ℕ} (o : Beside bytes index n m) where
    pub next_told : {x : ℕ} → u < n → x ≡ number_of n m index u → x ≡ k
        → answered (u + 1) ≡ visited_of (view_by n m bytes index) k
    next_told l e d =
        met (view_by n m bytes index) k {u = u} (omega (arith, sound_vertices o.sound)) p.others (sym e ∙ d)

    pub none_told : n ≤ u → refused 12 ≡ visited_of (view_by n m bytes index) k
    none_told l =
        let v = sound_vertices o.sound in
        unmet (view_by n m bytes index) k (λ x h. p.others x (omega arith))
