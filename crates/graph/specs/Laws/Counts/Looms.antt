-- The looms: each is named by its lowest vertex, so there are as many as roots.
--   lowest_joined, lowest_least  the lowest vertex is joined to v, and no lower one is
--   lowest_told                  two have the same exactly where they are joined
--   roots_looms                  as many roots as looms
use Rattle.std.specs.Prelude.{ℕ, zero, suc, ◌≤◌, ◌<◌, ◌≡◌, ◌↔◌, Bool, true, length}
use Rattle.std.proofs.Math.Path.{sym}
use Rattle.std.proofs.Common.{arith}
use Rattle.std.proofs.Math.Decide.{dec_lt}
use Rattle.graph.specs.Graph.{Blocks, WellFormed}
use Rattle.graph.specs.Search.{Forest, all}
use Rattle.graph.specs.Joined.{Chain, here, joined}
use Rattle.graph.specs.Forest.{roots}
use Rattle.graph.specs.Counts.{first, lowest, looms}
use Rattle.graph.specs.Laws.Places.Basics.{Told, pass, fail, told}
use Rattle.graph.specs.Laws.Joined.Chains.{chain_trans, chain_sym, all_twinned}
use Rattle.graph.specs.Laws.Joined.Reach.{joined_chain}
use Rattle.graph.specs.Laws.Joined.Spanning.{Spanning}
use Rattle.graph.specs.Laws.Counts.Names.{Names, named}
use Rattle.graph.specs.Laws.Counts.Roots.{roots_by}

-- ---- the first number that passes

first_most : (test : ℕ → Bool) (k : ℕ) → first test k ≤ k
unfolding first
first_most test zero = omega arith
first_most test (suc k) = go (told (test 0)) (first_most (λ x. test (suc x)) k)
  where
    go : Told (test 0) → first (λ x. test (suc x)) k ≤ k → first test (suc k) ≤ suc k
    go (pass e) h = rw (e, first) (omega arith)
    go (fail e) h = rw (e, first) (omega arith)

first_passes : (test : ℕ → Bool) (k : ℕ) → first test k < k → test (first test k) ≡ true
unfolding first
first_passes test zero h = absurd (omega arith)
first_passes test (suc k) h = go (told (test 0)) (first_passes (λ x. test (suc x)) k)
  where
    go : Told (test 0) → (first (λ x. test (suc x)) k < k → test (suc (first (λ x. test (suc x)) k)) ≡ true)
        → test (first test (suc k)) ≡ true
    go (pass e) rec = rw (e, first) e
    go (fail e) rec = let l = rw (e, first) at h in rw (e, first) (rec (omega arith))

first_least : (test : ℕ → Bool) (k x : ℕ) → test x ≡ true → first test k ≤ x
unfolding first
first_least test zero x t = omega arith
first_least test (suc k) zero t = rw (t, first) (omega arith)
first_least test (suc k) (suc x) t = go (told (test 0)) (first_least (λ y. test (suc y)) k x t)
  where
    go : Told (test 0) → first (λ y. test (suc y)) k ≤ x → first test (suc k) ≤ suc x
    go (pass e) h = rw (e, first) (omega arith)
    go (fail e) h = rw (e, first) (omega arith)

-- ---- the lowest vertex

module _ {g : Blocks} (wf : WellFormed g) where
  lowest_most : (v : ℕ) → lowest g v ≤ v
  unfolding lowest
  lowest_most v = first_most (λ u. joined g all u v) v

  pub lowest_joined : (v : ℕ) → v < length g → Chain g all (lowest g v) v
  unfolding lowest
  lowest_joined v h = go (dec_lt (lowest g v) v)
    where
      go : Dec (lowest g v < v) → Chain g all (lowest g v) v
      go (yes l) =
          (joined_chain wf.in_range all (lowest g v) v (omega arith)).0 (first_passes (λ u. joined g all u v) v l)
      go (no n) = let e : lowest g v ≡ v = omega (arith, lowest_most v) in rw e here

  pub lowest_least : (u v : ℕ) → u < length g → Chain g all u v → lowest g v ≤ u
  unfolding lowest
  lowest_least u v h c = first_least (λ x. joined g all x v) v u ((joined_chain wf.in_range all u v h).1 c)

  pub lowest_told : (u v : ℕ) → u < length g → v < length g → (lowest g u ≡ lowest g v) ↔ Chain g all u v
  lowest_told u v hu hv = (
    λ e. chain_trans (chain_sym wf (all_twinned g) (lowest_joined u hu)) (rw e (lowest_joined v hv)),
    λ c. omega (arith, below u v hu c, below v u hv (chain_sym wf (all_twinned g) c)),
  )
    where
      -- where they are joined, v's lowest is not above u's
      below : (u v : ℕ) → u < length g → Chain g all u v → lowest g v ≤ lowest g u
      below u v h c =
          lowest_least (lowest g u) v (omega (arith, lowest_most u)) (chain_trans (lowest_joined u h) c)

  lowest_names : Names (length g) (lowest g)
  lowest_names = record {
    inside = λ v l. omega (arith, lowest_most v);
    settled = λ v l. (lowest_told (lowest g v) v (omega (arith, lowest_most v)) l).1 (lowest_joined v l);
  }

  pub roots_looms : {F : Forest} → Spanning g F → roots F ≡ looms g
  unfolding looms named
  roots_looms span = sym (roots_by wf span lowest_names lowest_told)
