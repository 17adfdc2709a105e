-- The table of places: its rule, computed at every entry by one test, and the lemma that gives the rule at an entry.
use mathlib.Core.Path.{◌≡◌, sym, ap, ap₂, ◌∙◌}
use mathlib.Core.List.{List, [], ◌∷◌}
use Prim.Native.Nat.{ℕ, zero, suc, ◌+◌, ◌-◌, ◌*◌, ◌/◌, ◌%◌, ◌<◌, ◌≤◌}
use native.Mathlib.Nat.{add-zero, zero-add, add-suc, suc-add, le_of_suc-le-suc, not-suc-le-zero}
use native.Mathlib.Omega.{arith}
use lib.ListN.{get_or}
use Rattle.bits.specs.Bits.{to_bits, ones_at, select}

-- f at each number from i on, n of them
abbrev pub tabulate : (ℕ → ℕ) → ℕ → ℕ → List ℕ
tabulate f i zero = []
tabulate f i (suc n) = f i ∷ tabulate f (suc i) n

pub tabulate_at : (f : ℕ → ℕ) (i n k : ℕ) → k < n → get_or (tabulate f i n) k 0 ≡ f (i + k)
tabulate_at f i zero k h = absurd (not-suc-le-zero h)
tabulate_at f i (suc n) zero h = ap f (sym (add-zero i))
tabulate_at f i (suc n) (suc k) h =
    tabulate_at f (suc i) n k (le_of_suc-le-suc h) ∙ ap f (suc-add i k ∙ sym (add-suc i k))

-- the rule: entry n is the place of the (n % 8 + 1)-th one of byte n / 8
unfoldable pub entry : ℕ → ℕ
unfolding to_bits ones_at select
entry n = select (to_bits 8 (n / 8)) (n % 8 + 1)

-- the table by its rule; that the code's table is this one is the test
unfoldable pub entries : List ℕ
unfolding entry
entries = tabulate entry 0 2048

pub entry_rule : (b k : ℕ) → b < 256 → 1 ≤ k → k ≤ 8 → get_or entries (8 * b + k - 1) 0 ≡ select (to_bits 8 b) k
unfolding entries
entry_rule b k hb h1 h8 =
    let n : ℕ = 8 * b + k - 1 in
    let q : n / 8 ≡ b = omega arith in
    let m : n % 8 + 1 ≡ k = omega arith in
    tabulate_at entry 0 2048 n (omega arith) ∙ ap entry (zero-add n) ∙ ap₂ (λ (x y : ℕ). select (to_bits 8 x) y) q m
