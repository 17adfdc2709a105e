-- The k-th one of a number, by its halves, down to the bit.
--   ones_nibble    the table of the ones of 4 bits: its rule, computed at every entry by one test
--   ones_byte      the ones of 8 bits, by two of its entries
--   ones_bit       the ones of one bit
--   select_bit     its place in that bit
--   halve_high     the one stands in the high half
--   halve_low      it stands in the low half
use mathlib.Core.Path.{◌≡◌, refl, sym, ap, ap₂, ◌∙◌}
use mathlib.Core.List.{List, ◌++◌}
use Prim.Native.Nat.{ℕ, zero, suc, ◌+◌, ◌-◌, ◌*◌, ◌/◌, ◌%◌, ◌^◌, ◌≤◌, ◌<◌}
use native.Mathlib.Nat.{mod-eq_of_lt, mod-lt, zero-add}
use native.Mathlib.Omega.{arith}
use lib.Count.{ones, ones_in, ones_cat}
use lib.ListN.{get_or}
use lib.Pow.{split, pow_pos, shr_lt}
use Rattle.bits.specs.Bits.{to_bits, count, ones_at, select}
use Rattle.bits.specs.Spans.{Narrowed}
use Rattle.bits.specs.Laws.Digits.{length_to_bits, to_bits_agree, to_bits_append}
use Rattle.bits.specs.Laws.Rank.{count_to_bits}
use Rattle.bits.specs.Laws.Select.{select_left, select_right}
use Rattle.bits.proofs.Entries.{tabulate, tabulate_at}

-- ---- few bits

-- entry x of the table, which is one number
abbrev nibble : ℕ → ℕ
nibble x = 0x4332322132212110 / 2 ^ (4 * x) % 2 ^ 4

nibbles : tabulate nibble 0 16 ≡ tabulate ones 0 16
unfolding ones ones_in
nibbles = refl

pub ones_nibble : (x : ℕ) → x < 16 → 0x4332322132212110 / 2 ^ (4 * x) % 2 ^ 4 ≡ ones x
ones_nibble x h =
    ap nibble (sym (zero-add x)) ∙ sym (tabulate_at nibble 0 16 x h) ∙ ap (λ (l : List ℕ). get_or l x 0) nibbles
    ∙ tabulate_at ones 0 16 x h ∙ ap ones (zero-add x)

-- the ones of a number are those above a place, and those below it
ones_split : (n x : ℕ) → ones x ≡ ones (x / 2 ^ n) + ones (x % 2 ^ n)
ones_split n x = ap ones (sym (split x n)) ∙ ones_cat n (x / 2 ^ n) (x % 2 ^ n) (mod-lt x (pow_pos n))

pub ones_byte : (x : ℕ) {a b y : ℕ} → a ≡ ones (x / 2 ^ 4) → y ≡ x % 2 ^ 4 → b ≡ ones y → a + b ≡ ones x
ones_byte x ea ey eb = ap₂ ◌+◌ ea (eb ∙ ap ones ey) ∙ sym (ones_split 4 x)

pub ones_bit : (x : ℕ) → x < 2 → x ≡ ones x
unfolding ones ones_in
ones_bit zero h = refl
ones_bit (suc zero) h = refl
ones_bit (suc (suc x)) h = absurd (omega arith)

pub select_bit : (y j : ℕ) → y < 2 → 1 ≤ j → j ≤ ones y → select (to_bits 1 y) j ≡ 1
unfolding to_bits ones_at select ones ones_in
select_bit zero j h some few = absurd (omega arith)
select_bit (suc zero) zero h some few = absurd (omega arith)
select_bit (suc zero) (suc zero) h some few = refl
select_bit (suc zero) (suc (suc j)) h some few = absurd (omega arith)
select_bit (suc (suc y)) j h some few = absurd (omega arith)

-- ---- halves

module _ (n x k p : ℕ) (h : x < 2 ^ (n + n)) (some : 1 ≤ k) where
  top_lt : x / 2 ^ n < 2 ^ n
  top_lt = shr_lt n n h

  pub halve_high : k ≤ ones (x / 2 ^ n) → Narrowed n x k p (x / 2 ^ n) k p
  halve_high few =
      let c = count_to_bits n (x / 2 ^ n) top_lt in
      let e : select (to_bits (n + n) x) k ≡ select (to_bits n (x / 2 ^ n)) k =
      ap (λ (s : _). select s k) (to_bits_append n n x)
      ∙ select_left (to_bits n (x / 2 ^ n)) (to_bits n x) k (omega arith) in
      record { small = top_lt; some = some; few = few; near = omega arith; same = omega arith }

  pub halve_low : (c : ℕ) {y : ℕ} → c ≡ ones (x / 2 ^ n) → y ≡ x % 2 ^ n → c < k → k ≤ ones x
      → Narrowed n x k p y (k - c) (p + n)
  halve_low c {y} ec ey more few =
      let lt : x % 2 ^ n < 2 ^ n = mod-lt x (pow_pos n) in
      let lt' : y < 2 ^ n = rw ey lt in
      let low : to_bits n x ≡ to_bits n y =
      to_bits_agree n x y (sym (mod-eq_of_lt lt) ∙ ap (λ (m : ℕ). m % 2 ^ n) (sym ey)) in
      let high = count_to_bits n (x / 2 ^ n) top_lt in
      let below = count_to_bits n y lt' in
      let all = ones_split n x in
      let same = ap ones ey in
      let m : k - count (to_bits n (x / 2 ^ n)) ≡ k - c = omega arith in
      let e : select (to_bits (n + n) x) k ≡ n + select (to_bits n y) (k - c) =
      ap (λ (s : _). select s k) (to_bits_append n n x ∙ ap (λ (t : _). to_bits n (x / 2 ^ n) ++ t) low)
      ∙ select_right (to_bits n (x / 2 ^ n)) (to_bits n y) k (omega arith) (omega arith)
      ∙ ap₂ (λ (l : ℕ) (j : ℕ). l + select (to_bits n y) j) (length_to_bits n (x / 2 ^ n)) m in
      record { small = lt'; some = omega arith; few = omega arith; near = omega arith; same = omega arith }
