-- What lies between a one of a bit string and the next, and the only one of a string. Bits count from 0.
--   next_one      how many bits stand before the one after the k-th
--   SpanOf       what lies between the k-th one and the next
--   LoneOf       the only one, or that there is none, or that there are more
--   ones_between  how many ones stand from a bit on and before another
--   OneAt        a bit is the k-th one from another bit on
--   NextAt       a bit is the first one of a part, or the end of the part
--   PartOf       the number of the bits from a bit on, up to the end of the word that its byte begins
--   Cleared      no one stands from a bit on and before another
--   Sought       how many ones are left to go from a bit on
--   Skipped      how many after whole words
--   WindowOf     at most 64 bits in which the k-th one of a part stands
--   Narrowed     the half of a number in which its k-th one stands
use Rattle.std.specs.Prelude.{◌≡◌, Bool, true, false, List, ℕ, suc, ◌+◌, ◌-◌, ◌*◌, ◌%◌, ◌^◌, ◌≤◌, ◌<◌, min, ltb, length}
use Rattle.std.specs.Prelude.{take, drop, get_or}
use Rattle.std.specs.Int.Count.{ones}
use Rattle.bits.specs.Bits.{to_bits, count, select, field}
use Rattle.bits.specs.declared.spans.Lone.{Lone}

-- how many bits of the string stand before the one after the k-th, or its length where there is none
unfoldable pub next_one : List Bool → ℕ → ℕ
next_one s k = elim (ltb k (count s)) [ true ↦ select s (suc k) - 1 | false ↦ length s ]

-- `from` bits stand before the first bit after the k-th one, and `to` before the next one
pub record SpanOf (s : List Bool) (k from to : ℕ) : Type 0 where
  pub begins : from ≡ select s k
  pub ends : to ≡ next_one s k

-- p bits stand before the only one
abbrev pub LoneOf : List Bool → Lone → Type 0
LoneOf s Lone.None = count s ≡ 0
LoneOf s (Lone.At p) = (count s ≡ 1) × (p + 1 ≡ select s 1)
LoneOf s Lone.More = 1 < count s

-- ---- inside this crate

-- the ones from bit a on and before bit b
unfoldable pub ones_between : List Bool → ℕ → ℕ → ℕ
ones_between s a b = count (take (b - a) (drop a s))

-- bit q is the k-th one from bit a on
pub record OneAt (s : List Bool) (a q k : ℕ) : Type 0 where
  pub after : a ≤ q
  pub one : get_or s q false ≡ true
  pub rank : ones_between s a q + 1 ≡ k

-- bit q is the first one from bit a on and before bit b, or it is b and there is none
pub record NextAt (s : List Bool) (a b q : ℕ) : Type 0 where
  pub after : a ≤ q
  pub upto : q ≤ b
  pub none : ones_between s a q ≡ 0
  pub one : q < b → get_or s q false ≡ true

-- w is the number of so many bits from bit a on: up to the end of the 64 bits that begin with its byte, or up to bit b
pub record PartOf (s : List Bool) (a b width w : ℕ) : Type 0 where
  pub wide : width ≡ min (64 - a % 8) (b - a)
  pub same : w ≡ field width s a

-- no one stands from bit a on and before bit q, which is not past bit b
pub record Cleared (s : List Bool) (a b q : ℕ) : Type 0 where
  pub after : a ≤ q
  pub upto : q ≤ b
  pub none : ones_between s a q ≡ 0

-- from bit a on and before bit b, k ones are looked for, and `left` of them are to go from bit q on
pub record Sought (s : List Bool) (a b k q left : ℕ) : Type 0 where
  pub after : a ≤ q
  pub upto : q ≤ b
  pub some : 1 ≤ left
  pub sum : ones_between s a q + left ≡ k

-- from byte `first` on, of n bytes, k ones are looked for; `left` of them are to go from byte `at` on, and the next
-- word, if there is a whole one, has as many
pub record Skipped (s : List Bool) (n first k at left : ℕ) : Type 0 where
  pub sought : Sought s (8 * first) (8 * n) k (8 * at) left
  pub full : at + 8 ≤ n → left ≤ ones_between s (8 * at) (8 * at + 64)

-- of the ones from bit a on and before bit b, the k-th is the left-th of the `width` bits from bit `from` on, whose
-- number is x; after these bits a byte begins, or they end at b
pub record WindowOf (s : List Bool) (a b k from width x left : ℕ) : Type 0 where
  pub after : a ≤ from
  pub upto : from + width ≤ b
  pub narrow : width ≤ 64
  pub same : x ≡ field width s from
  pub some : 1 ≤ left
  pub few : left ≤ ones x
  pub sum : ones_between s a from + left ≡ k
  pub whole : from + width < b → (from + width) % 8 ≡ 0

-- the k-th one of the 2n bits of x, counted on from p, is the j-th of the n bits of y, counted on from q
pub record Narrowed (n x k p y j q : ℕ) : Type 0 where
  pub small : y < 2 ^ n
  pub some : 1 ≤ j
  pub few : j ≤ ones y
  pub near : q ≤ p + n
  pub same : q + select (to_bits n y) j ≡ p + select (to_bits (n + n) x) k
