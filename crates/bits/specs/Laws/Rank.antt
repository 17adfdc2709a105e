-- Counting ones: in a number, in a field, in bytes, and up to a place of a bit string.
use Rattle.std.specs.Prelude.{◌≡◌, refl, Bool, true, false, List, [], ◌∷◌, ◌++◌, ℕ, ◌+◌, ◌*◌, ◌^◌, ◌≤◌, ◌<◌, leb}
use Rattle.std.specs.Prelude.{length, take, drop, get_or}
use Rattle.std.proofs.Common.{sym, ap, ap₂, ◌∙◌, le_trans, mod-eq_of_lt, arith, le-leb, length-take, length-drop}
use Rattle.std.proofs.Common.{take-append-drop, take-add, take_all, take-take, length-take-le, get_or-take, get_or-drop}
use Rattle.std.proofs.Math.Nat.{min-le_left}
use Rattle.std.specs.Int.Count.{ones}
use Rattle.std.proofs.lemmas.Nat.{ones_cat}
use Rattle.std.proofs.Math.Seq.{take-nil}
use Rattle.bits.specs.Bits.{to_bits, bits, string, count, rank, bit, value, field}
use Rattle.bits.specs.Laws.Digits.{value_lt, value_to_bits}
use Rattle.bits.specs.Laws.Bytes.{length_bits}

-- ---- the ones of a list of bits

pub count_cons : (b : Bool) (s : List Bool) → count (b ∷ s) ≡ bit b + count s
unfolding count
count_cons true s = omega arith
count_cons false s = omega arith

pub count_append : (s t : List Bool) → count (s ++ t) ≡ count s + count t
unfolding count
count_append [] t = omega arith
count_append (b ∷ s) t = omega (arith, count_cons b (s ++ t), count_cons b s, count_append s t)

pub count_le : (s : List Bool) → count s ≤ length s
unfolding count
count_le [] = omega arith
count_le (true ∷ s) = let h = count_le s in omega arith
count_le (false ∷ s) = let h = count_le s in omega arith

-- the ones of the first a bits, and those of the next b
pub count_take_add : (s : List Bool) (a b : ℕ) → count (take (a + b) s) ≡ count (take a s) + count (take b (drop a s))
count_take_add s a b = ap count (take-add a b s) ∙ count_append (take a s) (take b (drop a s))

pub count_take_le : (n : ℕ) (s : List Bool) → count (take n s) ≤ n
count_take_le n s = le_trans (count_le (take n s)) (simp length-take (min-le_left n (length s)))

-- ---- the machine's count of ones

ones_bit : (b : Bool) → ones (bit b) ≡ bit b
unfolding ones
ones_bit true = refl
ones_bit false = refl

pub ones_value : (s : List Bool) → ones (value s) ≡ count s
unfolding value count ones
ones_value [] = refl
ones_value (b ∷ s) =
    ones_cat (length s) (bit b) (value s) (value_lt s) ∙ ap₂ ◌+◌ (ones_bit b) (ones_value s) ∙ sym (count_cons b s)

pub ones_field : (w : ℕ) (s : List Bool) (start : ℕ) → ones (field w s start) ≡ count (take w (drop start s))
unfolding field
ones_field w s start = ones_value (take w (drop start s))

pub count_to_bits : (n x : ℕ) → x < 2 ^ n → count (to_bits n x) ≡ ones x
count_to_bits n x h = sym (ones_value (to_bits n x)) ∙ ap ones (value_to_bits n x ∙ mod-eq_of_lt h)

-- ---- a string that its bytes hold, and one that they don't

module _ (bytes : List ℕ) (start places : ℕ) where
  pub held : leb (start + places) (8 * length bytes) ≡ true
      → string bytes start places ≡ take places (drop start (bits bytes))
  unfolding string
  held h = rw (h, string)

  pub not_held : leb (start + places) (8 * length bytes) ≡ false → string bytes start places ≡ []
  unfolding string
  not_held h = rw (h, string)

  pub length_string : length (string bytes start places) ≤ places
  length_string = go (leb (start + places) (8 * length bytes)) refl
    where
      go : (t : Bool) → leb (start + places) (8 * length bytes) ≡ t → length (string bytes start places) ≤ places
      go true h = rw (held h, length-take) (min-le_left places (length (drop start (bits bytes))))
      go false h = rw (not_held h) (omega arith)

module _ (bytes : List ℕ) (start places : ℕ) (h : start + places ≤ 8 * length bytes) where
  whole : string bytes start places ≡ take places (drop start (bits bytes))
  whole = held bytes start places (le-leb (start + places) (8 * length bytes) h)

  -- a string that its bytes hold has all its places
  pub length_held : length (string bytes start places) ≡ places
  length_held =
      let l = length_bits bytes in
      rw whole (length-take-le places (drop start (bits bytes)) (simp length-drop (omega arith)))

  -- and its bits are those of the bytes
  pub bit_held : (i : ℕ) → i < places
      → get_or (string bytes start places) i false ≡ get_or (bits bytes) (start + i) false
  bit_held i k =
      rw whole (get_or-take places (drop start (bits bytes)) i false k ∙ get_or-drop start (bits bytes) i false)

-- ---- rank

-- past the end all ones are counted
pub rank_past : (s : List Bool) (p : ℕ) → length s ≤ p → rank s p ≡ count s
unfolding rank
rank_past s p h = ap count (take_all p s h)

-- of a prefix, up to a place in it
pub rank_take : (s : List Bool) (n p : ℕ) → p ≤ n → rank (take n s) p ≡ rank s p
unfolding rank
rank_take s n p h = ap count (take-take p n s h)

pub rank_le : (s : List Bool) (p : ℕ) → rank s p ≤ count s
unfolding rank
rank_le s p = omega (arith, count_append (take p s) (drop p s), ap count (take-append-drop p s))

-- of a string by its bytes: up to a place in it, past its end, and where the bytes don't hold it
module _ (bytes : List ℕ) (start places p : ℕ) where
  pub rank_inside : leb (start + places) (8 * length bytes) ≡ true → p ≤ places
      → rank (string bytes start places) p ≡ count (take p (drop start (bits bytes)))
  unfolding rank
  rank_inside h l = rw (held bytes start places h) (rank_take (drop start (bits bytes)) places p l)

  pub rank_beyond : leb (start + places) (8 * length bytes) ≡ true → places ≤ p
      → rank (string bytes start places) p ≡ count (take places (drop start (bits bytes)))
  rank_beyond h l =
      rank_past (string bytes start places) p (le_trans (length_string bytes start places) l)
      ∙ ap count (held bytes start places h)

  pub rank_not_held : leb (start + places) (8 * length bytes) ≡ false → rank (string bytes start places) p ≡ 0
  unfolding rank count
  rank_not_held h = rw (not_held bytes start places h, take-nil {A = Bool} p)
