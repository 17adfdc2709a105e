-- Where an index of the right length has its marks and numbers.
--   section_at      a section by the byte at which it starts
--   section_length  a section has n + 2·m bits
--   section_bit_lem     a bit of a section is a bit of the index
--   section_part    bits of a section are bits of the index
--   marks_fit       three sections of marks fit
--   numbers_fit     n numbers fit behind them
--   number_at       a stored number is a field of the index
--   length_e        E has n + 2·m bits
--   length_p        so has P
--   length_b        so has B
use Rattle.std.specs.Prelude.{◌≡◌, List, get_or, take, drop}
use Rattle.std.proofs.Math.Path.{sym, ap}
use Rattle.std.proofs.Common.{◌∙◌, le-leb, drop-drop, get_or-take}
use Rattle.std.proofs.Math.Bool.{false}
use Prim.Native.Nat.{ℕ, zero, suc, ◌+◌, ◌*◌, ◌≤◌, ◌<◌}
use native.Mathlib.Omega.{arith}
use Rattle.std.proofs.Math.ListN.{length}
use Rattle.std.proofs.Math.Seq.{get_or-drop}
use Rattle.bits.specs.Bits.{bits, string, field}
use Rattle.bits.specs.Laws.Fields.{inner}
use Rattle.bits.specs.Laws.Rank.{held, length_held}
use Rattle.forest.specs.Index.{mark_bytes, number_bytes, index_length}
use Rattle.record.specs.Laws.Fields.{fields_from_at}
use Rattle.queries.specs.View.{section_of, number_of}
use Rattle.queries.specs.Steps.{Framed}

-- a section by the byte at which it starts
pub section_at : (index : List ℕ) (n m k at bit : ℕ) → at ≡ k * mark_bytes n m
    → get_or (string index (8 * at) (n + 2 * m)) bit false ≡ get_or (section_of n m index k) bit false
unfolding section_of
section_at index n m k at bit e = ap (λ (x : ℕ). get_or (string index (8 * x) (n + 2 * m)) bit false) e

-- one of the three sections
one_of_three : (k b : ℕ) → k < 3 → k * b ≤ 2 * b
one_of_three zero b h = omega arith
one_of_three (suc zero) b h = omega arith
one_of_three (suc (suc zero)) b h = omega arith
one_of_three (suc (suc (suc k))) b h = absurd (omega arith)

module _ (index : List ℕ) (n m : ℕ) (sized : length index ≡ index_length n m) where
  -- three sections of marks fit
  marks_within : (3 * mark_bytes n m ≤ length index) × (n + 2 * m ≤ 8 * mark_bytes n m)
  unfolding index_length mark_bytes
  marks_within = let s = sized in (omega arith, omega arith)

  numbers_within : 8 * (3 * mark_bytes n m) + 12 * n ≤ 8 * length index
  unfolding index_length number_bytes
  numbers_within = let s = sized in omega arith

  section_fits : (k : ℕ) → k < 3 → 8 * (k * mark_bytes n m) + (n + 2 * m) ≤ 8 * length index
  section_fits k h =
      let (a, b) = marks_within in
      let c = one_of_three k (mark_bytes n m) h in
      omega arith

  pub section_length : (k : ℕ) → k < 3 → length (section_of n m index k) ≡ n + 2 * m
  unfolding section_of
  section_length k h = length_held index (8 * (k * mark_bytes n m)) (n + 2 * m) (section_fits k h)

  -- a bit of a section is a bit of the index
  pub section_bit_lem : (k p : ℕ) → k < 3 → p < n + 2 * m
      → get_or (section_of n m index k) p false ≡ get_or (bits index) (8 * (k * mark_bytes n m) + p) false
  unfolding section_of
  section_bit_lem k p h l =
      let start : ℕ = 8 * (k * mark_bytes n m) in
      let whole = held index start (n + 2 * m) (le-leb (start + (n + 2 * m)) (8 * length index) (section_fits k h)) in
      rw whole (get_or-take (n + 2 * m) (drop start (bits index)) p false l ∙ get_or-drop start (bits index) p false)

  -- w bits of a section are bits of the index
  pub section_part : (k : ℕ) → k < 3 → (w from : ℕ) → from + w ≤ n + 2 * m
      → take w (drop from (section_of n m index k)) ≡ take w (drop (8 * (k * mark_bytes n m) + from) (bits index))
  unfolding section_of
  section_part k h w from l =
      let start : ℕ = 8 * (k * mark_bytes n m) in
      let whole = held index start (n + 2 * m) (le-leb (start + (n + 2 * m)) (8 * length index) (section_fits k h)) in
      rw whole (inner w from (n + 2 * m) (drop start (bits index)) l ∙ ap (take w) (drop-drop from start (bits index)))

module _ {index : List ℕ} {n m : ℕ} (f : Framed index n m) where
  pub marks_fit : (3 * mark_bytes n m ≤ length index) × (n + 2 * m ≤ 8 * mark_bytes n m)
  marks_fit = marks_within index n m f.sized

  pub numbers_fit : 8 * (3 * mark_bytes n m) + 12 * n ≤ 8 * length index
  numbers_fit = numbers_within index n m f.sized

  -- the number stored for u
  pub number_at : {u at x : ℕ} → u < n → at ≡ 8 * (3 * mark_bytes n m) + 12 * u → x ≡ field 12 (bits index) at
      → x ≡ number_of n m index u
  unfolding number_of
  number_at {u} h e is =
      is ∙ ap (field 12 (bits index)) e ∙ sym (fields_from_at (bits index) (8 * (3 * mark_bytes n m)) n u h)

  pub length_e : length (section_of n m index 0) ≡ n + 2 * m
  length_e = section_length index n m f.sized 0 (omega arith)

  pub length_p : length (section_of n m index 1) ≡ n + 2 * m
  length_p = section_length index n m f.sized 1 (omega arith)

  pub length_b : length (section_of n m index 2) ≡ n + 2 * m
  length_b = section_length index n m f.sized 2 (omega arith)
