-- D cuts a list into blocks: where the blocks start, and what stands in each.
--   length_starts  a start for each one of D, and the end
--   length_parts   a part for each one of D
--   starts_first   the first start is past the zeros before the first one
--   starts_rise    no start is past the next
--   starts_fit     no start is past the zeros
--   starts_last    all zeros stand before the last
--   start_last     the same of D's starts
--   start_select   a start, by the place of its one in D
--   start_next     the next start, by the place of the next one in D
--   zeros_none     no zero stands before the first one
--   start_first    so the first start is 0
--   cut_parts      the parts by D are those between its starts
--   part_block     a block stands from its start up to the next
--   length_block   and has as many numbers
use Rattle.std.specs.Prelude.{◌≡◌, refl, Bool, true, false, List, [], ◌∷◌, ℕ, zero, suc, ◌+◌, ◌-◌, ◌≤◌, ◌<◌, length}
use Rattle.std.specs.Prelude.{take, drop, get_or}
use Rattle.std.proofs.Common.{sym, ap, ◌∙◌, add-one, arith, lt-ltb, le-ltb, length-drop, drop-drop, length-take-le}
use Rattle.std.proofs.Math.Decide.{dec_lt}
use Rattle.bits.specs.Bits.{count, ones_at, select}
use Rattle.bits.specs.Spans.{next_one}
use Rattle.bits.specs.Laws.Rank.{count_le}
use Rattle.graph.specs.Graph.{Blocks, block}
use Rattle.graph.specs.Laws.Places.Basics.{clash}
use Rattle.record.specs.Record.{zeros, parts}
use Rattle.record.specs.Rules.{begins_with_zero}
use Rattle.record.specs.Starts.{starts_from, starts_of}
use Rattle.adjacency.specs.Arrays.{cut}
use Rattle.adjacency.specs.Laws.Rows.{cut_block}

-- ---- how many

pub length_starts : (z : ℕ) (d : List Bool) → length (starts_from z d) ≡ count d + 1
unfolding starts_from count
length_starts z [] = refl
length_starts z (true ∷ d) = let e = length_starts z d in omega arith
length_starts z (false ∷ d) = length_starts (suc z) d

pub length_parts : (d : List Bool) (l : List ℕ) → length (parts d l) ≡ count d
unfolding parts count
length_parts [] l = refl
length_parts (true ∷ d) l = ap suc (length_parts d (drop (zeros d) l))
length_parts (false ∷ d) l = length_parts d l

-- ---- the starts, after z zeros

starts_head : (z : ℕ) (d : List Bool) → starts_from z d ≡ (z + zeros d) ∷ drop 1 (starts_from z d)
unfolding starts_from zeros
starts_head z [] = ap (λ (n : ℕ). n ∷ []) (omega arith)
starts_head z (true ∷ d) = ap (λ (n : ℕ). n ∷ starts_from z d) (omega arith)
starts_head z (false ∷ d) =
    let e : suc z + zeros d ≡ z + suc (zeros d) = omega arith in
    rw e at (starts_head (suc z) d)

pub starts_first : (z : ℕ) (d : List Bool) → get_or (starts_from z d) 0 0 ≡ z + zeros d
starts_first z d = ap (λ (l : List ℕ). get_or l 0 0) (starts_head z d)

pub starts_rise : (z : ℕ) (d : List Bool) (u : ℕ) → u < count d
    → get_or (starts_from z d) u 0 ≤ get_or (starts_from z d) (u + 1) 0
unfolding starts_from count
starts_rise z [] u h = absurd (omega arith)
starts_rise z (true ∷ d) zero h = omega (arith, starts_first z d)
starts_rise z (true ∷ d) (suc u) h =
    let e : suc u + 1 ≡ suc (u + 1) = omega arith in
    rw e (starts_rise z d u (omega arith))
starts_rise z (false ∷ d) u h = starts_rise (suc z) d u h

-- no start is past the zeros
pub starts_fit : (z : ℕ) (d : List Bool) (u : ℕ) → u ≤ count d → get_or (starts_from z d) u 0 + count d ≤ z + length d
unfolding starts_from count
starts_fit z [] zero h = omega arith
starts_fit z [] (suc u) h = absurd (omega arith)
starts_fit z (true ∷ d) zero h = omega (arith, count_le d)
starts_fit z (true ∷ d) (suc u) h = let r = starts_fit z d u (omega arith) in omega arith
starts_fit z (false ∷ d) u h = let r = starts_fit (suc z) d u h in omega arith

-- all zeros stand before the last
pub starts_last : (z : ℕ) (d : List Bool) → get_or (starts_from z d) (count d) 0 + count d ≡ z + length d
unfolding starts_from count
starts_last z [] = omega arith
starts_last z (true ∷ d) = let r = starts_last z d in omega arith
starts_last z (false ∷ d) = let r = starts_last (suc z) d in omega arith

starts_ones_at : (z p : ℕ) (d : List Bool) (u : ℕ) → u < count d
    → get_or (starts_from z d) u 0 + u + p ≡ z + get_or (ones_at p d) u 0
unfolding starts_from count ones_at
starts_ones_at z p [] u h = absurd (omega arith)
starts_ones_at z p (true ∷ d) zero h = omega arith
starts_ones_at z p (true ∷ d) (suc u) h = let r = starts_ones_at z (suc p) d u (omega arith) in omega arith
starts_ones_at z p (false ∷ d) u h = let r = starts_ones_at (suc z) (suc p) d u h in omega arith

-- ---- the starts of D

pub start_last : (d : List Bool) → get_or (starts_of d) (count d) 0 + count d ≡ length d
start_last d = omega (arith, starts_last 0 d)

-- a start is the place of the terminal's one, less the ones up to it
pub start_select : (d : List Bool) (u : ℕ) → u < count d → get_or (starts_of d) u 0 + (u + 1) ≡ select d (u + 1)
unfolding select
start_select d u h = rw (add-one u) (let r = starts_ones_at 0 1 d u h in omega arith)

-- the next start stands before the next one, or at the end
pub start_next : (d : List Bool) (u : ℕ) → u < count d → get_or (starts_of d) (u + 1) 0 + (u + 1) ≡ next_one d (u + 1)
unfolding next_one
start_next d u h = go (dec_lt (u + 1) (count d))
  where
    go : Dec (u + 1 < count d) → get_or (starts_of d) (u + 1) 0 + (u + 1) ≡ next_one d (u + 1)
    go (yes l) =
        let e = start_select d (u + 1) l in
        let f : next_one d (u + 1) ≡ select d (u + 1 + 1) - 1 =
        rw (lt-ltb (u + 1) (count d) l, next_one, add-one (u + 1)) in
        omega arith
    go (no l) =
        let e : u + 1 ≡ count d = omega arith in
        let f : next_one d (u + 1) ≡ length d = rw (le-ltb (u + 1) (count d) (omega arith), next_one) in
        let g = ap (λ (k : ℕ). get_or (starts_of d) k 0) e in
        omega (arith, start_last d)

-- ---- the parts by D and by its starts

cut_cons : (a b : ℕ) (starts rest l : List ℕ) → starts ≡ b ∷ rest
    → cut (a ∷ starts) l ≡ take (b - a) (drop a l) ∷ cut starts l
unfolding cut
cut_cons a b starts rest l e = rw e

-- from the first one of D on
cut_from : (z : ℕ) (d : List Bool) (l : List ℕ) → cut (starts_from z d) l ≡ parts d (drop (z + zeros d) l)
unfolding starts_from parts zeros cut
cut_from z [] l = refl
cut_from z (true ∷ d) l =
    let e : z + zeros d - z ≡ zeros d = omega arith in
    let f : z + 0 ≡ z = omega arith in
    cut_cons z (z + zeros d) (starts_from z d) (drop 1 (starts_from z d)) l (starts_head z d)
    ∙ rw (e, f, drop-drop (zeros d) z l, cut_from z d l)
cut_from z (false ∷ d) l =
    let e : suc z + zeros d ≡ z + suc (zeros d) = omega arith in
    rw (← e) (cut_from (suc z) d l)

-- ---- D that does not begin with a zero

pub zeros_none : (d : List Bool) → begins_with_zero d ≡ false → zeros d ≡ 0
unfolding zeros begins_with_zero
zeros_none [] e = refl
zeros_none (true ∷ d) e = refl
zeros_none (false ∷ d) e = absurd (clash refl e)

module _ (d : List Bool) (begins : begins_with_zero d ≡ false) where
  pub start_first : get_or (starts_of d) 0 0 ≡ 0
  start_first = omega (arith, starts_first 0 d, zeros_none d begins)

  pub cut_parts : (l : List ℕ) → cut (starts_of d) l ≡ parts d l
  cut_parts l =
      let e : 0 + zeros d ≡ 0 = omega (arith, zeros_none d begins) in
      cut_from 0 d l ∙ ap (λ (n : ℕ). parts d (drop n l)) e

  -- a block stands from its start up to the next
  pub part_block : (l : List ℕ) (u : ℕ) → u < count d
      → block (parts d l) u
      ≡ take (get_or (starts_of d) (u + 1) 0 - get_or (starts_of d) u 0) (drop (get_or (starts_of d) u 0) l)
  part_block l u h =
      let e = length_starts 0 d in
      ap (λ (g : Blocks). block g u) (sym (cut_parts l)) ∙ cut_block (starts_of d) l u (omega arith)

  -- where D has a zero for each number of the list, it reaches the next start
  pub length_block : (l : List ℕ) → length d ≡ count d + length l → (u : ℕ) → u < count d
      → length (block (parts d l) u) ≡ get_or (starts_of d) (u + 1) 0 - get_or (starts_of d) u 0
  length_block l e u h =
      let r = starts_rise 0 d u h in
      let f = starts_fit 0 d (u + 1) (omega arith) in
      ap length (part_block l u h) ∙ length-take-le _ _ (simp length-drop (omega arith))
