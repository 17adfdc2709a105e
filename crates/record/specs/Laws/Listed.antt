-- What two lists that rule 16 lets pass give.
--   listed            their lengths, and the sum of the degrees
--   listed_good       and the other way round
--   listed_pairs      there is an even number of neighbours
--   length_by_degrees  a block for each degree
--   degrees_back      the degrees of some blocks and their neighbours in a row give the blocks
--   neighbours_back   the blocks that two lists give have the neighbours again
--   lengths_back      and the degrees
--   total_lengths     the degrees of some blocks add up to the number of their neighbours
use Rattle.std.specs.Prelude.{◌≡◌, refl, false, ℕ, ◌*◌, ◌/◌, ◌%◌, eqb, ltb, length, take, drop}
use Rattle.std.proofs.Common.{ap, ap₂, ◌∙◌, arith, ltb-false, le-ltb, eqb-true, eq-eqb, ne_eqb, length-append}
use Rattle.std.proofs.Common.{length-drop, take-append-drop, take_at, drop_at, length-take-le}
use mathlib.Core.List.{List, [], ◌∷◌, ◌++◌, flatten, map, sum}
use Rattle.std.proofs.lemmas.Bool.{eqb-false, not-false}
use Rattle.graph.specs.Graph.{Blocks}
use Rattle.adjacency.specs.Reverse.{total}
use Rattle.adjacency.specs.Laws.Anywhere.{neither}
use Rattle.record.specs.Operations.{other_length}
use Rattle.record.specs.Filing.{by_degrees, bad_lists}
use Rattle.record.specs.Steps.{Listed}

-- ---- rule 16

-- rule 16 lets two lists pass
pub listed : (degrees neighbours : List ℕ) → bad_lists degrees neighbours ≡ false → Listed degrees neighbours
unfolding bad_lists other_length
listed degrees neighbours e =
    let (a, e₁) = neither (ltb 4096 (length degrees)) _ e in
    let (b, e₂) = neither (eqb (total degrees % 2) 1) _ e₁ in
    let (c, d) = neither (ltb 32768 (total degrees)) _ e₂ in
    let odd = eqb-false (total degrees % 2) 1 b in
    record {
      few = ltb-false _ _ a;
      even = omega arith;
      fits = ltb-false _ _ c;
      whole = eqb-true _ _ (not-false _ d);
    }

-- and the other way round
pub listed_good : {degrees neighbours : List ℕ} → Listed degrees neighbours → bad_lists degrees neighbours ≡ false
unfolding bad_lists other_length
listed_good {degrees} {neighbours} l =
    let e = l.even in
    rw (
      le-ltb 4096 (length degrees) l.few,
      ne_eqb (total degrees % 2) 1 (λ o. omega arith),
      le-ltb 32768 (total degrees) l.fits,
      eq-eqb (length neighbours) (total degrees) l.whole,
    )

-- the neighbours come in pairs
pub listed_pairs : {degrees neighbours : List ℕ} → Listed degrees neighbours
    → 2 * (length neighbours / 2) ≡ length neighbours
listed_pairs l =
    let e = l.even in
    let w = l.whole in
    omega arith

-- ---- the blocks

-- a block for each degree
pub length_by_degrees : (degrees l : List ℕ) → length (by_degrees degrees l) ≡ length degrees
unfolding by_degrees
length_by_degrees [] l = refl
length_by_degrees (d ∷ degrees) l = let e = length_by_degrees degrees (drop d l) in omega arith

-- the degrees and the neighbours of some blocks give the blocks
pub degrees_back : (g : Blocks) → by_degrees (map length g) (flatten g) ≡ g
unfolding by_degrees flatten
degrees_back [] = refl
degrees_back (b ∷ g) =
    ap₂ (λ (x : List ℕ) (xs : Blocks). x ∷ xs) (take_at b (flatten g) (length b) refl)
    (ap (by_degrees (map length g)) (drop_at b (flatten g) (length b) refl) ∙ degrees_back g)

-- as many neighbours as the degrees ask for are the neighbours of the blocks
pub neighbours_back : (degrees l : List ℕ) → total degrees ≡ length l → flatten (by_degrees degrees l) ≡ l
unfolding by_degrees sum flatten
neighbours_back [] [] e = refl
neighbours_back [] (x ∷ l) e = absurd (omega arith)
neighbours_back (d ∷ degrees) l e =
    ap (λ (r : List ℕ). take d l ++ r) (neighbours_back degrees (drop d l) (simp length-drop (omega arith)))
    ∙ take-append-drop d l

-- and the blocks have these degrees
pub lengths_back : (degrees l : List ℕ) → total degrees ≡ length l → map length (by_degrees degrees l) ≡ degrees
unfolding by_degrees sum
lengths_back [] l e = refl
lengths_back (d ∷ degrees) l e =
    ap₂ (λ (x : ℕ) (xs : List ℕ). x ∷ xs) (length-take-le d l (omega arith))
    (lengths_back degrees (drop d l) (simp length-drop (omega arith)))

-- the degrees add up to the number of neighbours
pub total_lengths : (g : Blocks) → total (map length g) ≡ length (flatten g)
unfolding sum flatten
total_lengths [] = refl
total_lengths (b ∷ g) = let e = total_lengths g in omega (arith, length-append b (flatten g))
