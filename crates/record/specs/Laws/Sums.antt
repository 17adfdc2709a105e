-- The starts of the blocks, by a list of degrees.
--   length_sums   a start for each degree, and the end
--   sums_at       each is the sum of the degrees before it
--   total_most    which is at most the sum of all
--   cut_sums      the parts between them are the blocks that the degrees give
--   divided_sums  they divide the neighbours of two lists that rule 16 lets pass
use Rattle.std.specs.Prelude.{◌≡◌, refl, ℕ, zero, suc, ◌+◌, ◌-◌, ◌≤◌, length, take, drop, get_or}
use Rattle.std.proofs.Common.{sym, ap, ap₂, ◌∙◌, arith, drop-drop}
use mathlib.Core.List.{List, [], ◌∷◌, sum}
use Rattle.std.proofs.Math.Seq.{take-length}
use Rattle.graph.specs.Graph.{Blocks}
use Rattle.adjacency.specs.Arrays.{cut, Divided}
use Rattle.adjacency.specs.Reverse.{total}
use Rattle.adjacency.specs.Laws.Totals.{total_next}
use Rattle.record.specs.Starts.{sums_from, sums_of}
use Rattle.record.specs.Filing.{by_degrees}
use Rattle.record.specs.Steps.{Listed}

pub length_sums : (z : ℕ) (degrees : List ℕ) → length (sums_from z degrees) ≡ length degrees + 1
unfolding sums_from
length_sums z [] = refl
length_sums z (d ∷ degrees) = let e = length_sums (z + d) degrees in omega arith

-- each is the sum of the degrees before it
pub sums_at : (z : ℕ) (degrees : List ℕ) (v : ℕ) → v ≤ length degrees
    → get_or (sums_from z degrees) v 0 ≡ z + total (take v degrees)
unfolding sums_from sum
sums_at z [] zero h = omega arith
sums_at z [] (suc v) h = absurd (omega arith)
sums_at z (d ∷ degrees) zero h = omega arith
sums_at z (d ∷ degrees) (suc v) h = let e = sums_at (z + d) degrees v (omega arith) in omega arith

pub total_most : (l : List ℕ) (v : ℕ) → total (take v l) ≤ total l
unfolding sum
total_most l zero = omega arith
total_most [] (suc v) = omega arith
total_most (x ∷ l) (suc v) = let e = total_most l v in omega arith

-- ---- the parts between them

cut_first : (a b : ℕ) (degrees l : List ℕ)
    → cut (a ∷ sums_from b degrees) l ≡ take (b - a) (drop a l) ∷ cut (sums_from b degrees) l
unfolding cut sums_from
cut_first a b [] l = refl
cut_first a b (d ∷ degrees) l = refl

pub cut_sums : (z : ℕ) (degrees l : List ℕ) → cut (sums_from z degrees) l ≡ by_degrees degrees (drop z l)
unfolding cut sums_from by_degrees
cut_sums z [] l = refl
cut_sums z (d ∷ degrees) l =
    let e : z + d - z ≡ d = omega arith in
    cut_first z (z + d) degrees l
    ∙ ap₂ (λ (k : ℕ) (g : Blocks). take k (drop z l) ∷ g) e
    (cut_sums (z + d) degrees l ∙ ap (by_degrees degrees) (sym (drop-drop d z l)))

-- they rise from 0 to the number of neighbours
pub divided_sums : {degrees neighbours : List ℕ} → Listed degrees neighbours → (nbrs : List ℕ)
    → length nbrs ≡ length neighbours → Divided (sums_of degrees) nbrs
unfolding sum
divided_sums {degrees} l nbrs e =
    let few = l.few in
    let fits = l.fits in
    let whole = l.whole in
    let n = length_sums 0 degrees in
    let end : length (sums_of degrees) - 1 ≡ length degrees = omega arith in
    record {
      some = omega arith;
      first = sums_at 0 degrees 0 (omega arith);
      rising = λ u h. (
          let a = sums_at 0 degrees u (omega arith) in
          let b = sums_at 0 degrees (u + 1) (omega arith) in
          let c = total_next degrees u (omega arith) in
          let s : u + 1 ≡ suc u = omega arith in
          let d = ap (λ (k : ℕ). total (take k degrees)) s in
          omega arith
          );
      last =
          ap (λ (k : ℕ). get_or (sums_of degrees) k 0) end ∙ sums_at 0 degrees (length degrees) (omega arith)
          ∙ (let t = ap total (take-length degrees) in omega arith);
      few_blocks = omega arith;
      few_places = omega arith;
    }
