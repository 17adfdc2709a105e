-- The starts of the blocks, entered in one pass over D.
use mathlib.Core.Path.{◌≡◌, refl, sym, ap, ap₂, ◌∙◌}
use mathlib.Core.Bool.{Bool, true, false}
use mathlib.Core.List.{List, [], ◌∷◌, ◌++◌, append_assoc}
use Prim.Native.Nat.{ℕ, zero, suc, ◌+◌, ◌-◌, ◌^◌, ◌≤◌, ◌<◌}
use native.Mathlib.Numerals.{add-one}
use native.Mathlib.Omega.{arith}
use lib.ListN.{length, take, drop, get_or, set, length-set, drop_of_length-le}
use lib.Seq.{take-suc, take-suc-set, take_all, drop-cons, set_split}
use Rattle.bits.specs.Bits.{count, rank, field}
use Rattle.bits.specs.Laws.Rank.{count_append, count_take_le, rank_le}
use Rattle.record.specs.Starts.{starts_from, starts_of}
use Rattle.record.specs.Steps.{Filling, Entering}
use Rattle.record.proofs.Laws.Reading.Tops.{none_first, none_rest, top_inside, top_zeros, top_one, top_rest}

pub filling_start : (d : List Bool) (starts : List ℕ) → length starts ≡ count d + 1 → Filling d starts 0 0
unfolding count
filling_start d starts e = record { upto = omega arith; ones = refl; size = e; filled = refl }

module _ {d : List Bool} {starts : List ℕ} {i k : ℕ} (f : Filling d starts i k) where
  -- no more ones than bits read, and no more than there are
  pub filling_bounds : (k ≤ i) × (k ≤ count d)
  unfolding rank
  filling_bounds = omega (arith, f.ones, count_take_le i d, rank_le d i)

  filling_one : i < length d → get_or d i false ≡ true → Filling d (set starts k (i - k)) (i + 1) (k + 1)
  unfolding starts_from count
  filling_one h e =
      let b = filling_bounds in
      let s = f.size in
      let z : i + 1 - (k + 1) ≡ i - k = omega arith in
      let c : drop i d ≡ true ∷ drop (suc i) d = drop-cons d i false h ∙ ap (λ (x : Bool). x ∷ drop (suc i) d) e in
      record {
        upto = omega arith;
        ones =
            rw (add-one i, take-suc d i false h, count_append (take i d) (get_or d i false ∷ []), e)
            (ap (λ (x : ℕ). x + 1) f.ones);
        size = length-set starts k (i - k) ∙ s;
        filled =
            rw (
              z,
              add-one i,
              add-one k,
              take-suc-set starts k (i - k) (omega arith),
              append_assoc (take k starts)
                  ((i - k) ∷ []) (starts_from (i - k) (drop (suc i) d)),
            )
            (ap (λ (x : List Bool). take k starts ++ starts_from (i - k) x) (sym c) ∙ f.filled);
      }

  filling_zero : i < length d → get_or d i false ≡ false → Filling d starts (i + 1) k
  unfolding starts_from count
  filling_zero h e =
      let b = filling_bounds in
      let z : i + 1 - k ≡ suc (i - k) = omega arith in
      let c : drop i d ≡ false ∷ drop (suc i) d = drop-cons d i false h ∙ ap (λ (x : Bool). x ∷ drop (suc i) d) e in
      record {
        upto = omega arith;
        ones =
            rw (add-one i, take-suc d i false h, count_append (take i d) (get_or d i false ∷ []), e)
            (omega (arith, f.ones));
        size = f.size;
        filled = rw (z, add-one i) (ap (λ (x : List Bool). take k starts ++ starts_from (i - k) x) (sym c) ∙ f.filled);
      }

  pub filling_end : {next : List ℕ} → length d ≤ i → next ≡ set starts k (i - k) → next ≡ starts_of d
  unfolding starts_from
  filling_end l e =
      let b = filling_bounds in
      let o : k ≡ count d = f.ones ∙ ap count (take_all i d l) in
      let n : drop (suc k) starts ≡ [] = drop_of_length-le starts {i = suc k} (omega arith) in
      let m : drop i d ≡ [] = drop_of_length-le d {i = i} l in
      e ∙ set_split starts k (i - k) (omega arith) ∙ ap (λ (x : List ℕ). take k starts ++ ((i - k) ∷ x)) n
      ∙ sym (ap (λ (x : List Bool). take k starts ++ starts_from (i - k) x) m) ∙ f.filled

-- past j zeros
filling_zeros : {d : List Bool} {starts : List ℕ} {k : ℕ} (j : ℕ) {i : ℕ} → Filling d starts i k → i + j ≤ length d
    → field j d i ≡ 0 → Filling d starts (i + j) k
filling_zeros zero {i} f h z = let n : i + 0 ≡ i = omega arith in rw n f
filling_zeros {d} (suc j) {i} f h z =
    let o : suc j ≡ 1 + j = omega arith in
    let y : field (1 + j) d i ≡ 0 = rw o at z in
    let e : i + 1 + j ≡ i + suc j = omega arith in
    rw e at (filling_zeros j (filling_zero f (omega arith) (none_first d i j (omega arith) y)) (omega arith)
    (none_rest d i j (omega arith) y))

-- past a zeros and a one: the one is the highest of the number that a + 1 + h bits write
entering_one : {d : List Bool} {starts : List ℕ} {p k : ℕ} → Filling d starts p k → (a h : ℕ)
    → p + (a + 1 + h) ≤ length d
    → 2 ^ h ≤ field (a + 1 + h) d p → field (a + 1 + h) d p < 2 ^ (h + 1)
    → Entering d (set starts k (p + a - k)) (field (a + 1 + h) d p - 2 ^ h) (p + (a + 1 + h)) (k + 1)
entering_one {d} {starts} {p} {k} f a h i l u =
    let to : p + (a + 1) ≡ p + a + 1 = omega arith in
    let size : h ≡ p + (a + 1 + h) - (p + a + 1) = omega arith in
    record {
      place = p + a + 1;
      before = omega arith;
      inside = i;
      filling =
          filling_one (filling_zeros a f (omega arith) (top_zeros d p a h i l u)) (omega arith) (top_one d p a h i l u);
      left = sym (top_rest d p a h i l u) ∙ ap₂ (λ (x y : ℕ). field x d y) size to;
    }

pub entering_start : {d : List Bool} {starts : List ℕ} {i w k : ℕ} (end : ℕ) → Filling d starts i k → i ≤ end
    → end ≤ length d → w ≡ field (end - i) d i
    → Entering d starts w end k
entering_start {i} end f b h e = record { place = i; before = b; inside = h; filling = f; left = e }

module _ {d : List Bool} {starts : List ℕ} {w end k : ℕ} (e : Entering d starts w end k) where
  highest : (h : ℕ) → 2 ^ h ≤ w → h < end - e.place
  highest h l = top_inside (end - e.place) d e.place h (rw e.left at l)

  -- the highest one of the bits that are left has a place among them, and its start a cell
  pub entering_bounds : (h : ℕ) → 2 ^ h ≤ w → (k + h + 1 ≤ end) × (k < length starts)
  entering_bounds h l =
      let b = filling_bounds e.filling in
      let g = highest h l in
      omega arith

  pub entering_more : {next : List ℕ} {r : ℕ} (h : ℕ) → 2 ^ h ≤ w → w < 2 ^ (h + 1)
      → next ≡ set starts k (end - (h + 1) - k) → r ≡ w - 2 ^ h
      → Entering d next r end (k + 1)
  entering_more h l u n r =
      let i = e.inside in
      let g = highest h l in
      rw (n, r) (go (end - (h + 1) - e.place) (omega arith) (omega arith))
    where
      go : (a : ℕ) → e.place + (a + 1 + h) ≡ end → end - e.place ≡ a + 1 + h
          → Entering d (set starts k (end - (h + 1) - k)) (w - 2 ^ h) end (k + 1)
      go a to size =
          let q : w ≡ field (a + 1 + h) d e.place = e.left ∙ ap (λ (x : ℕ). field x d e.place) size in
          let at : e.place + a ≡ end - (h + 1) = omega arith in
          rw (at, to, ← q) at (entering_one e.filling a h (omega arith) (rw q at l) (rw q at u))

  pub entering_end : w ≡ 0 → Filling d starts end k
  entering_end z =
      let p = e.place in
      let n : p + (end - p) ≡ end = omega arith in
      rw n at (filling_zeros (end - p) e.filling (omega arith) (sym e.left ∙ z))

-- where a start is entered, and how many are
pub ruleset filling_steps = (filling_bounds, entering_bounds)
