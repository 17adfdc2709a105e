-- A section of marks by a list that has, for each owner, the bit of the one place that it marks, or 0.
--   length_marked, mark_more   the bits with ones at the places of a list: how many, and one place more
--   Owns        the bit of the one place that c marks, or 0
--   owns_below  such a bit is one of the section's
--   Lists       a list of those bits, for all owners
--   listed, listed_below   the ones of the list are the section; its bits are there
--   Marking     the ones of the first c places of a list are set
--   marking_begin, marking_more, marking_end   before the first, at the next, and past the last
use mathlib.Core.Path.{◌≡◌, refl, ap, ◌∙◌}
use mathlib.Core.Bool.{Bool, true, false}
use mathlib.Core.List.{List, [], ◌∷◌, ◌++◌}
use Prim.Native.Nat.{ℕ, zero, suc, ◌+◌, ◌*◌, ◌≤◌, ◌<◌}
use native.Mathlib.Numerals.{add-one}
use native.Mathlib.Omega.{arith}
use lib.ListN.{length, take, get_or, set, replicate, length-replicate, length-set}
use lib.Seq.{take-suc, take_all, take-length, set-set, set_comm}
use Rattle.bits.specs.Bits.{bits}
use Rattle.bits.specs.Laws.Bytes.{AreBytes}
use Rattle.bits.specs.Laws.Packing.{zero_bits}
use Rattle.graph.specs.Graph.{Blocks, block}
use Rattle.graph.specs.Search.{PlaceTest}
use Rattle.forest.specs.Marks.{mark_all, Below, up_to, marked}
use Rattle.forest.proofs.Laws.Graphs.{Sized}
use Rattle.forest.specs.Laws.Sections.{place_bit}
use Rattle.forest.proofs.Laws.Marked.{sized_bits, bit_fits, no_marks, bits_also, same_bits}
use Rattle.forest.proofs.Laws.Marked.{Same, Own, owns_none, owns_one, upto_none, upto_all}

-- ---- ones at the places of a list

pub length_marked : (l : List ℕ) (s : List Bool) → length (mark_all l s) ≡ length s
unfolding mark_all
length_marked [] s = refl
length_marked (i ∷ l) s = length_marked l (set s i true) ∙ length-set s i true

mark_append : (a b : List ℕ) (s : List Bool) → mark_all (a ++ b) s ≡ mark_all b (mark_all a s)
unfolding mark_all
mark_append [] b s = refl
mark_append (i ∷ a) b s = mark_append a b (set s i true)

pub mark_more : (l : List ℕ) (c : ℕ) (s : List Bool) → c < length l
    → mark_all (take (c + 1) l) s ≡ set (mark_all (take c l) s) (get_or l c 0) true
unfolding mark_all
mark_more l c s h = rw (add-one c, take-suc l c 0 h) (mark_append (take c l) (get_or l c 0 ∷ []) s)

-- ---- what one owner marks

pub data Owns (g : Blocks) (mark : PlaceTest) (owner : ℕ → ℕ → ℕ) (c bit : ℕ) : Type 0 where
  nothing : bit ≡ 0 → ((x i : ℕ) → i < length (block g x) → Own mark owner c x i → ⊥) → Owns g mark owner c bit
  one : (u j : ℕ) → j < length (block g u) → bit ≡ place_bit g u j → Own mark owner c u j
      → ((x i : ℕ) → i < length (block g x) → Own mark owner c x i → Same x i u j) → Owns g mark owner c bit

pub owns_below : {g : Blocks} {mark : PlaceTest} {owner : ℕ → ℕ → ℕ} {n m k c bit : ℕ} → Sized g n m k → 0 < n
    → Owns g mark owner c bit → bit < 8 * k
owns_below z h (nothing e x) = let v = z.vertices in omega (arith, sized_bits z)
owns_below {g} z h (one u j f e o x) = omega (arith, sized_bits z, bit_fits g u j f)

-- the first bit stays clear while they are set
owns_more : {g : Blocks} {mark : PlaceTest} {owner : ℕ → ℕ → ℕ} {c bit : ℕ} (s : List Bool) → Owns g mark owner c bit
    → set s 0 false ≡ bits (marked g (up_to mark owner c))
    → set (set s bit true) 0 false ≡ bits (marked g (up_to mark owner (c + 1)))
owns_more {g} {mark} {owner} {c} s (nothing e n) is = cc (set-set s 0 true false, owns_none g mark owner c n)
owns_more {g} {mark} {owner} {c} {bit} s (one u j f e o n) is =
    let other = set_comm s bit 0 true false (λ q. omega arith) in
    cc (bits_also g (up_to mark owner c) u j f, owns_one g mark owner c o n)

-- ---- all owners

pub record Lists (g : Blocks) (mark : PlaceTest) (owner : ℕ → ℕ → ℕ) (list : List ℕ) : Type 0 where
  pub each : (c : ℕ) → c < length list → Owns g mark owner c (get_or list c 0)
  pub all : (x i : ℕ) → x < length g → i < length (block g x) → owner x i < length list

clear_zeros : (k : ℕ) → set (replicate k false) 0 false ≡ replicate k false
clear_zeros zero = refl
clear_zeros (suc k) = refl

module _ {g : Blocks} {mark : PlaceTest} {owner : ℕ → ℕ → ℕ} {list : List ℕ} (l : Lists g mark owner list) where
  listed_to : {n m k : ℕ} → Sized g n m k → (c : ℕ) → c ≤ length list
      → set (mark_all (take c list) (replicate (8 * k) false)) 0 false ≡ bits (marked g (up_to mark owner c))
  unfolding mark_all
  listed_to {k = k} e zero h = clear_zeros (8 * k) ∙ no_marks e ∙ ap bits (upto_none g mark owner)
  listed_to {k = k} e (suc c) h =
      let z : List Bool = replicate (8 * k) false in
      rw (← add-one c) (ap (λ (x : List Bool). set x 0 false) (mark_more list c z (omega arith))
      ∙ owns_more (mark_all (take c list) z) (l.each c (omega arith)) (listed_to e c (omega arith)))

  pub listed : {n m k : ℕ} {bytes : List ℕ} → Sized g n m k → AreBytes bytes
      → bits bytes ≡ set (mark_all list (replicate (8 * k) false)) 0 false → bytes ≡ marked g mark
  listed {k = k} e are is =
      same_bits g mark are
      (cc (take-length list, listed_to e (length list) (omega arith), upto_all g mark owner l.all))

  pub listed_below : {n m k : ℕ} → Sized g n m k → 0 < n → Below (8 * k) list
  listed_below z h c i = owns_below z h (l.each c i)

-- ---- while they are set

pub record Marking (list section₀ section : List ℕ) (c : ℕ) : Type 0 where
  pub upto : c ≤ length list
  pub same_size : length section ≡ length section₀
  pub are_bits : bits section ≡ mark_all (take c list) (replicate (8 * length section₀) false)

pub marking_begin : (list : List ℕ) (k : ℕ) {section : List ℕ} → section ≡ replicate k 0
    → Marking list section section 0
unfolding mark_all
marking_begin list k {section} e =
    let l = length-replicate {A = ℕ} k 0 in
    record { upto = omega arith; same_size = refl; are_bits = cc (zero_bits k) }

module _ {list section₀ section : List ℕ} {c : ℕ} (t : Marking list section₀ section c) where
  pub marking_more : {x : ℕ} {next : List ℕ} → c < length list → x ≡ get_or list c 0
      → (bits next ≡ set (bits section) x true) × (length next ≡ length section) → Marking list section₀ next (c + 1)
  marking_more h q s = record {
    upto = omega arith;
    same_size = s.1 ∙ t.same_size;
    are_bits = cc (mark_more list c (replicate (8 * length section₀) false) h);
  }

  pub marking_end : {next : List Bool} (k : ℕ) → length section₀ ≡ k → length list ≤ c
      → next ≡ set (bits section) 0 false → next ≡ set (mark_all list (replicate (8 * k) false)) 0 false
  marking_end k e h s = cc (take_all c list h)
