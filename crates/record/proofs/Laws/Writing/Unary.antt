-- D, written by the degrees: a one for each, and then as many zeros, which stand there.
--   length_unary_bits  how long it is
--   Marking           it is written by the first v degrees: marking_start, marking_room, marking_more, marking_end
use mathlib.Core.Path.{◌≡◌, refl, sym, ap, ◌∙◌}
use mathlib.Core.Bool.{Bool, true, false}
use mathlib.Core.List.{List, [], ◌∷◌, ◌++◌, append_assoc, append-nil, sum}
use Prim.Native.Nat.{ℕ, suc, ◌+◌, ◌*◌, ◌≤◌, ◌<◌}
use native.Mathlib.Numerals.{add-one}
use native.Mathlib.Omega.{arith}
use lib.ListN.{length, take, get_or, set, replicate, length-append, length-replicate}
use lib.Seq.{take-suc, take_all, length-take-le}
use Rattle.bits.specs.Bits.{bits}
use Rattle.bits.specs.Steps.{Blank, Begun}
use Rattle.bits.specs.Laws.Bytes.{length_bits}
use Rattle.bits.specs.Laws.Begun.{blank_begun, begun_one, begun_zeros}
use Rattle.adjacency.specs.Reverse.{total}
use Rattle.adjacency.specs.Laws.Totals.{total_next}
use Rattle.record.specs.Record.{lay_out}
use Rattle.record.specs.Steps.{unary_bits}
use Rattle.record.specs.Laws.Sums.{total_most}

-- the bits of one degree
abbrev one_bits : ℕ → List Bool
one_bits d = true ∷ replicate d false

pub length_unary_bits : (degrees : List ℕ) → length (unary_bits degrees) ≡ length degrees + total degrees
unfolding unary_bits lay_out sum
length_unary_bits [] = refl
length_unary_bits (d ∷ degrees) =
    omega (
      arith,
      length-append (replicate d false) (unary_bits degrees),
      length-replicate d false,
      length_unary_bits degrees,
    )

-- one degree more
unary_snoc : (x : List ℕ) (d : ℕ) → unary_bits (x ++ (d ∷ [])) ≡ unary_bits x ++ one_bits d
unfolding unary_bits lay_out
unary_snoc [] d = ap (λ (s : List Bool). true ∷ s) (append-nil (replicate d false))
unary_snoc (y ∷ x) d =
    ap (λ (s : List Bool). true ∷ (replicate y false ++ s)) (unary_snoc x d)
    ∙ ap (λ (s : List Bool). true ∷ s) (sym (append_assoc (replicate y false) (unary_bits x) (one_bits d)))

-- behind the bits s, D is written by the first v degrees, and ends before bit `at`
pub record Marking (s : List Bool) (degrees bytes : List ℕ) (at v : ℕ) : Type 0 where
  pub upto : v ≤ length degrees
  pub begun : Begun bytes (s ++ unary_bits (take v degrees))
  pub here : at ≡ length (s ++ unary_bits (take v degrees))

pub marking_start : (degrees bytes : List ℕ) (start : ℕ) → start ≤ 8 * length bytes → Blank (bits bytes) start
    → Marking (take start (bits bytes)) degrees bytes start 0
unfolding unary_bits lay_out
marking_start degrees bytes start h z =
    let l = length_bits bytes in
    let nil = append-nil (take start (bits bytes)) in
    record {
      upto = omega arith;
      begun = rw nil (blank_begun start h z);
      here = rw nil (sym (length-take-le start (bits bytes) (omega arith)));
    }

module _ {s : List Bool} {degrees bytes : List ℕ} {at v : ℕ} (k : Marking s degrees bytes at v) where
  -- where the next one goes
  place : at ≡ length s + (v + total (take v degrees))
  place =
      let u = k.upto in
      let t = length-take-le v degrees u in
      k.here ∙ omega (arith, length-append s (unary_bits (take v degrees)), length_unary_bits (take v degrees))

  module _ (h : v < length degrees) where
    -- there is room for it, and for its zeros
    pub marking_room : at + (1 + get_or degrees v 0) ≤ length s + (length degrees + total degrees)
    marking_room =
        let p = place in
        let n = total_next degrees v h in
        let m = total_most degrees (suc v) in
        omega arith

    -- a degree more
    pub marking_more : {out : List ℕ} (d : ℕ) → d ≡ get_or degrees v 0
        → length s + (length degrees + total degrees) ≤ 8 * length bytes
        → bits out ≡ set (bits bytes) at true → length out ≡ length bytes
        → Marking s degrees out (at + (1 + d)) (v + 1)
    marking_more {out} d e f o l =
        let room = marking_room in
        let here = k.here in
        let before : List Bool = s ++ unary_bits (take v degrees) in
        let one = length-append before (true ∷ []) in
        let zeros = begun_zeros (begun_one k.begun here (omega arith) o l) d (omega arith) in
        let more : s ++ unary_bits (take (v + 1) degrees) ≡ before ++ (true ∷ []) ++ replicate d false =
        ap (λ (j : ℕ). s ++ unary_bits (take j degrees)) (add-one v)
        ∙ ap (λ (x : List ℕ). s ++ unary_bits x) (take-suc degrees v 0 h)
        ∙ ap (λ (x : List Bool). s ++ x) (unary_snoc (take v degrees) (get_or degrees v 0))
        ∙ ap (λ (j : ℕ). s ++ (unary_bits (take v degrees) ++ one_bits j)) (sym e)
        ∙ sym (append_assoc s (unary_bits (take v degrees)) (one_bits d))
        ∙ sym (append_assoc before (true ∷ []) (replicate d false)) in
        record {
          upto = omega arith;
          begun = rw more zeros;
          here =
              rw more
              (omega (arith, length-append (before ++ (true ∷ [])) (replicate d false), length-replicate d false));
        }

  pub marking_end : length degrees ≤ v → Begun bytes (s ++ unary_bits degrees)
  marking_end h = rw (take_all v degrees h) at k.begun
