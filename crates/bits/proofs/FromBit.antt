-- A string that starts inside a byte: what is left of that byte, and then whole bytes.
use mathlib.Core.Path.{◌≡◌, sym, ap, ap₂, ◌∙◌}
use mathlib.Core.Bool.{Bool}
use mathlib.Core.List.{List, ◌++◌}
use Prim.Native.Nat.{ℕ, ◌+◌, ◌-◌, ◌*◌, ◌/◌, ◌%◌, ◌^◌, ◌≤◌, ◌<◌}
use native.Mathlib.Omega.{arith}
use lib.Count.{ones}
use lib.ListN.{length, take, drop, length-take, length-drop, take-append-drop}
use lib.Seq.{length-take-le, take-add, take-take}
use Rattle.bits.specs.Bits.{to_bits, bits, count, rank, select, field}
use Rattle.bits.specs.Steps.{IsRest, within}
use Rattle.bits.specs.Laws.Bytes.{length_bits, after_byte}
use Rattle.bits.specs.Laws.Fields.{field_front}
use Rattle.bits.specs.Laws.Rank.{count_take_add, rank_le, ones_field}
use Rattle.bits.specs.Laws.Select.{select_none, select_bounds, select_le, select_take}
use Rattle.bits.specs.Laws.Select.{select_left, select_right_found, select_right_none}
use Rattle.bits.proofs.Passes.{found_inside}

-- the bits from bit `start` on; how many of them are left of its byte; the bits of the bytes after it
abbrev pub from : List ℕ → ℕ → List Bool
from bytes start = drop start (bits bytes)

abbrev pub room : ℕ → ℕ
room start = 8 - start % 8

abbrev pub after : List ℕ → ℕ → List Bool
after bytes start = bits (drop (start / 8 + 1) bytes)

module _ {bytes : List ℕ} {start b : ℕ} (rest : IsRest bytes start b) where
  -- the bits of b
  own : List Bool
  own = take (room start) (from bytes start)

  inside_bits : start + room start ≤ length (bits bytes)
  inside_bits = let i = rest.inside in rw (length_bits bytes) (omega arith)

  length_own : length own ≡ room start
  unfolding own
  length_own = length-take-le (room start) (from bytes start) (let h = inside_bits in simp length-drop (omega arith))

  after_own : drop (room start) (from bytes start) ≡ after bytes start
  after_own = after_byte bytes start (room start) (omega arith)

  -- ---- counting

  ones_own : ones b ≡ count own
  unfolding own
  ones_own = ap ones rest.same ∙ ones_field (room start) (bits bytes) start

  pub ones_within : (n : ℕ) → n ≤ room start → ones (b / 2 ^ (room start - n)) ≡ count (take n (from bytes start))
  ones_within n l =
      let h = inside_bits in
      let s : n + (room start - n) ≡ room start = omega arith in
      let f : field n (bits bytes) start ≡ field (n + (room start - n)) (bits bytes) start / 2 ^ (room start - n) =
      field_front (bits bytes) start n (room start - n) (omega arith) in
      rw rest.same (ap ones (sym (rw s at f)) ∙ ones_field n (bits bytes) start)

  -- x ones in what is left of the byte, and y after it
  pub ones_beyond : (n x y : ℕ) → room start ≤ n → x ≡ ones b → y ≡ count (take (n - room start) (after bytes start))
      → x + y ≡ count (take n (from bytes start))
  unfolding own
  ones_beyond n x y l ex ey =
      let s : room start + (n - room start) ≡ n = omega arith in
      rw (ex, ey, ones_own, ← after_own)
      (sym (count_take_add (from bytes start) (room start) (n - room start))
      ∙ ap (λ (m : ℕ). count (take m (from bytes start))) s)

  -- ---- the k-th one, in what is left of the byte

  module _ {k t : ℕ} (some : 1 ≤ k) (few : k ≤ ones b) (table : t ≡ select (to_bits 8 b) k) where
    place : t ≡ start % 8 + select own k
    unfolding own field
    place =
        let l = length_own in
        table ∙ ap (λ (x : ℕ). select (to_bits 8 x) k) rest.same
        ∙ found_inside 8 own (start % 8) k (omega arith) some (rw ones_own at few)

    pub rest_bounds : (start % 8 < t) × (t ≤ 8)
    rest_bounds =
        let p = place in
        let l = length_own in
        let s = select_bounds own k some (rw ones_own at few) in
        omega arith

    pub place_within : (places : ℕ)
        → within places (8 * 0 + (t - start % 8)) ≡ select (take places (from bytes start)) k
    unfolding own
    place_within places =
        let p = place in
        let q : 8 * 0 + (t - start % 8) ≡ select own k = omega arith in
        let s : List Bool = from bytes start in
        rw (q, ← select_left own (drop (room start) s) k (rw ones_own at few), take-append-drop (room start) s)
        (sym (select_take s places k))

  -- ---- after it

  -- b has c ones
  module _ {k c : ℕ} (places : ℕ) (ones-of : c ≡ ones b) (more : c < k) where
    count_own : c ≡ count own
    count_own = ones-of ∙ ones_own

    pub place_none : places ≤ room start → select (take places (from bytes start)) k ≡ 0
    unfolding rank own
    place_none l =
        let c = count_own in
        let r = rank_le own places in
        let t = ap count (take-take places (room start) (from bytes start) l) in
        select_none (take places (from bytes start)) k (omega arith)

    split : room start ≤ places → take places (from bytes start) ≡ own ++ take (places - room start) (after bytes start)
    unfolding own
    split l =
        let s : places ≡ room start + (places - room start) = omega arith in
        ap (λ (n : ℕ). take n (from bytes start)) s ∙ take-add (room start) (places - room start) (from bytes start)
        ∙ ap (λ (x : List Bool). own ++ take (places - room start) x) after_own

    -- the bits of the string after the byte
    abbrev others : List Bool
    others = take (places - room start) (after bytes start)

    module _ {p : ℕ} (far : room start ≤ places)
        (same : p ≡ select (take (places - room start) (after bytes start)) (k - c)) where
      pub place_le : p ≤ places - room start
      place_le =
          let l = select_le (take (places - room start) (after bytes start)) (k - c) in
          let m = length-take (places - room start) (after bytes start) in
          omega arith

      pub place_missing : p ≡ 0 → select (take places (from bytes start)) k ≡ 0
      place_missing z =
          rw (split far) (select_right_none own others k (rw count_own at more) (rw count_own at (sym same ∙ z)))

      pub place_beyond : 1 ≤ p → room start + p ≡ select (take places (from bytes start)) k
      place_beyond z =
          let q : p ≡ select others (k - count own) = rw count_own at same in
          let r = select_right_found own others k (rw count_own at more) (rw q at z) in
          ap₂ ◌+◌ (sym length_own) q ∙ sym (rw (split far) r)
