-- The fields, written one after the other, or four at once, behind the first bits of s.
--   laying_start  none is written yet
--   laying_blank  zeros stand behind them
--   laying_same   what stands before them stays, so that they are behind these bytes' own bits
--   laying_on     and what is written on behind those is behind s
--   laying_more   a field more, or four (laying_four)
use mathlib.Core.Path.{◌≡◌, sym, ap, ◌∙◌}
use mathlib.Core.Bool.{Bool}
use mathlib.Core.List.{List, [], ◌∷◌, ◌++◌, append_assoc, append-nil}
use Prim.Native.Nat.{ℕ, ◌+◌, ◌*◌, ◌≤◌, ◌<◌}
use native.Mathlib.Numerals.{add-one}
use native.Mathlib.Omega.{arith}
use lib.ListN.{length, take, get_or, length-append}
use lib.Seq.{take-suc, take-append-le, take-take, length-take-le}
use Rattle.bits.specs.Bits.{to_bits, bits, put}
use Rattle.bits.specs.Steps.{four_of, Blank}
use Rattle.bits.specs.Laws.Puts.{four_bits}
use Rattle.bits.specs.Laws.Begun.{blank_begun, begun_blank, begun_put}
use Rattle.record.specs.Record.{field_bits}
use Rattle.record.specs.Steps.{Laying}
use Rattle.record.specs.Laws.Fields.{length_field_bits, field_bits_append}

-- a field more
fields_next : (numbers : List ℕ) (i : ℕ) → i < length numbers
    → field_bits (take (i + 1) numbers) ≡ field_bits (take i numbers) ++ to_bits 12 (get_or numbers i 0)
unfolding field_bits
fields_next numbers i h =
    ap (λ (j : ℕ). field_bits (take j numbers)) (add-one i) ∙ ap field_bits (take-suc numbers i 0 h)
    ∙ field_bits_append (take i numbers) (get_or numbers i 0 ∷ [])
    ∙ ap (λ (x : List Bool). field_bits (take i numbers) ++ x) (append-nil (to_bits 12 (get_or numbers i 0)))

-- two more
fields_two : (numbers : List ℕ) (i : ℕ) {a b : ℕ} → i + 2 ≤ length numbers → a ≡ get_or numbers i 0
    → b ≡ get_or numbers (i + 1) 0
    → field_bits (take (i + 2) numbers) ≡ field_bits (take i numbers) ++ (to_bits 12 a ++ to_bits 12 b)
fields_two numbers i {a} {b} h ea eb =
    let n : i + 1 + 1 ≡ i + 2 = omega arith in
    ap (λ (j : ℕ). field_bits (take j numbers)) (sym n) ∙ fields_next numbers (i + 1) (omega arith)
    ∙ ap (λ (x : List Bool). x ++ to_bits 12 (get_or numbers (i + 1) 0)) (fields_next numbers i (omega arith))
    ∙ append_assoc (field_bits (take i numbers)) (to_bits 12 (get_or numbers i 0)) (to_bits 12 (get_or numbers (i + 1) 0))
    ∙ rw (ea, eb)

pub laying_start : (numbers bytes : List ℕ) (start : ℕ) → start ≤ 8 * length bytes → Blank (bits bytes) start
    → Laying start (bits bytes) numbers bytes 0
unfolding field_bits
laying_start numbers bytes start h z = record {
  upto = omega arith;
  begun = rw (append-nil (take start (bits bytes))) (blank_begun start h z);
}

module _ {start : ℕ} {s : List Bool} {numbers bytes : List ℕ} {i : ℕ} (k : Laying start s numbers bytes i)
    (inside : start ≤ length s) where
  before : List Bool
  before = take start s ++ field_bits (take i numbers)

  -- where the next field goes
  here : start + 12 * i ≡ length before
  unfolding before
  here =
      let u = k.upto in
      let a = length-take-le start s inside in
      let b = length-take-le i numbers u in
      omega (arith, length-append (take start s) (field_bits (take i numbers)), length_field_bits (take i numbers))

  pub laying_blank : Blank (bits bytes) (start + 12 * i)
  unfolding before
  laying_blank = begun_blank k.begun (start + 12 * i) here

  -- what stands before them stays
  front : take start (bits bytes) ≡ take start s
  front =
      let l = length-take-le start s inside in
      ap (take start) k.begun.holds
      ∙ ap (take start) (append_assoc (take start s) (field_bits (take i numbers)) _)
      ∙ take-append-le start (take start s) _ (omega arith) ∙ take-take start start s (omega arith)

  pub laying_same : Laying start (bits bytes) numbers bytes i
  laying_same = record { upto = k.upto; begun = rw front k.begun }

  -- so what is written on behind these bytes is written on behind s
  pub laying_on : {out : List ℕ} {j : ℕ} → Laying start (bits bytes) numbers out j → Laying start s numbers out j
  laying_on f = record { upto = f.upto; begun = rw front at f.begun }

  module _ {out : List ℕ} (fits : start + 12 * length numbers ≤ 8 * length bytes)
      (size : length out ≡ length bytes) where
    -- a field more
    pub laying_more : (v : ℕ) → i < length numbers → v ≡ get_or numbers i 0
        → bits out ≡ put 12 v (bits bytes) (start + 12 * i)
        → Laying start s numbers out (i + 1)
    unfolding before
    laying_more v h e o =
        let b = begun_put k.begun 12 v here (omega arith) o size in
        let more : take start s ++ field_bits (take (i + 1) numbers) ≡ before ++ to_bits 12 v =
        ap (λ (x : List Bool). take start s ++ x) (fields_next numbers i h)
        ∙ ap (λ (j : ℕ). take start s ++ (field_bits (take i numbers) ++ to_bits 12 j)) (sym e)
        ∙ sym (append_assoc (take start s) (field_bits (take i numbers)) (to_bits 12 v)) in
        record { upto = omega arith; begun = rw more b }

    -- four more
    pub laying_four : {a b c d : ℕ} → i + 4 ≤ length numbers
        → (a ≡ get_or numbers i 0) × (a < 4096) → (b ≡ get_or numbers (i + 1) 0) × (b < 4096)
        → (c ≡ get_or numbers (i + 2) 0) × (c < 4096) → (d ≡ get_or numbers (i + 3) 0) × (d < 4096)
        → bits out ≡ put 48 (four_of a b c d) (bits bytes) (start + 12 * i)
        → Laying start s numbers out (i + 4)
    unfolding before
    laying_four {a} {b} {c} {d} h (ea, ha) (eb, hb) (ec, hc) (ed, hd) o =
        let q = begun_put k.begun 48 (four_of a b c d) here (omega arith) o size in
        let n : i + 2 + 2 ≡ i + 4 = omega arith in
        let p : i + 2 + 1 ≡ i + 3 = omega arith in
        let f : d ≡ get_or numbers (i + 2 + 1) 0 = ed ∙ ap (λ (j : ℕ). get_or numbers j 0) (sym p) in
        let more : field_bits (take (i + 4) numbers) ≡ field_bits (take i numbers) ++ to_bits 48 (four_of a b c d) =
        ap (λ (j : ℕ). field_bits (take j numbers)) (sym n) ∙ fields_two numbers (i + 2) (omega arith) ec f
        ∙ ap (λ (x : List Bool). x ++ (to_bits 12 c ++ to_bits 12 d)) (fields_two numbers i (omega arith) ea eb)
        ∙ append_assoc (field_bits (take i numbers)) (to_bits 12 a ++ to_bits 12 b) (to_bits 12 c ++ to_bits 12 d)
        ∙ ap (λ (x : List Bool). field_bits (take i numbers) ++ x) (sym (four_bits a b c d ha hb hc hd)) in
        let whole = ap (λ (x : List Bool). take start s ++ x) more
        ∙ sym (append_assoc (take start s) (field_bits (take i numbers)) (to_bits 48 (four_of a b c d))) in
        record { upto = omega arith; begun = rw whole q }
