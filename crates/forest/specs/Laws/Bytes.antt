-- The bytes of the index: how many they are, and the sections and numbers that are read from them.
use Rattle.std.specs.Prelude.{◌≡◌, Bool, false, ℕ, zero, suc, ◌+◌, ◌-◌, ◌*◌, ◌/◌}
use Rattle.std.specs.Prelude.{◌≤◌, ◌<◌, take, drop, get_or, replicate}
use Rattle.std.proofs.Math.Path.{refl, sym, ap}
use Rattle.std.proofs.Common.{ap₂, ◌∙◌, mod-eq_of_lt, arith, le-leb, take_at, drop_at, get_or-append-add}
use mathlib.Core.List.{List, [], ◌∷◌, ◌++◌, append_assoc, append-nil, flatten}
use Rattle.std.proofs.Math.ListN.{length, length-append, get_or-append}
use Rattle.std.proofs.lemmas.List.{length-replicate, get_or-replicate}
use Rattle.bits.specs.Bits.{to_bits, bits, string, field, pack}
use Rattle.bits.specs.Laws.Bytes.{length_bits, bits_append}
use Rattle.bits.specs.Laws.Digits.{length_to_bits}
use Rattle.bits.specs.Laws.Fields.{field_laid}
use Rattle.bits.specs.Laws.Packing.{length_pack, bits_pack}
use Rattle.bits.specs.Laws.Rank.{held}
use Rattle.graph.specs.Graph.{Blocks}
use Rattle.graph.specs.Search.{Forest, PlaceTest}
use Rattle.graph.specs.Joined.{bridge}
use Rattle.graph.specs.Forest.{number, child_mark, parent_mark}
use Rattle.record.specs.Record.{field_bits}
use Rattle.record.specs.Laws.Fields.{length_field_bits}
use Rattle.forest.specs.Index.{section, section_e, section_p, section_b, numbers, index_by, mark_bytes, number_bytes}
use Rattle.forest.specs.Index.{index_length}
use Rattle.forest.specs.Laws.Sections.{length_section, length_numbers, number_at}

-- ---- packed bits between other bytes

-- the zero bits after s in its last byte
abbrev fill : List Bool → List Bool
fill s = replicate (8 * ((length s + 7) / 8) - length s) false

bits_between : (a b : List ℕ) (s : List Bool) → bits (a ++ (pack s ++ b)) ≡ bits a ++ (s ++ (fill s ++ bits b))
bits_between a b s =
    rw (bits_append a (pack s ++ b), bits_append (pack s) b, bits_pack s, append_assoc s (fill s) (bits b))

-- s stands in the bytes from byte `start` on
record Within (bytes : List ℕ) (s : List Bool) (start : ℕ) : Type 0 where
  before : List ℕ
  after : List ℕ
  is : bytes ≡ before ++ (pack s ++ after)
  long : length before ≡ start

module _ {bytes : List ℕ} {s : List Bool} {start : ℕ} (w : Within bytes s start) where
  all_bits : bits bytes ≡ bits w.before ++ (s ++ (fill s ++ bits w.after))
  all_bits = ap bits w.is ∙ bits_between w.before w.after s

  -- it is a string of the whole
  string_of : (places : ℕ) → length s ≡ places → string bytes (8 * start) places ≡ s
  string_of places e =
      let n = ap length w.is ∙ length-append w.before _ in
      let z = length-append (pack s) w.after in
      let fits : 8 * start + places ≤ 8 * length bytes = omega (arith, length_pack s) in
      held bytes (8 * start) places (le-leb _ _ fits)
      ∙ ap (λ (t : List Bool). take places (drop (8 * start) t)) all_bits
      ∙ ap (take places) (drop_at (bits w.before) _ (8 * start) (length_bits w.before ∙ omega arith))
      ∙ take_at s (fill s ++ bits w.after) places e

  -- the bits after it, up to the end of the byte, are zeros
  filled : {places : ℕ} → length s ≡ places → (i : ℕ) → 8 * start + places ≤ i
      → i < 8 * (start + (places + 7) / 8) → get_or (bits bytes) i false ≡ false
  filled {places} f i h k =
      let n = length_bits w.before in
      let j : ℕ = i - (8 * start + places) in
      let e : i ≡ length (bits w.before) + (length s + j) = omega arith in
      let z : 8 * ((length s + 7) / 8) - length s ≡ 8 * ((places + 7) / 8) - places =
      ap (λ (x : ℕ). 8 * ((x + 7) / 8) - x) f in
      let m = length-replicate {A = Bool} (8 * ((length s + 7) / 8) - length s) false in
      ap₂ (λ (t : List Bool) (x : ℕ). get_or t x false) all_bits e
      ∙ get_or-append-add (bits w.before) (s ++ (fill s ++ bits w.after)) (length s + j) false
      ∙ get_or-append-add s (fill s ++ bits w.after) j false
      ∙ get_or-append (fill s) (bits w.after) false j (omega arith)
      ∙ get_or-replicate (8 * ((length s + 7) / 8) - length s) j false false (omega arith)

-- a number among others in fields of 12 bits
field_among : (xs : List ℕ) (s t : List Bool) (start v : ℕ) → length s ≡ start → v < length xs → get_or xs v 0 < 4096
    → field 12 (s ++ (field_bits xs ++ t)) (start + 12 * v) ≡ get_or xs v 0
unfolding field_bits
field_among [] s t start v e h k = absurd (omega arith)
field_among (x ∷ xs) s t start zero e h k =
    let z : start + 12 * 0 ≡ start = omega arith in
    rw (z, append_assoc (to_bits 12 x) (field_bits xs) t)
    (field_laid 12 x s (field_bits xs ++ t) start e ∙ mod-eq_of_lt k)
field_among (x ∷ xs) s t start (suc v) e h k =
    let z : start + 12 * suc v ≡ start + 12 + 12 * v = omega arith in
    let f = length-append s (to_bits 12 x) ∙ ap₂ (λ (i j : ℕ). i + j) e (length_to_bits 12 x) in
    rw (z, append_assoc (to_bits 12 x) (field_bits xs) t, ← append_assoc s (to_bits 12 x) (field_bits xs ++ t))
    (field_among xs (s ++ to_bits 12 x) t (start + 12) v f (omega arith) k)

-- ---- the index

-- the graph has m wires
module _ (g : Blocks) (F : Forest) (m : ℕ) (even : length (flatten g) ≡ 2 * m) where
  length_marks : (test : PlaceTest) → length (section test g) ≡ length g + 2 * m
  length_marks test = length_section test g ∙ ap (λ (k : ℕ). length g + k) even

  bytes_marks : (test : PlaceTest) → length (pack (section test g)) ≡ mark_bytes (length g) m
  unfolding mark_bytes
  bytes_marks test = length_pack (section test g) ∙ ap (λ (k : ℕ). (k + 7) / 8) (length_marks test)

  length_stored : length (field_bits (numbers g F)) ≡ 12 * length g
  length_stored = length_field_bits (numbers g F) ∙ ap (λ (k : ℕ). 12 * k) (length_numbers g F)

  -- where they stand
  within_e : Within (index_by g F) (section (child_mark F) g) 0
  unfolding index_by section_e
  within_e = record { before = []; after = _; is = refl; long = refl }

  within_p : Within (index_by g F) (section (parent_mark g g F) g) (mark_bytes (length g) m)
  unfolding index_by section_e section_p
  within_p = record { before = pack (section_e g F); after = _; is = refl; long = bytes_marks (child_mark F) }

  within_b : Within (index_by g F) (section (bridge g) g) (2 * mark_bytes (length g) m)
  unfolding index_by section_e section_p section_b
  within_b = record {
    before = pack (section_e g F) ++ pack (section_p g F);
    after = _;
    is = sym (append_assoc (pack (section_e g F)) (pack (section_p g F)) _);
    long = simp length-append (omega (arith, bytes_marks (child_mark F), bytes_marks (parent_mark g g F)));
  }

  within_numbers : Within (index_by g F) (field_bits (numbers g F)) (3 * mark_bytes (length g) m)
  unfolding index_by section_e section_p section_b
  within_numbers =
      let e = bytes_marks (child_mark F) in
      let p = bytes_marks (parent_mark g g F) in
      record {
        before = pack (section_e g F) ++ (pack (section_p g F) ++ pack (section_b g));
        after = [];
        is = simp (append_assoc, append-nil);
        long = simp length-append (omega (arith, bytes_marks (bridge g)));
      }

  pub length_index : length (index_by g F) ≡ index_length (length g) m
  unfolding index_length number_bytes within_numbers
  length_index =
      let w = within_numbers.long in
      let n = length_pack (field_bits (numbers g F)) ∙ ap (λ (k : ℕ). (k + 7) / 8) length_stored in
      ap length within_numbers.is ∙ length-append within_numbers.before _ ∙ simp append-nil (omega arith)

  -- the sections, read back
  pub string_e : string (index_by g F) 0 (length g + 2 * m) ≡ section_e g F
  unfolding section_e
  string_e = string_of within_e (length g + 2 * m) (length_marks (child_mark F))

  pub string_p : string (index_by g F) (8 * mark_bytes (length g) m) (length g + 2 * m) ≡ section_p g F
  unfolding section_p
  string_p = string_of within_p (length g + 2 * m) (length_marks (parent_mark g g F))

  pub string_b : string (index_by g F) (8 * (2 * mark_bytes (length g) m)) (length g + 2 * m) ≡ section_b g
  unfolding section_b
  string_b = string_of within_b (length g + 2 * m) (length_marks (bridge g))

  -- the fill bits of each section are zeros
  pub fill_e : (i : ℕ) → length g + 2 * m ≤ i → i < 8 * mark_bytes (length g) m
      → get_or (bits (index_by g F)) i false ≡ false
  unfolding mark_bytes
  fill_e i h k = filled within_e (length_marks (child_mark F)) i (omega arith) (omega arith)

  pub fill_p : (i : ℕ) → 8 * mark_bytes (length g) m + (length g + 2 * m) ≤ i → i < 8 * (2 * mark_bytes (length g) m)
      → get_or (bits (index_by g F)) i false ≡ false
  unfolding mark_bytes
  fill_p i h k = filled within_p (length_marks (parent_mark g g F)) i h (omega arith)

  pub fill_b : (i : ℕ) → 8 * (2 * mark_bytes (length g) m) + (length g + 2 * m) ≤ i
      → i < 8 * (3 * mark_bytes (length g) m) → get_or (bits (index_by g F)) i false ≡ false
  unfolding mark_bytes
  fill_b i h k = filled within_b (length_marks (bridge g)) i h (omega arith)

  pub fill_numbers : (i : ℕ) → 8 * (3 * mark_bytes (length g) m) + 12 * length g ≤ i → i < 8 * index_length (length g) m
      → get_or (bits (index_by g F)) i false ≡ false
  unfolding index_length number_bytes
  fill_numbers i h k = filled within_numbers length_stored i h k

  -- a number, read back
  pub number_stored : (v : ℕ) → v < length g → number F v < 4096
      → field 12 (bits (index_by g F)) (8 * (3 * mark_bytes (length g) m) + 12 * v) ≡ number F v
  number_stored v h k =
      let start : ℕ = 8 * (3 * mark_bytes (length g) m) in
      let at = number_at g F v h in
      let l = length_bits within_numbers.before ∙ ap (λ (i : ℕ). 8 * i) within_numbers.long in
      ap (λ (s : List Bool). field 12 s (start + 12 * v)) (all_bits within_numbers)
      ∙ field_among (numbers g F) (bits within_numbers.before)
      (fill (field_bits (numbers g F)) ++ bits within_numbers.after) start v l (rw (length_numbers g F) h) (rw at k)
      ∙ at
