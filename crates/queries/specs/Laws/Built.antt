-- The view of a built index shows the forest of its start; and the bits of that index, one by one.
use Rattle.std.specs.Prelude.{◌≡◌, Bool, true, false, length, drop, get_or}
use Rattle.std.proofs.Common.{sym, ◌∙◌}
use Rattle.std.proofs.Math.Path.{ap, ap₂}
use mathlib.Core.List.{List, map, flatten}
use Prim.Native.Nat.{ℕ, zero, suc, ◌+◌, ◌*◌, ◌≤◌, ◌<◌}
use native.Mathlib.Omega.{arith}
use Rattle.std.proofs.Math.ListN.{take}
use Rattle.bits.specs.Bits.{bits, string, count, select}
use Rattle.graph.specs.Graph.{Blocks, block, Place}
use Rattle.graph.specs.Search.{Forest, PlaceTest, count_up, forest}
use Rattle.graph.specs.Joined.{bridge}
use Rattle.graph.specs.Forest.{number, child_mark, parent_mark}
use Rattle.graph.specs.Counts.{count_places}
use Rattle.graph.specs.Laws.Places.Pairing.{source}
use Rattle.graph.specs.Laws.Joined.Starts.{Startable}
use Rattle.graph.specs.Theorems.{start_covers, number_in_range}
use Rattle.record.specs.Record.{terminals, wires, unary, blocks}
use Rattle.record.specs.Operations.{Accepted}
use Rattle.record.specs.Steps.{Sound}
use Rattle.record.specs.Laws.Fields.{fields_from_at}
use Rattle.record.specs.Laws.Sound.{accepted_well_formed}
use Rattle.record.specs.Laws.Sounded.{accepted_sound, sound_vertices, sound_all, sound_ones, sound_places}
use Rattle.record.specs.Laws.Spans.{span_rises, span_ends, span_size, span_one}
use Rattle.forest.specs.Index.{section, section_e, section_p, section_b, index_of, mark_bytes, index_length}
use Rattle.forest.specs.Laws.Sections.{block_start, place_bit, own_bit, mark_bit}
use Rattle.forest.specs.Laws.Ones.{count_section}
use Rattle.forest.specs.Laws.Bytes.{length_index, string_e, string_p, string_b, number_stored, fill_e, fill_p, fill_b}
use Rattle.forest.specs.Laws.Bytes.{fill_numbers}
use Rattle.forest.specs.Laws.Starts.{start_block}
use Rattle.queries.specs.View.{block_marks, section_of, number_of, view_of, section_bit, ones_of_b, number_bit}
use Rattle.queries.specs.View.{place_of}
use Rattle.queries.specs.Laws.Framed.{section_bit_lem}
use Rattle.queries.specs.Laws.Marks.{set_inside, one_of, block_part}
use Rattle.queries.specs.Laws.Shown.{Shows}

module _ {bytes : List ℕ} (a : Accepted bytes) where
  sound : Sound bytes (terminals bytes) (wires bytes)
  sound = accepted_sound a

  pub as_many : length (blocks bytes) ≡ terminals bytes
  as_many = sound_vertices sound

  pub as_many_places : length (flatten (blocks bytes)) ≡ 2 * wires bytes
  as_many_places = sound_all sound

  same_bytes : mark_bytes (terminals bytes) (wires bytes) ≡ mark_bytes (length (blocks bytes)) (wires bytes)
  same_bytes = ap (λ (x : ℕ). mark_bytes x (wires bytes)) (sym as_many)

  same_places : terminals bytes + 2 * wires bytes ≡ length (blocks bytes) + 2 * wires bytes
  same_places = ap (λ (x : ℕ). x + 2 * wires bytes) (sym as_many)

  -- a block's part of a section
  marks_in : (test : PlaceTest) (u : ℕ) → u < length (blocks bytes)
      → block_marks bytes (section test (blocks bytes)) u ≡ map (test u) (count_up 0 (length (block (blocks bytes) u)))
  unfolding block_marks
  marks_in test u h =
      let l = as_many in
      let o = span_one sound {u = u} (omega arith) in
      let b = start_block sound u (omega arith) in
      let e : select (unary bytes) (suc u) ≡ place_bit (blocks bytes) u 0 = omega arith in
      ap (λ (x : ℕ). take (length (block (blocks bytes) u)) (drop x (section test (blocks bytes)))) e
      ∙ block_part test (blocks bytes) u h

  -- the places of the blocks are places of D
  place_inside : {u j v : ℕ} → Place (blocks bytes) u j v → place_of bytes u j < terminals bytes + 2 * wires bytes
  place_inside {u} {j} p =
      let l = as_many in
      let h : u < terminals bytes = omega (arith, source p) in
      let o = span_one sound h in
      let s = span_size sound h in
      let r = span_rises sound h in
      let e = span_ends sound h in
      let f = p.fits in
      omega arith

  module _ (s : ℕ) where
    -- ---- the sections

    abbrev g : Blocks
    g = blocks bytes

    abbrev n : ℕ
    n = terminals bytes

    abbrev m : ℕ
    m = wires bytes

    abbrev F : Forest
    F = forest (blocks bytes) s

    abbrev index : List ℕ
    index = index_of (blocks bytes) s

    -- which places section k marks
    abbrev marking : ℕ → PlaceTest
    marking zero = child_mark F
    marking (suc zero) = parent_mark g g F
    marking (suc (suc k)) = bridge g

    section_is : (k : ℕ) → k < 3 → section_of n m index k ≡ section (marking k) g
    unfolding section_of section_e section_p section_b
    section_is zero h =
        let z : 8 * (0 * mark_bytes n m) ≡ 0 = omega arith in
        ap₂ (string index) z same_places ∙ string_e g F m as_many_places
    section_is (suc zero) h =
        let e = same_bytes in
        let z : 8 * (1 * mark_bytes n m) ≡ 8 * mark_bytes (length g) m = omega arith in
        ap₂ (string index) z same_places ∙ string_p g F m as_many_places
    section_is (suc (suc zero)) h =
        let e = same_bytes in
        let z : 8 * (2 * mark_bytes n m) ≡ 8 * (2 * mark_bytes (length g) m) = omega arith in
        ap₂ (string index) z same_places ∙ string_b g F m as_many_places
    section_is (suc (suc (suc k))) h = absurd (omega arith)

    pub built_ones : ones_of_b bytes (index_of (blocks bytes) s) ≡ count_places (blocks bytes) (bridge (blocks bytes))
    built_ones = ap count (section_is 2 (omega arith)) ∙ count_section (bridge g) g

    stored_is : Startable (blocks bytes) s → (u : ℕ) → u < length (blocks bytes)
        → number_of (terminals bytes) (wires bytes) (index_of (blocks bytes) s) u ≡ number (forest (blocks bytes) s) u
    unfolding number_of
    stored_is starts u h =
        let l = as_many in
        let f = sound.n_fits in
        let r = number_in_range (accepted_well_formed a).in_range (start_covers (blocks bytes) s starts) u h in
        ap (λ (x : ℕ). number_of x (wires bytes) (index_of (blocks bytes) s) u) (sym as_many)
        ∙ fields_from_at (bits (index_of (blocks bytes) s)) (8 * (3 * mark_bytes (length (blocks bytes)) (wires bytes)))
        (length (blocks bytes)) u h
        ∙ number_stored (blocks bytes) (forest (blocks bytes) s) (wires bytes) as_many_places u h (omega arith)

    shown_by : (k : ℕ) → k < 3 → (u : ℕ) → u < length g
        → block_marks bytes (section_of n m index k) u ≡ map (marking k u) (count_up 0 (length (block g u)))
    shown_by k l u h = ap (λ (t : List Bool). block_marks bytes t u) (section_is k l) ∙ marks_in (marking k) u h

    pub built_shows : Startable (blocks bytes) s
        → Shows (view_of bytes (index_of (blocks bytes) s)) (forest (blocks bytes) s)
    built_shows starts = record {
      shows_e = shown_by 0 (omega arith);
      shows_p = shown_by 1 (omega arith);
      shows_b = shown_by 2 (omega arith);
      shows_numbers = stored_is starts;
    }

    -- ---- the bits

    pub built_length : length (index_of (blocks bytes) s) ≡ index_length (terminals bytes) (wires bytes)
    built_length = length_index g F m as_many_places ∙ ap (λ (x : ℕ). index_length x m) as_many

    -- at a place stands its mark
    marked_bit : (k : ℕ) → k < 3 → {u j v : ℕ} → Place g u j v
        → section_bit bytes index k (place_of bytes u j) ≡ marking k u j
    marked_bit k l {u} {j} p =
        let h = source p in
        let q = start_block sound u (omega (arith, as_many)) in
        let o = span_one sound {u = u} (omega (arith, as_many)) in
        let e : place_of bytes u j ≡ place_bit g u j = omega arith in
        sym (section_bit_lem index n m built_length k (place_of bytes u j) l (place_inside p))
        ∙ ap₂ (λ (t : List Bool) (x : ℕ). get_or t x false) (section_is k l) e
        ∙ mark_bit (marking k) g u j h p.fits

    pub built_e : {u j v : ℕ} → Place (blocks bytes) u j v
        → section_bit bytes (index_of (blocks bytes) s) 0 (place_of bytes u j)
        ≡ child_mark (forest (blocks bytes) s) u j
    built_e = marked_bit 0 (omega arith)

    pub built_p : {u j v : ℕ} → Place (blocks bytes) u j v
        → section_bit bytes (index_of (blocks bytes) s) 1 (place_of bytes u j)
        ≡ parent_mark (blocks bytes) (blocks bytes) (forest (blocks bytes) s) u j
    built_p = marked_bit 1 (omega arith)

    pub built_b : {u j v : ℕ} → Place (blocks bytes) u j v
        → section_bit bytes (index_of (blocks bytes) s) 2 (place_of bytes u j) ≡ bridge (blocks bytes) u j
    built_b = marked_bit 2 (omega arith)

    -- at D's ones stand zeros
    pub built_own : (k p : ℕ) → k < 3 → get_or (unary bytes) p false ≡ true
        → section_bit bytes (index_of (blocks bytes) s) k p ≡ false
    built_own k p l one =
        let c = sound_ones sound in
        let d = sound_places sound in
        let inside : p < n + 2 * m = omega (arith, set_inside (unary bytes) p one) in
        let (u, h, at) = one_of (unary bytes) p one in
        let o = span_one sound {u = u} (omega arith) in
        let q = start_block sound u (omega arith) in
        let e : p ≡ block_start g u + u = omega arith in
        let v : u < length g = omega (arith, as_many) in
        sym (section_bit_lem index n m built_length k p l inside)
        ∙ ap₂ (λ (t : List Bool) (x : ℕ). get_or t x false) (section_is k l) e
        ∙ own_bit (marking k) g u v

    -- and in the fill
    pub built_fill : (k p : ℕ) → k < 3 → terminals bytes + 2 * wires bytes ≤ p
        → p < 8 * mark_bytes (terminals bytes) (wires bytes)
        → section_bit bytes (index_of (blocks bytes) s) k p ≡ false
    built_fill zero p l a b =
        let e = same_bytes in
        let f = same_places in
        fill_e g F m as_many_places (8 * (0 * mark_bytes n m) + p) (omega arith) (omega arith)
    built_fill (suc zero) p l a b =
        let e = same_bytes in
        let f = same_places in
        fill_p g F m as_many_places (8 * (1 * mark_bytes n m) + p) (omega arith) (omega arith)
    built_fill (suc (suc zero)) p l a b =
        let e = same_bytes in
        let f = same_places in
        fill_b g F m as_many_places (8 * (2 * mark_bytes n m) + p) (omega arith) (omega arith)
    built_fill (suc (suc (suc k))) p l a b = absurd (omega arith)

    pub built_rest : (i : ℕ) → 12 * terminals bytes ≤ i
        → 8 * (3 * mark_bytes (terminals bytes) (wires bytes)) + i < 8 * index_length (terminals bytes) (wires bytes)
        → number_bit bytes (index_of (blocks bytes) s) i ≡ false
    built_rest i a b =
        let e = same_bytes in
        let z = as_many in
        let f = ap (λ (x : ℕ). index_length x m) as_many in
        fill_numbers g F m as_many_places (8 * (3 * mark_bytes n m) + i) (omega arith) (omega arith)
