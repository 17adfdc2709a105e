-- The layout of a record that order R does not refuse: where D and the fields stand, and how many blocks and places
-- they make.
use Rattle.std.specs.Prelude.{◌≡◌, List, ℕ, ◌+◌, ◌-◌, ◌*◌, ◌≤◌, ◌<◌, length, take, drop, get_or}
use Rattle.std.proofs.Math.Path.{sym}
use Rattle.std.proofs.Common.{ap, ◌∙◌, arith, le-leb, length-drop, length-take-le}
use Rattle.std.proofs.Math.Decide.{dec_lt}
use Rattle.std.proofs.Math.ListN.{get_or-eq_default}
use Rattle.bits.specs.Bits.{bits, count, field}
use Rattle.bits.specs.Laws.Bytes.{length_bits}
use Rattle.bits.specs.Laws.Fields.{field_lt}
use Rattle.bits.specs.Laws.Rank.{held}
use Rattle.graph.specs.Graph.{block}
use Rattle.record.specs.Record.{terminals, wires, used_bits, record_length, unary, fields, blocks}
use Rattle.record.specs.Starts.{starts_of}
use Rattle.adjacency.specs.Arrays.{cut}
use Rattle.record.specs.Laws.First.{Shaped}
use Rattle.record.specs.Laws.Fields.{length_fields_from, fields_from_at}
use Rattle.record.specs.Laws.Parts.{length_starts, length_parts, start_last, cut_parts, length_block}

-- ---- the fields

module _ (bytes : List ℕ) where
  pub length_fields : length (fields bytes) ≡ 2 * wires bytes
  unfolding fields
  length_fields = length_fields_from (bits bytes) (28 + (terminals bytes + 2 * wires bytes)) (2 * wires bytes)

  pub fields_at : (p : ℕ) → p < 2 * wires bytes
      → get_or (fields bytes) p 0 ≡ field 12 (bits bytes) (28 + (terminals bytes + 2 * wires bytes) + 12 * p)
  unfolding fields
  fields_at p h = fields_from_at (bits bytes) (28 + (terminals bytes + 2 * wires bytes)) (2 * wires bytes) p h

  -- a field has 12 bits; past the last stands a 0
  pub field_small : (p : ℕ) → get_or (fields bytes) p 0 < 4096
  field_small p = go (dec_lt p (2 * wires bytes))
    where
      go : Dec (p < 2 * wires bytes) → get_or (fields bytes) p 0 < 4096
      go (yes h) = rw (fields_at p h) (field_lt 12 (bits bytes) (28 + (terminals bytes + 2 * wires bytes) + 12 * p))
      go (no h) = rw (get_or-eq_default (fields bytes) 0 {n = p} (omega (arith, length_fields))) (omega arith)

-- ---- the bytes hold D and the fields

module _ {bytes : List ℕ} (s : Shaped bytes) where
  pub used_held : used_bits (terminals bytes) (wires bytes) ≤ 8 * length bytes
  unfolding record_length
  used_held = omega (arith, s.sized)

  pub unary_held : 28 + (terminals bytes + 2 * wires bytes) ≤ 8 * length bytes
  unfolding used_bits
  unary_held = omega (arith, used_held)

  -- ---- D

  pub unary_is : unary bytes ≡ take (terminals bytes + 2 * wires bytes) (drop 28 (bits bytes))
  unfolding unary
  unary_is = held bytes 28 (terminals bytes + 2 * wires bytes) (le-leb _ _ unary_held)

  pub length_unary : length (unary bytes) ≡ terminals bytes + 2 * wires bytes
  length_unary =
      ap length unary_is ∙ length-take-le _ _ (simp length-drop (omega (arith, unary_held, length_bits bytes)))

  -- D has a zero for each field
  pub unary_whole : length (unary bytes) ≡ count (unary bytes) + length (fields bytes)
  unary_whole = omega (arith, length_unary, length_fields bytes, s.ones)

  -- ---- the blocks

  pub length_blocks : length (blocks bytes) ≡ terminals bytes
  unfolding blocks
  length_blocks = length_parts (unary bytes) (fields bytes) ∙ s.ones

  pub blocks_cut : blocks bytes ≡ cut (starts_of (unary bytes)) (fields bytes)
  unfolding blocks
  blocks_cut = sym (cut_parts (unary bytes) s.begins (fields bytes))

  pub starts_count : length (starts_of (unary bytes)) ≡ terminals bytes + 1
  starts_count = omega (arith, length_starts 0 (unary bytes), s.ones)

  pub starts_end : get_or (starts_of (unary bytes)) (terminals bytes) 0 ≡ 2 * wires bytes
  starts_end =
      let e = ap (λ (k : ℕ). get_or (starts_of (unary bytes)) k 0) s.ones in
      omega (arith, start_last (unary bytes), length_unary, s.ones)

  pub degree_starts : (u : ℕ) → u < terminals bytes
      → length (block (blocks bytes) u)
      ≡ get_or (starts_of (unary bytes)) (u + 1) 0 - get_or (starts_of (unary bytes)) u 0
  unfolding blocks
  degree_starts u h = length_block (unary bytes) s.begins (fields bytes) unary_whole u (omega (arith, s.ones))
