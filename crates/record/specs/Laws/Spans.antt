-- The block of a vertex: where it lies in the row of fields, by the starts.
use Rattle.std.specs.Prelude.{◌≡◌, ℕ, suc, ◌+◌, ◌-◌, ◌*◌, ◌≤◌, ◌<◌, length, drop}
use Rattle.std.proofs.Math.Path.{ap}
use Rattle.std.proofs.Common.{◌∙◌, arith}
use mathlib.Core.List.{List}
use Rattle.std.proofs.Math.ListN.{get_or}
use Rattle.std.proofs.Math.Seq.{get_or-take, get_or-drop}
use Rattle.bits.specs.Bits.{count, select}
use Rattle.graph.specs.Graph.{block, target}
use Rattle.record.specs.Record.{unary, fields, blocks}
use Rattle.record.specs.Starts.{starts_of}
use Rattle.record.specs.Steps.{Sound}
use Rattle.record.specs.Laws.Layout.{degree_starts}
use Rattle.record.specs.Laws.Parts.{starts_rise, starts_fit, start_select, part_block}
use Rattle.record.specs.Laws.Sounded.{sound_shaped, sound_ones, sound_places}

module _ {bytes : List ℕ} {n m : ℕ} (s : Sound bytes n m) {u : ℕ} (h : u < n) where
  counted : u < count (unary bytes)
  counted = let k = sound_ones s in omega arith

  pub span_rises : get_or (starts_of (unary bytes)) u 0 ≤ get_or (starts_of (unary bytes)) (u + 1) 0
  span_rises = starts_rise 0 (unary bytes) u counted

  pub span_ends : get_or (starts_of (unary bytes)) (u + 1) 0 ≤ 2 * m
  span_ends =
      let k = sound_ones s in
      let l = sound_places s in
      let f = starts_fit 0 (unary bytes) (u + 1) (omega arith) in
      omega arith

  pub span_size : length (block (blocks bytes) u)
      ≡ get_or (starts_of (unary bytes)) (u + 1) 0 - get_or (starts_of (unary bytes)) u 0
  span_size = let e = s.is_n in degree_starts (sound_shaped s) u (omega arith)

  -- a block has at most 2·m places
  pub block_small : length (block (blocks bytes) u) ≤ 32768
  block_small = omega (arith, span_size, span_ends, s.m_fits)

  -- the place of its one in D
  pub span_one : get_or (starts_of (unary bytes)) u 0 + u + 1 ≡ select (unary bytes) (suc u)
  span_one =
      let e : u + 1 ≡ suc u = omega arith in
      let f : get_or (starts_of (unary bytes)) u 0 + u + 1 ≡ get_or (starts_of (unary bytes)) u 0 + (u + 1) =
      omega arith in
      f ∙ start_select (unary bytes) u counted ∙ ap (select (unary bytes)) e

  -- the neighbour at position j
  pub span_neighbour : (j : ℕ) → j < get_or (starts_of (unary bytes)) (u + 1) 0 - get_or (starts_of (unary bytes)) u 0
      → target (blocks bytes) u j ≡ get_or (fields bytes) (get_or (starts_of (unary bytes)) u 0 + j) 0
  unfolding blocks
  span_neighbour j k =
      ap (λ (x : List ℕ). get_or x j 0) (part_block (unary bytes) (sound_shaped s).begins (fields bytes) u counted)
      ∙ get_or-take (get_or (starts_of (unary bytes)) (u + 1) 0 - get_or (starts_of (unary bytes)) u 0)
      (drop (get_or (starts_of (unary bytes)) u 0) (fields bytes)) j 0 k
      ∙ get_or-drop (get_or (starts_of (unary bytes)) u 0) (fields bytes) j 0
