-- The starts of the blocks, as they stand in an array or are found in D, and as they follow from the blocks.
use Rattle.std.specs.Prelude.{◌≡◌, ℕ, zero, suc, ◌+◌, ◌-◌, ◌≤◌, ◌<◌, length, get_or}
use Rattle.std.proofs.Common.{sym, ap, ◌∙◌, add-one, arith, take_all}
use mathlib.Core.List.{List, flatten}
use Rattle.graph.specs.Graph.{Blocks}
use Rattle.adjacency.specs.Arrays.{cut, Divided}
use Rattle.adjacency.specs.Laws.Rows.{length_cut, row_size}
use Rattle.record.specs.Record.{unary, blocks}
use Rattle.record.specs.Starts.{starts_of}
use Rattle.record.specs.Steps.{Sound}
use Rattle.record.specs.Laws.Parts.{start_first}
use Rattle.record.specs.Laws.Sounded.{sound_shaped, sound_vertices}
use Rattle.record.specs.Laws.Spans.{span_rises, span_size}
use Rattle.forest.specs.Laws.Sections.{block_start, start_more}

-- a block starts after the places of those before it
pub start_cut : {starts nbrs : List ℕ} → Divided starts nbrs → (u : ℕ) → u < length starts
    → get_or starts u 0 ≡ block_start (cut starts nbrs) u
unfolding flatten
start_cut i zero h = i.first
start_cut {starts} {nbrs} i (suc u) h =
    let l = length_cut starts nbrs in
    let r = start_cut i u (omega arith) in
    let e : get_or starts (u + 1) 0 ≡ get_or starts (suc u) 0 = ap (λ (x : ℕ). get_or starts x 0) (add-one u) in
    let s = start_more (cut starts nbrs) u (omega arith) in
    let q = row_size i u (omega arith) in
    let d = i.rising u (omega arith) in
    omega arith

-- there are as many places as neighbours
pub places_cut : {starts nbrs : List ℕ} → Divided starts nbrs → length (flatten (cut starts nbrs)) ≡ length nbrs
places_cut {starts} {nbrs} i =
    let l = length_cut starts nbrs in
    let e = start_cut i (length starts - 1) (omega arith) in
    let a = take_all (length starts - 1) (cut starts nbrs) (omega arith) in
    sym (ap (λ (g : Blocks). length (flatten g)) a) ∙ sym e ∙ i.last

-- the same for the starts that are found in D
pub start_block : {bytes : List ℕ} {n m : ℕ} → Sound bytes n m → (u : ℕ) → u ≤ n
    → get_or (starts_of (unary bytes)) u 0 ≡ block_start (blocks bytes) u
unfolding flatten
start_block {bytes} o zero h = start_first (unary bytes) (sound_shaped o).begins
start_block {bytes} {n} o (suc u) h =
    let l = sound_vertices o in
    let i = start_block o u (omega arith) in
    let e : get_or (starts_of (unary bytes)) (u + 1) 0 ≡ get_or (starts_of (unary bytes)) (suc u) 0 =
    ap (λ (x : ℕ). get_or (starts_of (unary bytes)) x 0) (add-one u) in
    let s = start_more (blocks bytes) u (omega arith) in
    let r = span_size o {u = u} (omega arith) in
    let q = span_rises o {u = u} (omega arith) in
    omega arith
