-- The graph in two arrays: its vertices, and the places of a vertex in the row.
--   as_many, many         it has n vertices
--   Sized, marks_sized    how long a section of marks is
--   in_range              what a place leads to is a vertex
--   row_end               the end of a block
--   row_place, place_row  the places of a block, from the row and back
use mathlib.Core.Path.{◌≡◌, sym, ap, ◌∙◌}
use mathlib.Core.List.{List, flatten}
use Prim.Native.Nat.{ℕ, ◌+◌, ◌-◌, ◌*◌, ◌≤◌, ◌<◌}
use native.Mathlib.Omega.{arith}
use lib.ListN.{length, get_or}
use Rattle.graph.specs.Graph.{Blocks, block, Place}
use Rattle.graph.specs.Laws.Places.Pairing.{InRange}
use Rattle.adjacency.specs.Arrays.{cut, Arrays}
use Rattle.adjacency.specs.Laws.Rows.{length_cut, row_size, row_neighbour, place_known}
use Rattle.forest.specs.Index.{mark_bytes}
use Rattle.forest.specs.Laws.Starts.{places_cut}
use Rattle.forest.specs.Graphs.{held}
use Rattle.forest.specs.declared.graphs.Graph.{Graph}

pub as_many : {n : ℕ} (starts nbrs : List ℕ) → n + 1 ≡ length starts → length (cut starts nbrs) ≡ n
as_many starts nbrs fit = let l = length_cut starts nbrs in omega arith

pub many : (g : Graph) → length (held g) ≡ g.n
many g = as_many g.starts.now g.nbrs.now g.sized

-- k bytes are a section of marks of g, which has n vertices and 2·m places
pub record Sized (g : Blocks) (n m k : ℕ) : Type 0 where
  pub vertices : length g ≡ n
  pub places : length (flatten g) ≡ 2 * m
  pub bytes : k ≡ mark_bytes n m

pub marks_sized : (g : Graph) {k : ℕ} → k ≡ mark_bytes g.n g.m → Sized (held g) g.n g.m k
marks_sized g e = record { vertices = many g; places = places_cut g.arrays.divided ∙ g.places; bytes = e }

module _ {starts nbrs : List ℕ} (a : Arrays starts nbrs) where
  pub in_range : InRange (cut starts nbrs)
  in_range u j v p =
      let l = length_cut starts nbrs in
      let q = place_known a p in
      omega arith

  module _ {n : ℕ} (fit : n + 1 ≡ length starts) where
    module _ {u : ℕ} (h : u < n) where
      pub row_end : get_or starts u 0 + length (block (cut starts nbrs) u) ≡ get_or starts (u + 1) 0
      row_end =
          let r = a.divided.rising u (omega arith) in
          let z = row_size a.divided u (omega arith) in
          omega arith

      pub row_place : {p v : ℕ} → get_or starts u 0 ≤ p → p < get_or starts (u + 1) 0 → v ≡ get_or nbrs p 0
          → Place (cut starts nbrs) u (p - get_or starts u 0) v
      row_place {p} l m e =
          let z = row_end in
          let q : get_or starts u 0 + (p - get_or starts u 0) ≡ p = omega arith in
          let f : p - get_or starts u 0 < length (block (cut starts nbrs) u) = omega arith in
          record {
            fits = f;
            leads =
                row_neighbour a.divided u (omega arith) (p - get_or starts u 0) f
                ∙ ap (λ (x : ℕ). get_or nbrs x 0) q ∙ sym e;
          }

      pub place_row : {j v : ℕ} → Place (cut starts nbrs) u j v → get_or nbrs (get_or starts u 0 + j) 0 ≡ v
      place_row {j} p = sym (row_neighbour a.divided u (omega arith) j p.fits) ∙ p.leads
