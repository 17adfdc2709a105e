-- The index buffer, written in four parts.
--   marks_asked, marks_written   what `mark_listed` asks for, and gets back as the marks of a list
--   numbers_asked                what `write_numbers` asks for
--   sections_written             the four parts one behind the other are the index
--   index_from                   the search from a start
use mathlib.Core.Path.{◌≡◌, sym, ap, ◌∙◌}
use mathlib.Core.Bool.{false}
use mathlib.Core.List.{List, ◌++◌, map}
use Prim.Native.Nat.{ℕ, ◌-◌, ◌*◌, ◌<◌}
use native.Mathlib.Omega.{arith}
use lib.ListN.{length, set, replicate}
use Rattle.bits.specs.Bits.{bits, pack}
use Rattle.bits.specs.Laws.Bytes.{AreBytes}
use Rattle.graph.specs.Graph.{Blocks}
use Rattle.graph.specs.Search.{Forest, PlaceTest, all, search, starts_from}
use Rattle.graph.specs.Joined.{bridge}
use Rattle.graph.specs.Forest.{child_mark, parent_mark}
use Rattle.record.specs.Record.{field_bits}
use Rattle.forest.specs.Index.{section_e, section_p, section_b, index_by, index_of, mark_bytes, number_bytes}
use Rattle.forest.specs.Lows.{Lifting}
use Rattle.forest.specs.Marks.{mark_all, Below, marked}
use Rattle.forest.proofs.Laws.Graphs.{Sized}
use Rattle.forest.specs.Numbered.{Visits}
use Rattle.forest.specs.Graphs.{held}
use Rattle.forest.specs.declared.graphs.Graph.{Graph}
use Rattle.forest.proofs.Laws.Graphs.{many}
use Rattle.forest.proofs.Laws.Listed.{Lists, listed, listed_below}
use Rattle.forest.proofs.Laws.Numbers.{visit_cells, visits_many, listed_visits, listed_numbers}

module _ {g : Blocks} {F : Forest} {n m s k : ℕ} {work : List ℕ} (z : Sized g n m k) (t : Lifting g F n s work 0) where
  -- E and P, from a list of bits
  module _ {mark : PlaceTest} {owner : ℕ → ℕ → ℕ} {list : List ℕ} (l : Lists g mark owner list) {len : ℕ}
      (is-len : len ≡ k) where
    pub marks_asked : (0 < len) × (Below (8 * len) list)
    unfolding mark_bytes
    marks_asked =
        let e = z.bytes in
        let o = t.searched.room.some in
        (omega arith, rw is-len (listed_below l z o))

    pub marks_written : {section : List ℕ} → AreBytes section
        → bits section ≡ set (mark_all list (replicate (8 * len) false)) 0 false → section ≡ marked g mark
    marks_written are e = listed l z are (rw is-len at e)

  -- the numbers
  pub numbers_asked : {len : ℕ} → len ≡ number_bytes n
      → Visits (visit_cells n s work) × (len ≡ number_bytes (length (visit_cells n s work)))
  numbers_asked e =
      let a = t.searched in
      (listed_visits z.vertices a, e ∙ ap number_bytes (sym (visits_many z.vertices a)))

  pub sections_written : {e p b last : List ℕ} → e ≡ marked g (child_mark F) → p ≡ marked g (parent_mark g g F)
      → b ≡ marked g (bridge g) → last ≡ pack (field_bits (map (λ x. x - 1) (visit_cells n s work)))
      → e ++ (p ++ (b ++ last)) ≡ index_by g F
  unfolding index_by section_e section_p section_b
  sections_written x y w v =
      let are = listed_numbers z.vertices t.searched in
      cc (v ∙ ap (λ (l : List ℕ). pack (field_bits l)) are)

-- there are as many vertices as were searched
pub index_from : (g : Graph) (first : ℕ) {index : List ℕ}
    → index ≡ index_by (held g) (search (held g) all (starts_from g.n first)) → index ≡ index_of (held g) first
index_from g first q =
    q ∙ ap (λ (x : ℕ). index_by (held g) (search (held g) all (starts_from x first))) (sym (many g))
