-- The graph of a record in two arrays: the only place that says which bytes the arrays came from.
--   arrays_read  the code reads the starts and the fields
--   graph_of     the graph of the arrays is the record's
--   divided_of   the starts divide the row
--   starts_of_lem    there are n + 1 starts, and 2·m neighbours (nbrs_of)
--   arrays_of    in an accepted record each neighbour is a vertex
--   check_left   once order R and rule 5 let a record pass, Check tries rules 6 and 8 of the arrays' graph (check_told)
use Rattle.std.specs.Prelude.{◌≡◌, List, [], ℕ, ◌+◌, ◌-◌, ◌*◌, length, get_or}
use Rattle.std.proofs.Common.{sym, ap, ap₂, ◌∙◌, arith}
use Rattle.bits.specs.Bits.{bits}
use Rattle.graph.specs.Graph.{Blocks}
use Rattle.record.specs.Record.{terminals, unary, fields_from, fields, blocks}
use Rattle.record.specs.Starts.{starts_of}
use Rattle.adjacency.specs.Arrays.{cut, Divided, Arrays}
use Rattle.record.specs.Rules.{first_broken, layout_rules, place_rules, check_rules}
use Rattle.adjacency.specs.Places.{any_place, stray}
use Rattle.adjacency.specs.Laws.Known.{arrays_kept}
use Rattle.record.specs.Answers.{Answer, outcome}
use Rattle.record.specs.Operations.{Accepted, check_graph, check}
use Rattle.record.specs.Steps.{Sound, Laid, ArraysOf}
use Rattle.record.specs.Laws.First.{append_kept, order_numbered, layout_numbered, first_kept, checked}
use Rattle.record.specs.Laws.Parts.{start_first, starts_rise}
use Rattle.record.specs.Laws.Layout.{length_fields, blocks_cut, starts_count, starts_end}
use Rattle.record.specs.Laws.Sounded.{sound_shaped}

-- ---- the arrays

-- the starts and the fields are read
pub arrays_read : {bytes starts nbrs : List ℕ} {n m k : ℕ} → Sound bytes n m → k ≡ 2 * m
    → starts ≡ starts_of (unary bytes)
    → nbrs ≡ fields_from (bits bytes) (28 + (n + 2 * m)) k → ArraysOf bytes starts nbrs n m
unfolding fields
arrays_read s h e f = record { sound = s; are_starts = e; are_fields = f ∙ rw (h, s.is_n, s.is_m) }

module _ {bytes starts nbrs : List ℕ} {n m : ℕ} (r : ArraysOf bytes starts nbrs n m) where
  pub graph_of : cut starts nbrs ≡ blocks bytes
  graph_of = ap₂ cut r.are_starts r.are_fields ∙ sym (blocks_cut (sound_shaped r.sound))

  pub starts_of_lem : length starts ≡ n + 1
  starts_of_lem =
      let c = starts_count (sound_shaped r.sound) in
      let e = r.sound.is_n in
      ap length r.are_starts ∙ omega arith

  pub nbrs_of : length nbrs ≡ 2 * m
  nbrs_of =
      let l = length_fields bytes in
      let e = r.sound.is_m in
      ap length r.are_fields ∙ omega arith

  pub divided_of : Divided starts nbrs
  divided_of =
      let h = sound_shaped r.sound in
      let f = h.terminals_fit in
      let g = h.wires_fit in
      let l = length_fields bytes in
      let c = starts_count h in
      let o = h.ones in
      let e : length (starts_of (unary bytes)) - 1 ≡ terminals bytes = omega arith in
      rw (r.are_starts, r.are_fields) (record {
        some = omega arith;
        first = start_first (unary bytes) h.begins;
        rising = λ u k. starts_rise 0 (unary bytes) u (omega arith);
        last = ap (λ (k : ℕ). get_or (starts_of (unary bytes)) k 0) e ∙ starts_end h ∙ sym l;
        few_blocks = omega arith;
        few_places = omega arith;
      })

-- ---- an accepted record

pub arrays_of : {bytes starts nbrs : List ℕ} {n m : ℕ} → ArraysOf bytes starts nbrs n m → Accepted bytes
    → Arrays starts nbrs
arrays_of {bytes} r a =
    arrays_kept (divided_of r) (ap (λ (x : Blocks). any_place (stray x) x) (graph_of r) ∙ (checked a).no_stray)

-- ---- rules 6 and 8 are left

laid_kept : {bytes : List ℕ} {n m : ℕ} → Laid bytes n m → first_broken (layout_rules bytes) ≡ 0
unfolding layout_rules first_broken
laid_kept {bytes} l = append_kept (order_numbered bytes) _ l.sound.kept ∙ first_kept 5 [] l.clear

pub check_left : {bytes : List ℕ} {n m : ℕ} → Laid bytes n m
    → first_broken (check_rules bytes) ≡ first_broken (place_rules (blocks bytes))
unfolding check_rules
check_left {bytes} l = append_kept (layout_numbered bytes) (place_rules (blocks bytes)) (laid_kept l)

-- so what is said of the arrays' graph is said of the record
pub check_told : {bytes starts nbrs : List ℕ} {n m : ℕ} {a : Answer (Unit {0})} → Laid bytes n m
    → ArraysOf bytes starts nbrs n m
    → a ≡ check_graph (cut starts nbrs) → a ≡ check bytes
unfolding check check_graph
check_told {bytes} l r e = e ∙ ap check_graph (graph_of r) ∙ ap (λ (k : ℕ). outcome k tt) (sym (check_left l))
