-- What File refuses by, and filing and unpacking, each undone by the other.
--   only_refusals   File refuses by 16, 6, 8 and 17 only
--   result_refusals Check refuses the record of two lists by 6 or 8 only, once rule 16 lets them pass
--   outside_refused a neighbour out of range is 6 then
--   file_unwritten  a refused call leaves the buffer as it was
--   file_written    else it has the record of the two lists
--   filed_accepted  what File writes is accepted
--   filed_degrees   it has the degrees again
--   filed_terminals and as many terminals as there are degrees
--   filed_unpacks   and, unpacked, the neighbours
--   refiled         an accepted record, filed from its degrees and from what it unpacks to, is written again
--   degrees_told    Degree tells these degrees
--   degrees_few     which are numbers of 16 bits
--   told_degrees    and no others are told
--   unpack_told     Unpack refuses nothing
--   unpacks_told    and leaves what the record unpacks to
--   filed_degree    so Degree tells what was filed
--   filed_unpack    and Unpack leaves it, in a list of the right length (filed_wires)
--   filed_again     and what Degree tells and Unpack leaves, filed, is the record
use Rattle.std.specs.Prelude.{◌≡◌, true, false, ◌⊎◌, get_or}
use Rattle.std.proofs.Math.Path.{refl, sym, ap}
use Rattle.std.proofs.Common.{ap₂, ◌∙◌, inl, inr, eq-eqb, ext_get_or}
use Rattle.std.proofs.Math.Bool.{not}
use mathlib.Core.List.{List, [], ◌∷◌, map}
use Rattle.std.proofs.Math.Logic.{⊎_map}
use Prim.Native.Nat.{ℕ, zero, suc, ◌+◌, ◌-◌, ◌*◌, ◌/◌, ◌≤◌, ◌<◌}
use native.Mathlib.Omega.{arith}
use Rattle.std.proofs.Math.ListN.{length, get_or-map}
use Rattle.std.proofs.lemmas.List.{length-map}
use Rattle.bits.specs.Laws.Bytes.{AreBytes}
use Rattle.graph.specs.Graph.{Blocks, block}
use Rattle.graph.specs.Laws.Places.Basics.{Told, pass, fail, told}
use Rattle.adjacency.specs.Places.{any_in}
use Rattle.adjacency.specs.Reverse.{total}
use Rattle.adjacency.specs.Laws.Totals.{total_next}
use Rattle.record.specs.Record.{terminals, wires, fields, blocks, record_of}
use Rattle.record.specs.Rules.{first_broken, place_rules, check_rules}
use Rattle.record.specs.Answers.{refused, answered}
use Rattle.record.specs.Operations.{other_length, out_of_range, Accepted, check, degree_rules, degree, unpack_rules}
use Rattle.record.specs.Operations.{unpack, unpacked}
use Rattle.record.specs.Filing.{by_degrees, record_from, bad_lists, file_rules, file, filed}
use Rattle.record.specs.Steps.{Listed, vertex_of, graph_from}
use Rattle.record.specs.Laws.First.{first_kept, rule_kept, append_kept, both_kept, order_numbered}
use Rattle.record.specs.Laws.First.{layout_numbered, check_numbered, checked, only_one, one_of_two}
use Rattle.record.specs.Laws.Told.{told as told_at, told_back, untold, untold_back, buffer_kept, buffer_written}
use Rattle.record.specs.Laws.Range.{inside_range}
use Rattle.record.specs.Laws.Layout.{length_fields, length_blocks}
use Rattle.record.specs.Laws.RoundTrip.{Fits, flatten_blocks, record_of_blocks, fields_record_of, blocks_record_of}
use Rattle.record.specs.Laws.Sounded.{accepted_sound}
use Rattle.record.specs.Laws.Listed.{listed, degrees_back, neighbours_back, lengths_back, total_lengths}
use Rattle.record.specs.Laws.Filed.{known_numbers, as_vertices, fits_from, length_record_from, between_kept}
use Rattle.record.specs.Laws.Filed.{check_between, file_outside}
use Rattle.record.specs.Laws.Sums.{total_most}
use Rattle.record.specs.Laws.Filed.{file_between, file_last, file_first}

-- ---- what File refuses by

module _ (degrees neighbours bytes : List ℕ) {k : ℕ}
    (e : first_broken (file_rules degrees neighbours bytes) ≡ suc k) where
  -- after rule 16 come rules 6 and 8 of the arrays' graph, and then rule 17
  after_lists : Listed degrees neighbours → (suc k ≡ 6) ⊎ ((suc k ≡ 8) ⊎ (suc k ≡ 17))
  unfolding place_rules
  after_lists l = go (first_broken (place_rules g)) refl
    where
      g : Blocks
      g = graph_from degrees neighbours

      go : (j : ℕ) → first_broken (place_rules g) ≡ j → (suc k ≡ 6) ⊎ ((suc k ≡ 8) ⊎ (suc k ≡ 17))
      go zero f = inr (inr (only_one 17 _ (sym (file_last l bytes f) ∙ e)))
      go (suc j) f = ⊎_map (λ x. x) inl (one_of_two 6 8 _ _ (f ∙ sym (file_between l bytes f) ∙ e))

  -- rule 16 comes first
  by_rule : Told (bad_lists degrees neighbours) → (suc k ≡ 16) ⊎ ((suc k ≡ 6) ⊎ ((suc k ≡ 8) ⊎ (suc k ≡ 17)))
  by_rule (pass b) = inl (sym e ∙ file_first degrees neighbours bytes b)
  by_rule (fail b) = inr (after_lists (listed degrees neighbours b))

-- File refuses by rules 16, 6, 8 and 17 only
pub only_refusals : (degrees neighbours bytes : List ℕ) {k : ℕ} → file degrees neighbours bytes ≡ refused k
    → (k ≡ 16) ⊎ ((k ≡ 6) ⊎ ((k ≡ 8) ⊎ (k ≡ 17)))
unfolding file
only_refusals degrees neighbours bytes e =
    let (i, f, g) = told_back (first_broken (file_rules degrees neighbours bytes)) tt (sym e) in
    rw g (by_rule degrees neighbours bytes f (told (bad_lists degrees neighbours)))

-- ---- what comes between rules 16 and 17

module _ (degrees neighbours : List ℕ) (good : bad_lists degrees neighbours ≡ false) where
  pub result_refusals : any_in (out_of_range (length degrees)) neighbours ≡ false
      → {k : ℕ} → check (record_from degrees neighbours) ≡ refused k → (k ≡ 6) ⊎ (k ≡ 8)
  unfolding check
  result_refusals inside e =
      let (i, f, g) = told_back (first_broken (check_rules (record_from degrees neighbours))) tt (sym e) in
      rw g (check_between (listed degrees neighbours good) inside f)

  pub outside_refused : any_in (out_of_range (length degrees)) neighbours ≡ true → (bytes : List ℕ)
      → file degrees neighbours bytes ≡ refused 6
  unfolding file
  outside_refused outside bytes = sym (told_at tt (file_outside (listed degrees neighbours good) bytes outside))

-- ---- the buffer

-- a refused call leaves it
pub file_unwritten : (degrees neighbours bytes : List ℕ) {k : ℕ} → file degrees neighbours bytes ≡ refused k
    → filed degrees neighbours bytes ≡ bytes
unfolding file filed
file_unwritten degrees neighbours bytes e =
    let (i, f, g) = told_back (first_broken (file_rules degrees neighbours bytes)) tt (sym e) in
    sym (buffer_kept (file_rules degrees neighbours bytes) (record_from degrees neighbours) bytes f)

-- ---- what is filed, unpacked

-- numbers from 1, counted from 0 and from 1 again
up_again : (l : List ℕ) → ((i : ℕ) → i < length l → 1 ≤ get_or l i 0) → map suc (map (λ v. v - 1) l) ≡ l
up_again [] h = refl
up_again (x ∷ l) h =
    let e : suc (x - 1) ≡ x = let z = h 0 (omega arith) in omega arith in
    ap₂ (λ (y : ℕ) (ys : List ℕ). y ∷ ys) e (up_again l (λ i k. h (suc i) (omega arith)))

module _ (degrees neighbours bytes : List ℕ) (e : file degrees neighbours bytes ≡ answered tt) where
  kept : first_broken (file_rules degrees neighbours bytes) ≡ 0
  unfolding file
  kept = (untold_back (first_broken (file_rules degrees neighbours bytes)) tt (sym e)).0

  pub file_written : filed degrees neighbours bytes ≡ record_from degrees neighbours
  unfolding filed
  file_written = sym (buffer_written (file_rules degrees neighbours bytes) (record_from degrees neighbours) bytes kept)

  good : Listed degrees neighbours
  unfolding file_rules
  good = listed degrees neighbours (rule_kept 15 _ _ kept).0

  passed : (any_in (out_of_range (length degrees)) neighbours ≡ false)
      × (first_broken (check_rules (record_from degrees neighbours)) ≡ 0)
  unfolding file_rules
  passed =
      let (_, e₁) = rule_kept 15 _ _ kept in
      let (inside, e₂) = rule_kept 5 _ _ e₁ in
      (inside, (both_kept (check_numbered (record_from degrees neighbours)) _ e₂).0)

  fits : Fits (by_degrees degrees (map (λ v. v - 1) neighbours)) (length neighbours / 2)
  fits = fits_from good passed.0

  whole : total degrees ≡ length (map (λ v. v - 1) neighbours)
  whole = sym good.whole ∙ sym (length-map neighbours (λ v. v - 1))

  -- it is accepted
  pub filed_accepted : Accepted (filed degrees neighbours bytes)
  filed_accepted = rw file_written (record { unbroken = passed.1 })

  -- it has the degrees
  pub filed_degrees : map length (blocks (filed degrees neighbours bytes)) ≡ degrees
  unfolding record_from
  filed_degrees = rw file_written (ap (map length) (blocks_record_of fits) ∙ lengths_back degrees _ whole)

  pub filed_terminals : terminals (filed degrees neighbours bytes) ≡ length degrees
  filed_terminals =
      sym (length_blocks (checked filed_accepted).shape)
      ∙ sym (length-map (blocks (filed degrees neighbours bytes)) length) ∙ ap length filed_degrees

  -- and the neighbours
  pub filed_unpacks : map suc (fields (filed degrees neighbours bytes)) ≡ neighbours
  unfolding record_from
  filed_unpacks =
      rw file_written (ap (map suc) (fields_record_of fits ∙ neighbours_back degrees _ whole)
      ∙ up_again neighbours (λ i h. (known_numbers good passed.0 i h).0))

-- ---- what is unpacked, filed

-- numbers from 0, counted from 1 and from 0 again
down_again : (l : List ℕ) → map vertex_of (map suc l) ≡ l
down_again [] = refl
down_again (x ∷ l) = ap (λ (r : List ℕ). x ∷ r) (down_again l)

module _ {bytes : List ℕ} (a : Accepted bytes) where
  all_degrees : length (map length (blocks bytes)) ≡ terminals bytes
  all_degrees = length-map (blocks bytes) length ∙ length_blocks (checked a).shape

  -- rule 16 lets the two lists pass
  unpacks_listed : Listed (map length (blocks bytes)) (map suc (fields bytes))
  unpacks_listed =
      let s = (checked a).shape in
      let few = s.terminals_fit in
      let fits = s.wires_fit in
      let places = length_fields bytes in
      let sum = total_lengths (blocks bytes) ∙ ap length (flatten_blocks s) in
      record {
        few = omega (arith, all_degrees);
        even = omega arith;
        fits = omega arith;
        whole = length-map (fields bytes) suc ∙ sym sum;
      }

  -- the arrays hold the graph of the record again
  same_graph : graph_from (map length (blocks bytes)) (map suc (fields bytes)) ≡ blocks bytes
  same_graph =
      ap (by_degrees (map length (blocks bytes))) (down_again (fields bytes) ∙ sym (flatten_blocks (checked a).shape))
      ∙ degrees_back (blocks bytes)

  -- which breaks neither rule 6 nor rule 8
  between_none : first_broken (place_rules (graph_from (map length (blocks bytes)) (map suc (fields bytes))))
      ≡ 0
  unfolding check_rules
  between_none =
      ap (λ (g : Blocks). first_broken (place_rules g)) same_graph
      ∙ (both_kept (layout_numbered bytes) _ a.unbroken).1

  inside_again : any_in (out_of_range (length (map length (blocks bytes)))) (map suc (fields bytes)) ≡ false
  inside_again = (between_kept unpacks_listed between_none).0

  -- and the record is the same
  same_record : AreBytes bytes → record_from (map length (blocks bytes)) (map suc (fields bytes)) ≡ bytes
  unfolding record_from
  same_record h =
      ap (λ (l : List ℕ). record_of (by_degrees (map length (blocks bytes)) l))
      (sym (as_vertices unpacks_listed inside_again))
      ∙ ap record_of same_graph ∙ record_of_blocks a h

  -- so File writes it again
  pub refiled : AreBytes bytes → (buffer : List ℕ) → length buffer ≡ length bytes
      → (file (map length (blocks bytes)) (map suc (fields bytes)) buffer ≡ answered tt)
      × (filed (map length (blocks bytes)) (map suc (fields bytes)) buffer ≡ bytes)
  unfolding file filed first_broken other_length
  refiled h buffer e =
      let degrees : List ℕ = map length (blocks bytes) in
      let neighbours : List ℕ = map suc (fields bytes) in
      let r = same_record h in
      let size = e ∙ ap length (sym r) ∙ length_record_from unpacks_listed inside_again in
      let kept : first_broken (file_rules degrees neighbours buffer) ≡ 0 =
      file_last unpacks_listed buffer between_none ∙ first_kept 17 [] (ap not (eq-eqb _ _ size)) in
      (sym (untold tt kept), sym (buffer_written (file_rules degrees neighbours buffer) _ buffer kept) ∙ r)

  -- ---- by the operations' own answers

  -- Degree tells the degrees
  pub degrees_told : (v : ℕ) → v < terminals bytes
      → degree bytes (v + 1) ≡ answered (get_or (map length (blocks bytes)) v 0)
  unfolding degree degree_rules first_broken
  degrees_told v h =
      let i = inside_range (terminals bytes) (v + 1) (omega arith) (omega arith) in
      let z : v + 1 - 1 ≡ v = omega arith in
      let kept = append_kept (order_numbered bytes) _ (accepted_sound a).kept ∙ first_kept 11 [] i in
      sym (untold _ kept)
      ∙ ap answered (ap (λ (u : ℕ). length (block (blocks bytes) u)) z ∙ sym (get_or-map length (blocks bytes) v []))

  -- which are numbers of 16 bits
  pub degrees_few : (v : ℕ) → v < terminals bytes → get_or (map length (blocks bytes)) v 0 ≤ 32768
  degrees_few v h =
      let l = unpacks_listed in
      let degrees : List ℕ = map length (blocks bytes) in
      let next = total_next degrees v (omega (arith, all_degrees)) in
      omega (arith, l.fits, total_most degrees (suc v))

  -- and no others
  pub told_degrees : {degrees : List ℕ} → length degrees ≡ terminals bytes
      → ((v : ℕ) → v < terminals bytes → degree bytes (v + 1) ≡ answered (get_or degrees v 0))
      → degrees ≡ map length (blocks bytes)
  told_degrees {degrees} e tells =
      ext_get_or 0 degrees _ (e ∙ sym all_degrees) (λ v h. (
      let k : v < terminals bytes = omega arith in
      let same = sym (tells v k) ∙ degrees_told v k in
      cc
      ))

  -- Unpack leaves the neighbours
  module _ (list : List ℕ) (e : length list ≡ 2 * wires bytes) where
    unpack_kept : first_broken (unpack_rules bytes list) ≡ 0
    unfolding unpack_rules first_broken other_length
    unpack_kept = append_kept (check_numbered bytes) _ a.unbroken ∙ first_kept 10 [] (ap not (eq-eqb _ _ e))

    pub unpack_told : unpack bytes list ≡ answered tt
    unfolding unpack
    unpack_told = sym (untold tt unpack_kept)

    pub unpacks_told : unpacked bytes list ≡ map suc (fields bytes)
    unfolding unpacked
    unpacks_told = sym (buffer_written (unpack_rules bytes list) (map suc (fields bytes)) list unpack_kept)

-- what was filed
module _ (degrees neighbours bytes : List ℕ) (e : file degrees neighbours bytes ≡ answered tt) where
  accepted : Accepted (filed degrees neighbours bytes)
  accepted = filed_accepted degrees neighbours bytes e

  pub filed_degree : (v : ℕ) → v < length degrees
      → degree (filed degrees neighbours bytes) (v + 1) ≡ answered (get_or degrees v 0)
  filed_degree v h =
      degrees_told accepted v (omega (arith, filed_terminals degrees neighbours bytes e))
      ∙ ap (λ (l : List ℕ). answered (get_or l v 0)) (filed_degrees degrees neighbours bytes e)

  pub filed_wires : 2 * wires (filed degrees neighbours bytes) ≡ length neighbours
  filed_wires =
      sym (length_fields (filed degrees neighbours bytes))
      ∙ sym (length-map (fields (filed degrees neighbours bytes)) suc)
      ∙ ap length (filed_unpacks degrees neighbours bytes e)

  pub filed_unpack : (list : List ℕ) → length list ≡ length neighbours
      → (unpack (filed degrees neighbours bytes) list ≡ answered tt)
      × (unpacked (filed degrees neighbours bytes) list ≡ neighbours)
  filed_unpack list h =
      let size = h ∙ sym filed_wires in
      (unpack_told accepted list size, unpacks_told accepted list size ∙ filed_unpacks degrees neighbours bytes e)

-- what is unpacked, filed
pub filed_again : {bytes : List ℕ} → Accepted bytes → AreBytes bytes → (degrees list buffer : List ℕ)
    → length degrees ≡ terminals bytes
    → ((v : ℕ) → v < terminals bytes → degree bytes (v + 1) ≡ answered (get_or degrees v 0))
    → length list ≡ 2 * wires bytes → length buffer ≡ length bytes
    → (unpack bytes list ≡ answered tt)
    × (file degrees (unpacked bytes list) buffer ≡ answered tt) × (filed degrees (unpacked bytes list) buffer ≡ bytes)
filed_again a h degrees list buffer d tells l b =
    let e = told_degrees a {degrees = degrees} d tells in
    let f = unpacks_told a list l in
    let (g, i) = refiled a h buffer b in
    (unpack_told a list l, rw (e, f) g, rw (e, f) i)
