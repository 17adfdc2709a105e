-- What File asks of two lists that rule 16 lets pass, in terms of the graph that the arrays hold.
--   known_numbers      where no neighbour is out of range, each is a terminal's number
--   as_vertices        and the arrays keep what the record's fields have
--   fits_from          the blocks fit into a record
--   length_record_from  the length of that record
--   between            the rules between 16 and 17 are rules 6 and 8 of the arrays' graph
--   between_kept       where these are kept, no neighbour is out of range and Check accepts the record
--   check_between      where none is out of range, Check refuses the record by 6 or 8 alone
--   file_outside       where one is, File refuses by 6
--   file_between       where one of these rules is broken, File tells it
--   file_last          where these are kept, rule 17 is left
--   file_first         lists that rule 16 refuses
use Rattle.std.specs.Prelude.{◌≡◌, true, false, ◌⊎◌, ℕ, zero, suc, ◌-◌, ◌/◌, ◌≤◌, ◌<◌, length, get_or}
use Rattle.std.proofs.Common.{sym, ◌∙◌, arith, ext_get_or}
use Rattle.std.proofs.Math.Path.{ap}
use mathlib.Core.List.{List, [], ◌∷◌, flatten, map}
use Rattle.std.proofs.lemmas.List.{length-map}
use Rattle.graph.specs.Graph.{Blocks}
use Rattle.graph.specs.Laws.Places.Basics.{Told, pass, fail, told, clash}
use Rattle.adjacency.specs.Places.{any_in, any_place, stray}
use Rattle.adjacency.specs.Laws.Anywhere.{none_in}
use Rattle.adjacency.specs.Laws.Known.{places_below, all_known}
use Rattle.record.specs.Record.{record_length}
use Rattle.record.specs.Rules.{first_broken, place_rules, check_rules}
use Rattle.record.specs.Operations.{other_length, out_of_range}
use Rattle.record.specs.Filing.{by_degrees, record_from, bad_lists, file_rules}
use Rattle.record.specs.Steps.{Listed, vertex_of, graph_from}
use Rattle.record.specs.Laws.First.{first_broken_lem, first_kept, rule, rule_kept, append_kept, append_broken}
use Rattle.record.specs.Laws.First.{check_numbered, one_of_two}
use Rattle.record.specs.Laws.Range.{inside_range, range_inside}
use Rattle.record.specs.Laws.Mapped.{map_at}
use Rattle.record.specs.Laws.RoundTrip.{Fits, length_record_of}
use Rattle.record.specs.Laws.Listed.{listed_good, length_by_degrees, neighbours_back}
use Rattle.record.specs.Laws.Result.{check_record_of}

-- a number is a terminal's where the arrays keep it as a vertex
from_known : (n v : ℕ) → n ≤ 4096 → vertex_of v < n → out_of_range n v ≡ false
from_known n zero few h = absurd (omega arith)
from_known n (suc v) few h = inside_range n (suc v) (omega arith) (omega arith)

-- which is one less
pub less_one : (v : ℕ) → 1 ≤ v → vertex_of v ≡ v - 1
less_one zero h = absurd (omega arith)
less_one (suc v) h = omega arith

-- ---- lists that rule 16 lets pass

module _ {degrees neighbours : List ℕ} (l : Listed degrees neighbours) where
  -- the neighbours, each changed alike, in blocks and in a row again
  module _ (change : ℕ → ℕ) where
    row_is : flatten (by_degrees degrees (map change neighbours)) ≡ map change neighbours
    row_is = neighbours_back degrees (map change neighbours) (sym l.whole ∙ sym (length-map neighbours change))

    row_size : length (flatten (by_degrees degrees (map change neighbours))) ≡ length neighbours
    row_size = ap length row_is ∙ length-map neighbours change

    row_at : (i : ℕ) → i < length neighbours
        → get_or (flatten (by_degrees degrees (map change neighbours))) i 0 ≡ change (get_or neighbours i 0)
    row_at i h = ap (λ (x : List ℕ). get_or x i 0) row_is ∙ map_at change neighbours i h

  -- ---- no neighbour is out of range

  module _ (e : any_in (out_of_range (length degrees)) neighbours ≡ false) where
    -- each neighbour is a terminal's number
    pub known_numbers : (i : ℕ) → i < length neighbours
        → (1 ≤ get_or neighbours i 0) × (get_or neighbours i 0 ≤ length degrees)
    known_numbers i h = range_inside _ _ ((none_in _ neighbours).0 e i h)

    -- so the arrays keep what the record's fields have
    pub as_vertices : map vertex_of neighbours ≡ map (λ v. v - 1) neighbours
    as_vertices =
        ext_get_or 0 _ _ (simp length-map) (λ i h. (
        let k : i < length neighbours = rw (length-map neighbours vertex_of) at h in
        map_at vertex_of neighbours i k ∙ less_one _ (known_numbers i k).0 ∙ sym (map_at (λ v. v - 1) neighbours i k)
        ))

    -- the blocks fit into a record
    pub fits_from : Fits (by_degrees degrees (map (λ v. v - 1) neighbours)) (length neighbours / 2)
    fits_from =
        let few = l.few in
        let even = l.even in
        let fits = l.fits in
        let whole = l.whole in
        let size = row_size (λ v. v - 1) in
        record {
          terminals_fit = omega (arith, length_by_degrees degrees (map (λ v. v - 1) neighbours));
          wires_fit = omega arith;
          even = omega arith;
          small = places_below (by_degrees degrees (map (λ v. v - 1) neighbours)) (λ p h. (
              let k : p < length neighbours = omega arith in
              let known = known_numbers p k in
              omega (arith, row_at (λ v. v - 1) p k)
              ));
        }

    -- the length of that record
    pub length_record_from : length (record_from degrees neighbours)
        ≡ record_length (length degrees) (length neighbours / 2)
    unfolding record_from
    length_record_from =
        length_record_of fits_from
        ∙ ap (λ (n : ℕ). record_length n (length neighbours / 2))
        (length_by_degrees degrees (map (λ v. v - 1) neighbours))

    -- Check tells the first of rules 6 and 8 that the arrays' graph breaks
    check_from : first_broken (check_rules (record_from degrees neighbours))
        ≡ first_broken (place_rules (graph_from degrees neighbours))
    unfolding record_from
    check_from =
        check_record_of fits_from
        ∙ ap (λ (x : List ℕ). first_broken (place_rules (by_degrees degrees x))) (sym as_vertices)

  -- ---- the rules between 16 and 17

  -- where no neighbour is stray in the arrays' graph, none is out of range
  from_range : (let g : Blocks = graph_from degrees neighbours in any_place (stray g) g ≡ false)
      → any_in (out_of_range (length degrees)) neighbours ≡ false
  from_range e = (none_in _ neighbours).1 (λ i h. (
      let g : Blocks = graph_from degrees neighbours in
      let known = all_known g e i (omega (arith, row_size vertex_of)) in
      from_known _ _ l.few (omega (arith, row_at vertex_of i h, length_by_degrees degrees (map vertex_of neighbours)))
      ))

  -- they are rules 6 and 8 of the arrays' graph
  pub between : first_broken
      ((6, any_in (out_of_range (length degrees)) neighbours) ∷ check_rules (record_from degrees neighbours))
      ≡ first_broken (place_rules (graph_from degrees neighbours))
  unfolding place_rules
  between = go (told (any_in (out_of_range (length degrees)) neighbours)) (told (any_place (stray g) g))
    where
      g : Blocks
      g = graph_from degrees neighbours

      go : Told (any_in (out_of_range (length degrees)) neighbours) → Told (any_place (stray g) g)
          → first_broken
          ((6, any_in (out_of_range (length degrees)) neighbours) ∷ check_rules (record_from degrees neighbours))
          ≡ first_broken (place_rules g)
      go (pass e) (pass f) = first_broken_lem 6 _ e ∙ sym (first_broken_lem 6 _ f)
      go (pass e) (fail f) = absurd (clash e (from_range f))
      go (fail e) f = first_kept 6 _ e ∙ check_from e

  -- where these are kept, no neighbour is out of range, and Check accepts the record
  pub between_kept : first_broken (place_rules (graph_from degrees neighbours)) ≡ 0
      → (any_in (out_of_range (length degrees)) neighbours ≡ false)
      × (first_broken (check_rules (record_from degrees neighbours)) ≡ 0)
  between_kept e = rule_kept 5 _ _ (between ∙ e)

  -- where none is out of range, Check refuses by these two alone
  pub check_between : any_in (out_of_range (length degrees)) neighbours ≡ false
      → {k : ℕ} → first_broken (check_rules (record_from degrees neighbours)) ≡ suc k → (suc k ≡ 6) ⊎ (suc k ≡ 8)
  unfolding place_rules
  check_between e f = one_of_two 6 8 _ _ (sym (check_from e) ∙ f)

  -- ---- File

  -- a neighbour out of range gives 6
  pub file_outside : (bytes : List ℕ) → any_in (out_of_range (length degrees)) neighbours ≡ true
      → first_broken (file_rules degrees neighbours bytes) ≡ 6
  unfolding file_rules
  file_outside bytes e = first_kept 16 _ (listed_good l) ∙ first_broken_lem 6 _ e

  -- where one of these is broken, it is the answer
  pub file_between : {k : ℕ} (bytes : List ℕ)
      → first_broken (place_rules (graph_from degrees neighbours)) ≡ suc k
      → first_broken (file_rules degrees neighbours bytes) ≡ suc k
  unfolding file_rules
  file_between {k} bytes e =
      first_kept 16 _ (listed_good l)
      ∙ append_broken ((6, any_in (out_of_range (length degrees)) neighbours) ∷ check_rules (record_from degrees neighbours))
      _ k (between ∙ e)

  -- else rule 17 is left
  pub file_last : (bytes : List ℕ) → first_broken (place_rules (graph_from degrees neighbours)) ≡ 0
      → first_broken (file_rules degrees neighbours bytes)
      ≡ first_broken ((17, other_length bytes (record_length (length degrees) (length neighbours / 2))) ∷ [])
  unfolding file_rules
  file_last bytes e =
      first_kept 16 _ (listed_good l)
      ∙ append_kept (rule (check_numbered (record_from degrees neighbours))) _ (between ∙ e)
      ∙ ap (λ (k : ℕ). first_broken ((17, other_length bytes k) ∷ [])) (length_record_from (between_kept e).0)

-- lists that rule 16 refuses
pub file_first : (degrees neighbours bytes : List ℕ) → bad_lists degrees neighbours ≡ true
    → first_broken (file_rules degrees neighbours bytes) ≡ 16
unfolding file_rules
file_first degrees neighbours bytes e = first_broken_lem 16 _ e
