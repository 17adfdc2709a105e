-- What Build answers, and the index buffer that it leaves.
use mathlib.Core.Path.{◌≡◌, refl, sym, ap, ap₂, ◌∙◌}
use mathlib.Core.Bool.{true, false, not}
use mathlib.Core.List.{List, [], ◌∷◌, flatten}
use Prim.Native.Nat.{ℕ, suc, ◌+◌, ◌-◌, ◌*◌, ◌≤◌, ◌<◌}
use native.Mathlib.Omega.{arith}
use borrow.Author.Tests.{eq-eqb, ne_eqb, lt-ltb, le-ltb}
use lib.Dec.{ltb}
use lib.ListN.{length}
use Rattle.graph.specs.Graph.{Blocks, WellFormed}
use Rattle.graph.specs.Search.{forest}
use Rattle.record.specs.Record.{blocks}
use Rattle.record.specs.Rules.{first_broken, layout_rules, check_rules}
use Rattle.record.specs.Answers.{refused, answered, tried}
use Rattle.adjacency.specs.Arrays.{cut, Arrays}
use Rattle.record.specs.Operations.{other_length, Accepted}
use Rattle.record.specs.Steps.{Sound, ArraysOf}
use Rattle.record.specs.Laws.First.{first_broken_lem, first_kept, append_kept, append_broken, check_numbered}
use Rattle.record.specs.Laws.Sounded.{sound_vertices, sound_all}
use Rattle.record.specs.Laws.Told.{told, untold, told_back, told_append, buffer_kept, buffer_written}
use Rattle.record.specs.Laws.Sound.{accepted_well_formed}
use Rattle.record.specs.Laws.Unpacked.{graph_of, starts_of_lem, nbrs_of, arrays_of}
use Rattle.forest.specs.Index.{mark_bytes, number_bytes, index_of, index_length}
use Rattle.forest.specs.Operations.{no_start, build_rules, build, built, BuildDone}
use Rattle.forest.specs.Laws.Bytes.{length_index}

-- ---- the empty record

no_length : {A : Type 0} (l : List A) → length l ≡ 0 → l ≡ []
no_length [] e = refl
no_length (x ∷ l) e = absurd (omega arith)

-- its index is empty, whatever the start is
empty_index : {bytes index : List ℕ} {n m : ℕ} (first : ℕ) → Sound bytes n m → n ≡ 0 → length index ≡ index_length n m
    → index ≡ index_of (blocks bytes) first
unfolding flatten index_length mark_bytes number_bytes
empty_index {bytes} {index} {n} {m} first s z e =
    let g : Blocks = blocks bytes in
    let places : 0 ≡ 2 * m = rw (no_length g (sound_vertices s ∙ z)) at (sound_all s) in
    let no-wires : m ≡ 0 = omega arith in
    let short : index_length n m ≡ 0 = ap₂ index_length z no-wires in
    let same = length_index g (forest g first) m (sound_all s) ∙ ap (λ (x : ℕ). index_length x m) (sound_vertices s) in
    no_length index (e ∙ short) ∙ sym (no_length (index_of g first) (same ∙ short))

-- ---- the rules in order

-- rules 9, 10 and 14 are left
further : {bytes starts nbrs : List ℕ} {n m : ℕ} (start : ℕ) (work index : List ℕ) → Accepted bytes
    → ArraysOf bytes starts nbrs n m
    → first_broken (build_rules bytes start work index)
    ≡ first_broken
    ((9, ltb (length work) (8 * n)) ∷ (10, other_length index (index_length n m)) ∷ (14, no_start n start) ∷ [])
unfolding build_rules
further {bytes} start work index a r =
    rw (r.sound.is_n, r.sound.is_m) (append_kept (check_numbered bytes) _ a.unbroken)

-- rules 10 and 14 are left
long : {bytes starts nbrs : List ℕ} {n m : ℕ} (start : ℕ) (work index : List ℕ) → Accepted bytes
    → ArraysOf bytes starts nbrs n m → 8 * n ≤ length work
    → first_broken (build_rules bytes start work index)
    ≡ first_broken ((10, other_length index (index_length n m)) ∷ (14, no_start n start) ∷ [])
long {n = n} start work index a r enough =
    further start work index a r ∙ first_kept 9 _ (le-ltb (length work) (8 * n) enough)

-- rule 14 is left
fitting : {bytes starts nbrs : List ℕ} {n m : ℕ} (start : ℕ) (work index : List ℕ) → Accepted bytes
    → ArraysOf bytes starts nbrs n m → 8 * n ≤ length work → length index ≡ index_length n m
    → first_broken (build_rules bytes start work index) ≡ first_broken ((14, no_start n start) ∷ [])
unfolding other_length
fitting {n = n} {m} start work index a r enough sized =
    long start work index a r enough
    ∙ first_kept 10 _ (ap not (eq-eqb (length index) (index_length n m) sized))

module _ {bytes : List ℕ} {start : ℕ} {work index : List ℕ} where
  refuses : {k : ℕ} → first_broken (build_rules bytes start work index) ≡ suc k
      → BuildDone bytes start work index index (refused (suc k))
  unfolding build built
  refuses e = record {
    told = told tt e;
    left = buffer_kept (build_rules bytes start work index) (index_of (blocks bytes) (start - 1)) index e;
  }

  pub done_refused : {A : Type 0} (a : A) {k : ℕ} → refused k ≡ tried (check_rules bytes) a
      → BuildDone bytes start work index index (refused k)
  unfolding build_rules
  done_refused a e =
      let (i, f, g) = told_back (first_broken (check_rules bytes)) a e in
      rw g (refuses (append_broken (check_rules bytes) _ i f))

  -- order R or rule 5 refuses
  pub done_unread : {A : Type 0} (a : A) {k : ℕ} → refused k ≡ tried (layout_rules bytes) a
      → BuildDone bytes start work index index (refused k)
  unfolding check_rules
  done_unread a e = done_refused a (told_append (layout_rules bytes) _ a a e)

  module _ {starts nbrs : List ℕ} {n m : ℕ} (a : Accepted bytes) (r : ArraysOf bytes starts nbrs n m) where
    pub done_short : length work < 8 * n → BuildDone bytes start work index index (refused 9)
    done_short h = refuses (further start work index a r ∙ first_broken_lem 9 _ (lt-ltb (length work) (8 * n) h))

    module _ (enough : 8 * n ≤ length work) where
      pub done_misfit : (length index ≡ index_length n m → ⊥) → BuildDone bytes start work index index (refused 10)
      unfolding other_length
      done_misfit h =
          refuses (long start work index a r enough
          ∙ first_broken_lem 10 _ (ap not (ne_eqb (length index) (index_length n m) h)))

      module _ (sized : length index ≡ index_length n m) where
        pub done_unstarted : no_start n start ≡ true → BuildDone bytes start work index index (refused 14)
        done_unstarted e = refuses (fitting start work index a r enough sized ∙ first_broken_lem 14 [] e)

        module _ (taken : no_start n start ≡ false) where
          done : {next : List ℕ} → next ≡ index_of (blocks bytes) (start - 1)
              → BuildDone bytes start work index next (answered tt)
          unfolding build built first_broken
          done e =
              let f : first_broken (build_rules bytes start work index) ≡ 0 =
              fitting start work index a r enough sized ∙ first_kept 14 [] taken in
              record {
                told = untold tt f;
                left = e
                    ∙ buffer_written (build_rules bytes start work index) (index_of (blocks bytes) (start - 1)) index f;
              }

          pub done_empty : n ≡ 0 → BuildDone bytes start work index index (answered tt)
          done_empty z = done (empty_index (start - 1) r.sound z sized)

          pub done_written : {next : List ℕ} → next ≡ index_of (cut starts nbrs) (start - 1)
              → BuildDone bytes start work index next (answered tt)
          done_written e = done (e ∙ ap (λ (g : Blocks). index_of g (start - 1)) (graph_of r))

-- the two arrays hold a graph
pub graph_asked : {bytes starts nbrs : List ℕ} {n m : ℕ} → Accepted bytes → ArraysOf bytes starts nbrs n m
    → Arrays starts nbrs × WellFormed (cut starts nbrs) × (n + 1 ≡ length starts) × (length nbrs ≡ 2 * m)
graph_asked a r = (arrays_of r a, rw (graph_of r) (accepted_well_formed a), sym (starts_of_lem r), nbrs_of r)
