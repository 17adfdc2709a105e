-- The loop figure from the two arrays of an accepted record.
--   figure_none                  the empty record has none
--   search_asked                 what `search` asks for
--   parents_asked, figure_shown  what `loops_by` asks for, and what it gives
use mathlib.Core.Path.{◌≡◌, refl, sym, ap, ◌∙◌}
use mathlib.Core.List.{List}
use Prim.Native.Nat.{ℕ, ◌+◌, ◌-◌, ◌*◌, ◌≤◌, ◌<◌}
use native.Mathlib.Omega.{arith}
use lib.ListN.{length, take, drop}
use Rattle.graph.specs.Graph.{Blocks}
use Rattle.graph.specs.Search.{all, search, starts_from, forest}
use Rattle.graph.specs.Forest.{roots}
use Rattle.adjacency.specs.Arrays.{cut}
use Rattle.record.specs.Record.{blocks}
use Rattle.record.specs.Operations.{Accepted}
use Rattle.record.specs.Steps.{ArraysOf}
use Rattle.record.specs.Laws.Unpacked.{graph_of, starts_of_lem}
use Rattle.forest.specs.Operations.{loops, roots_in}
use Rattle.forest.specs.Steps.{stride, Room, Searched}
use Rattle.forest.specs.Laws.Figures.{roots_in_lem, loops_whole, loops_asked, loops_given}
use Rattle.forest.proofs.Laws.Loops.{no_loops}
use Rattle.forest.proofs.Laws.Graphs.{as_many}
use Rattle.forest.proofs.Laws.Owned.{part_size, part_cell}

module _ {bytes starts nbrs : List ℕ} {n m : ℕ} (a : Accepted bytes) (r : ArraysOf bytes starts nbrs n m) where
  pub figure_none : n ≡ 0 → 0 ≡ loops bytes
  figure_none z = sym (no_loops a (sym r.sound.is_n ∙ z))

  pub search_asked : {s : ℕ} {work : List ℕ} → s ≡ stride n → (n ≡ 0 → ⊥) → 6 * stride n ≤ length work
      → Room n s work × (0 < n)
  search_asked e some room =
      let f = r.sound.n_fits in
      (record { some = omega arith; few = f; apart = omega arith; near = omega arith; size = omega arith }, omega arith)

  module _ {s : ℕ} {work : List ℕ}
      (t : Searched (cut starts nbrs) (search (cut starts nbrs) all (starts_from n 0)) n s work) where
    -- the parents, which stand behind the next places
    abbrev parents : List ℕ
    parents = take (s + n - s) (drop s work)

    fits : s + n ≤ length work
    fits = let q = t.room in omega arith

    long : length parents ≡ n
    long = part_size s (s + n) work refl fits

    shown : roots_in parents ≡ roots (forest (blocks bytes) 0)
    shown =
        let g : Blocks = cut starts nbrs in
        let many : length g ≡ n = as_many starts nbrs (sym (starts_of_lem r)) in
        roots_in_lem t.spans parents (long ∙ sym many)
        (λ v h. part_cell s (s + n) work refl fits v (omega arith) ∙ t.parents v (omega arith))
        ∙ ap (λ (k : ℕ). roots (search g all (starts_from k 0))) (sym many)
        ∙ ap (λ (x : Blocks). roots (forest x 0)) (graph_of r)

    whole : n + loops bytes ≡ m + roots_in parents
    whole =
        let w = loops_whole a in
        let i = r.sound.is_n in
        let j = r.sound.is_m in
        let e = shown in
        omega arith

    pub parents_asked : (m ≤ 16384) × (length parents ≤ 4096) × (length parents ≤ m + roots_in parents)
    parents_asked = loops_asked r.sound parents long whole

    pub figure_shown : m + roots_in parents - length parents ≡ loops bytes
    figure_shown = loops_given r.sound parents long whole
