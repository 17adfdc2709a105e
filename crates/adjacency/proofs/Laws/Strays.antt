-- Rule 6: a test that some neighbour of a block passes, and some place of the blocks from one on.
use mathlib.Core.Path.{◌≡◌, refl, sym, ap, ◌∙◌}
use mathlib.Core.Bool.{Bool, true, false, ◌||◌}
use mathlib.Core.List.{List, []}
use Prim.Native.Nat.{ℕ, ◌+◌, ◌-◌, ◌≤◌, ◌<◌}
use native.Mathlib.Numerals.{add-one}
use lib.Dec.{leb, eqb}
use lib.ListN.{length, drop}
use Rattle.std.specs.List.{list_any}
use Rattle.std.proofs.lemmas.List.{drop_more, drop_all}
use Rattle.std.proofs.lemmas.List.Recursion.{same_from_clauses}
use Rattle.graph.specs.Graph.{Blocks, block}
use Rattle.adjacency.specs.Places.{any_in, any_from, stray}
use Rattle.adjacency.specs.Arrays.{cut}
use Rattle.adjacency.specs.Laws.Rows.{length_cut}

pub stray_any : (starts nbrs l : List ℕ) (u : ℕ)
    → list_any (λ (v : ℕ). leb (length starts - 1) v || eqb v u) l ≡ any_in (stray (cut starts nbrs) u) l
unfolding any_in stray
stray_any starts nbrs l u =
    ap (λ (n : ℕ). list_any (λ (v : ℕ). leb n v || eqb v u) l) (sym (length_cut starts nbrs))
    ∙ same_from_clauses (list_any (stray (cut starts nbrs) u)) (any_in (stray (cut starts nbrs) u))
    (λ v b. stray (cut starts nbrs) u v || b) refl (λ x xs. refl) (λ x xs. refl) l

module _ (test : ℕ → ℕ → Bool) (g : Blocks) where
  -- the blocks from u on
  abbrev pub from_block : ℕ → Bool
  from_block u = any_from test u (drop u g)

  from_more : (u : ℕ) → u < length g → from_block u ≡ (any_in (test u) (block g u) || from_block (u + 1))
  unfolding any_from
  from_more u h =
      ap (any_from test u) (drop_more g u [] h)
      ∙ ap (λ (w : ℕ). any_in (test u) (block g u) || any_from test w (drop (u + 1) g)) (sym (add-one u))

  module _ {u : ℕ} (h : u < length g) where
    pub block_passes : true ≡ any_in (test u) (block g u) → true ≡ from_block u
    block_passes e = rw (← e) at (sym (from_more u h))

    pub block_fails : false ≡ any_in (test u) (block g u) → from_block u ≡ from_block (u + 1)
    block_fails e = from_more u h ∙ rw (← e) refl

  pub no_block_left : {u : ℕ} → length g ≤ u → false ≡ from_block u
  unfolding any_from
  no_block_left {u} h = sym (ap (any_from test u) (drop_all u g h))
