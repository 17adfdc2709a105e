-- What a search from a list of starts enters: just what chains lead to. So the test `joined` is the relation.
use Rattle.std.specs.Prelude.{ℕ, ◌<◌, ◌≡◌, refl, ◌↔◌, true, length}
use Rattle.std.proofs.Common.{inl, inr}
use mathlib.Core.List.Memᴰ
use mathlib.Core.List.{List, [], ◌∷◌, Memᴰ, map}
use Rattle.graph.specs.Graph.{Blocks}
use Rattle.graph.specs.Search.{root, via, Forest, PlaceTest, search}
use Rattle.graph.specs.Joined.{Chain, here, along, joined}
use Rattle.graph.specs.Forest.{number, root_of, Ancestor}
use Rattle.graph.specs.Laws.Places.Pairing.{InRange}
use Rattle.graph.specs.Laws.Tree.Entries.{Entered, entered_test, test_entered, none_entered, Built, built_nil}
use Rattle.graph.specs.Laws.Tree.Entries.{entry_allowed, forest_ind}
use Rattle.graph.specs.Laws.Tree.Climbs.{root_itself, root_parent, root_is_root}
use Rattle.graph.specs.Laws.Run.Arcs.{Step, arc_arcs}
use Rattle.graph.specs.Laws.Run.Segments.{Segment, segment_aims, segment_closed, Start, start, start_goal}
use Rattle.graph.specs.Laws.Run.Segments.{goal_start, search_segment}
use Rattle.graph.specs.Laws.Run.Descent.{start_fits, segment_built, segment_roots, segment_down}
use Rattle.graph.specs.Laws.Joined.Chains.{chain_trans, chain_one}

module _ {g : Blocks} {ok : PlaceTest} (starts : List ℕ) {F : Forest} (s : Segment g ok [] (map root starts) F) where
  pub searched_built : Built (Step g ok) F
  searched_built = segment_built s (λ a m. start_fits (start_goal starts m)) built_nil

  pub searched_start : {v : ℕ} → Memᴰ v starts → Entered v F
  searched_start m = segment_aims s (goal_start m)

  -- a root is one of the starts
  pub searched_root : {v : ℕ} → Memᴰ (root v) F → Memᴰ v starts
  searched_root {v} m =
      elim (segment_roots s m) [ inl x ↦ absurd (Memᴰ.not-nil x) | inr x ↦ is_start (start_goal starts x) ]
    where
      is_start : Start starts (root v) → Memᴰ v starts
      is_start (start k) = k

  searched_closed : {u j v : ℕ} → Entered u F → Step g ok u j v → Entered v F
  searched_closed {u} {j} {v} i p = segment_closed {a = via u j v} s i none_entered (arc_arcs g ok p)

  -- an arc from an earlier to a later entered vertex leads to a descendant
  pub searched_down : {u j v : ℕ} → Entered u F → Step g ok u j v → number F u < number F v → Ancestor F u v
  searched_down i p l = segment_down s searched_built i none_entered p l

  -- a chain from an entered vertex stays inside, and one leads to each entered vertex from its root
  pub searched_chain : {u v : ℕ} → Chain g ok u v → Entered u F → Entered v F
  searched_chain here i = i
  searched_chain (along p o c) i = searched_chain c (searched_closed i (record { place = p; allowed = o }))

  pub chain_searched : (v : ℕ) → Entered v F → Chain g ok (root_of F v) v
  chain_searched = forest_ind (λ v. Chain g ok (root_of F v) v) searched_built
      (λ v m. rw (root_itself searched_built m) here)
      (λ u j v m c. let o = entry_allowed searched_built m in rw (root_parent searched_built m)
      (chain_trans c (chain_one o.place o.allowed)))

-- the test is the relation
pub joined_chain : {g : Blocks} → InRange g → (ok : PlaceTest) (u v : ℕ) → u < length g
    → (joined g ok u v ≡ true) ↔ Chain g ok u v
unfolding joined
joined_chain {g} r ok u v h = (λ e. there seg (entered_test v (search g ok (u ∷ [])) e), λ c. test_entered (back seg c))
  where
    seg : Segment g ok [] (map root (u ∷ [])) (search g ok (u ∷ []))
    seg = search_segment g ok r (u ∷ []) (λ x m. rw (Memᴰ.eq_of_singleton m) h)

    there : {F : Forest} → Segment g ok [] (map root (u ∷ [])) F → Entered v F → Chain g ok u v
    there {F} s i =
        let e : root_of F v ≡ u =
        Memᴰ.eq_of_singleton (searched_root (u ∷ []) s (root_is_root (searched_built (u ∷ []) s) v i)) in
        rw e at (chain_searched (u ∷ []) s v i)

    back : {F : Forest} → Segment g ok [] (map root (u ∷ [])) F → Chain g ok u v → Entered v F
    back s c = searched_chain (u ∷ []) s c (searched_start (u ∷ []) s (Memᴰ.head refl))
