-- A forest of the whole graph: the few facts that everything above rests on, and the search's forest has them.
use Rattle.std.specs.Prelude.{ℕ, ◌<◌, ◌≡◌, refl, ◌⊎◌, length, take}
use Rattle.std.proofs.Common.{inl, inr, arith}
use mathlib.Core.List.{List, Memᴰ}
use Rattle.std.proofs.Math.Decide.{dec_lt}
use Rattle.graph.specs.Graph.{Blocks, block, target, Place, mentions, position, pair, twin, WellFormed}
use Rattle.graph.specs.Search.{via, Forest, all, search, count_up}
use Rattle.graph.specs.Forest.{number, Ancestor}
use Rattle.graph.specs.Laws.Places.CountUp.{count_every, count_inside}
use Rattle.graph.specs.Laws.Places.Mentions.{mention_found, none_before}
use Rattle.graph.specs.Laws.Places.Pairing.{InRange, source, twin_place, pair_first}
use Rattle.graph.specs.Laws.Tree.Entries.{Entered, Built, built_map, entry_allowed, forest_ind}
use Rattle.graph.specs.Laws.Tree.Numbers.{number_injective, number_bound, count_whole}
use Rattle.graph.specs.Laws.Tree.Ancestors.{ancestor_same}
use Rattle.graph.specs.Laws.Run.Segments.{search_segment}
use Rattle.graph.specs.Laws.Run.Order.{InOrder, starts_order, order_first}
use Rattle.graph.specs.Laws.Joined.Reach.{searched_built, searched_start, searched_root, searched_down}

-- every vertex is a start, and every start is a vertex; a vertex may stand among them several times
pub record Covers (g : Blocks) (starts : List ℕ) : Type 0 where
  pub every : (v : ℕ) → v < length g → Memᴰ v starts
  pub inside : (v : ℕ) → Memᴰ v starts → v < length g

-- the vertices in order
pub covers_vertices : (g : Blocks) → Covers g (count_up 0 (length g))
covers_vertices g = record {
  every = λ v h. count_every 0 (length g) v (omega arith) (omega arith);
  inside = λ v m. (let a = count_inside 0 (length g) v m in omega arith);
}

-- a forest of places of g that has every vertex, in listed order, and goes down
pub record Spanning (g : Blocks) (F : Forest) : Type 0 where
  pub built : Built (Place g) F
  pub order : InOrder g all F
  pub whole : (v : ℕ) → v < length g → Entered v F
  pub within : (v : ℕ) → Entered v F → v < length g
  pub closed : (u j v : ℕ) → Place g u j v → Entered v F
  pub down : (u j v : ℕ) → Place g u j v → number F u < number F v → Ancestor F u v

pub search_spans : {g : Blocks} {starts : List ℕ} → InRange g → Covers g starts → Spanning g (search g all starts)
search_spans {g} {starts} r c =
    let s = search_segment g all r starts c.inside in
    let b = searched_built starts s in
    record {
      built = built_map (λ u j v o. o.place) b;
      order = starts_order starts s;
      whole = λ v h. searched_start starts s (c.every v h);
      within =
          forest_ind (λ v. v < length g) b (λ v m. c.inside v (searched_root starts s m))
          (λ u j v m h. r u j v (entry_allowed b m).place);
      closed = λ u j v p. searched_start starts s (c.every v (r u j v p));
      down =
          λ u j v p l. searched_down starts s (searched_start starts s (c.every u (source p)))
          (record { place = p; allowed = refl }) l;
    }

module _ {g : Blocks} {F : Forest} (span : Spanning g F) where
  pub tree_place : {u j v : ℕ} → Memᴰ (via u j v) F → Place g u j v
  tree_place m = entry_allowed span.built m

  pub source_entered : {u j v : ℕ} → Place g u j v → Entered u F
  source_entered {u} p = span.whole u (source p)

  pub target_entered : {u j v : ℕ} → Place g u j v → Entered v F
  target_entered {u} {j} {v} p = span.closed u j v p

  -- as many entries as vertices
  pub forest_length : length F ≡ length g
  forest_length = count_whole (length g) span.built span.within span.whole

  pub number_range : (v : ℕ) → v < length g → number F v < length g
  number_range v h = omega (arith, number_bound (span.whole v h), forest_length)

  -- a tree place is the first mention of the child in its parent's block
  pub tree_first : {u j v : ℕ} → Memᴰ (via u j v) F → mentions v (take j (block g u)) ≡ 0
  tree_first {u} {j} {v} m = none_before v (block g u) j bad
    where
      bad : (i : ℕ) → i < j → i < length (block g u) → target g u i ≡ v → ⊥
      bad i l f e =
          order_first span.built span.order m l
          (record { place = record { fits = f; leads = e }; allowed = refl })

  pub tree_position : {u j v : ℕ} → Memᴰ (via u j v) F → position v (block g u) 0 ≡ j
  tree_position {u} {j} {v} m =
      let p = tree_place m in
      rw (tree_first m) at (mention_found v (block g u) j p.fits p.leads).found

  -- so the way back, on the side h, is the first mention of the parent in the child's block
  pub tree_pair : (h : Blocks) {u j v : ℕ} → Memᴰ (via u j v) F → pair g h u j ≡ position u (block h v) 0
  tree_pair h m = pair_first g h (tree_place m) (tree_first m)

  -- of the two ends of a wire one is an ancestor of the other
  pub ends_related : WellFormed g → {u j v : ℕ} → Place g u j v → Ancestor F u v ⊎ Ancestor F v u
  ends_related wf {u} {j} {v} p = go (dec_lt (number F u) (number F v)) (dec_lt (number F v) (number F u))
    where
      go : Dec (number F u < number F v) → Dec (number F v < number F u) → Ancestor F u v ⊎ Ancestor F v u
      go (yes l) d = inl (span.down u j v p l)
      go (no h) (yes l) = inr (span.down v (twin g u j) u (twin_place wf p) l)
      go (no h) (no k) = inl (ancestor_same (number_injective F (source_entered p) (target_entered p) (omega arith)))
