-- A start of the caller's choice, and then the vertices in order.
--   Startable, starts_cover   a start that is a vertex: these starts cover
--   starts_more, starts_many  the starts of a graph that has vertices
--   start_0                   vertex 0 as the start: the vertices in order
--   First, start_first        the start is a root, and visited first
use Rattle.std.specs.Prelude.{ℕ, zero, suc, ◌<◌, ◌≡◌, refl, length}
use Rattle.std.proofs.Common.{ap, ◌∙◌, arith}
use mathlib.Core.List.{List, [], ◌∷◌, map, Memᴰ}
use Rattle.graph.specs.Graph.{Blocks}
use Rattle.graph.specs.Search.{Goal, root, Forest, PlaceTest, all, search, count_up, starts_from, forest}
use Rattle.graph.specs.Forest.{number, parent}
use Rattle.graph.specs.Laws.Places.CountUp.{count_length}
use Rattle.graph.specs.Laws.Places.Pairing.{InRange}
use Rattle.graph.specs.Laws.Tree.Entries.{now, none_entered, entry_grows, grows_trans, entered_grows}
use Rattle.graph.specs.Laws.Tree.Numbers.{number_hit, number_stays}
use Rattle.graph.specs.Laws.Tree.Climbs.{parent_root}
use Rattle.graph.specs.Laws.Run.Segments.{Segment, skip, enter, segment_pass, segment_grows, segment_unique}
use Rattle.graph.specs.Laws.Run.Segments.{search_segment}
use Rattle.graph.specs.Laws.Joined.Spanning.{Covers, covers_vertices, Spanning, search_spans}

-- the start is a vertex, unless there are none
abbrev pub Startable : Blocks → ℕ → Type 0
Startable g s = 0 < length g → s < length g

pub starts_more : (n s : ℕ) → 0 < n → starts_from n s ≡ s ∷ count_up 0 n
unfolding starts_from
starts_more zero s h = absurd (omega arith)
starts_more (suc n) s h = refl

pub starts_many : (n s : ℕ) → 0 < n → length (starts_from n s) ≡ suc n
starts_many n s h = ap length (starts_more n s h) ∙ ap suc (count_length 0 n)

-- a vertex in front of starts that cover, or nothing where there are none
pub starts_cover : (g : Blocks) (s : ℕ) → Startable g s → Covers g (starts_from (length g) s)
unfolding starts_from
starts_cover g s h = go (length g) refl
  where
    c : Covers g (count_up 0 (length g))
    c = covers_vertices g

    go : (n : ℕ) → length g ≡ n → Covers g (starts_from n s)
    go zero e = record { every = λ v l. absurd (omega arith); inside = λ v m. elim m [ ] }
    go (suc n) e = record {
      every = λ v l. Memᴰ.tail (rw e at (c.every v l));
      inside = λ v m. either v m;
    }
      where
        either : (v : ℕ) → Memᴰ v (s ∷ count_up 0 (suc n)) → v < length g
        either v (Memᴰ.head q) = omega (arith, q, h (omega arith))
        either v (Memᴰ.tail m) = c.inside v (rw e m)

-- a start that stands twice at the front is entered once
twice : {g : Blocks} {ok : PlaceTest} {a : Goal} {xs : List Goal} {F : Forest} → Segment g ok [] (a ∷ a ∷ xs) F
    → Segment g ok [] (a ∷ xs) F
twice (skip i s) = absurd (none_entered i)
twice (enter h k s) = enter h k (segment_pass (entered_grows (segment_grows k) (now refl)) s)

pub start_0 : {g : Blocks} → InRange g → search g all (count_up 0 (length g)) ≡ forest g 0
unfolding starts_from count_up
start_0 {g} r = go (length g) (covers_vertices g).inside (starts_cover g 0 (λ h. h)).inside
  where
    go : (n : ℕ) → ((v : ℕ) → Memᴰ v (count_up 0 n) → v < length g)
        → ((v : ℕ) → Memᴰ v (starts_from n 0) → v < length g)
        → search g all (count_up 0 n) ≡ search g all (starts_from n 0)
    go zero c d = refl
    go (suc n) c d =
        segment_unique (search_segment g all r (count_up 0 (suc n)) c)
        (twice (search_segment g all r (starts_from (suc n) 0) d))

pub record First (F : Forest) (s : ℕ) : Type 0 where
  pub a_root : parent F s ≡ 0
  pub number_zero : number F s ≡ 0

-- the first of any starts is
first_of : {g : Blocks} → InRange g → {s : ℕ} {starts : List ℕ} → Covers g (s ∷ starts)
    → First (search g all (s ∷ starts)) s
first_of {g} r {s} {starts} cov = go (search_segment g all r (s ∷ starts) cov.inside) (search_spans r cov)
  where
    go : {F : Forest} → Segment g all [] (map root (s ∷ starts)) F → Spanning g F → First F s
    go (skip i t) span = absurd (none_entered i)
    go (enter h k t) span =
        let grows = grows_trans (segment_grows k) (segment_grows t) in
        record {
          a_root = parent_root span.built (entry_grows grows (Memᴰ.head refl));
          number_zero = number_stays grows span.built (now refl) ∙ number_hit (root s) [] refl;
        }

pub start_first : {g : Blocks} → InRange g → {s : ℕ} → s < length g → First (forest g s) s
start_first {g} r {s} h =
    let e = starts_more (length g) s (omega arith) in
    let c = rw e at (starts_cover g s (λ k. h)) in
    rw e (first_of r c)
