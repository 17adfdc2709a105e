-- Theorem 3: a segment builds a forest, and an arc from an earlier to a later entered vertex leads to a descendant. For
-- any arcs, also one-way ones.
use Rattle.std.specs.Prelude.{ℕ, ◌<◌, ◌≡◌, refl, ◌⊎◌}
use Rattle.std.proofs.Common.{subst, inl, inr, arith}
use mathlib.Core.List.Memᴰ
use mathlib.Core.List.{List, ◌∷◌, Memᴰ}
use Rattle.graph.specs.Graph.{Blocks}
use Rattle.graph.specs.Search.{Goal, root, via, aim, Forest, PlaceTest}
use Rattle.graph.specs.Forest.{number, Ancestor, child}
use Rattle.graph.specs.Laws.Tree.Entries.{Entered, now, Grows, same, more, grows_trans, entered_grows, Built}
use Rattle.graph.specs.Laws.Tree.Entries.{built_root, built_via, built_grows}
use Rattle.graph.specs.Laws.Tree.Numbers.{number_hit, number_bound, number_stays}
use Rattle.graph.specs.Laws.Tree.Ancestors.{ancestor_grows, ancestor_same}
use Rattle.graph.specs.Laws.Run.Arcs.{arcs_of, Step, Arc, arc, arcs_arc, arc_arcs}
use Rattle.graph.specs.Laws.Run.Segments.{Segment, done, skip, enter, segment_grows, segment_aims, segment_closed}
use Rattle.graph.specs.Laws.Run.Segments.{Added, at_once, below, after, added, Start, start}

-- a goal that may be taken up: a start, or an allowed place of an entered vertex
pub data Fit (g : Blocks) (ok : PlaceTest) (F : Forest) : Goal → Type 0 where
  fit_start : {v : ℕ} → Fit g ok F (root v)
  fit_arc : {u j v : ℕ} → Entered u F → Step g ok u j v → Fit g ok F (via u j v)

pub start_fits : {g : Blocks} {ok : PlaceTest} {F : Forest} {starts : List ℕ} {a : Goal} → Start starts a → Fit g ok F a
start_fits (start k) = fit_start

-- a place of a descendant of c
data Hangs (F : Forest) (c : ℕ) : Goal → Type 0 where
  hangs : {u j v : ℕ} → Ancestor F c u → Hangs F c (via u j v)

hangs_grows : {F H : Forest} {c : ℕ} {a : Goal} → Grows F H → Hangs F c a → Hangs H c a
hangs_grows e (hangs q) = hangs (ancestor_grows e q)

hangs_below : {F : Forest} {c : ℕ} {a : Goal} → Hangs F c a → Ancestor (a ∷ F) c (aim a)
hangs_below (hangs q) = child (Memᴰ.head refl) (ancestor_grows (more same) q)

module _ {g : Blocks} {ok : PlaceTest} where
  fit_grows : {F H : Forest} {a : Goal} → Grows F H → Fit g ok F a → Fit g ok H a
  fit_grows e fit_start = fit_start
  fit_grows e (fit_arc i s) = fit_arc (entered_grows e i) s

  -- ---- the forest is built

  grow : {F : Forest} {a : Goal} → Fit g ok F a → (Entered (aim a) F → ⊥) → Built (Step g ok) F
      → Built (Step g ok) (a ∷ F)
  grow fit_start h b = built_root h b
  grow (fit_arc i s) h b = built_via h i s b

  pub segment_built : {F H : Forest} {xs : List Goal} → Segment g ok F xs H
      → ((a : Goal) → Memᴰ a xs → Fit g ok F a) → Built (Step g ok) F
      → Built (Step g ok) H
  segment_built done f b = b
  segment_built (skip i s) f b = segment_built s (λ a m. f a (Memᴰ.tail m)) b
  segment_built (enter {a = c} h k s) f b =
      segment_built s (λ a m. fit_grows (grows_trans (more same) (segment_grows k)) (f a (Memᴰ.tail m)))
      (segment_built k (λ a m. fit_arcs (arcs_arc g ok m)) (grow (f c (Memᴰ.head refl)) h b))
    where
      fit_arcs : {F : Forest} {a : Goal} → Arc g ok (aim c) a → Fit g ok (c ∷ F) a
      fit_arcs (arc s) = fit_arc (now refl) s

  -- a root was a root before, or is one of the goals
  pub segment_roots : {F H : Forest} {xs : List Goal} {v : ℕ} → Segment g ok F xs H → Memᴰ (root v) H
      → Memᴰ (root v) F ⊎ Memᴰ (root v) xs
  segment_roots done m = inl m
  segment_roots (skip i s) m = elim (segment_roots s m) [ inl x ↦ inl x | inr x ↦ inr (Memᴰ.tail x) ]
  segment_roots {v = v} (enter {F = F} {M = M} {a = c} {xs = xs} h k s) m =
      go (λ x. segment_roots k x) (segment_roots s m)
    where
      no_arc : {a : Goal} → Arc g ok (aim c) a → root v ≡ a → ⊥
      no_arc (arc s) e = let z : ◌≡◌ {A = ℕ} 0 1 = cc in omega arith

      on_top : Memᴰ (root v) (c ∷ F) ⊎ Memᴰ (root v) (arcs_of g ok (aim c))
          → Memᴰ (root v) F ⊎ Memᴰ (root v) (c ∷ xs)
      on_top (inl x) = elim (Memᴰ.cases_cons x) [ inl e ↦ inr (Memᴰ.head e) | inr y ↦ inl y ]
      on_top (inr x) = absurd (no_arc (arcs_arc g ok x) refl)

      go : (Memᴰ (root v) M → Memᴰ (root v) (c ∷ F) ⊎ Memᴰ (root v) (arcs_of g ok (aim c)))
          → Memᴰ (root v) M ⊎ Memᴰ (root v) xs → Memᴰ (root v) F ⊎ Memᴰ (root v) (c ∷ xs)
      go f (inl x) = on_top (f x)
      go f (inr x) = inr (Memᴰ.tail x)

  -- ---- it goes down

  hangs_arcs : {F : Forest} {c u : ℕ} {a : Goal} → Ancestor F c u → Arc g ok u a → Hangs F c a
  hangs_arcs q (arc s) = hangs q

  -- what places of c's descendants lead to descends from c
  segment_below : {F H : Forest} {xs : List Goal} {c x : ℕ} → Segment g ok F xs H
      → ((a : Goal) → Memᴰ a xs → Hangs F c a) → Entered x H
      → (Entered x F → ⊥) → Ancestor H c x
  segment_below done f i h = absurd (h i)
  segment_below (skip k s) f i h = segment_below s (λ a m. f a (Memᴰ.tail m)) i h
  segment_below {c = c} {x = x} (enter {F = F} {M = M} {H = H} {a = e} n k s) f i h =
      go (added e F M x h)
      (λ p q. segment_below k (λ a m. hangs_arcs top (arcs_arc g ok m)) p q)
      (λ q. segment_below s
      (λ a m. hangs_grows (grows_trans (more same) (segment_grows k)) (f a (Memᴰ.tail m))) i q)
    where
      top : Ancestor (e ∷ F) c (aim e)
      top = hangs_below (f e (Memᴰ.head refl))

      go : Added e F M x → (Entered x M → (Entered x (e ∷ F) → ⊥) → Ancestor M c x)
          → ((Entered x M → ⊥) → Ancestor H c x) → Ancestor H c x
      go (at_once q) p r = rw q (ancestor_grows (grows_trans (segment_grows k) (segment_grows s)) top)
      go (below y z) p r = ancestor_grows (segment_grows s) (p y z)
      go (after q) p r = r q

  -- from a new vertex to one that is entered later: a descendant
  pub segment_down : {F H : Forest} {xs : List Goal} {u j w : ℕ} → Segment g ok F xs H → Built (Step g ok) H
      → Entered u H → (Entered u F → ⊥)
      → Step g ok u j w → number H u < number H w → Ancestor H u w
  segment_down done b i h p l = absurd (h i)
  segment_down (skip k s) b i h p l = segment_down s b i h p l
  segment_down {u = u} {j = j} {w = w} (enter {F = F} {M = M} {H = H} {a = e} n k s) b i h p l =
      go (added e F M u h) (λ x y l'. segment_down k (built_grows (segment_grows s) b) x y p l')
      (λ q. segment_down s b i q p l)
    where
      m : Memᴰ (via u j w) (arcs_of g ok u)
      m = arc_arcs g ok p

      go : Added e F M u → (Entered u M → (Entered u (e ∷ F) → ⊥) → number M u < number M w → Ancestor M u w)
          → ((Entered u M → ⊥) → Ancestor H u w)
          → Ancestor H u w
      go (at_once q) f r =
          let iw : Entered w M = segment_aims k (subst (λ x. Memᴰ (via u j w) (arcs_of g ok x)) q m) in
          let up = grows_trans (segment_grows k) (segment_grows s) in
          let e₁ = number_stays up b (now q) in
          let e₂ = number_hit e F q in
          let new : Entered w (e ∷ F) → ⊥ =
          λ (z : Entered w (e ∷ F)). (omega (arith, number_stays up b z, number_bound z)) in
          ancestor_grows (segment_grows s)
          (segment_below k (λ a x. hangs_arcs (ancestor_same q) (arcs_arc g ok x)) iw new)
      go (below x y) f r =
          let iw : Entered w M = segment_closed k x y m in
          let e₁ = number_stays (segment_grows s) b x in
          let e₂ = number_stays (segment_grows s) b iw in
          ancestor_grows (segment_grows s) (f x y (omega arith))
      go (after q) f r = r q
