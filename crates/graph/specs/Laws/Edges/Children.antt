-- The children of a vertex in the order of their visits are its child-marked neighbours in listed order.
use Rattle.std.specs.Prelude.{ℕ, zero, suc, ◌+◌, ◌≤◌, ◌<◌, ◌≡◌, refl, Bool, true, false, ◌&&◌, ◌||◌, List, [], ◌∷◌, ◌++◌, eqb, length, get_or}
use Rattle.std.proofs.Common.{sym, ◌∙◌, ap, subst, arith, eq-eqb, ne_eqb}
use mathlib.Core.List.Memᴰ
use Rattle.std.proofs.Math.Decide.{ℕ_discrete, dec_lt}
use Rattle.graph.specs.Graph.{Blocks, block, Place}
use Rattle.graph.specs.Search.{root, via, Forest, all}
use Rattle.graph.specs.Forest.{children, child_mark}
use Rattle.graph.specs.Laws.Places.Basics.{Told, pass, fail, told, fails}
use Rattle.graph.specs.Laws.Tree.Entries.{entered_cast, entry_entered, Built, fresh, before, entry_allowed}
use Rattle.graph.specs.Laws.Run.Order.{InOrder, order_before, order_entered}
use Rattle.graph.specs.Laws.Edges.Marks.{mark_child}

-- ---- the neighbours at marked positions

-- of the rest of a block, which begins at position i, the neighbours at the positions that f marks
unfoldable pub marked : (ℕ → Bool) → ℕ → List ℕ → List ℕ
marked f i [] = []
marked f i (v ∷ l) = elim (f i) [ true ↦ v ∷ marked f (suc i) l | false ↦ marked f (suc i) l ]

marked_yes : (f : ℕ → Bool) (i v : ℕ) (l : List ℕ) → f i ≡ true → marked f i (v ∷ l) ≡ v ∷ marked f (suc i) l
unfolding marked
marked_yes f i v l e = rw (e, marked)

marked_no : (f : ℕ → Bool) (i v : ℕ) (l : List ℕ) → f i ≡ false → marked f i (v ∷ l) ≡ marked f (suc i) l
unfolding marked
marked_no f i v l e = rw (e, marked)

-- tests that agree mark alike
marked_same : (f f' : ℕ → Bool) (i : ℕ) (l : List ℕ) → ((k : ℕ) → i ≤ k → f k ≡ f' k) → marked f i l ≡ marked f' i l
unfolding marked
marked_same f f' i [] h = refl
marked_same f f' i (v ∷ l) h = go (told (f' i)) (marked_same f f' (suc i) l (λ k c. h k (omega arith)))
  where
    go : Told (f' i) → marked f (suc i) l ≡ marked f' (suc i) l → marked f i (v ∷ l) ≡ marked f' i (v ∷ l)
    go (pass e) r = marked_yes f i v l (h i (omega arith) ∙ e) ∙ (ap (λ x. v ∷ x) r ∙ sym (marked_yes f' i v l e))
    go (fail e) r = marked_no f i v l (h i (omega arith) ∙ e) ∙ (r ∙ sym (marked_no f' i v l e))

marked_none : (f : ℕ → Bool) (i : ℕ) (l : List ℕ) → ((k : ℕ) → i ≤ k → f k ≡ false) → marked f i l ≡ []
unfolding marked
marked_none f i [] h = refl
marked_none f i (v ∷ l) h = marked_no f i v l (h i (omega arith)) ∙ marked_none f (suc i) l (λ k c. h k (omega arith))

-- a mark past all others adds its neighbour at the end
record Past (f f' : ℕ → Bool) (j : ℕ) : Type 0 where
  newly : f' j ≡ true
  none : (k : ℕ) → j ≤ k → f k ≡ false
  same : (k : ℕ) → (k ≡ j → ⊥) → f' k ≡ f k

marked_past : (f f' : ℕ → Bool) (i d : ℕ) (l : List ℕ) → Past f f' (i + d) → d < length l
    → marked f' i l ≡ marked f i l ++ (get_or l d 0 ∷ [])
unfolding marked
marked_past f f' i d [] p h = absurd (omega arith)
marked_past f f' i zero (v ∷ l) p h =
    let z : i + 0 ≡ i = omega arith in
    let none : (k : ℕ) → i ≤ k → f k ≡ false = λ k c. p.none k (omega arith) in
    let rest : (k : ℕ) → suc i ≤ k → f' k ≡ false = λ k c. (p.same k (λ e. omega arith) ∙ none k (omega arith)) in
    marked_yes f' i v l (rw z at p.newly)
    ∙ (ap (λ x. v ∷ x) (marked_none f' (suc i) l rest) ∙ rw (marked_none f i (v ∷ l) none))
marked_past f f' i (suc d) (v ∷ l) p h =
    go (told (f i))
    (marked_past f f' (suc i) d l (let z : i + suc d ≡ suc i + d = omega arith in rw z at p) (omega arith))
  where
    keep : f' i ≡ f i
    keep = p.same i (λ e. omega arith)

    go : Told (f i) → marked f' (suc i) l ≡ marked f (suc i) l ++ (get_or l d 0 ∷ [])
        → marked f' i (v ∷ l) ≡ marked f i (v ∷ l) ++ (get_or l d 0 ∷ [])
    go (pass e) r = marked_yes f' i v l (keep ∙ e) ∙ (ap (λ x. v ∷ x) r ∙ rw (marked_yes f i v l e))
    go (fail e) r = marked_no f' i v l (keep ∙ e) ∙ (r ∙ rw (marked_no f i v l e))

-- ---- the children

mark_other : (F : Forest) (u j v x i : ℕ) → (x ≡ u → i ≡ j → ⊥) → child_mark (via u j v ∷ F) x i ≡ child_mark F x i
unfolding child_mark
mark_other F u j v x i h = go (ℕ_discrete x u)
  where
    go : Dec (x ≡ u) → ((eqb x u && eqb i j) || child_mark F x i) ≡ child_mark F x i
    go (yes e) = rw (eq-eqb x u e, ne_eqb i j (h e))
    go (no n) = rw (ne_eqb x u n)

mark_this : (F : Forest) (u j v : ℕ) → child_mark (via u j v ∷ F) u j ≡ true
unfolding child_mark
mark_this F u j v = rw (eq-eqb u u refl, eq-eqb j j refl)

children_hit : (F : Forest) {u x : ℕ} (j v : ℕ) → x ≡ u → children (via u j v ∷ F) x ≡ children F x ++ (v ∷ [])
unfolding children
children_hit F {u} {x} j v e = rw (eq-eqb x u e, children)

children_miss : (F : Forest) {u x : ℕ} (j v : ℕ) → (x ≡ u → ⊥) → children (via u j v ∷ F) x ≡ children F x
unfolding children
children_miss F {u} {x} j v n = rw (ne_eqb x u n, children)

pub children_marked : {g : Blocks} {F : Forest} → Built (Place g) F → InOrder g all F → (x : ℕ)
    → children F x ≡ marked (child_mark F x) 0 (block g x)
unfolding children child_mark
children_marked {g} {F = []} b o x = sym (marked_none (child_mark [] x) 0 (block g x) (λ k c. refl))
children_marked {g} {F = root v ∷ F} b o x = children_marked {F = F} (before b) (order_before o) x
children_marked {g} {F = via u j v ∷ F} b o x =
    go (ℕ_discrete x u) (children_marked {F = F} (before b) (order_before o) x)
  where
    p : Place g u j v
    p = entry_allowed b (Memᴰ.head refl)

    -- no later place of u has a mark: v would be entered
    late : (k : ℕ) → j ≤ k → child_mark F u k ≡ true → Dec (j < k) → ⊥
    late k l e (yes c) =
        fresh b
        (order_entered (before b) (order_before o) (mark_child F u k e).entry_at c
        (record { place = p; allowed = refl }))
    late k l e (no c) =
        let m = mark_child F u k e in
        let q = (entry_allowed (before b) m.entry_at).leads in
        let r = p.leads in
        let z : j ≡ k = omega arith in
        fresh b (entered_cast (cc) (entry_entered m.entry_at))

    past : Past (child_mark F u) (child_mark (via u j v ∷ F) u) j
    past = record {
      newly = mark_this F u j v;
      none = λ k l. fails (child_mark F u k) (λ e. late k l e (dec_lt j k));
      same = λ k n. mark_other F u j v u k (λ a e. n e);
    }

    at_u : marked (child_mark F u) 0 (block g u) ++ (v ∷ []) ≡ marked (child_mark (via u j v ∷ F) u) 0 (block g u)
    at_u =
        let z : 0 + j ≡ j = omega arith in
        let s = marked_past (child_mark F u) (child_mark (via u j v ∷ F) u) 0 j (block g u) (rw z past) p.fits in
        sym (s ∙ ap (λ y. marked (child_mark F u) 0 (block g u) ++ (y ∷ [])) p.leads)

    at_x : x ≡ u → marked (child_mark F x) 0 (block g x) ++ (v ∷ []) ≡ marked (child_mark (via u j v ∷ F) x) 0 (block g x)
    at_x e =
        subst
        (λ y. marked (child_mark F y) 0 (block g y) ++ (v ∷ []) ≡ marked (child_mark (via u j v ∷ F) y) 0 (block g y))
        (sym e) at_u

    go : Dec (x ≡ u) → children F x ≡ marked (child_mark F x) 0 (block g x)
        → children (via u j v ∷ F) x ≡ marked (child_mark (via u j v ∷ F) x) 0 (block g x)
    go (no n) ih =
        children_miss F j v n
        ∙ (ih ∙ marked_same (child_mark F x) (child_mark (via u j v ∷ F) x) 0 (block g x)
        (λ k c. sym (mark_other F u j v x k (λ e q. n e))))
    go (yes e) ih = children_hit F j v e ∙ (ap (λ l. l ++ (v ∷ [])) ih ∙ at_x e)
