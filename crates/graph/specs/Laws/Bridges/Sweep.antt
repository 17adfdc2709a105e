-- The lowpoints as a program finds them: first at each vertex over its places, then, from the last visited vertex back,
-- each one's into its parent's.
use Rattle.std.specs.Prelude.{ℕ, suc, ◌≤◌, ◌<◌, min, ◌≡◌, refl, ◌⊎◌, length}
use Rattle.std.proofs.Common.{sym, ◌∙◌, ap, inl, inr, arith}
use mathlib.Core.List.{Memᴰ}
use Rattle.std.proofs.Math.Decide.{dec_le, ℕ_discrete}
use Rattle.graph.specs.Graph.{Blocks, block, Place}
use Rattle.graph.specs.Search.{via, Forest}
use Rattle.graph.specs.Forest.{number, vertex_at, parent}
use Rattle.graph.specs.Laws.Tree.Entries.{Entered, entry_entered, parent_entered}
use Rattle.graph.specs.Laws.Tree.Numbers.{number_bound, number_injective, vertex_entered, number_vertex}
use Rattle.graph.specs.Laws.Tree.Numbers.{parent_first}
use Rattle.graph.specs.Laws.Tree.Climbs.{slot, child_entry, parent_child}
use Rattle.graph.specs.Laws.Joined.Spanning.{Spanning, source_entered, forest_length}
use Rattle.graph.specs.Laws.Edges.Marks.{Back}
use Rattle.graph.specs.Laws.Bridges.Stores.{Stored}
use Rattle.graph.specs.Laws.Bridges.Lowpoints.{Attained, by_self, by_place, by_child, Lows}

-- ---- over the places of one vertex

-- why x is what it is
pub data Met (g : Blocks) (F : Forest) (c x : ℕ) : Type 0 where
  met_self : x ≡ number F c → Met g F c x
  met_place : (i w : ℕ) → Place g c i w → (Back g g F c i → ⊥) → x ≡ number F w → Met g F c x

-- x is the least of c's visit number and of those at c's places before position j, but for the way back
pub record Least (g : Blocks) (F : Forest) (c j x : ℕ) : Type 0 where
  pub at_most : x ≤ number F c
  pub at_place : (i w : ℕ) → i < j → Place g c i w → (Back g g F c i → ⊥) → x ≤ number F w
  pub met : Met g F c x

module _ {g : Blocks} {F : Forest} {c : ℕ} where
  pub least_begin : Least g F c 0 (number F c)
  least_begin = record { at_most = omega arith; at_place = λ i w l. absurd (omega arith); met = met_self refl }

  -- the way back is passed over
  pub least_pass : {j x : ℕ} → Back g g F c j → Least g F c j x → Least g F c (suc j) x
  least_pass {j} {x} k r =
      record { at_most = r.at_most; at_place = λ i w l p n. go i w l p n (ℕ_discrete i j); met = r.met }
    where
      go : (i w : ℕ) → i < suc j → Place g c i w → (Back g g F c i → ⊥) → Dec (i ≡ j) → x ≤ number F w
      go i w l p n (yes e) = absurd (n (rw e k))
      go i w l p n (no d) = r.at_place i w (omega arith) p n

  -- any other place counts
  pub least_take : {j x w : ℕ} → Place g c j w → (Back g g F c j → ⊥) → Least g F c j x
      → Least g F c (suc j) (min x (number F w))
  least_take {j} {x} {w} q k r = record {
    at_most = let a = r.at_most in omega arith;
    at_place = λ i y l p n. go i y l p n (ℕ_discrete i j);
    met = kept r.met (dec_le x (number F w));
  }
    where
      go : (i y : ℕ) → i < suc j → Place g c i y → (Back g g F c i → ⊥) → Dec (i ≡ j) → min x (number F w) ≤ number F y
      go i y l p n (yes e) =
          let a = p.leads in
          let b = q.leads in
          let z : y ≡ w = cc in
          let f = ap (number F) z in
          omega arith
      go i y l p n (no d) = let a = r.at_place i y (omega arith) p n in omega arith

      kept : Met g F c x → Dec (x ≤ number F w) → Met g F c (min x (number F w))
      kept (met_self e) (yes l) = met_self (omega arith)
      kept (met_place i y p n e) (yes l) = met_place i y p n (omega arith)
      kept m (no l) = met_place j w q k (omega arith)

-- ---- from the last visited vertex back

-- a value keeps its reason where the table keeps the cells that it names
attained_keeps : {g : Blocks} {F : Forest} {m m' c : ℕ} {t t' : ℕ → ℕ} → m' ≤ m → t' c ≡ t c
    → ((x : ℕ) → Entered x F → m ≤ number F x → t' x ≡ t x)
    → Attained g F m t c → Attained g F m' t' c
attained_keeps l e f (by_self q) = by_self (e ∙ q)
attained_keeps l e f (by_place i w p n q) = by_place i w p n (e ∙ q)
attained_keeps l e f (by_child j x k a q) = by_child j x k (omega arith) (e ∙ (q ∙ sym (f x (entry_entered k) a)))

module _ {g : Blocks} {F : Forest} (span : Spanning g F) where
  -- the tables of the first pass: no child counts yet
  pub sweep_begin : {t : ℕ → ℕ} → ((c : ℕ) → c < length g → Least g F c (length (block g c)) (t c))
      → Lows g F (length g) t
  sweep_begin {t} h = record {
    at_most = λ c i. (h c (span.within c i)).at_most;
    at_place = λ c i w p n. (h c (span.within c (source_entered span p))).at_place i w p.fits p n;
    at_child =
        λ c j x m l. absurd (omega (arith, number_bound (entry_entered m), forest_length span));
    attained = λ c i. go c (h c (span.within c i)).met;
  }
    where
      go : (c : ℕ) → Met g F c (t c) → Attained g F (length g) t c
      go c (met_self e) = by_self e
      go c (met_place i w p n e) = by_place i w p n e

  module _ {m : ℕ} (h : m < length g) where
    abbrev v : ℕ
    v = vertex_at F m

    in_forest : m < length F
    in_forest = let a = forest_length span in omega arith

    v_entered : Entered v F
    v_entered = vertex_entered F m in_forest

    v_number : number F v ≡ m
    v_number = number_vertex span.built m in_forest

    -- the vertex of number m, or one of a higher number
    this_or_later : (x : ℕ) → Entered x F → m ≤ number F x → (x ≡ v) ⊎ (suc m ≤ number F x)
    this_or_later x i l = elim (dec_le (suc m) (number F x)) [
      | yes k ↦ inr k
      | no k ↦ inl (number_injective F i v_entered (let e = v_number in omega arith))
    ]

    -- a root has no parent
    pub sweep_root : {t : ℕ → ℕ} → parent F (vertex_at F m) ≡ 0 → Lows g F (suc m) t → Lows g F m t
    sweep_root {t} e lo = record {
      at_most = lo.at_most;
      at_place = lo.at_place;
      at_child =
          λ c j x k l. elim (this_or_later x
          (entry_entered k) l) [ inl q ↦ absurd (no_child_lem q k) | inr q ↦ lo.at_child c j x k q ];
      attained = λ c i. attained_keeps (omega arith) refl (λ x k l. refl) (lo.attained c i);
    }
      where
        no_child_lem : {c j x : ℕ} → x ≡ v → Memᴰ (via c j x) F → ⊥
        no_child_lem q k = omega (arith, parent_child span.built k, ap (parent F) q)

    -- a child's lowpoint goes into its parent's
    pub sweep_child : {t t' : ℕ → ℕ} {u : ℕ} → parent F (vertex_at F m) ≡ suc u
        → Stored (length g) t t' u (min (t u) (t (vertex_at F m)))
        → Lows g F (suc m) t → Lows g F m t'
    sweep_child {t} {t'} {u} e st lo = record {
      at_most = λ c i. (omega (arith, lower c i, lo.at_most c i));
      at_place =
          λ c i w p n. (omega (arith, lower c (source_entered span p), lo.at_place c i w p n));
      at_child = λ c j x k l. under c j x k (this_or_later x (entry_entered k) l);
      attained = λ c i. go c i (ℕ_discrete c u) (dec_le (t u) (t v)) (lo.attained c i);
    }
      where
        up : Memᴰ (via u (slot F v) v) F
        up = child_entry span.built v_entered e

        hit : t' u ≡ min (t u) (t v)
        hit = st.hit

        other : (c : ℕ) → Entered c F → (c ≡ u → ⊥) → t' c ≡ t c
        other c i n = st.rest c (span.within c i) n

        lower : (c : ℕ) → Entered c F → t' c ≤ t c
        lower c i =
            elim (ℕ_discrete c u) [
              | yes q ↦ (omega (arith, hit, ap t' q, ap t q))
              | no n ↦ (let a = other c i n in omega arith)
            ]

        -- what counts already lies past u
        past : (x : ℕ) → m ≤ number F x → x ≡ u → ⊥
        past x l q = omega (arith, parent_first span.built up, v_number, ap (number F) q)

        kept : (x : ℕ) → Entered x F → m ≤ number F x → t' x ≡ t x
        kept x i l = other x i (past x l)

        later : (x : ℕ) → Entered x F → suc m ≤ number F x → t' x ≡ t x
        later x i l = kept x i (omega arith)

        under : (c j x : ℕ) → Memᴰ (via c j x) F → (x ≡ v) ⊎ (suc m ≤ number F x) → t' c ≤ t' x
        under c j x k (inr l) =
            let a = lower c (parent_entered span.built k) in
            let b = kept x (entry_entered k) (omega arith) in
            let d = lo.at_child c j x k l in
            omega arith
        under c j x k (inl q) =
            let f = parent_child span.built k in
            let g₁ = ap (parent F) q in
            let cu : c ≡ u = omega arith in
            let a = ap t' cu in
            let b = hit in
            let n = v_number in
            let d = kept v v_entered (omega arith) in
            let r = ap t' q in
            omega arith

        go : (c : ℕ) → Entered c F → Dec (c ≡ u) → Dec (t u ≤ t v) → Attained g F (suc m) t c → Attained g F m t' c
        go c i (yes q) (no l) w =
            let a = hit in
            let b = ap t' q in
            let n = v_number in
            let d = kept v v_entered (omega arith) in
            by_child (slot F v) v (rw q up) (omega arith) (omega arith)
        go c i (yes q) (yes l) w =
            attained_keeps (omega arith) (omega (arith, hit, ap t' q, ap t q)) later w
        go c i (no n) d w = attained_keeps (omega arith) (other c i n) later w
