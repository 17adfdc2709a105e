-- Mentions in one block: `position` finds the mention before which k others stand, and each mention is found.
--   mentions_nil, mentions_hit, mentions_miss   the clauses of `mentions` as equations
--   Mention, mention_at                         the mention before which k others stand
--   Found, mention_found                        a position, by the mentions before it
--   first_mention, none_before, first_position  the first mention
use Rattle.std.specs.Prelude.{ℕ, zero, suc, ◌<◌, ◌≡◌, refl, ◌↔◌, List, [], ◌∷◌, length, get_or, take}
use Rattle.std.proofs.Common.{sym, ◌∙◌, ap, arith, eq-eqb, ne_eqb}
use Rattle.std.proofs.Math.Decide.{ℕ_discrete}
use Rattle.graph.specs.Graph.{mentions, position}

-- ---- the clauses as equations

pub mentions_nil : (v : ℕ) → mentions v [] ≡ 0
unfolding mentions
mentions_nil v = refl

pub mentions_hit : {v x : ℕ} (l : List ℕ) → v ≡ x → mentions v (x ∷ l) ≡ suc (mentions v l)
unfolding mentions
mentions_hit l e = rw (eq-eqb _ _ e, mentions)

pub mentions_miss : {v x : ℕ} (l : List ℕ) → (v ≡ x → ⊥) → mentions v (x ∷ l) ≡ mentions v l
unfolding mentions
mentions_miss l h = rw (ne_eqb _ _ h, mentions)

position_zero : {v x : ℕ} (l : List ℕ) → v ≡ x → position v (x ∷ l) 0 ≡ 0
unfolding position
position_zero l e = rw (eq-eqb _ _ e, position)

position_suc : {v x : ℕ} (l : List ℕ) (k : ℕ) → v ≡ x → position v (x ∷ l) (suc k) ≡ suc (position v l k)
unfolding position
position_suc l k e = rw (eq-eqb _ _ e, position)

position_miss : {v x : ℕ} (l : List ℕ) (k : ℕ) → (v ≡ x → ⊥) → position v (x ∷ l) k ≡ suc (position v l k)
unfolding position
position_miss l zero h = rw (ne_eqb _ _ h, position)
position_miss l (suc k) h = rw (ne_eqb _ _ h, position)

-- ---- the k-th mention

-- v stands at position i, and k mentions of v stand before
pub record Mention (v : ℕ) (l : List ℕ) (k i : ℕ) : Type 0 where
  pub inside : i < length l
  pub there : get_or l i 0 ≡ v
  pub before : mentions v (take i l) ≡ k

mention_later : {v x : ℕ} (l : List ℕ) {k i : ℕ} → Mention v l k i → (v ≡ x → ⊥) → Mention v (x ∷ l) k (suc i)
mention_later l {i = i} r h =
    record {
      inside = let a = r.inside in omega arith;
      there = r.there;
      before = mentions_miss (take i l) h
          ∙ r.before;
    }

pub mention_at : (v : ℕ) (l : List ℕ) (k : ℕ) → k < mentions v l → Mention v l k (position v l k)
mention_at v [] k h = absurd (omega (arith, mentions_nil v))
mention_at v (x ∷ l) k h = go (ℕ_discrete v x) k h (λ i. mention_at v l i)
  where
    go : Dec (v ≡ x) → (i : ℕ) → i < mentions v (x ∷ l) → ((m : ℕ) → m < mentions v l → Mention v l m (position v l m))
        → Mention v (x ∷ l) i (position v (x ∷ l) i)
    go (yes e) zero h' rec =
        rw (position_zero l e) (record { inside = omega arith; there = sym e; before = mentions_nil v })
    go (yes e) (suc i) h' rec =
        let r = rec i (omega (arith, mentions_hit l e)) in
        let a = r.inside in
        rw (position_suc l i e)
        (record {
          inside = omega arith;
          there = r.there;
          before = mentions_hit (take (position v l i) l) e
              ∙ ap suc r.before;
        })
    go (no d) i h' rec = rw (position_miss l i d) (mention_later l (rec i (omega (arith, mentions_miss l d))) d)

-- the other way: the mentions before it lead back to a position
pub record Found (v : ℕ) (l : List ℕ) (j : ℕ) : Type 0 where
  pub counted : mentions v (take j l) < mentions v l
  pub found : position v l (mentions v (take j l)) ≡ j

pub mention_found : (v : ℕ) (l : List ℕ) (j : ℕ) → j < length l → get_or l j 0 ≡ v → Found v l j
mention_found v [] j h e = absurd (omega arith)
mention_found v (x ∷ l) zero h e =
    let a = mentions_hit l (sym e) in
    let b = mentions_nil v in
    record { counted = omega arith; found = rw b (position_zero l (sym e)) }
mention_found v (x ∷ l) (suc j) h e = go (ℕ_discrete v x) (mention_found v l j (omega arith) e)
  where
    go : Dec (v ≡ x) → Found v l j → Found v (x ∷ l) (suc j)
    go (yes p) r =
        let a = mentions_hit (take j l) p in
        let b = mentions_hit l p in
        record {
          counted = let c = r.counted in omega arith;
          found = rw a
              (position_suc l (mentions v (take j l)) p ∙ ap suc r.found);
        }
    go (no d) r =
        let a = mentions_miss (take j l) d in
        let b = mentions_miss l d in
        record {
          counted = let c = r.counted in omega arith;
          found = rw a
              (position_miss l (mentions v (take j l)) d ∙ ap suc r.found);
        }

-- ---- the first mention

pub first_mention : (v : ℕ) (l : List ℕ) (j : ℕ) → j < length l → get_or l j 0 ≡ v
    → (j ≡ position v l 0) ↔ (mentions v (take j l) ≡ 0)
first_mention v l j h e =
    let f = mention_found v l j h e in (
      λ q. (let a = f.counted in ap (λ i. mentions v (take i l)) q ∙ (mention_at v l 0 (omega arith)).before),
      λ z. sym f.found ∙ ap (position v l) z,
    )

pub none_before : (v : ℕ) (l : List ℕ) (j : ℕ) → ((i : ℕ) → i < j → i < length l → get_or l i 0 ≡ v → ⊥)
    → mentions v (take j l) ≡ 0
none_before v l zero h = mentions_nil v
none_before v [] (suc j) h = mentions_nil v
none_before v (x ∷ l) (suc j) h =
    mentions_miss (take j l) (λ e. h 0 (omega arith) (omega arith) (sym e))
    ∙ none_before v l j (λ i a b. h (suc i) (omega arith) (omega arith))

before_first : (v : ℕ) (l : List ℕ) (i : ℕ) → i < position v l 0 → get_or l i 0 ≡ v → ⊥
unfolding position
before_first v [] i h e = omega arith
before_first v (x ∷ l) i h e = go (ℕ_discrete v x) i h e (λ k. before_first v l k)
  where
    go : Dec (v ≡ x) → (i : ℕ) → i < position v (x ∷ l) 0 → get_or (x ∷ l) i 0 ≡ v
        → ((k : ℕ) → k < position v l 0 → get_or l k 0 ≡ v → ⊥) → ⊥
    go (yes q) i h' e' rec = let a = position_zero l q in omega arith
    go (no n) zero h' e' rec = n (sym e')
    go (no n) (suc i) h' e' rec = let a = position_miss l 0 n in rec i (omega arith) e'

-- position 0 of v is where it stands and at no earlier place
pub first_position : (v : ℕ) (l : List ℕ) (j : ℕ) → j < length l → get_or l j 0 ≡ v
    → (position v l 0 ≡ j) ↔ ((i : ℕ) → i < j → get_or l i 0 ≡ v → ⊥)
first_position v l j h e = (
  λ q i c f. before_first v l i (omega arith) f,
  λ n. ap (position v l) (sym (none_before v l j (λ i c d. n i c))) ∙ (mention_found v l j h e).found,
)
