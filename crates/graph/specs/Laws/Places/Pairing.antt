-- Places of two sides in pairs, and the twin: pairing swaps the ends and goes back.
use Rattle.std.specs.Prelude.{ℕ, zero, suc, ◌<◌, ◌≡◌, refl, ◌↔◌, [], ◌∷◌, length, take}
use Rattle.std.proofs.Math.Path.{sym, ap}
use Rattle.std.proofs.Common.{◌∙◌, arith}
use Rattle.std.proofs.Math.Decide.{dec_lt}
use Rattle.graph.specs.Graph.{Blocks, block, target, Place, mentions, position, pair, twin, WellFormed}
use Rattle.graph.specs.Laws.Places.Mentions.{Mention, mention_at, mention_found}

-- neighbours are vertices: all that the search itself asks
abbrev pub InRange : Blocks → Type 0
InRange g = (u j v : ℕ) → Place g u j v → v < length g

-- a place belongs to a vertex
pub source : {g : Blocks} {u j v : ℕ} → Place g u j v → u < length g
source {g} {u} {j} p = go g u p.fits
  where
    go : (g : Blocks) (u : ℕ) → j < length (block g u) → u < length g
    go [] u h = absurd (omega arith)
    go (l ∷ g) zero h = omega arith
    go (l ∷ g) (suc u) h = let a = go g u h in omega arith

-- a position of a block is a place
pub place_at : {g : Blocks} {u j : ℕ} → j < length (block g u) → Place g u j (target g u j)
place_at h = record { fits = h; leads = refl }

mention_place : (g : Blocks) (u v k : ℕ) → k < mentions v (block g u) → Place g u (position v (block g u) k) v
mention_place g u v k h = let r = mention_at v (block g u) k h in record { fits = r.inside; leads = r.there }

-- ---- two sides

-- v is mentioned at u in g as often as u at v in h
pub record Balanced (g h : Blocks) : Type 0 where
  pub same : (u v : ℕ) → mentions v (block g u) ≡ mentions u (block h v)

pub balanced_sym : {g h : Blocks} → Balanced g h → Balanced h g
balanced_sym b = record { same = λ u v. sym (b.same v u) }

-- equal mentions need be asked at the places of both sides only
pub balanced_at : {g h : Blocks}
    → ((u j v : ℕ) → Place g u j v → mentions v (block g u) ≡ mentions u (block h v))
    → ((v i u : ℕ) → Place h v i u → mentions v (block g u) ≡ mentions u (block h v))
    → Balanced g h
balanced_at {g} {h} there back =
    record { same = λ u v. go u v (dec_lt 0 (mentions v (block g u))) (dec_lt 0 (mentions u (block h v))) }
  where
    go : (u v : ℕ) → Dec (0 < mentions v (block g u)) → Dec (0 < mentions u (block h v))
        → mentions v (block g u) ≡ mentions u (block h v)
    go u v (yes a) d = there u (position v (block g u) 0) v (mention_place g u v 0 a)
    go u v (no a) (yes b) = back v (position u (block h v) 0) u (mention_place h v u 0 b)
    go u v (no a) (no b) = omega arith

-- well-formedness, from what is seen at the places
pub well_formed_at : {g : Blocks} → InRange g → ((u j : ℕ) → Place g u j u → ⊥)
    → ((u j v : ℕ) → Place g u j v → mentions v (block g u) ≡ mentions u (block g v)) → WellFormed g
well_formed_at {g} r n e = record {
  in_range = r;
  no_loop = n;
  balanced = (balanced_at {g = g} {h = g} e (λ v i u p. sym (e v i u p))).same;
}

module _ {g h : Blocks} (b : Balanced g h) where
  pair_mention : {u j v : ℕ} → Place g u j v → Mention u (block h v) (mentions v (take j (block g u))) (pair g h u j)
  unfolding pair
  pair_mention {u} {j} {v} p =
      let f = mention_found v (block g u) j p.fits p.leads in
      rw p.leads
      (mention_at u (block h v) (mentions v (take j (block g u))) (omega (arith, f.counted, b.same u v)))

  -- the k-th mention is paired with the k-th, and with no other
  pub pair_told : {u j v : ℕ} → Place g u j v → (i : ℕ)
      → (i ≡ pair g h u j) ↔ Mention u (block h v) (mentions v (take j (block g u))) i
  unfolding pair
  pair_told {u} {j} {v} p i = (
    λ e. rw e (pair_mention p),
    λ m.
        sym (mention_found u (block h v) i m.inside m.there).found
        ∙ ap (position u (block h v)) m.before
        ∙ ap (λ x. position u (block h x) (mentions x (take j (block g u)))) (sym p.leads),
  )

  pub pair_place : {u j v : ℕ} → Place g u j v → Place h v (pair g h u j) u
  pair_place p = let r = pair_mention p in record { fits = r.inside; leads = r.there }

  pub pair_pair : {u j v : ℕ} → Place g u j v → pair h g v (pair g h u j) ≡ j
  unfolding pair
  pair_pair {u} {j} {v} p = go (pair g h u j) (pair_mention p)
    where
      go : (i : ℕ) → Mention u (block h v) (mentions v (take j (block g u))) i → pair h g v i ≡ j
      go i r = rw (r.there, r.before) (mention_found v (block g u) j p.fits p.leads).found

-- the first mention is paired with the first
pub pair_first : (g h : Blocks) {u j v : ℕ} → Place g u j v → mentions v (take j (block g u)) ≡ 0
    → pair g h u j ≡ position u (block h v) 0
unfolding pair
pair_first g h p e = rw (p.leads, e)

-- ---- one side with itself

module _ {g : Blocks} (wf : WellFormed g) where
  pub both_ends : Balanced g g
  both_ends = record { same = wf.balanced }

  pub twin_place : {u j v : ℕ} → Place g u j v → Place g v (twin g u j) u
  twin_place p = pair_place both_ends p

  pub twin_twin : {u j v : ℕ} → Place g u j v → twin g v (twin g u j) ≡ j
  twin_twin p = pair_pair both_ends p
