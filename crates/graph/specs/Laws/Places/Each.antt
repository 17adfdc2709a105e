-- A test that holds at each place of a graph.
use Rattle.std.specs.Prelude.{ℕ, zero, suc, ◌+◌, ◌<◌, ◌≡◌, refl, ◌↔◌, Bool, true, ◌&&◌, List, [], ◌∷◌, length, get_or}
use Rattle.std.proofs.Common.{arith}
use Rattle.graph.specs.Graph.{Blocks, block, target, Place}
use Rattle.graph.specs.Laws.Places.Basics.{and_parts, and_both}
use Rattle.graph.specs.Laws.Places.Pairing.{place_at}

-- of a block from position i on, of the blocks from vertex u on, of all blocks
unfoldable pub each_of : (ℕ → ℕ → Bool) → ℕ → List ℕ → Bool
each_of f i [] = true
each_of f i (v ∷ l) = f i v && each_of f (suc i) l

unfoldable pub each_from : (ℕ → ℕ → ℕ → Bool) → ℕ → Blocks → Bool
each_from f u [] = true
each_from f u (l ∷ g) = each_of (f u) 0 l && each_from f (suc u) g

unfoldable pub each : (ℕ → ℕ → ℕ → Bool) → Blocks → Bool
each f g = each_from f 0 g

each_of_lem : (f : ℕ → ℕ → Bool) (i : ℕ) (l : List ℕ)
    → (each_of f i l ≡ true) ↔ ((d : ℕ) → d < length l → f (i + d) (get_or l d 0) ≡ true)
unfolding each_of
each_of_lem f i [] = (λ e d h. absurd (omega arith), λ h. refl)
each_of_lem f i (v ∷ l) = (there (each_of_lem f (suc i) l).0, back (each_of_lem f (suc i) l).1)
  where
    there : (each_of f (suc i) l ≡ true → (d : ℕ) → d < length l → f (suc i + d) (get_or l d 0) ≡ true)
        → (f i v && each_of f (suc i) l) ≡ true → (d : ℕ) → d < length (v ∷ l) → f (i + d) (get_or (v ∷ l) d 0) ≡ true
    there rec e zero h = let z : i + 0 ≡ i = omega arith in rw z (and_parts (f i v) (each_of f (suc i) l) e).0
    there rec e (suc d) h =
        let z : i + suc d ≡ suc i + d = omega arith in
        rw z (rec (and_parts (f i v) (each_of f (suc i) l) e).1 d (omega arith))

    back : (((d : ℕ) → d < length l → f (suc i + d) (get_or l d 0) ≡ true) → each_of f (suc i) l ≡ true)
        → ((d : ℕ) → d < length (v ∷ l) → f (i + d) (get_or (v ∷ l) d 0) ≡ true) → (f i v && each_of f (suc i) l) ≡ true
    back rec h = and_both
        (let z : i + 0 ≡ i = omega arith in rw z at (h 0 (omega arith)))
        (rec (λ d c. let z : i + suc d ≡ suc i + d = omega arith in rw z at (h (suc d) (omega arith))))

each_from_lem : (f : ℕ → ℕ → ℕ → Bool) (u : ℕ) (g : Blocks)
    → (each_from f u g ≡ true) ↔ ((d j : ℕ) → j < length (block g d) → f (u + d) j (target g d j) ≡ true)
unfolding each_from
each_from_lem f u [] = (λ e d j h. absurd (omega arith), λ h. refl)
each_from_lem f u (l ∷ g) = (there (each_from_lem f (suc u) g).0, back (each_from_lem f (suc u) g).1)
  where
    there : (each_from f (suc u) g ≡ true → (d j : ℕ) → j < length (block g d) → f (suc u + d) j (target g d j) ≡ true)
        → (each_of (f u) 0 l && each_from f (suc u) g) ≡ true → (d j : ℕ) → j < length (block (l ∷ g) d)
        → f (u + d) j (target (l ∷ g) d j) ≡ true
    there rec e zero j h =
        let z : u + 0 ≡ u = omega arith in
        let y : 0 + j ≡ j = omega arith in
        rw z (rw y at ((each_of_lem (f u) 0 l).0 (and_parts (each_of (f u) 0 l) (each_from f (suc u) g) e).0 j h))
    there rec e (suc d) j h =
        let z : u + suc d ≡ suc u + d = omega arith in
        rw z (rec (and_parts (each_of (f u) 0 l) (each_from f (suc u) g) e).1 d j h)

    back : (((d j : ℕ) → j < length (block g d) → f (suc u + d) j (target g d j) ≡ true) → each_from f (suc u) g ≡ true)
        → ((d j : ℕ) → j < length (block (l ∷ g) d) → f (u + d) j (target (l ∷ g) d j) ≡ true)
        → (each_of (f u) 0 l && each_from f (suc u) g) ≡ true
    back rec h = and_both
        ((each_of_lem (f u) 0 l).1
        (λ d c.
        let z : u + 0 ≡ u = omega arith in
        let y : 0 + d ≡ d = omega arith in
        rw y (rw z at (h 0 d c))))
        (rec (λ d j c. let z : u + suc d ≡ suc u + d = omega arith in rw z at (h (suc d) j c)))

pub each_place : (f : ℕ → ℕ → ℕ → Bool) (g : Blocks)
    → (each f g ≡ true) ↔ ((u j v : ℕ) → Place g u j v → f u j v ≡ true)
unfolding each
each_place f g = (
  λ e u j v p. (let z : 0 + u ≡ u = omega arith in rw (z, p.leads) at ((each_from_lem f 0 g).0 e u j p.fits)),
  λ h. (each_from_lem f 0 g).1 (λ d j c. let z : 0 + d ≡ d = omega arith in rw z (h d j (target g d j) (place_at c))),
)
