-- Mentions in a list: its parts, its length, and one number; a list that mentions nothing more often is no longer.
use Prim.Native.Nat.{ℕ, suc, ◌+◌, ◌≤◌}
use mathlib.Core.Path.{◌≡◌, refl, sym, ap, ◌∙◌}
use mathlib.Core.Bool.{Bool, true, false}
use mathlib.Core.List.{List, [], ◌∷◌, ◌++◌}
use native.Mathlib.Nat.{zero-add}
use native.Mathlib.Omega.{arith}
use lib.Dec.{eqb}
use lib.ListN.{length, take, drop, length-append}
use lib.Seq.{split_at}
use Rattle.graph.specs.Graph.{mentions, position}
use Rattle.graph.specs.Laws.Places.Mentions.{mentions_nil, mentions_hit, mentions_miss, mention_at}

pub mentions_append : (v : ℕ) (l m : List ℕ) → mentions v (l ++ m) ≡ mentions v l + mentions v m
unfolding mentions
mentions_append v [] m = sym (zero-add (mentions v m))
mentions_append v (x ∷ l) m = go (eqb v x) (mentions_append v l m)
  where
    go : (b : Bool) → mentions v (l ++ m) ≡ mentions v l + mentions v m
        → elim b [ true ↦ suc (mentions v (l ++ m)) | false ↦ mentions v (l ++ m) ]
        ≡ elim b [ true ↦ suc (mentions v l) | false ↦ mentions v l ] + mentions v m
    go true e = omega arith
    go false e = e

pub one_hit : (v x : ℕ) → v ≡ x → mentions v (x ∷ []) ≡ 1
one_hit v x e = mentions_hit [] e ∙ ap suc (mentions_nil v)

pub one_miss : (v x : ℕ) → (v ≡ x → ⊥) → mentions v (x ∷ []) ≡ 0
one_miss v x h = mentions_miss [] h ∙ mentions_nil v

-- each number of a is taken out of b
pub fewer : (a b : List ℕ) → ((w : ℕ) → mentions w a ≤ mentions w b) → length a ≤ length b
fewer [] b h = omega arith
fewer (v ∷ a) b h =
    let c = h v in
    let d = mentions_append v (v ∷ []) a in
    let f = one_hit v v refl in
    let m = mention_at v b 0 (omega arith) in
    let j : ℕ = position v b 0 in
    let x : List ℕ = take j b in
    let y : List ℕ = drop (suc j) b in
    let e : b ≡ x ++ (v ∷ y) = split_at b j 0 m.inside ∙ ap (λ (k : ℕ). x ++ (k ∷ y)) m.there in
    let r = fewer a (x ++ y) (λ w. less w x y e) in
    omega (arith, ap length e, length-append x (v ∷ y), length-append x y)
  where
    less : (w : ℕ) (x y : List ℕ) → b ≡ x ++ (v ∷ y) → mentions w a ≤ mentions w (x ++ y)
    less w x y e =
        let c = h w in
        let d = mentions_append w (v ∷ []) a in
        let f = mentions_append w (v ∷ []) y in
        let k = ap (mentions w) e ∙ mentions_append w x (v ∷ y) in
        let l = mentions_append w x y in
        omega arith
