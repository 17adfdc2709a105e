-- D and the blocks' numbers in one list, and the blocks: each made from the other.
use Rattle.std.specs.Prelude.{◌≡◌, refl, Bool, true, false, ℕ, zero, suc, ◌+◌, ◌≤◌, length, take, drop, replicate}
use Rattle.std.proofs.Common.{ap, ◌∙◌, arith, length-append, length-drop, take-append-drop, take_at, drop_at}
use Rattle.std.proofs.Common.{length-take-le}
use mathlib.Core.List.{List, [], ◌∷◌, ◌++◌, flatten}
use Rattle.std.proofs.lemmas.List.{length-replicate}
use Rattle.bits.specs.Bits.{count}
use Rattle.bits.specs.Laws.Rank.{count_append, count_le}
use Rattle.graph.specs.Graph.{Blocks}
use Rattle.record.specs.Record.{zeros, parts, lay_out, unary_of}
use Rattle.record.specs.Rules.{begins_with_zero}
use Rattle.record.specs.Laws.Parts.{zeros_none}

-- ---- D of blocks

pub count_zeros : (k : ℕ) → count (replicate k false) ≡ 0
unfolding count
count_zeros zero = refl
count_zeros (suc k) = count_zeros k

pub length_unary_of : (g : Blocks) → length (unary_of g) ≡ length g + length (flatten g)
unfolding unary_of lay_out flatten
length_unary_of [] = refl
length_unary_of (b ∷ g) =
    omega (
      arith,
      length-append (replicate (length b) false) (unary_of g),
      length-replicate (length b) false,
      length-append b (flatten g),
      length_unary_of g,
    )

pub count_unary_of : (g : Blocks) → count (unary_of g) ≡ length g
unfolding unary_of lay_out count
count_unary_of [] = refl
count_unary_of (b ∷ g) =
    omega (arith, count_append (replicate (length b) false) (unary_of g), count_zeros (length b), count_unary_of g)

pub begins_unary_of : (g : Blocks) → begins_with_zero (unary_of g) ≡ false
unfolding unary_of lay_out begins_with_zero
begins_unary_of [] = refl
begins_unary_of (b ∷ g) = refl

-- ---- from blocks and back

zeros_run : (k : ℕ) (d : List Bool) → zeros d ≡ 0 → zeros (replicate k false ++ d) ≡ k
unfolding zeros
zeros_run zero d e = e
zeros_run (suc k) d e = ap suc (zeros_run k d e)

parts_run : (k : ℕ) (d : List Bool) (l : List ℕ) → parts (replicate k false ++ d) l ≡ parts d l
unfolding parts
parts_run zero d l = refl
parts_run (suc k) d l = parts_run k d l

pub parts_unary_of : (g : Blocks) → parts (unary_of g) (flatten g) ≡ g
unfolding parts unary_of lay_out flatten
parts_unary_of [] = refl
parts_unary_of (b ∷ g) =
    let e : zeros (replicate (length b) false ++ unary_of g) ≡ length b =
    zeros_run (length b) (unary_of g) (zeros_none (unary_of g) (begins_unary_of g)) in
    rw (e, take_at b (flatten g) (length b) refl, drop_at b (flatten g) (length b) refl)
    (ap (λ (h : Blocks). b ∷ h) (parts_run (length b) (unary_of g) (flatten g) ∙ parts_unary_of g))

-- ---- from D and a list, and back

zeros_le : (d : List Bool) → zeros d + count d ≤ length d
unfolding zeros count
zeros_le [] = omega arith
zeros_le (true ∷ d) = omega (arith, count_le d)
zeros_le (false ∷ d) = let r = zeros_le d in omega arith

-- D and the list, made again from the parts; D may begin with zeros, and then the list is that of the blocks alone
record Remade (d : List Bool) (l : List ℕ) : Type 0 where
  same_unary : replicate (zeros d) false ++ unary_of (parts d l) ≡ d
  same_list : flatten (parts d l) ≡ l

remade : (d : List Bool) (l : List ℕ) → length d ≡ count d + (zeros d + length l) → Remade d l
unfolding zeros parts unary_of lay_out flatten count
remade [] [] e = record { same_unary = refl; same_list = refl }
remade [] (x ∷ l) e = absurd (omega arith)
remade (true ∷ d) l e =
    let z : zeros d ≤ length l = omega (arith, zeros_le d) in
    let r = remade d (drop (zeros d) l) (simp length-drop (omega arith)) in
    let k : length (take (zeros d) l) ≡ zeros d = length-take-le (zeros d) l z in
    record {
      same_unary = rw k (ap (λ (t : List Bool). true ∷ t) r.same_unary);
      same_list = rw r.same_list (take-append-drop (zeros d) l);
    }
remade (false ∷ d) l e =
    let r = remade d l (omega arith) in
    record { same_unary = ap (λ (t : List Bool). false ∷ t) r.same_unary; same_list = r.same_list }

module _ (d : List Bool) (l : List ℕ) (begins : begins_with_zero d ≡ false) (whole : length d ≡ count d + length l) where
  again : Remade d l
  again = remade d l (omega (arith, zeros_none d begins))

  pub unary_of_parts : unary_of (parts d l) ≡ d
  unary_of_parts = rw (zeros_none d begins) at again.same_unary

  pub flatten_parts : flatten (parts d l) ≡ l
  flatten_parts = again.same_list
