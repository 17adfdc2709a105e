-- The section of the visit numbers, written from the front into zeros.
--   Pairs          the first i pairs of visit numbers are written, two in three bytes
--   pairs_begin, pairs_room, pairs_rest, pairs_more, pairs_last, pairs_end   as the code goes
--   visit_cells, visits_many   the visit cells in the work slice, as many as vertices
--   listed_visits, listed_numbers   those of a forest are visit numbers; each less 1, they are the forest's
use mathlib.Core.Path.{◌≡◌, refl, sym, ap, ◌∙◌}
use mathlib.Core.Bool.{Bool, false}
use mathlib.Core.List.{List, [], ◌∷◌, ◌++◌, map, append_assoc, append-nil}
use Prim.Native.Nat.{ℕ, zero, suc, ◌+◌, ◌-◌, ◌*◌, ◌≤◌, ◌<◌}
use native.Mathlib.Numerals.{add-one}
use native.Mathlib.Omega.{arith}
use lib.ListN.{length, take, drop, get_or, replicate, length-replicate, length-map, get_or-map}
use lib.Seq.{take-suc, take_all, take_at, drop_at, drop-drop, length-take-le, ext_get_or}
use Rattle.bits.specs.Bits.{to_bits, bits, put, pack}
use Rattle.bits.specs.Laws.Bytes.{AreBytes}
use Rattle.bits.specs.Laws.Packing.{zero_bits, bits_pack, pack_bytes, bits_injective}
use Rattle.graph.specs.Graph.{Blocks}
use Rattle.graph.specs.Search.{Forest}
use Rattle.graph.specs.Forest.{number}
use Rattle.graph.specs.Laws.Joined.Spanning.{number_range}
use Rattle.record.specs.Record.{field_bits}
use Rattle.record.specs.Laws.Fields.{length_field_bits, field_bits_append}
use Rattle.forest.specs.Index.{numbers, number_bytes}
use Rattle.forest.specs.Steps.{Searched}
use Rattle.forest.specs.Numbered.{Visits}
use Rattle.forest.specs.Laws.Sections.{length_numbers, number_at}
use Rattle.forest.proofs.Laws.Owned.{part_size, part_cell}

-- ---- a field put behind the bits that are written

drop_zeros : (a k : ℕ) → drop a (replicate k false) ≡ replicate (k - a) false
drop_zeros zero k = let e : k - 0 ≡ k = omega arith in rw e
drop_zeros (suc a) zero = let e : 0 - suc a ≡ 0 = omega arith in rw e
drop_zeros (suc a) (suc k) = let e : suc k - suc a ≡ k - a = omega arith in rw e (drop_zeros a k)

put_behind : (a : List Bool) (v k : ℕ) {start : ℕ} → length a ≡ start
    → put 12 v (a ++ replicate k false) start ≡ (a ++ to_bits 12 v) ++ replicate (k - 12) false
unfolding put
put_behind a v k {start} e =
    let z : List Bool = replicate k false in
    let whole = append_assoc a (to_bits 12 v) (replicate (k - 12) false) in
    cc (take_at a z start e, drop-drop 12 start (a ++ z), drop_at a z start e, drop_zeros 12 k)

-- the first i numbers in 8·k bits, and zeros after them
abbrev front : List ℕ → ℕ → ℕ → List Bool
front xs k i = field_bits (take i xs) ++ replicate (8 * k - 12 * i) false

front_more : (xs : List ℕ) (k i : ℕ) {x : ℕ} → i < length xs → x ≡ get_or xs i 0
    → put 12 x (front xs k i) (12 * i) ≡ front xs k (i + 1)
unfolding field_bits
front_more xs k i {x} h e =
    let z : 8 * k - 12 * i - 12 ≡ 8 * k - 12 * (i + 1) = omega arith in
    let a : length (field_bits (take i xs)) ≡ 12 * i =
    length_field_bits (take i xs) ∙ ap (λ (k : ℕ). 12 * k) (length-take-le i xs (omega arith)) in
    let more = field_bits_append (take i xs) (get_or xs i 0 ∷ []) in
    let put = put_behind (field_bits (take i xs)) x (8 * k - 12 * i) a in
    cc (add-one i, take-suc xs i 0 h, append-nil (to_bits 12 (get_or xs i 0)))

-- ---- the numbers, from the front

-- the visit numbers, each less 1
abbrev less : List ℕ → List ℕ
less visits = map (λ x. x - 1) visits

less_at : (visits : List ℕ) (v : ℕ) → get_or (less visits) v 0 ≡ get_or visits v 0 - 1
less_at visits v = get_or-map (λ (x : ℕ). x - 1) visits v 0

less_many : (visits : List ℕ) → length (less visits) ≡ length visits
less_many visits = length-map visits (λ x. x - 1)

pub record Pairs (visits section : List ℕ) (i : ℕ) : Type 0 where
  pub size : length section ≡ number_bytes (length visits)
  pub upto : 2 * i ≤ length visits
  pub are_bytes : AreBytes section
  pub are_bits : bits section ≡ front (less visits) (length section) (2 * i)

pub pairs_begin : (visits : List ℕ) {section : List ℕ} {k : ℕ} → k ≡ number_bytes (length visits)
    → section ≡ replicate k 0 → AreBytes section → Pairs visits section 0
unfolding field_bits
pairs_begin visits {section} {k} l e are =
    let r : length section ≡ k = ap length e ∙ length-replicate {A = ℕ} k 0 in
    let z : 8 * length section - 12 * 0 ≡ 8 * k = omega arith in
    record { size = r ∙ l; upto = omega arith; are_bytes = are; are_bits = rw z (ap bits e ∙ zero_bits k) }

all_written : (visits : List ℕ) {section : List ℕ} → AreBytes section
    → length section ≡ number_bytes (length visits)
    → bits section ≡ front (less visits) (length section) (length visits) → section ≡ pack (field_bits (less visits))
unfolding number_bytes
all_written visits {section} are s e =
    let xs : List ℕ = less visits in
    let l : length (field_bits xs) ≡ 12 * length visits =
    length_field_bits xs ∙ ap (λ (x : ℕ). 12 * x) (less_many visits) in
    let all = take_all (length visits) xs (omega (arith, less_many visits)) in
    bits_injective section (pack (field_bits xs)) are (pack_bytes (field_bits xs)) (cc (bits_pack (field_bits xs)))

module _ {visits section : List ℕ} {i : ℕ} (p : Pairs visits section i) where
  pub pairs_room : 2 * i + 2 ≤ length visits → 3 * i + 3 ≤ length section
  unfolding number_bytes
  pairs_room h = let q = p in omega arith

  pub pairs_rest : 2 * i < length visits → 12 * (2 * i) + 12 ≤ 8 * length section
  unfolding number_bytes
  pairs_rest h = let q = p in omega arith

  -- one number more
  next : {a : ℕ} → 2 * i < length visits → a ≡ get_or visits (2 * i) 0
      → put 12 (a - 1) (bits section) (12 * (2 * i)) ≡ front (less visits) (length section) (2 * i + 1)
  next {a} h e =
      let x = less_at visits (2 * i) in
      rw p.are_bits
      (front_more (less visits) (length section) (2 * i) (omega (arith, less_many visits)) (omega arith))

  module _ {after : List ℕ} (are : AreBytes after) (same : length after ≡ length section) where
    pub pairs_more : {a b : ℕ} → 2 * i + 2 ≤ length visits → a ≡ get_or visits (2 * i) 0
        → b ≡ get_or visits (2 * i + 1) 0
        → bits after ≡ put 12 (b - 1) (put 12 (a - 1) (bits section) (8 * (3 * i))) (8 * (3 * i) + 12)
        → Pairs visits after (i + 1)
    pairs_more {a} {b} h e f g =
        let y = less_at visits (2 * i + 1) in
        let r : 8 * (3 * i) ≡ 12 * (2 * i) = omega arith in
        let s : 8 * (3 * i) + 12 ≡ 12 * (2 * i + 1) = omega arith in
        let z : 2 * i + 1 + 1 ≡ 2 * (i + 1) = omega arith in
        let two = front_more (less visits) (length section) (2 * i + 1) {x = b - 1}
        (omega (arith, less_many visits)) (omega arith) in
        record {
          size = same ∙ p.size;
          upto = omega arith;
          are_bytes = are;
          are_bits = cc (next (omega arith) e, two);
        }

    pub pairs_last : {v a : ℕ} → v ≡ 2 * i → length visits ≡ v + 1 → a ≡ get_or visits v 0
        → bits after ≡ put 12 (a - 1) (bits section) (12 * v) → after ≡ pack (field_bits (less visits))
    pairs_last {v} w k e g =
        let x = next (omega arith) (e ∙ ap (λ (y : ℕ). get_or visits y 0) w) in
        let z : 2 * i + 1 ≡ length visits = omega arith in
        all_written visits are (same ∙ p.size) (cc x)

  pub pairs_end : 2 * i ≡ length visits → section ≡ pack (field_bits (less visits))
  pairs_end z =
      all_written visits p.are_bytes p.size (p.are_bits ∙ ap (front (less visits) (length section)) z)

-- ---- those of a forest

-- the visit cells, as the code lends them
abbrev pub visit_cells : ℕ → ℕ → List ℕ → List ℕ
visit_cells n s work = take (2 * s + n - 2 * s) (drop (2 * s) work)

module _ {g : Blocks} {F : Forest} {n s : ℕ} {work : List ℕ} (many : length g ≡ n) (a : Searched g F n s work) where
  fits : 2 * s + n ≤ length work
  fits = let r = a.room in omega arith

  pub visits_many : length (visit_cells n s work) ≡ n
  visits_many = part_size (2 * s) (2 * s + n) work refl fits

  visit_at : (v : ℕ) → v < n → get_or (visit_cells n s work) v 0 ≡ suc (number F v)
  visit_at v h = part_cell (2 * s) (2 * s + n) work refl fits v h ∙ a.visits v h

  pub listed_visits : Visits (visit_cells n s work)
  listed_visits =
      let l = visits_many in
      record {
        few = omega arith;
        some = λ v h. (let e = visit_at v (omega arith) in omega arith);
        most = λ v h. (
            let e = visit_at v (omega arith) in
            let r = number_range a.spans v (omega arith) in
            omega arith
            );
      }

  pub listed_numbers : map (λ x. x - 1) (visit_cells n s work) ≡ numbers g F
  listed_numbers =
      let l : length (map (λ x. x - 1) (visit_cells n s work)) ≡ n =
      length-map (visit_cells n s work) (λ x. x - 1) ∙ visits_many in
      ext_get_or 0 (map (λ x. x - 1) (visit_cells n s work)) (numbers g F) (l ∙ sym (length_numbers g F ∙ many))
      (λ v h. (
      let e = less_at (visit_cells n s work) v in
      let c = visit_at v (omega arith) in
      let b = number_at g F v (omega arith) in
      omega arith
      ))
