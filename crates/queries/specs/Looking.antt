-- What contracts inside the crate say while a list is looked up.
--   HeadIs       where Head's climb stops, after however many steps
--   Known        the heads that climbs have found
--   Vertices     the first k numbers of a list are vertices
--   OnWay, Kept  the first k vertices of a way get a head, and all others keep their cells
--   looked_of     what the code says of one terminal
--   LookedAll    what it says of all, and the lists that it fills
use Rattle.std.specs.Prelude.{◌≡◌, Result, List, ◌⊎◌, ℕ, ◌<◌, length, get_or}
use Rattle.graph.specs.Walk.{Ends}
use Rattle.record.specs.Answers.{Answer, answered, tried, answer}
use Rattle.record.specs.declared.Refusal.{Refusal}
use Rattle.queries.specs.View.{View}
use Rattle.queries.specs.Queries.{head_next}
use Rattle.queries.specs.Lookup.{Lists, head_and_visit, asks, lookup_lists}
use Rattle.queries.specs.declared.lookups.Seen.{Seen}

-- ---- heads that are known

-- Head's climb from u stops with terminal h
pub record HeadIs (w : View) (u h : ℕ) : Type 0 where
  pub steps : ℕ
  pub ends : Ends (head_next w) steps u (answered h)

-- a cell that is not 0 is the head of its vertex
pub record Known (w : View) (n : ℕ) (known : List ℕ) : Type 0 where
  pub size : length known ≡ n
  pub heads : (u : ℕ) → 0 < get_or known u 0 → HeadIs w u (get_or known u 0)

abbrev pub Vertices : ℕ → List ℕ → ℕ → Type 0
Vertices n way k = (i : ℕ) → i < k → get_or way i 0 < n

-- u is one of the first k vertices of a way
pub record OnWay (way : List ℕ) (k u : ℕ) : Type 0 where
  pub at : ℕ
  pub before : at < k
  pub is : get_or way at 0 ≡ u

pub record Kept (way : List ℕ) (k h : ℕ) (before after : List ℕ) : Type 0 where
  pub size : length after ≡ length before
  pub cells : (u : ℕ) → (get_or after u 0 ≡ get_or before u 0) ⊎ ((get_or after u 0 ≡ h) × OnWay way k u)

-- ---- a terminal, and the list

abbrev pub looked_of : Result Seen Refusal → Answer (ℕ × ℕ)
looked_of = answer (λ (s : Seen). (s.head.0, s.visit.0))

-- the first refusal in list order; where there is none, the lists have the answers
pub record LookedAll (bytes index list : List ℕ) (found : Lists) (r : Answer (Unit {0})) : Type 0 where
  pub answers : r ≡ tried (asks (head_and_visit bytes index) list) tt
  pub finds : r ≡ answered tt → found ≡ lookup_lists bytes index list
