-- How fair visits are: over many visits that each leave an item, an id gets its weight in pages a visit, but for less than one
-- page. What one visit sends is the longest prefix within its budget, and its bytes and the new deficit make up the budget where
-- an item is left.
use Rattle.std.specs.Prelude.{◌≡◌, ℕ, ◌+◌, ◌*◌, ◌<◌, ◌≤◌, List, [], ◌∷◌, length, take, sum, All}
use Rattle.hs_sched.specs.declared.share.Share.{Share}
use Rattle.hs_sched.specs.Visits.{budget_of, count_sent, bytes_sent, visited}

-- a visit of a share where these wait
pub record IsFairVisit (size : ℕ) (share : Share) (waiting : List ℕ) : Type 0 where
  pub front : count_sent size share waiting ≤ length waiting
  pub within : bytes_sent size share waiting ≤ budget_of size share
  pub longest : (n : ℕ) → count_sent size share waiting < n → n ≤ length waiting → budget_of size share < sum (take n waiting)
  pub balance :
      count_sent size share waiting < length waiting → bytes_sent size share waiting + (visited size share waiting).deficit ≡ share.deficit + share.weight * size
  pub emptied : count_sent size share waiting ≡ length waiting → (visited size share waiting).deficit ≡ 0
  pub bound : (visited size share waiting).deficit < size

-- the bytes that consecutive visits send, where these wait at each visit
abbrev pub bytes_over : ℕ → Share → List (List ℕ) → ℕ
bytes_over size share [] = 0
bytes_over size share (waiting ∷ later) = bytes_sent size share waiting + bytes_over size (visited size share waiting) later

-- each visit finds and leaves an item, and no item costs more than the size
abbrev pub EachLeaves : ℕ → Share → List (List ℕ) → Type 0
EachLeaves size share [] = Unit {0}
EachLeaves size share (waiting ∷ later) =
    All (λ cost. cost ≤ size) waiting × (count_sent size share waiting < length waiting) × (EachLeaves size (visited size share waiting) later)

-- Over consecutive visits that each find and leave an item, whatever waits at each of them.
abbrev pub VisitsAreFair : Type 0
VisitsAreFair =
    (size : ℕ) (share : Share) (waits : List (List ℕ)) → share.deficit < size → EachLeaves size share waits
    → (bytes_over size share waits < length waits * (share.weight * size) + size) × (length waits * (share.weight * size) < bytes_over size share waits + size)
