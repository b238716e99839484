-- When the books of a run fit together, as the plain books of its clients and agents. The clients' books come in order. Each has a draw for each page. Its pages hold
-- pieces of records that are numbered without a gap, and a page may go on with the last record of the page before.
-- Each page for which a buffer was got has one standing at its node, and there is no other standing.
use Rattle.std.specs.Prelude.{◌≡◌, ◌⊎◌, ℕ, ◌+◌, ◌<◌, ◌≤◌, ◌^◌, ◌==◌, ◌&&◌, Bool, List, [], ◌∷◌, length, All, Contains, sum_by, filter, slice_get, Some, if◌then◌else◌, refl}
use Rattle.std.proofs.Common.{inl, inr}
use Rattle.std.specs.List.{flat_map}
use Rattle.hs_base.specs.declared.ids.ClientId.{ClientId}
use Rattle.hs_records.specs.declared.journal.Draw.TheVariants.{Got}
use Rattle.hs_records.specs.declared.books.PageNote.{PageNote}
use Rattle.hs_records.specs.declared.books.Standing.{Standing}
use Rattle.hs_records.specs.Books.{PlainClientBook, PlainAgentBook}

-- a client comes before another: by node, and at one node by number
abbrev pub IsBefore : ClientId → ClientId → Type 0
IsBefore a b = (a.node < b.node) ⊎ ((a.node ≡ b.node) × (a.number < b.number))

-- the clients come in order, so they differ
abbrev pub AreInOrder : List PlainClientBook → Type 0
AreInOrder [] = Unit {0}
AreInOrder (book ∷ books) = All (λ later. IsBefore book.client later.client) books × AreInOrder books

-- the number behind that of a page's last record
abbrev pub end_of : PageNote → ℕ
end_of note = note.first + note.count

-- the first record of a page is the next one, or it is the last one of the page before, of the same trace
abbrev pub Follows : PageNote → PageNote → Type 0
Follows before note = (note.first ≡ end_of before) ⊎ ((note.trace ≡ before.trace) × (note.first + 1 ≡ end_of before))

-- each page follows the one before it
abbrev pub AllFollow : PageNote → List PageNote → Type 0
AllFollow before [] = Unit {0}
AllFollow before (note ∷ notes) = Follows before note × AllFollow note notes

-- the records of these pages are numbered from 0, without a gap
abbrev pub AreNumbered : List PageNote → Type 0
AreNumbered [] = Unit {0}
AreNumbered (note ∷ notes) = (note.first ≡ 0) × AllFollow note notes

-- how many records such pages have: the number behind the last one's
abbrev pub count_from : ℕ → List PageNote → ℕ
count_from before [] = before
count_from before (note ∷ notes) = count_from (end_of note) notes

abbrev pub record_count : List PageNote → ℕ
record_count notes = count_from 0 notes

-- whether a standing is that of this page
abbrev pub is_of : ClientId → ℕ → Standing → Bool
is_of client page standing = standing.client.node == client.node && standing.client.number == client.number && standing.page == page

-- the standings of a book, if it is that of this node
abbrev pub standings_if : ℕ → PlainAgentBook → List Standing
standings_if node book = if book.node.0 == node then book.standings else []

-- the standings at a node
abbrev pub standings_at : List PlainAgentBook → ℕ → List Standing
standings_at agents node = flat_map (standings_if node) agents

-- each page of a client for which a buffer was got has one standing at its node
abbrev pub HaveStandings : List PlainAgentBook → PlainClientBook → Type 0
HaveStandings agents book =
    (page buffer stamp : ℕ) → slice_get book.draws page ≡ Some (Got buffer stamp)
    → length (filter (is_of book.client page) (standings_at agents book.client.node)) ≡ 1

-- a standing in the book of this node is that of a page for which one of the node's clients got a buffer
abbrev pub IsOfGotPage : List PlainClientBook → ℕ → Standing → Type 0
IsOfGotPage clients node standing =
    (standing.client.node ≡ node)
    × ((book : PlainClientBook) × (buffer : ℕ) × (stamp : ℕ) × Contains clients book × (book.client ≡ standing.client) × (slice_get book.draws standing.page ≡ Some (Got buffer stamp)))

-- a client's book in itself, and with the agents' books
pub record BookFits (agents : List PlainAgentBook) (book : PlainClientBook) : Type 0 where
  pub drawn : length book.draws ≡ length book.pages
  pub counted : All (λ note. 1 ≤ note.count) book.pages
  pub numbered : AreNumbered book.pages
  pub standing : HaveStandings agents book

pub record BooksFit (clients : List PlainClientBook) (agents : List PlainAgentBook) : Type 0 where
  pub ordered : AreInOrder clients
  pub each : All (BookFits agents) clients
  pub few : sum_by (λ book. record_count book.pages) clients < 2 ^ 32
  pub got : All (λ book. All (IsOfGotPage clients book.node.0) book.standings) agents

-- worked examples
abbrev page_of : ℕ → ℕ → ℕ → PageNote
page_of trace first count = record { trace = record { 0 = trace }; first = first; count = count }

-- the second page goes on with the record 1, and the third begins with the record 4
goes_on : AreNumbered (page_of 7 0 2 ∷ page_of 7 1 3 ∷ page_of 7 4 1 ∷ []) × (record_count (page_of 7 0 2 ∷ page_of 7 1 3 ∷ page_of 7 4 1 ∷ []) ≡ 5)
goes_on = ((refl, (inr (refl, refl), (inl refl, tt))), refl)

-- a record of three pages and nothing else
one_record : AreNumbered (page_of 7 0 1 ∷ page_of 7 0 1 ∷ page_of 7 0 1 ∷ []) × (record_count (page_of 7 0 1 ∷ page_of 7 0 1 ∷ page_of 7 0 1 ∷ []) ≡ 1)
one_record = ((refl, (inr (refl, refl), (inr (refl, refl), tt))), refl)

no_pages : AreNumbered [] × (record_count [] ≡ 0)
no_pages = (tt, refl)
