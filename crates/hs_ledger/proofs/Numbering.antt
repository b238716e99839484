-- Pages whose records are numbered from 0: where a further page begins, and that the numbers rise.
use Rattle.std.proofs.Common.{◌≡◌, ◌⊎◌, ℕ, ◌+◌, ◌≤◌, List, [], ◌∷◌, ◌++◌, All, refl, inl, inr, arith}
use Rattle.std.proofs.lemmas.List.Elements.{All-tail}
use Rattle.hs_records.specs.declared.books.PageNote.{PageNote}
use Rattle.hs_ledger.specs.Books.{end_of, AllFollow, AreNumbered, count_from, record_count}

abbrev pub IsCounted : PageNote → Type 0
IsCounted note = 1 ≤ note.count

pub count_from-append : (n : ℕ) (notes more : List PageNote) → count_from n (notes ++ more) ≡ count_from (count_from n notes) more
count_from-append n [] more = refl
count_from-append n (note ∷ notes) more = count_from-append (end_of note) notes more

pub record_count-more : (notes : List PageNote) (note : PageNote) → record_count (notes ++ note ∷ []) ≡ end_of note
record_count-more notes note = count_from-append 0 notes (note ∷ [])

-- a page ends behind the one before it
pub rises : (before : PageNote) (notes : List PageNote) → AllFollow before notes → All IsCounted notes → end_of before ≤ count_from (end_of before) notes
rises before [] follow counted = omega arith
rises before (note ∷ notes) follow counted =
    let later = rises note notes follow.1 (All-tail IsCounted note notes counted) in
    let some : 1 ≤ note.count = counted 0 note (omega arith) in
    let next : end_of before ≤ end_of note = elim follow.0 [ inl e ↦ omega arith | inr e ↦ omega (arith, e.1) ] in
    omega arith

follows_front : (before : PageNote) (notes more : List PageNote) → AllFollow before (notes ++ more) → AllFollow before notes
follows_front before [] more follow = tt
follows_front before (note ∷ notes) more follow = (follow.0, follows_front note notes more follow.1)

-- the first of such pages
pub numbered_front : (notes more : List PageNote) → AreNumbered (notes ++ more) → AreNumbered notes
numbered_front [] more numbered = tt
numbered_front (note ∷ notes) more numbered = (numbered.0, follows_front note notes more numbered.1)

-- where a further page begins: with the next record, or with the last one
abbrev pub Begins : List PageNote → PageNote → Type 0
Begins notes note = (note.first ≡ record_count notes) ⊎ (note.first + 1 ≡ record_count notes)

next_begins : (before : PageNote) (notes : List PageNote) (note : PageNote) (more : List PageNote) → AllFollow before (notes ++ note ∷ more)
    → (note.first ≡ count_from (end_of before) notes) ⊎ (note.first + 1 ≡ count_from (end_of before) notes)
next_begins before [] note more follow = elim follow.0 [ inl e ↦ inl e | inr e ↦ inr e.1 ]
next_begins before (first ∷ notes) note more follow = next_begins first notes note more follow.1

pub begins : (notes : List PageNote) (note : PageNote) (more : List PageNote) → AreNumbered (notes ++ note ∷ more) → Begins notes note
begins [] note more numbered = inl numbered.0
begins (first ∷ notes) note more numbered = next_begins first notes note more numbered.1

ends_later : (before : PageNote) (notes : List PageNote) (note : PageNote) (more : List PageNote) → AllFollow before (notes ++ note ∷ more) → All IsCounted (notes ++ note ∷ more)
    → end_of note ≤ count_from (end_of before) (notes ++ note ∷ more)
ends_later before [] note more follow counted = rises note more follow.1 (All-tail IsCounted note more counted)
ends_later before (first ∷ notes) note more follow counted = ends_later first notes note more follow.1 (All-tail IsCounted first (notes ++ note ∷ more) counted)

-- the number behind a page's records is at most that behind the last page's
pub ends_within : (notes : List PageNote) (note : PageNote) (more : List PageNote) → AreNumbered (notes ++ note ∷ more) → All IsCounted (notes ++ note ∷ more)
    → end_of note ≤ record_count (notes ++ note ∷ more)
ends_within [] note more numbered counted = rises note more numbered.1 (All-tail IsCounted note more counted)
ends_within (first ∷ notes) note more numbered counted = ends_later first notes note more numbered.1 (All-tail IsCounted first (notes ++ note ∷ more) counted)
