-- Pages that are not numbered: a record left out, a first page that does not begin with the record 0, and a record that
-- goes on in another trace.
use Rattle.std.proofs.Common.{ℕ, [], ◌∷◌, ap, inl, inr, arith}
use Rattle.hs_records.specs.declared.books.PageNote.{PageNote}
use Rattle.hs_ledger.specs.Books.{AreNumbered}

abbrev page_of : ℕ → ℕ → ℕ → PageNote
page_of trace first count = record { trace = record { 0 = trace }; first = first; count = count }

gap : ¬ AreNumbered (page_of 7 0 2 ∷ page_of 7 3 1 ∷ [])
gap h = elim h.1.0 [ inl e ↦ omega arith | inr e ↦ omega (arith, e.1) ]

late : ¬ AreNumbered (page_of 7 1 2 ∷ [])
late h = let first = h.0 in omega arith

other_trace : ¬ AreNumbered (page_of 7 0 2 ∷ page_of 8 1 1 ∷ [])
other_trace h = elim h.1.0 [ inl e ↦ omega arith | inr e ↦ omega (arith, ap (λ trace. trace.0) e.0) ]
