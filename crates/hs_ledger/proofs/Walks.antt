-- The loops that make the ledger, one step on.
use Rattle.std.proofs.Common.{◌≡◌, ℕ, zero, suc, ◌+◌, ◌-◌, ◌^◌, All, take, ◌<◌, ◌≤◌, List, [], ◌∷◌, ◌++◌, length, map, drop, get_or, Option, Some, if◌then◌else◌, refl, sym, ap, ap₂, subst, ◌∙◌, inl, inr, append_assoc, arith}
use Rattle.std.specs.List.{range_with_len}
use Rattle.std.proofs.lemmas.List.{at_drop_more, take_more, take-append-drop, drop_more, take-map}
use Rattle.std.proofs.lemmas.List.Elements.{All-take}
use Rattle.std.proofs.lemmas.List.FromFn.{map-range_with_len_more}
use Rattle.hs_base.specs.declared.ids.ClientId.{ClientId}
use Rattle.hs_base.specs.declared.told.Fate.{Fate}
use Rattle.hs_records.specs.declared.books.Standing.{Standing}
use Rattle.hs_records.specs.declared.journal.Draw.{Draw}
use Rattle.hs_records.specs.declared.books.PageNote.{PageNote}
use Rattle.hs_records.specs.declared.books.AgentBook.{AgentBook}
use Rattle.hs_records.specs.Books.{agent_book_of}
use Rattle.hs_ledger.specs.declared.ledger.Entry.{Entry}
use Rattle.hs_ledger.specs.Books.{is_of, end_of, AreNumbered, record_count}
use Rattle.hs_ledger.specs.Fates.{FatedPage, fated_by, book_entries}
use Rattle.hs_ledger.specs.Making.{newest, all_standings, with_page}
use Rattle.hs_ledger.proofs.Numbering.{IsCounted, Begins, begins, numbered_front, ends_within, record_count-more}
use Rattle.hs_ledger.proofs.Pieces.{notes_of}
use Rattle.hs_ledger.proofs.Steps.{page_more}

pub newest-append : (fate : Option Fate) (client : ClientId) (page : ℕ) (xs ys : List Standing) → newest fate client page (xs ++ ys) ≡ newest (newest fate client page xs) client page ys
newest-append fate client page [] ys = refl
newest-append fate client page (x ∷ xs) ys = newest-append (if is_of client page x then Some x.fate else fate) client page xs ys

-- the standings of one more book
pub newest-book : (fate new : Option Fate) (client : ClientId) (page : ℕ) (books : List AgentBook) (i : ℕ) (book : AgentBook) → i < length books → book ≡ get_or books i book
    → new ≡ newest fate client page book.standings.items
    → newest new client page (all_standings (map agent_book_of (drop (i + 1) books))) ≡ newest fate client page (all_standings (map agent_book_of (drop i books)))
newest-book fate new client page books i book within is newer =
    let rest = all_standings (map agent_book_of (drop (i + 1) books)) in
    ap (λ f. newest f client page rest) newer
    ∙ sym (newest-append fate client page book.standings.items rest)
    ∙ ap (λ (b : AgentBook). newest fate client page (b.standings.items ++ rest)) is
    ∙ sym (at_drop_more (λ bs. newest fate client page (all_standings (map agent_book_of bs))) books i book within)

-- one more item of a range
pub range_pushed : {X : Type 0} (f : ℕ → X) (start old new : List X) (from number : ℕ) → from ≤ number → old ≡ start ++ map f (range_with_len from (number - from))
    → new ≡ old ++ f number ∷ [] → new ≡ start ++ map f (range_with_len from (number + 1 - from))
range_pushed f start old new from number low so_far pushed =
    let long : number + 1 - from ≡ (number - from) + 1 = omega arith in
    pushed
    ∙ ap (λ xs. xs ++ f number ∷ []) so_far
    ∙ append_assoc start (map f (range_with_len from (number - from))) (f number ∷ [])
    ∙ ap (λ xs. start ++ xs) (sym (map-range_with_len_more f from (number - from) number (omega arith)) ∙ ap (λ n. map f (range_with_len from n)) (sym long))

-- ---- the pages of a book with their fates

pub fated_by-notes : (fate : ℕ → Draw → Fate) (page : ℕ) (draws : List Draw) (notes : List PageNote) → length draws ≡ length notes → notes_of (fated_by fate page draws notes) ≡ notes
fated_by-notes fate page [] [] same = refl
fated_by-notes fate page [] (note ∷ notes) same = absurd (omega arith)
fated_by-notes fate page (draw ∷ draws) [] same = absurd (omega arith)
fated_by-notes fate page (draw ∷ draws) (note ∷ notes) same = ap (λ rest. note ∷ rest) (fated_by-notes fate (page + 1) draws notes (omega arith))

pub length-fated_by : (fate : ℕ → Draw → Fate) (page : ℕ) (draws : List Draw) (notes : List PageNote) → length draws ≡ length notes → length (fated_by fate page draws notes) ≡ length notes
length-fated_by fate page [] [] same = refl
length-fated_by fate page [] (note ∷ notes) same = absurd (omega arith)
length-fated_by fate page (draw ∷ draws) [] same = absurd (omega arith)
length-fated_by fate page (draw ∷ draws) (note ∷ notes) same = ap suc (length-fated_by fate (page + 1) draws notes (omega arith))

pub fated_by-at : (fate : ℕ → Draw → Fate) (page : ℕ) (draws : List Draw) (notes : List PageNote) (i : ℕ) (d : FatedPage) (draw : Draw) (note : PageNote) → length draws ≡ length notes → i < length notes
    → get_or (fated_by fate page draws notes) i d ≡ record { note = get_or notes i note; fate = fate (page + i) (get_or draws i draw) }
fated_by-at fate page [] [] i d e n same within = absurd (omega arith)
fated_by-at fate page [] (note ∷ notes) i d e n same within = absurd (omega arith)
fated_by-at fate page (draw ∷ draws) [] i d e n same within = absurd (omega arith)
fated_by-at fate page (draw ∷ draws) (note ∷ notes) zero d e n same within =
    let here : page ≡ page + 0 = omega arith in
    ap (λ p. record { note = note; fate = fate p draw }) here
fated_by-at fate page (draw ∷ draws) (note ∷ notes) (suc i) d e n same within =
    let here : page + 1 + i ≡ page + suc i = omega arith in
    fated_by-at fate (page + 1) draws notes i d e n (omega arith) (omega arith)
    ∙ ap (λ p. record { note = get_or notes i n; fate = fate p (get_or draws i e) }) here

split_at : {X : Type 0} (xs : List X) (i : ℕ) (d : X) → i < length xs → xs ≡ take i xs ++ get_or xs i d ∷ drop (i + 1) xs
split_at xs i d within = sym (take-append-drop i xs) ∙ ap (λ rest. take i xs ++ rest) (drop_more xs i d within)

-- a page's last record is among those of its book; a loop reads the list `ns`
pub fits_in : (ns notes : List PageNote) (i : ℕ) (d : PageNote) → ns ≡ notes → AreNumbered notes → All IsCounted notes → i < length ns → record_count notes < 2 ^ 32 → end_of (get_or ns i d) < 2 ^ 32
fits_in ns notes i d same numbered counted within few =
    let split = split_at notes i d (omega (arith, ap length same)) in
    let fits = ends_within (take i notes) (get_or notes i d) (drop (i + 1) notes) (subst AreNumbered split numbered) (subst (All IsCounted) split counted) in
    omega (arith, fits, few, ap record_count split, ap (λ xs. end_of (get_or xs i d)) same)

-- a page ends behind the last record before it
pub rises_in : (ns notes : List PageNote) (i next : ℕ) (d : PageNote) → ns ≡ notes → AreNumbered notes → All IsCounted notes → i < length ns → next ≡ record_count (take i notes)
    → next ≤ end_of (get_or ns i d)
rises_in ns notes i next d same numbered counted within is =
    let inside : i < length notes = omega (arith, ap length same) in
    let some : 1 ≤ (get_or notes i d).count = counted i d inside in
    let here = ap (λ xs. end_of (get_or xs i d)) same in
    elim (begins (take i notes) (get_or notes i d) (drop (i + 1) notes) (subst AreNumbered (split_at notes i d inside) numbered)) [ inl e ↦ omega arith | inr e ↦ omega arith ]

-- the state after a page of a book: the number of the next record, and the entries
pub record IsAfter (client : ClientId) (init : List Entry) (notes : List PageNote) (pages : List FatedPage) (i number : ℕ) (found : List Entry) : Type 0 where
  pub next : number ≡ record_count (take i notes)
  pub entries : found ≡ init ++ book_entries client (take i pages)

after_page : (fate : ℕ → Draw → Fate) (draws : List Draw) (notes : List PageNote) (client : ClientId) (init old new : List Entry) (i next : ℕ) (note : PageNote) (n : PageNote) (f : Fate) (e : Draw)
    → length draws ≡ length notes → All IsCounted notes → AreNumbered notes → i < length notes
    → next ≡ record_count (take i notes) → old ≡ init ++ book_entries client (take i (fated_by fate 0 draws notes))
    → note ≡ get_or notes i n → f ≡ fate i (get_or draws i e) → new ≡ with_page client next (record { note = note; fate = f }) old
    → IsAfter client init notes (fated_by fate 0 draws notes) (i + 1) (end_of note) new
after_page fate draws notes client init old new i next note n f e same counted numbered within is_next so_far is is_fate added =
    let pages = fated_by fate 0 draws notes in
    let at : 0 + i ≡ i = omega arith in
    let page : FatedPage = record { note = note; fate = f } in
    let here : get_or pages i page ≡ page =
    fated_by-at fate 0 draws notes i page e n same within
    ∙ ap (λ k. record { note = get_or notes i n; fate = fate k (get_or draws i e) }) at
    ∙ ap₂ (λ x y. record { note = x; fate = y }) (sym is) (sym is_fate) in
    let long = length-fated_by fate 0 draws notes same in
    let front : notes_of (take i pages) ≡ take i notes = sym (take-map (λ (p : FatedPage). p.note) i pages) ∙ ap (take i) (fated_by-notes fate 0 draws notes same) in
    let split : notes ≡ take i notes ++ note ∷ drop (i + 1) notes = split_at notes i n within ∙ ap (λ x. take i notes ++ x ∷ drop (i + 1) notes) (sym is) in
    let numbered_split = subst AreNumbered split numbered in
    let more : take (i + 1) pages ≡ take i pages ++ page ∷ [] = take_more pages i page (omega arith) ∙ ap (λ p. take i pages ++ p ∷ []) here in
    record {
      next = sym (ap record_count (take_more notes i n within ∙ ap (λ x. take i notes ++ x ∷ []) (sym is)) ∙ record_count-more (take i notes) note);
      entries =
          added
          ∙ ap (with_page client next page) so_far
          ∙ page_more client init (take i pages) page next
          (subst AreNumbered (sym front) (numbered_front (take i notes) (note ∷ drop (i + 1) notes) numbered_split))
          (subst (All IsCounted) (sym front) (All-take IsCounted i notes counted))
          (subst (λ (x : PageNote). 1 ≤ x.count) (sym is) (counted i n within))
          (is_next ∙ ap record_count (sym front))
          (subst (λ ns. Begins ns note) (sym front) (begins (take i notes) note (drop (i + 1) notes) numbered_split))
          ∙ ap (λ ps. init ++ book_entries client ps) (sym more);
    }

-- what a read past the end gives
abbrev pub no_note : PageNote
no_note = record { trace = record { 0 = 0 }; first = 0; count = 0 }

-- the same of the lists as a loop reads them
pub after_in : (fate : ℕ → Draw → Fate) (ds draws : List Draw) (ns notes : List PageNote) (client : ClientId) (init old new : List Entry) (i next : ℕ) (n : PageNote) (f : Fate) (e : Draw)
    → ds ≡ draws → ns ≡ notes → length draws ≡ length notes → All IsCounted notes → AreNumbered notes → i < length ns
    → next ≡ record_count (take i notes) → old ≡ init ++ book_entries client (take i (fated_by fate 0 draws notes))
    → f ≡ fate i (get_or ds i e) → new ≡ with_page client next (record { note = get_or ns i n; fate = f }) old
    → IsAfter client init notes (fated_by fate 0 draws notes) (i + 1) (end_of (get_or ns i n)) new
after_in fate ds draws ns notes client init old new i next n f e same_draws same_notes same counted numbered within is_next so_far is_fate added =
    after_page fate draws notes client init old new i next (get_or ns i n) n f e same counted numbered (omega (arith, ap length same_notes)) is_next so_far
    (ap (λ xs. get_or xs i n) same_notes) (is_fate ∙ ap (λ xs. fate i (get_or xs i e)) same_draws) added
