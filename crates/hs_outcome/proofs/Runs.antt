-- Pages that are sorted by the places of their traces and by client are a reordering: they keep the order of the pages of each client and
-- trace, and that in which the traces are first seen.
use Rattle.std.proofs.Common.{◌≡◌, ℕ, ◌<◌, Bool, true, false, cond, not, ◌&&◌, eqb, List, [], ◌∷◌, length, get_or, set, map, Option, Some, None, slice_get, sym, ap, ◌∙◌, refl, subst, arith}
use Rattle.hs_outcome.proofs.Prelude.{AllByRecursion, filter, IsDistinct, IsPermutation, IsSortedBy, IsStableBy, ties, nat_tests, All-from_recursion, recursion_from_All, All-filter, length-map, ClientId, TraceId, first_seen, Sheets, Sheet, IsPage, page_bytes, Reported, Traces, Note, bytes_of, note_of, noted}
use Rattle.std.specs.List.{All, swap}
use Rattle.std.specs.Option.{option_map_or}
use Rattle.std.proofs.lemmas.List.{map-set, get_or-map}
use Rattle.std.proofs.lemmas.List.Sorted.{All-permutation, IsPermutation-swap, IsPermutation-keeps, IsPermutation-map}
use Rattle.hs_base.proofs.Filters.{filter_mapped}
use Rattle.hs_collect.specs.Collected.{is_by}
use Rattle.hs_law_outcome.proofs.Origins.{same_client}
use Rattle.hs_outcome.specs.Pages.{AreReported, Reordered}
use Rattle.hs_outcome.proofs.Rising.{PutsEarlierFirst, same_place, seen_as_before}
use Rattle.hs_outcome.proofs.Seen.{is_trace, seen_once}
use Rattle.hs_base.proofs.Stable.{stable_keeps}

-- pages have bytes of their own
abbrev pub HaveOwnBytes : Type 0
HaveOwnBytes = (a b : Sheet) → IsPage a → IsPage b → page_bytes a ≡ page_bytes b → a ≡ b

-- whether a note is one of this client and trace
abbrev is_named : TraceId → Option TraceId → Bool
is_named trace found = option_map_or (λ (other : TraceId). eqb other.0 trace.0) found false

abbrev of_run : ClientId → TraceId → Note → Bool
of_run client trace note = eqb note.client.node client.node && eqb note.client.number client.number && is_named trace note.trace

-- the pages are decided by their notes
by_notes : HaveOwnBytes → (xs ys : Sheets) → AllByRecursion IsPage xs → AllByRecursion IsPage ys → map note_of xs ≡ map note_of ys → xs ≡ ys
by_notes own [] [] p q e = refl
by_notes own [] (y ∷ ys) p q e = absurd cc
by_notes own (x ∷ xs) [] p q e = absurd cc
by_notes own (x ∷ xs) (y ∷ ys) p q e =
    let first : note_of x ≡ note_of y = cc in
    let rest : map note_of xs ≡ map note_of ys = cc in
    let head = own x y p.0 q.0 (ap (λ (n : Note). n.bytes) first) in
    ap (λ z. z ∷ xs) head ∙ ap (λ zs. y ∷ zs) (by_notes own xs ys p.1 q.1 rest)

bytes_noted : (traces : Traces) (pages : List Reported) → map (λ (n : Note). n.bytes) (map (noted traces) pages) ≡ bytes_of pages
bytes_noted traces [] = refl
bytes_noted traces (page ∷ pages) = ap (λ t. page.bytes.now ∷ t) (bytes_noted traces pages)

bytes_of_notes : (sheets : Sheets) → map (λ (n : Note). n.bytes) (map note_of sheets) ≡ map page_bytes sheets
bytes_of_notes [] = refl
bytes_of_notes (sheet ∷ sheets) = ap (λ t. page_bytes sheet ∷ t) (bytes_of_notes sheets)

-- what is true of elements, by what they are mapped to
along_more : {X Y : Type 0} (f : X → Y) (x : X) (front rest : List Y) (more : List X) (t : Bool) → front ≡ map f more → cond t (f x ∷ front) front ≡ map f (cond t (x ∷ more) more)
along_more f x front rest more true is = ap (λ z. f x ∷ z) is
along_more f x front rest more false is = is

-- ---- the pages of sorted notes

swap_along : {X Y : Type 0} (f : X → Y) (xs : List X) (i j : ℕ) → i < length xs → j < length xs → map f (swap xs i j) ≡ swap (map f xs) i j
swap_along f [] i j p q = absurd (omega arith)
swap_along f (d ∷ ys) i j p q =
    map-set f (set (d ∷ ys) i (get_or (d ∷ ys) j d)) j (get_or (d ∷ ys) i d) ∙ ap (λ l. set l j (f (get_or (d ∷ ys) i d))) (map-set f (d ∷ ys) i (get_or (d ∷ ys) j d))
    ∙ ap (λ z. set (set (map f (d ∷ ys)) i z) j (f (get_or (d ∷ ys) i d))) (sym (get_or-map f (d ∷ ys) j d (f d) q)) ∙ ap (λ z. set (set (map f (d ∷ ys)) i (get_or (map f (d ∷ ys)) j (f d))) j z) (sym (get_or-map f (d ∷ ys) i d (f d) p))

-- pages for notes in another order
record PagesFor (notes : List Note) : Type 0 where
  pub sheets : Sheets
  pub valid : All IsPage sheets
  pub are : notes ≡ map note_of sheets

swapped : (notes : List Note) (i j : ℕ) → i < length notes → j < length notes → PagesFor notes → PagesFor (swap notes i j)
swapped notes i j p q pages =
    let n = ap length pages.are ∙ length-map pages.sheets note_of in
    record {
      sheets = swap pages.sheets i j;
      valid = All-permutation IsPage pages.sheets (swap pages.sheets i j) (IsPermutation-swap pages.sheets (swap pages.sheets i j) i j (omega arith) (omega arith) refl) pages.valid;
      are = ap (λ (ns : List Note). swap ns i j) pages.are ∙ sym (swap_along note_of pages.sheets i j (omega arith) (omega arith));
    }

pages_for : (sheets : Sheets) (notes : List Note) → AllByRecursion IsPage sheets → IsPermutation (map note_of sheets) notes → PagesFor notes
pages_for sheets notes valid perm =
    IsPermutation-keeps (map note_of sheets) PagesFor (record { sheets = sheets; valid = All-from_recursion IsPage sheets valid; are = refl }) swapped notes perm

-- a test that tells no pages of one client and trace apart
abbrev pub TellsNoRun : (Reported → Reported → Bool) → Type 0
TellsNoRun lt = (x y : Reported) → x.client ≡ y.client → x.seen ≡ y.seen → lt x y ≡ false

named : (trace : TraceId) (found : Option TraceId) → is_named trace found ≡ true → found ≡ Some trace
named trace None is = absurd cc
named trace (Some other) is =
    let number : other.0 ≡ trace.0 = grind (arith, nat_tests) in
    ap (λ n. Some (record { 0 = n })) number

both_not : (a b : Bool) → a ≡ false → b ≡ false → (not a && not b) ≡ true
both_not a b p q = ap (λ x. not x && not b) p ∙ ap not q

same_run : (traces : Traces) → IsDistinct is_trace traces → (lt : Reported → Reported → Bool) (client : ClientId) (trace : TraceId) → TellsNoRun lt → (x y : Reported)
    → of_run client trace (noted traces x) ≡ true → of_run client trace (noted traces y) ≡ true → ties lt x y ≡ true
same_run traces distinct lt client trace tells x y p q =
    let number : x.client.number ≡ y.client.number = grind (arith, nat_tests) in
    let node : x.client.node ≡ y.client.node = grind (arith, nat_tests) in
    let first : is_named trace (slice_get traces x.seen) ≡ true = grind (arith, nat_tests) in
    let second : is_named trace (slice_get traces y.seen) ≡ true = grind (arith, nat_tests) in
    let clients = same_client x.client y.client node number in
    let seen = same_place traces distinct x.seen y.seen trace (named trace _ first) (named trace _ second) in
    both_not (lt x y) (lt y x) (tells x y clients seen) (tells y x (sym clients) (sym seen))

-- sorted pages are a reordering
pub sorted_reordered : (lt : Reported → Reported → Bool) (sheets : Sheets) (pages sorted : List Reported) → AreReported sheets pages → IsPermutation pages sorted → IsStableBy lt pages sorted → IsSortedBy lt sorted → HaveOwnBytes
    → TellsNoRun lt → PutsEarlierFirst lt → Reordered sheets sorted
sorted_reordered lt sheets pages sorted reported perm stable up own tells puts =
    let traces = first_seen sheets in
    let note = noted traces in
    let made = pages_for sheets (map note sorted) reported.valid (subst (λ (ns : List Note). IsPermutation ns (map note sorted)) reported.notes (IsPermutation-map note pages sorted perm)) in
    record {
      others = made.sheets;
      order =
          record {
            pages = λ client trace.
                let test = of_run client trace in
                by_notes own (filter (is_by client trace) made.sheets) (filter (is_by client trace) sheets)
                (recursion_from_All IsPage _ (All-filter (is_by client trace) IsPage made.sheets made.valid))
                (recursion_from_All IsPage _ (All-filter (is_by client trace) IsPage sheets (All-from_recursion IsPage sheets reported.valid)))
                (sym (filter_mapped note_of test made.sheets) ∙ ap (filter test) (sym made.are) ∙ filter_mapped note test sorted
                ∙ ap (map note) (stable_keeps lt (λ (x : Reported). test (note x)) pages sorted (same_run traces (seen_once sheets) lt client trace tells) stable)
                ∙ sym (filter_mapped note test pages) ∙ ap (filter test) reported.notes ∙ filter_mapped note_of test sheets);
            seen = seen_as_before lt sheets made.sheets pages sorted puts reported.notes made.are perm up;
          };
      spelled = record { valid = recursion_from_All IsPage made.sheets made.valid; are = sym (bytes_noted traces sorted) ∙ ap (map (λ (n : Note). n.bytes)) made.are ∙ bytes_of_notes made.sheets };
    }
