-- Pages of which each goes on behind the latest before it go on behind every one before.
use Rattle.std.proofs.Common.{◌≡◌, ◌≢◌, ℕ, ◌<◌, ◌≤◌, ◌^◌, Bool, true, false, cond, List, [], ◌∷◌, length, get_or, reverse, All, Some, MatchOption, inl, inr, refl, sym, ap, ap₂, ◌∙◌, subst, arith}
use Rattle.hs_collect.proofs.Prelude.{find, All-nil, All-cons, All-head, All-tail, All-push, nat_tests, TraceId, ClientId, client_of, Header, Piece, Sheet, end_of, GoesOn, CanPrecede, CanBeAdded}
use Rattle.std.proofs.lemmas.List.{reverse-reverse, reverse-append}
use Rattle.std.proofs.lemmas.List.Quantifiers.{all_pairs_push}
use Rattle.hs_collect.specs.Collected.{is_of_run, ComeInTurn}

abbrev with_pieces : Header → List Piece → Sheet
with_pieces header pieces = record { header = header; pieces = pieces }

-- a page goes on behind what a page that it goes on behind goes on behind
goes_on_through : (before : Sheet) (header : Header) (pieces : List Piece) (sheet : Sheet) → 0 < length pieces → GoesOn before (with_pieces header pieces) → GoesOn (with_pieces header pieces) sheet → GoesOn before sheet
goes_on_through before header [] sheet some first second = absurd (omega arith)
goes_on_through before header (piece ∷ []) sheet some (inl apart) (inl later) = inl (omega arith)
goes_on_through before header (piece ∷ []) sheet some (inl apart) (inr (joins, moment)) = inl (omega (arith, joins))
goes_on_through before header (piece ∷ []) sheet some (inr (joins, moment)) (inl later) = inl (omega (arith, joins))
goes_on_through before header (piece ∷ []) sheet some (inr (joins, moment)) (inr (also, same)) = inr (omega (arith, joins, also), moment ∙ same)
goes_on_through before header (piece ∷ next ∷ pieces) sheet some (inl apart) (inl later) = inl (omega arith)
goes_on_through before header (piece ∷ next ∷ pieces) sheet some (inl apart) (inr (joins, moment)) = inl (omega (arith, joins))
goes_on_through before header (piece ∷ next ∷ pieces) sheet some (inr (joins, moment)) (inl later) = inl (omega (arith, joins))
goes_on_through before header (piece ∷ next ∷ pieces) sheet some (inr (joins, moment)) (inr (also, same)) = inl (omega (arith, joins, also))

abbrev trace_at : ℕ → TraceId
trace_at number = record { 0 = number }

run_client : (sheet other : Sheet) → is_of_run sheet other ≡ true → other.header.client ≡ sheet.header.client
run_client sheet other its =
    let node : other.header.client.node ≡ sheet.header.client.node = grind (arith, nat_tests) in
    let number : other.header.client.number ≡ sheet.header.client.number = grind (arith, nat_tests) in
    ap₂ (λ x y. client_of x y) node number

run_trace : (sheet other : Sheet) → is_of_run sheet other ≡ true → other.header.trace ≡ sheet.header.trace
run_trace sheet other its =
    let number : other.header.trace.0 ≡ sheet.header.trace.0 = grind (arith, nat_tests) in
    ap (λ n. trace_at n) number

is_run : (sheet other : Sheet) → other.header.client ≡ sheet.header.client → other.header.trace ≡ sheet.header.trace → is_of_run sheet other ≡ true
is_run sheet other client trace =
    let node : other.header.client.node ≡ sheet.header.client.node = ap (λ (c : ClientId). c.node) client in
    let number : other.header.client.number ≡ sheet.header.client.number = ap (λ (c : ClientId). c.number) client in
    let id : other.header.trace.0 ≡ sheet.header.trace.0 = ap (λ (t : TraceId). t.0) trace in
    grind (arith, nat_tests)

abbrev Rises : Sheet → Sheet → Type 0
Rises sheet before = (before.header.page < sheet.header.page) × GoesOn before sheet

abbrev Differs : Sheet → Sheet → Type 0
Differs sheet before = before.header.client ≡ sheet.header.client → before.header.page ≢ sheet.header.page

-- behind the latest page of a run, and so behind the others of it
precedes_through : (earlier : List Sheet) (latest sheet : Sheet) → 0 < length latest.pieces → is_of_run sheet latest ≡ true → Rises sheet latest → All (Differs sheet) earlier
    → All (λ before. CanPrecede before latest) earlier → All (λ before. CanPrecede before sheet) earlier
precedes_through earlier latest sheet some run rises differ can = λ k d lt.
    record {
      differ = differ k d lt;
      rise = λ client trace.
          let first = (can k d lt).rise (client ∙ sym (run_client sheet latest run)) (trace ∙ sym (run_trace sheet latest run)) in
          (omega (arith, first.0, rises.0), goes_on_through (get_or earlier k d) latest.header latest.pieces sheet some first.1 rises.1);
    }

all_precede : (earlier : List Sheet) (sheet : Sheet) → ComeInTurn earlier → All (Differs sheet) earlier → MatchOption (find (is_of_run sheet) earlier) (Unit {0}) (Rises sheet)
    → All (λ before. CanPrecede before sheet) earlier
all_precede [] sheet turn differ rise = All-nil (λ before. CanPrecede before sheet)
all_precede (latest ∷ earlier) sheet turn differ rise =
    by_test (is_of_run sheet latest) refl rise (all_precede earlier latest turn.1 turn.0.differ turn.0.rise) (all_precede earlier sheet turn.1 (All-tail (Differs sheet) latest earlier differ))
  where
    by_test : (b : Bool) → is_of_run sheet latest ≡ b → MatchOption (cond b (Some latest) (find (is_of_run sheet) earlier)) (Unit {0}) (Rises sheet) → All (λ before. CanPrecede before latest) earlier
        → (MatchOption (find (is_of_run sheet) earlier) (Unit {0}) (Rises sheet) → All (λ before. CanPrecede before sheet) earlier) → All (λ before. CanPrecede before sheet) (latest ∷ earlier)
    by_test true run here behind later =
        All-cons (λ before. CanPrecede before sheet) latest earlier (record { differ = All-head (Differs sheet) latest earlier differ; rise = λ client trace. here })
        (precedes_through earlier latest sheet turn.0.some run here (All-tail (Differs sheet) latest earlier differ) behind)
    by_test false apart there behind later =
        All-cons (λ before. CanPrecede before sheet) latest earlier
        (record { differ = All-head (Differs sheet) latest earlier differ; rise = λ client trace. let run : is_of_run sheet latest ≡ true = is_run sheet latest client trace in absurd (cc) }) (later there)

all_reversed : {X : Type 0} (P : X → Type 0) (xs : List X) → All P xs → All P (reverse xs)
all_reversed P [] h = h
all_reversed P (x ∷ xs) h =
    subst (All P) (sym (reverse-append (x ∷ []) xs)) (All-push P (reverse xs) x (all_reversed P xs (All-tail P x xs h)) (All-head P x xs h))

latest_first : (latest : List Sheet) → ComeInTurn latest → CanBeAdded (reverse latest)
latest_first [] turn = record { pairs = λ i j d lt within. absurd (omega arith); fits = All-nil (λ s. end_of s ≤ 2 ^ 32) }
latest_first (sheet ∷ earlier) turn =
    let before : CanBeAdded (reverse earlier) = latest_first earlier turn.1 in
    let can : All (λ b. CanPrecede b sheet) (reverse earlier) = all_reversed (λ b. CanPrecede b sheet) earlier (all_precede earlier sheet turn.1 turn.0.differ turn.0.rise) in
    subst CanBeAdded (sym (reverse-append (sheet ∷ []) earlier))
    (record {
      pairs = all_pairs_push CanPrecede (reverse earlier) sheet before.pairs can;
      fits = All-push (λ s. end_of s ≤ 2 ^ 32) (reverse earlier) sheet before.fits turn.0.fits;
    })

pub in_turn : (sheets : List Sheet) → ComeInTurn (reverse sheets) → CanBeAdded sheets
in_turn sheets turn = subst CanBeAdded (reverse-reverse sheets) (latest_first (reverse sheets) turn)
