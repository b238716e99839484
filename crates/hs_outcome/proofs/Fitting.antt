-- What fits: the records of a valid workload, their pieces, and the pages that hold these.
use Rattle.std.proofs.Common.{◌≡◌, ℕ, zero, suc, ◌+◌, ◌<◌, ◌≤◌, ◌^◌, Bool, true, false, cond, eqb, List, [], ◌∷◌, ◌++◌, length, map, Option, Some, None, sym, ap, ◌∙◌, refl, subst, append_assoc, length-append, lit≤, arith}
use Rattle.hs_outcome.proofs.Prelude.{option_map, slice_get, AllByRecursion, flat_map, range_with_len, length-map, recursion_from_All, slice_get_within, ClientId, TraceId, outcome_of, Sheet, IsPage, all_records, PlainWorkload, IsValid}
use Rattle.std.specs.Prelude.{unwrap_or}
use Rattle.std.specs.List.{concat}
use Rattle.std.proofs.lemmas.List.Concat.{concat_is}
use Rattle.hs_base.proofs.Alls.{all_append, all_front, all_back, all_at}
use Rattle.hs_base.specs.declared.limits.TheConstants.{MIN_SIZE, MAX_SIZE, MAX_OPERATIONS, MAX_PAYLOAD}
use Rattle.hs_client.specs.Calls.{sheet_for, written}
use Rattle.hs_law_outcome.specs.CollectedReports.{IsClientsPage, ReportedPagesAreOfClients}
use Rattle.hs_records.specs.Records.{AreBracketed}
use Rattle.hs_client.specs.Laws.{PagesFit, TimedPagesAreThePages}
use Rattle.hs_client.specs.Timing.{TimedPage, timed_pages}
use Rattle.hs_words.specs.Chunks.{used_of}
use Rattle.hs_words.specs.Pages.{FitsPiece}
use Rattle.hs_records.specs.declared.setting.Setting.TheVariants as settings
use Rattle.hs_outcome.specs.Fitting.{ReportedPagesArePages}
use Rattle.hs_law_outcome.proofs.Followed.{ends_its_traces}
use Rattle.hs_law_outcome.specs.Records.{client_records}
use Rattle.hs_law_outcome.proofs.ClientBooks.{length_named}
use Rattle.hs_records.specs.Pages.{PlainPage, first_record, pages_of}
use Rattle.hs_records.specs.Plain.{Operation, Begin, Point, Crumb, End, Fire, Sample, PlainSettings}
use Rattle.hs_records.specs.Records.{Record, Piece, open_behind, numbered_from, record_in, record_at, records_of, record_pieces, payload_pieces, piece_count}
use Rattle.hs_records.specs.Laws.{CarriesRecords, CarryRecords, PagesHoldThePieces, traces_of, pieces_of_records, pieces_on}
use Rattle.hs_client.specs.Sending.{operations_at, place_of}
use Rattle.hs_base.specs.Ids.{trace_digits}
use Rattle.hs_records.specs.Validity.{operation_pieces, IsOperation, IsClient, HasDigits, client_pieces, workload_pieces}
use Rattle.hs_base.proofs.Places.{place_at}

-- ---- the client at a place

pub client_at_place : (version : ℕ) (set : PlainSettings) (clients : List (List Operation)) (place : ℕ) → AllByRecursion (IsClient version set) clients → IsClient version set (unwrap_or (slice_get clients place) [])
client_at_place version set [] place all = record { words = tt; bracketed = refl }
client_at_place version set (ops ∷ clients) zero all = all.0
client_at_place version set (ops ∷ clients) (suc place) all = client_at_place version set clients place all.1

pub pieces_at_place : (size : ℕ) (clients : List (List Operation)) (place : ℕ) → client_pieces size (unwrap_or (slice_get clients place) []) ≤ workload_pieces size clients
pieces_at_place size [] place = lit≤ tt
pieces_at_place size (ops ∷ clients) zero = omega arith
pieces_at_place size (ops ∷ clients) (suc place) = omega (arith, pieces_at_place size clients place)

-- ---- how many records there are

one_record : (size : ℕ) (trace : Option TraceId) (op : Operation) → length (record_in trace op) ≤ operation_pieces size op
one_record size None (Begin t) = omega arith
one_record size None (Point moment payload) = omega arith
one_record size None (Crumb node) = omega arith
one_record size None End = omega arith
one_record size None (Fire trigger) = omega arith
one_record size None (Sample moment auto value) = omega arith
one_record size (Some trace) (Begin t) = omega arith
one_record size (Some trace) (Point moment payload) = omega arith
one_record size (Some trace) (Crumb node) = omega arith
one_record size (Some trace) End = omega arith
one_record size (Some trace) (Fire trigger) = omega arith
one_record size (Some trace) (Sample moment auto value) = omega arith

few_from : (size number : ℕ) (trace : Option TraceId) (ops : List Operation) → length (flat_map record_at (numbered_from number trace ops)) ≤ client_pieces size ops
few_from size number trace [] = lit≤ tt
few_from size number trace (op ∷ ops) =
    omega (arith, length-append (record_in trace op) (flat_map record_at (numbered_from (number + 1) (open_behind trace op) ops)), one_record size trace op, few_from size (number + 1) (open_behind trace op) ops)

pub few_records : (size : ℕ) (ops : List Operation) → length (records_of ops) ≤ client_pieces size ops
few_records size ops = few_from size 0 None ops

few_behind : (W : PlainWorkload) (pre rest : List (List Operation)) (k : ℕ) → W.clients ≡ pre ++ rest → k ≡ length pre → length (flat_map (client_records W) (range_with_len k (length rest))) ≤ workload_pieces W.settings.size rest
few_behind W pre [] k is at = lit≤ tt
few_behind W pre (ops ∷ rest) k is at =
    let here : operations_at W k ≡ ops = ap (λ t. unwrap_or t []) (ap (λ l. slice_get l k) is ∙ place_at k pre ops rest at) in
    let own : length (client_records W k) ≡ length (records_of ops) = length_named _ 0 (records_of (operations_at W k)) ∙ ap (λ o. length (records_of o)) here in
    omega (
      arith,
      length-append (client_records W k) (flat_map (client_records W) (range_with_len (k + 1) (length rest))),
      own,
      few_records W.settings.size ops,
      few_behind W (pre ++ ops ∷ []) rest (k + 1) (is ∙ sym (append_assoc pre (ops ∷ []) rest)) (omega (arith, length-append pre (ops ∷ []))),
    )

pub few_in_all : (W : PlainWorkload) → IsValid W → length (all_records W) < 2 ^ 32
few_in_all W valid = omega (arith, few_behind W [] W.clients 0 refl refl, valid.few)

-- ---- lists

all_along : {X Y : Type 0} (P : Y → Type 0) (Q : X → Type 0) (f : X → Y) → ((x : X) → Q x → P (f x)) → (xs : List X) → AllByRecursion Q xs → AllByRecursion P (map f xs)
all_along P Q f each [] all = tt
all_along P Q f each (x ∷ xs) all = (each x all.0, all_along P Q f each xs all.1)

-- ---- records

abbrev AreBytes : List ℕ → Type 0
AreBytes bytes = AllByRecursion (λ b. b < 256) bytes

record FitsRecord (version : ℕ) (r : Record) : Type 0 where
  pub digits : HasDigits version r.trace
  pub moment : r.moment < 2 ^ 64
  pub long : length r.payload ≤ MAX_PAYLOAD
  pub bytes : AreBytes r.payload

abbrev HasOpenDigits : ℕ → Option TraceId → Type 0
HasOpenDigits version None = Unit {0}
HasOpenDigits version (Some trace) = HasDigits version trace

record_fits : (version : ℕ) (set : PlainSettings) (trace : Option TraceId) (op : Operation) → HasOpenDigits version trace → IsOperation version set op → AllByRecursion (FitsRecord version) (record_in trace op)
record_fits version set None (Begin t) held word = tt
record_fits version set None (Point moment payload) held word = tt
record_fits version set None (Crumb node) held word = tt
record_fits version set None End held word = tt
record_fits version set None (Fire trigger) held word = tt
record_fits version set None (Sample moment auto value) held word = tt
record_fits version set (Some trace) (Begin t) held word = tt
record_fits version set (Some trace) (Point moment payload) held word =
    (record { digits = held; moment = word.0; long = word.1; bytes = recursion_from_All (λ b. b < 256) payload word.2 }, tt)
record_fits version set (Some trace) (Crumb node) held word = tt
record_fits version set (Some trace) End held word = tt
record_fits version set (Some trace) (Fire trigger) held word = tt
record_fits version set (Some trace) (Sample moment auto value) held word = tt

open_fits : (version : ℕ) (set : PlainSettings) (trace : Option TraceId) (op : Operation) → HasOpenDigits version trace → IsOperation version set op → HasOpenDigits version (open_behind trace op)
open_fits version set trace (Begin t) held word = word
open_fits version set trace (Point moment payload) held word = held
open_fits version set trace (Crumb node) held word = held
open_fits version set trace End held word = tt
open_fits version set trace (Fire trigger) held word = held
open_fits version set trace (Sample moment auto value) held word = held

fit_from : (version : ℕ) (set : PlainSettings) (number : ℕ) (trace : Option TraceId) (ops : List Operation) → HasOpenDigits version trace → AllByRecursion (IsOperation version set) ops
    → AllByRecursion (FitsRecord version) (flat_map record_at (numbered_from number trace ops))
fit_from version set number trace [] held all = tt
fit_from version set number trace (op ∷ ops) held all =
    all_append (FitsRecord version) (record_in trace op) (flat_map record_at (numbered_from (number + 1) (open_behind trace op) ops)) (record_fits version set trace op held all.0)
    (fit_from version set (number + 1) (open_behind trace op) ops (open_fits version set trace op held all.0) all.1)

records_fit : (version : ℕ) (set : PlainSettings) (ops : List Operation) → AllByRecursion (IsOperation version set) ops → AllByRecursion (FitsRecord version) (records_of ops)
records_fit version set ops all = fit_from version set 0 None ops tt all

-- ---- pieces

record FitsPart (p : Piece) : Type 0 where
  pub moment : p.moment < 2 ^ 64
  pub long : length p.payload ≤ MAX_PAYLOAD
  pub bytes : AreBytes p.payload

-- the parts of a payload that fits
parts_fit : (number moment : ℕ) (parts : List (List ℕ)) → moment < 2 ^ 64 → length (flat_map (λ b. b) parts) ≤ MAX_PAYLOAD → AreBytes (flat_map (λ b. b) parts)
    → AllByRecursion FitsPart (map (λ bytes. record { number = number; moment = moment; payload = bytes }) parts)
parts_fit number moment [] small long bytes = tt
parts_fit number moment (part ∷ parts) small long bytes =
    let both = length-append part (flat_map (λ (b : List ℕ). b) parts) in (
      record { moment = small; long = omega arith; bytes = all_front (λ b. b < 256) part (flat_map (λ b. b) parts) bytes },
      parts_fit number moment parts small (omega arith) (all_back (λ b. b < 256) part (flat_map (λ b. b) parts) bytes),
    )

abbrev pub PiecesJoin : Type 0
PiecesJoin = (size : ℕ) (payload : List ℕ) → concat (payload_pieces size payload) ≡ payload

pieces_fit : PiecesJoin → (version size number : ℕ) (records : List Record) → AllByRecursion (FitsRecord version) records → AllByRecursion FitsPart (pieces_of_records size number records)
pieces_fit join version size number [] all = tt
pieces_fit join version size number (r ∷ records) all =
    let whole : flat_map (λ (b : List ℕ). b) (payload_pieces size r.payload) ≡ r.payload = sym (concat_is (payload_pieces size r.payload)) ∙ join size r.payload in
    all_append FitsPart (record_pieces size number r.moment r.payload) (pieces_of_records size (number + 1) records)
    (parts_fit number r.moment (payload_pieces size r.payload) all.0.moment (omega (arith, ap length whole, all.0.long)) (subst AreBytes (sym whole) all.0.bytes)) (pieces_fit join version size (number + 1) records all.1)

-- how many pieces there are
abbrev pub PiecesCounted : Type 0
PiecesCounted = (size : ℕ) (payload : List ℕ) → length (payload_pieces size payload) ≡ piece_count size (length payload)

-- how many pieces records have does not hang on their numbers
same_count : (size a b : ℕ) (records : List Record) → length (pieces_of_records size a records) ≡ length (pieces_of_records size b records)
same_count size a b [] = refl
same_count size a b (r ∷ records) =
    let here = λ (n : ℕ). length-append (record_pieces size n r.moment r.payload) (pieces_of_records size (n + 1) records) in
    let own = λ (n : ℕ). length-map (payload_pieces size r.payload) (λ (bytes : List ℕ). let piece : Piece = record { number = n; moment = r.moment; payload = bytes } in piece) in
    here a ∙ ap (λ k. k + length (pieces_of_records size (a + 1) records)) (own a ∙ sym (own b)) ∙ ap (λ k. length (record_pieces size b r.moment r.payload) + k) (same_count size (a + 1) (b + 1) records) ∙ sym (here b)

one_operation : PiecesCounted → (size : ℕ) (trace : Option TraceId) (op : Operation) (rest : List Record) → length (pieces_of_records size 0 (record_in trace op ++ rest)) ≤ operation_pieces size op + length (pieces_of_records size 0 rest)
one_operation counted size None (Begin t) rest = omega arith
one_operation counted size None (Point moment payload) rest = omega arith
one_operation counted size None (Crumb node) rest = omega arith
one_operation counted size None End rest = omega arith
one_operation counted size None (Fire trigger) rest = omega arith
one_operation counted size None (Sample moment auto value) rest = omega arith
one_operation counted size (Some trace) (Begin t) rest = omega arith
one_operation counted size (Some trace) (Point moment payload) rest =
    let both = length-append (record_pieces size 0 moment payload) (pieces_of_records size (0 + 1) rest) in
    let own = length-map (payload_pieces size payload) (λ (bytes : List ℕ). let piece : Piece = record { number = 0; moment = moment; payload = bytes } in piece) in
    omega (arith, both, own, counted size payload, same_count size (0 + 1) 0 rest)
one_operation counted size (Some trace) (Crumb node) rest = omega arith
one_operation counted size (Some trace) End rest = omega arith
one_operation counted size (Some trace) (Fire trigger) rest = omega arith
one_operation counted size (Some trace) (Sample moment auto value) rest = omega arith

few_pieces_from : PiecesCounted → (size number : ℕ) (trace : Option TraceId) (ops : List Operation) → length (pieces_of_records size 0 (flat_map record_at (numbered_from number trace ops))) ≤ client_pieces size ops
few_pieces_from counted size number trace [] = lit≤ tt
few_pieces_from counted size number trace (op ∷ ops) =
    omega (arith, one_operation counted size trace op (flat_map record_at (numbered_from (number + 1) (open_behind trace op) ops)), few_pieces_from counted size (number + 1) (open_behind trace op) ops)

-- ---- pages

pages_counted : (traces : ℕ → Option TraceId) (pages : List PlainPage) → AllByRecursion (CarriesRecords traces) pages → length pages ≤ length (pieces_on pages)
pages_counted traces [] all = lit≤ tt
pages_counted traces (page ∷ pages) all = omega (arith, length-append page.pieces (pieces_on pages), all.0.some, pages_counted traces pages all.1)

-- that pages carry the records, as a law says
abbrev pub PagesCarry : Type 0
PagesCarry = (size : ℕ) (ops : List Operation) → MIN_SIZE ≤ size → AreBracketed false ops → CarryRecords (traces_of (records_of ops)) 0 (pages_of size ops) (length (records_of ops))

few_pages : PagesCarry → PagesHoldThePieces → PiecesCounted → (size : ℕ) (ops : List Operation) → MIN_SIZE ≤ size → AreBracketed false ops → length (pages_of size ops) ≤ client_pieces size ops
few_pages carry hold counted size ops least brackets =
    let pages = pages_counted (traces_of (records_of ops)) (pages_of size ops) (carry size ops least brackets).each in
    omega (arith, pages, ap length (hold size ops least brackets), few_pieces_from counted size 0 None ops)

own_pieces : (pages : List PlainPage) (k : ℕ) (page : PlainPage) → AllByRecursion FitsPart (pieces_on pages) → slice_get pages k ≡ Some page → AllByRecursion FitsPart page.pieces
own_pieces [] k page all is = absurd cc
own_pieces (p ∷ pages) zero page all is =
    let same : p ≡ page = cc in
    subst (λ (q : PlainPage). AllByRecursion FitsPart q.pieces) same (all_front FitsPart p.pieces (pieces_on pages) all)
own_pieces (p ∷ pages) (suc k) page all is = own_pieces pages k page (all_back FitsPart p.pieces (pieces_on pages) all) is

-- the record of a piece
record NamesRecord (version count : ℕ) (first : ℕ) (trace : TraceId) : Type 0 where
  pub below : first < count
  pub digits : HasDigits version trace

found : (version : ℕ) (records : List Record) (n : ℕ) (trace : TraceId) → AllByRecursion (FitsRecord version) records → option_map (λ (r : Record). r.trace) (slice_get records n) ≡ Some trace
    → NamesRecord version (length records) n trace
found version [] n trace all is = absurd cc
found version (r ∷ records) zero trace all is =
    let same : r.trace ≡ trace = cc in
    record { below = omega arith; digits = subst (HasDigits version) same all.0.digits }
found version (r ∷ records) (suc n) trace all is =
    let later = found version records n trace all.1 is in
    record { below = omega (arith, later.below); digits = later.digits }

carried : (version : ℕ) (records : List Record) (trace : TraceId) (pieces : List Piece) → AllByRecursion (FitsRecord version) records → CarriesRecords (traces_of records) (record { trace = trace; pieces = pieces })
    → NamesRecord version (length records) (first_record (record { trace = trace; pieces = pieces })) trace
carried version records trace [] all carries = absurd (omega (arith, carries.some))
carried version records trace (piece ∷ pieces) all carries = found version records piece.number trace all carries.traced.0

wide : (version n : ℕ) → n < 16 ^ trace_digits version → n < 2 ^ 128
wide version n lt = wide_cases (eqb version 1) n lt
  where
    wide_cases : (b : Bool) (n : ℕ) → n < 16 ^ cond b 16 32 → n < 2 ^ 128
    wide_cases true n lt = omega arith
    wide_cases false n lt = omega arith

-- what the pages of a client need
pub record ClientFits (W : PlainWorkload) (ops : List Operation) : Type 0 where
  pub client : IsClient W.version W.settings ops
  pub few : client_pieces W.settings.size ops ≤ MAX_OPERATIONS

pub client_fits : (W : PlainWorkload) (place : ℕ) → IsValid W → ClientFits W (operations_at W place)
client_fits W place valid =
    record { client = client_at_place W.version W.settings W.clients place valid.each; few = omega (arith, pieces_at_place W.settings.size W.clients place, valid.few) }

-- ---- a page

-- what lower crates say of the pages of a client
pub record PagesAreMade : Type 0 where
  pub carry : PagesCarry
  pub hold : PagesHoldThePieces
  pub counted : PiecesCounted
  pub join : PiecesJoin
  pub fit : PagesFit
  pub timed : TimedPagesAreThePages

abbrev FitsWithin : ℕ → PlainPage → Type 0
FitsWithin size page = (client : ClientId) (number : ℕ) → used_of (sheet_for client number page) ≤ size

fits_piece : (p : Piece) → FitsPart p → FitsPiece (written p)
fits_piece p fits = record { moment = fits.moment; len = omega (arith, fits.long); payload = fits.bytes }

pub clients_page_fits : PagesAreMade → (W : PlainWorkload) → IsValid W → (sheet : Sheet) → IsClientsPage W sheet → IsPage sheet
clients_page_fits made W valid sheet of =
    let client = sheet.header.client in
    let k = sheet.header.page in
    let size = W.settings.size in
    let ops = operations_at W (place_of W.settings.clients client.node client.number) in
    let fits = client_fits W (place_of W.settings.clients client.node client.number) valid in
    let least : MIN_SIZE ≤ size = (valid.head settings.Size).0 in
    let most : size ≤ MAX_SIZE = (valid.head settings.Size).1 in
    let records = records_of ops in
    let pages = pages_of size ops in
    let all = records_fit W.version W.settings ops fits.client.words in
    let carry = made.carry size ops least fits.client.bracketed in
    let own : CarriesRecords (traces_of records) of.page = all_at (CarriesRecords (traces_of records)) pages k of.page carry.each of.there in
    let named = carried W.version records of.page.trace of.page.pieces all own in
    let hold = made.hold size ops least fits.client.bracketed in
    let parts = own_pieces pages k of.page (subst (AllByRecursion FitsPart) (sym hold) (pieces_fit made.join W.version size 0 records all)) of.there in
    let within : AllByRecursion (FitsWithin size) pages =
    subst (AllByRecursion (FitsWithin size)) (made.timed size ops fits.client.bracketed)
    (all_along (FitsWithin size) (λ (t : TimedPage). FitsWithin size t.page) (λ (t : TimedPage). t.page) (λ t f. f) (timed_pages size ops) (made.fit size ops least)) in
    let used = all_at (FitsWithin size) pages k of.page within of.there client k in
    let few = few_pages made.carry made.hold made.counted size ops least fits.client.bracketed in
    subst IsPage (sym of.is) (
    record {
      header = record {
        trace = wide W.version of.page.trace.0 named.digits;
        node = omega (arith, of.node, (valid.head settings.Nodes).1);
        client = omega (arith, of.number, (valid.head settings.Clients).1);
        page = omega (arith, slice_get_within pages k of.page of.there, few, fits.few);
        first = omega (arith, named.below, few_records size ops, fits.few);
      };
      pieces = all_along FitsPiece FitsPart written fits_piece of.page.pieces parts;
      used = omega (arith, used, most);
      some = omega (arith, own.some, length-map of.page.pieces written);
    })

each_fits : PagesAreMade → (W : PlainWorkload) → IsValid W → (sheets : List Sheet) → AllByRecursion (IsClientsPage W) sheets → AllByRecursion IsPage sheets
each_fits made W valid [] all = tt
each_fits made W valid (sheet ∷ sheets) all = (clients_page_fits made W valid sheet all.0, each_fits made W valid sheets all.1)

pub reported_fit : PagesAreMade → ReportedPagesAreOfClients → ReportedPagesArePages
reported_fit made of W J valid = each_fits made W valid (outcome_of W J).reported (of W J (ends_its_traces W valid))

-- ---- the journal

pub few_pages_each : PagesCarry → PagesHoldThePieces → PiecesCounted → (version : ℕ) (set : PlainSettings) (size : ℕ) (clients : List (List Operation)) → MIN_SIZE ≤ size → AllByRecursion (IsClient version set) clients
    → workload_pieces size clients ≤ MAX_OPERATIONS → AllByRecursion (λ (ops : List Operation). length (pages_of size ops) ≤ 2 ^ 32) clients
few_pages_each carry hold counted version set size [] least all few = tt
few_pages_each carry hold counted version set size (ops ∷ clients) least all few =
    (omega (arith, few_pages carry hold counted size ops least all.0.bracketed, few), few_pages_each carry hold counted version set size clients least all.1 (omega (arith, few)))
