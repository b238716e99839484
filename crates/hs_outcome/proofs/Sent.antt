-- Pages and their bytes, one beside another, and what is read of one page more.
use Rattle.std.proofs.Common.{◌≡◌, ◌==◌, ℕ, zero, suc, ◌+◌, ◌<◌, ◌≤◌, Bool, true, false, cond, List, [], ◌∷◌, ◌++◌, length, get_or, take, drop, map, Some, slice_get, sym, ap, ◌∙◌, refl, append-nil, arith}
use Rattle.hs_outcome.proofs.Prelude.{AllByRecursion, list_any, map-append, take_more, take-append-drop, take_all, length-map, flat_map-append, TraceId, Sheets, AgentBook, Sheet, IsPage, page_bytes, Spells, Reported, Traces, Note, SpellAll, AreRead, note_of, noted, with_trace, sent_by, all_sent}
use Rattle.hs_outcome.specs.Pages.{JoinsAs}
use Rattle.hs_outcome.proofs.Seen.{seen_more}

-- the page beside an element
pub record Beside {X : Type 0} (f : X → List ℕ) (sheets : Sheets) (k : ℕ) (x : X) : Type 0 where
  pub sheet : Sheet
  pub next : take (suc k) sheets ≡ take k sheets ++ sheet ∷ []
  pub spells : Spells sheet (f x)

pub sheet_at : {X : Type 0} (f : X → List ℕ) (k : ℕ) (sheets : Sheets) (xs : List X) (x : X) → AllByRecursion IsPage sheets → map f xs ≡ map page_bytes sheets → k < length xs → x ≡ get_or xs k x → Beside f sheets k x
sheet_at f k sheets [] x valid are lt is = absurd (omega arith)
sheet_at f k [] (y ∷ xs) x valid are lt is = absurd cc
sheet_at f zero (s ∷ sheets) (y ∷ xs) x valid are lt is =
    let first : f y ≡ page_bytes s = cc in
    record { sheet = s; next = refl; spells = record { valid = valid.0; bytes_are = ap f is ∙ first } }
sheet_at f (suc k) (s ∷ sheets) (y ∷ xs) x valid are lt is =
    let rest : map f xs ≡ map page_bytes sheets = cc in
    let later = sheet_at f k sheets xs x valid.1 rest (omega arith) is in
    record { sheet = later.sheet; next = ap (λ t. s ∷ t) later.next; spells = later.spells }

pub all_beside : {X : Type 0} (f : X → List ℕ) (k : ℕ) (sheets : Sheets) (xs : List X) → map f xs ≡ map page_bytes sheets → length xs ≤ k → take k sheets ≡ sheets
all_beside f k sheets xs are le = take_all k sheets (omega (arith, ap length are, length-map xs f, length-map sheets page_bytes))

-- ---- one page more

-- a trace keeps its place where another joins
place_kept : (traces : Traces) (trace : TraceId) (there : Bool) (k : ℕ) (seen : TraceId) → slice_get traces k ≡ Some seen → slice_get (cond there traces (traces ++ trace ∷ [])) k ≡ Some seen
place_kept traces trace true k seen at = at
place_kept [] trace false k seen at = absurd cc
place_kept (first ∷ traces) trace false zero seen at = at
place_kept (first ∷ traces) trace false (suc k) seen at = place_kept traces trace false k seen at

same_note : (traces before : Traces) (page : Reported) (sheet : Sheet) → slice_get traces page.seen ≡ Some sheet.header.trace → noted before page ≡ note_of sheet → noted traces page ≡ note_of sheet
same_note traces before page sheet at note =
    ap (λ t. record { trace = t; client = page.client; bytes = page.bytes.now }) at ∙ ap (λ (n : Note). record { trace = Some sheet.header.trace; client = n.client; bytes = n.bytes }) note

-- so the notes of pages stay the same
notes_kept : (traces : Traces) (trace : TraceId) (pages : List Reported) (sheets : Sheets) → map (noted traces) pages ≡ map note_of sheets → map (noted (with_trace traces trace)) pages ≡ map note_of sheets
notes_kept traces trace [] [] notes = refl
notes_kept traces trace [] (sheet ∷ sheets) notes = absurd cc
notes_kept traces trace (page ∷ pages) [] notes = absurd cc
notes_kept traces trace (page ∷ pages) (sheet ∷ sheets) notes =
    let first : noted traces page ≡ note_of sheet = cc in
    let rest : map (noted traces) pages ≡ map note_of sheets = cc in
    let kept = place_kept traces trace (list_any (λ other. trace.0 == other.0) traces) page.seen sheet.header.trace (ap (λ (n : Note). n.trace) first) in
    let same : noted (with_trace traces trace) page ≡ note_of sheet = same_note (with_trace traces trace) traces page sheet kept first in
    let later = notes_kept traces trace pages sheets rest in
    cc

pub read_more : (sheets : Sheets) (sheet : Sheet) (old new : Traces) (olds news : List Reported) (page : Reported) → AreRead sheets old olds → JoinsAs sheet old new page → news ≡ olds ++ page ∷ []
    → AreRead (sheets ++ sheet ∷ []) new news
read_more sheets sheet old new olds news page read joins pushed =
    record {
      seen = joins.traces ∙ ap (λ traces. with_trace traces sheet.header.trace) read.seen ∙ sym (seen_more sheets sheet);
      notes =
          ap (map (noted new)) pushed ∙ map-append (noted new) olds (page ∷ []) ∙ ap (λ t. t ++ noted new page ∷ []) (ap (λ traces. map (noted traces) olds) joins.traces ∙ notes_kept old sheet.header.trace olds sheets read.notes)
          ∙ ap (λ n. map note_of sheets ++ n ∷ []) joins.note ∙ sym (map-append note_of sheets (sheet ∷ []));
    }

-- no bytes are those of no page
pub none_sent : (sheets : Sheets) → SpellAll sheets [] → sheets ≡ []
none_sent [] all = refl
none_sent (sheet ∷ sheets) all = let e : [] ≡ page_bytes sheet ∷ map page_bytes sheets = all.are in absurd cc

pub none_read : (traces : Traces) (pages : List Reported) → traces ≡ [] → pages ≡ [] → AreRead [] traces pages
none_read traces pages none empty = record { seen = none; notes = ap (map (noted traces)) empty }

-- ---- parts

-- the pages of two lists of bytes behind each other
pub record Parts (a b : List (List ℕ)) (sheets : Sheets) : Type 0 where
  pub front : Sheets
  pub back : Sheets
  pub both : sheets ≡ front ++ back
  pub first : SpellAll front a
  pub second : SpellAll back b

pub split : (a b : List (List ℕ)) (sheets : Sheets) → SpellAll sheets (a ++ b) → Parts a b sheets
split [] b sheets all = record { front = []; back = sheets; both = refl; first = record { valid = tt; are = refl }; second = all }
split (x ∷ a) b [] all = let e : x ∷ (a ++ b) ≡ [] = all.are in absurd cc
split (x ∷ a) b (s ∷ sheets) all =
    let e : x ∷ (a ++ b) ≡ page_bytes s ∷ map page_bytes sheets = all.are in
    let head : x ≡ page_bytes s = cc in
    let tail : a ++ b ≡ map page_bytes sheets = cc in
    let later = split a b sheets (record { valid = all.valid.1; are = tail }) in
    record {
      front = s ∷ later.front;
      back = later.back;
      both = ap (λ t. s ∷ t) later.both;
      first = record { valid = (all.valid.0, later.first.valid); are = ap (λ t. x ∷ t) later.first.are ∙ ap (λ t. t ∷ map page_bytes later.front) head };
      second = later.second;
    }

-- ---- the books of agents

sent_join : (xs ys : List AgentBook) → all_sent (xs ++ ys) ≡ all_sent xs ++ all_sent ys
sent_join xs ys = flat_map-append sent_by xs ys

pub sent_split : (agents : List AgentBook) (i : ℕ) → all_sent agents ≡ all_sent (take i agents) ++ all_sent (drop i agents)
sent_split agents i = ap all_sent (sym (take-append-drop i agents)) ∙ sent_join (take i agents) (drop i agents)

pub sent_more : (agents : List AgentBook) (i : ℕ) (book : AgentBook) → i < length agents → book ≡ get_or agents i book → all_sent (take (i + 1) agents) ≡ all_sent (take i agents) ++ sent_by book
sent_more agents i book lt is =
    ap all_sent (take_more agents i book lt) ∙ ap (λ b. all_sent (take i agents ++ b ∷ [])) (sym is) ∙ sent_join (take i agents) (book ∷ []) ∙ ap (λ t. all_sent (take i agents) ++ t) (append-nil (sent_by book))
