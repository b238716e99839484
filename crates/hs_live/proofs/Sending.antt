-- What was sent, from the steps of the core.
use Rattle.std.proofs.Common.{◌≡◌, ℕ, ◌+◌, Bool, true, false, List, [], ◌∷◌, ◌++◌, map, reverse, Option, Some, None, refl, sym, ap, ap₂, ◌∙◌, append_assoc}
use Rattle.hs_live.proofs.Prelude.{append-nil, map-append, is_some, option_to_list, ClientId, TraceId, Operation, Begin, Point, End, Fire, Sample, segments_of, PoolEvent, Got, Empty, Answer, Buffer, Core, CoreStep, handed, AreSteps, IsBook, after, segments_of_steps, with_all, sent, Leased, PlainClient, Made, new_of, noted, buffer_got, buffers_by, HasDone}
use Rattle.std.specs.List.{flat_map}
use Rattle.hs_records.specs.declared.journal.Draw.{Draw}
use Rattle.hs_records.specs.Plain as plain
use Rattle.hs_records.specs.Records.{AreBracketed}
use Rattle.hs_records.specs.Pages.{PlainPage, segment_pages, pages_of}
use Rattle.hs_records.proofs.Payloads.{nothing_comes}
use Rattle.hs_words.specs.Pages.{Sheet}
use Rattle.hs_words.specs.PoolHistory.{Given, Missed}
use Rattle.hs_client.specs.Core.{all_pages}
use Rattle.hs_client.specs.Calls.{handed_out, open_trace, pages_of_steps, filled_chunks, sheet_for, note_of}
use Rattle.hs_client.specs.Timing.{TimedPage, timed_pages}
use Rattle.hs_client.specs.Drawn.{drawn_from, drawn_pages, has_buffer}
use Rattle.hs_client.specs.Sending.{Sent, sent_chunks}
use Rattle.hs_client.specs.Laws.{TimedPagesAreThePages}
use Rattle.hs_client.specs.OneMore.{open_after, items_of}
use Rattle.hs_live.specs.Writing.{draws_by}
use Rattle.hs_live.specs.Done.{HasSent, HasSentAll}

pub has_sent : (made : Made) (ops : List Operation) (client : PlainClient) (h : HasDone made ops client) → ((steps : List (CoreStep Leased)) → AreSteps (new_of made) steps → IsBook (new_of made) steps) → HasSent made ops client
has_sent made ops client h books =
    let is = h.writes [] in
    let s = is.comes in
    let steps = is.steps in
    let book = books steps s.may in
    let core = after (new_of made) steps in
    let segments : reverse (segments_of_steps steps) ≡ segments_of made.size ops =
    sym (append-nil (reverse (segments_of_steps steps))) ∙ ap (λ pieces. reverse (with_all pieces (segments_of_steps steps)) ++ []) (sym (nothing_comes made.size client.core.number client.core.trace))
    ∙ is.gives ∙ ap (segments_of made.size) (append-nil ops) in
    let pages : pages_of_steps made.size steps ≡ pages_of made.size ops = ap (flat_map (segment_pages made.size)) segments in
    record {
      answers = s.answers;
      since = s.since;
      draws = ap (λ (c : Core Leased). c.draws) s.core ∙ book.draws ∙ s.draws;
      pages = ap (λ (c : Core Leased). all_pages c) s.core ∙ book.pages ∙ ap (map note_of) pages;
      chunks =
          ap₂ (λ (l : List (Buffer Leased)) (c : Core Leased). l ++ option_to_list (handed c)) s.chunks s.core
          ∙ append_assoc made.before (handed_out (new_of made) steps) (option_to_list (handed core))
          ∙ ap (λ (l : List (Buffer Leased)). made.before ++ l) (book.chunks ∙ ap₂ (λ (p : List PlainPage) (b : List (Option (Buffer Leased))). filled_chunks made.client 0 p b) pages s.buffers);
      closed = λ none.
          let open_none : open_trace steps ≡ None = sym book.trace ∙ ap (λ (c : Core Leased). c.trace) (sym s.core) ∙ h.trace ∙ none in
          ap (λ (c : Core Leased). c.current) s.core ∙ book.closed open_none;
      crumbs = h.crumbs;
      triggers = h.triggers;
    }

-- ---- all traces ended

closes : (trace : Option TraceId) (is_open : Bool) (ops : List Operation) → is_open ≡ is_some trace → AreBracketed is_open ops → open_after trace ops ≡ None
closes None b [] same h = refl
closes (Some trace) b [] same h = let no_trace : false ≡ true = sym h ∙ same in absurd cc
closes trace b (Begin next ∷ ops) same h = closes (Some next) true ops refl h.1
closes trace b (End ∷ ops) same h = closes None false ops refl h.1
closes trace b (Point moment payload ∷ ops) same h = closes trace b ops same h.1
closes trace b (plain.Crumb node ∷ ops) same h = closes trace b ops same h.1
closes trace b (Fire trigger ∷ ops) same h = closes trace b ops same h
closes trace b (Sample moment auto value ∷ ops) same h = closes trace b ops same h.1

-- where a draw is noted with a buffer, one was got
abbrev Agree : List (Option (Buffer Leased)) → List Draw → Type 0
Agree [] [] = Unit {0}
Agree [] (draw ∷ draws) = ⊥
Agree (buffer ∷ buffers) [] = ⊥
Agree (buffer ∷ buffers) (draw ∷ draws) = (has_buffer draw ≡ is_some buffer) × Agree buffers draws

one_agrees : (pool : _) (size mark stamp : ℕ) (event : PoolEvent) → has_buffer (noted stamp event) ≡ is_some (buffer_got pool size mark stamp event)
one_agrees pool size mark stamp (Got buffer) = refl
one_agrees pool size mark stamp Empty = refl
one_agrees pool size mark stamp (Given buffer) = refl
one_agrees pool size mark stamp Missed = refl

more_agree : (buffers : List (Option (Buffer Leased))) (draws : List Draw) (buffer : Option (Buffer Leased)) (draw : Draw) → Agree buffers draws → has_buffer draw ≡ is_some buffer → Agree (buffers ++ buffer ∷ []) (draws ++ draw ∷ [])
more_agree [] [] buffer draw h one = (one, tt)
more_agree [] (d ∷ draws) buffer draw h one = absurd h
more_agree (b ∷ buffers) [] buffer draw h one = absurd h
more_agree (b ∷ buffers) (d ∷ draws) buffer draw h one = (h.0, more_agree buffers draws buffer draw h.1 one)

answers_agree : (pool : _) (size mark : ℕ) (answers : List Answer) → Agree (buffers_by pool size mark answers) (draws_by answers)
answers_agree pool size mark [] = tt
answers_agree pool size mark (answer ∷ earlier) =
    more_agree (buffers_by pool size mark earlier) (draws_by earlier) (buffer_got pool size mark answer.stamp answer.event) (noted answer.stamp answer.event) (answers_agree pool size mark earlier)
    (one_agrees pool size mark answer.stamp answer.event)

abbrev page_in : TimedPage → PlainPage
page_in p = p.page

abbrev sheets : List (Buffer Leased) → List (Option Sheet)
sheets buffers = map (λ (buffer : Buffer Leased). buffer.chunk.page) buffers

abbrev some_sheets : List (Sent Sheet) → List (Option Sheet)
some_sheets items = map (λ (sheet : Sheet). Some sheet) (items_of items)

sheets_of : (client : ClientId) (number : ℕ) (timed : List TimedPage) (buffers : List (Option (Buffer Leased))) (draws : List Draw) → Agree buffers draws
    → sheets (filled_chunks client number (map page_in timed) buffers) ≡ some_sheets (sent_chunks (drawn_from client number timed draws))
sheets_of client number [] buffers draws h = refl
sheets_of client number (t ∷ timed) [] [] h = refl
sheets_of client number (t ∷ timed) [] (d ∷ draws) h = absurd h
sheets_of client number (t ∷ timed) (b ∷ buffers) [] h = absurd h
sheets_of client number (t ∷ timed) (None ∷ buffers) (d ∷ draws) h = rw h.0 (sheets_of client (number + 1) timed buffers draws h.1)
sheets_of client number (t ∷ timed) (Some b ∷ buffers) (d ∷ draws) h = rw h.0 (ap (λ (l : List (Option Sheet)). Some (sheet_for client number t.page) ∷ l) (sheets_of client (number + 1) timed buffers draws h.1))

pub has_sent_all : (made : Made) (ops : List Operation) (client : PlainClient) → HasSent made ops client → TimedPagesAreThePages → AreBracketed false ops → HasSentAll made ops client
has_sent_all made ops client s timed bracketed =
    let none = s.closed (closes None false ops refl bracketed) in
    let nothing : option_to_list (handed client.core) ≡ [] = ap (λ (current : Option _). option_to_list (Rattle.std.specs.Option.option_and_then (λ c. c.buffer) current)) none in
    let buffers = buffers_by client.drawer.pool client.drawer.size made.renewed s.answers in
    let chunks : sent client.chunks ≡ made.before ++ filled_chunks made.client 0 (pages_of made.size ops) buffers = sym (append-nil (sent client.chunks)) ∙ ap (λ l. sent client.chunks ++ l) (sym nothing) ∙ s.chunks in
    let pages : pages_of made.size ops ≡ map page_in (timed_pages made.size ops) = sym (timed made.size ops bracketed) in
    record {
      sheets =
          ap sheets chunks ∙ map-append (λ (buffer : Buffer Leased). buffer.chunk.page) made.before (filled_chunks made.client 0 (pages_of made.size ops) buffers)
          ∙ ap (λ (l : List (Option Sheet)). sheets made.before ++ l)
          (ap (λ (p : List PlainPage). sheets (filled_chunks made.client 0 p buffers)) pages
          ∙ sheets_of made.client 0 (timed_pages made.size ops) buffers (draws_by s.answers) (answers_agree client.drawer.pool client.drawer.size made.renewed s.answers)
          ∙ ap (λ (draws : List Draw). some_sheets (sent_chunks (drawn_pages made.size made.client ops draws))) (sym s.draws));
      crumbs = s.crumbs;
      triggers = s.triggers;
    }
