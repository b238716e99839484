-- What a client sent, from the steps of its client's core.
use Rattle.std.proofs.Common.{◌≡◌, ℕ, suc, ◌+◌, ◌≤◌, true, false, List, [], ◌∷◌, ◌++◌, length, map, take, drop, reverse, Option, Some, None, refl, sym, ap, ap₂, ◌∙◌, subst, arith}
use Rattle.hs_run_actors.proofs.Prelude.{append-nil, take-append-drop, is_some, slice_get, AllByRecursion, ClientId, Core, new_core, sent, PlainClient, Made, HasDone, HasSent, IsPlayable, Operation, PlainSettings, pages_of, Leased, Buffer, Answer, PoolName, client_pieces, PlainClientActor, ClientActorIsAt, made_for}
use Rattle.std.proofs.lemmas.List.{length-take-le}
use Rattle.hs_base.proofs.Alls.{all_front}
use Rattle.hs_client.specs.Core.{CoreStep}
use Rattle.hs_client.specs.Calls.{AreSteps, IsBook, after, draws_supplied, filled_chunks, segments_of_steps, sheet_for, with_all}
use Rattle.hs_records.specs.declared.journal.Draw.{Draw}
use Rattle.hs_records.specs.declared.journal.Draw.TheVariants as noted
use Rattle.hs_live.specs.Writing.{new_of, noted as noted_as, buffer_got, buffers_by, draws_by}
use Rattle.hs_records.specs.Pages.{PlainPage}
use Rattle.hs_records.specs.Records.{segments_of}
use Rattle.hs_records.proofs.Payloads.{nothing_comes}
use Rattle.hs_client.specs.Draws.{count_started}
use Rattle.hs_client.specs.HandedOut.{CoresHandOutSoFar, sheets_of_items}
use Rattle.hs_client.specs.OneMore.{items_of}
use Rattle.hs_client.specs.Sending.{Sent, sends_of, sent_within, sent_chunks}
use Rattle.hs_client.specs.Drawn.{drawn_pages}
use Rattle.hs_client.specs.SoFar.{has_open_page, FirstCrumbsAreSent, FirstTriggersAreSent, FirstOperationsSend, AllChunksAreSent, AllCrumbsAreSent, AllTriggersAreSent}
use Rattle.hs_words.specs.Pages.{Sheet}
use Rattle.hs_words.specs.PoolHistory.{PoolEvent, Got, Empty, Given, Missed}
use Rattle.hs_run_actors.specs.Standing.{IsLeasedTo, HasSentSoFar, HasSentAll, sheets_in}

-- what is known of cores and of clients
pub record Laws : Type 0 where
  pub books : (client : ClientId) (size calls : ℕ) (steps : List (CoreStep Leased)) → AreSteps (new_core client size calls) steps → IsBook (new_core client size calls) steps
  pub sent_is : (made : Made) (ops : List Operation) (client : PlainClient) → HasDone made ops client → HasSent made ops client
  pub handed : CoresHandOutSoFar Leased
  pub crumbs : FirstCrumbsAreSent
  pub triggers : FirstTriggersAreSent

-- the segments that the steps gave are those of the operations
recorded : (made : Made) (ops : List Operation) (client : PlainClient) (h : HasDone made ops client) → reverse (segments_of_steps (h.writes []).steps) ≡ segments_of made.size ops
recorded made ops client h =
    let is = h.writes [] in
    let segments = segments_of_steps is.steps in
    sym (append-nil (reverse segments)) ∙ ap (λ pieces. reverse (with_all pieces segments) ++ []) (sym (nothing_comes made.size client.core.number client.core.trace)) ∙ is.gives ∙ ap (segments_of made.size) (append-nil ops)

-- the same sheets, told in two ways
same_sheets : (items : List (Sent Sheet)) → sheets_of_items items ≡ sheets_in items
same_sheets [] = refl
same_sheets (item ∷ items) = ap (λ (l : List (Option Sheet)). Some item.item ∷ l) (same_sheets items)

-- ---- the buffers and their draws

-- Where a buffer was got, its number and its lease are those of the draw.
abbrev Agree : List (Option (Buffer Leased)) → List Draw → Type 0
Agree [] [] = Unit {0}
Agree [] (draw ∷ draws) = ⊥
Agree (buffer ∷ buffers) [] = ⊥
Agree (None ∷ buffers) (draw ∷ draws) = Agree buffers draws
Agree (Some b ∷ buffers) (draw ∷ draws) = (draw ≡ noted.Got b.chunk.number b.lease.draw) × Agree buffers draws

one_agrees : (pool : PoolName) (size stamp : ℕ) (event : PoolEvent) → Agree (buffer_got pool size 0 stamp event ∷ []) (noted_as stamp event ∷ [])
one_agrees pool size stamp (Got buffer) = (refl, tt)
one_agrees pool size stamp Empty = tt
one_agrees pool size stamp (Given buffer) = tt
one_agrees pool size stamp Missed = tt

more_agree : (buffers more : List (Option (Buffer Leased))) (draws others : List Draw) → Agree buffers draws → Agree more others → Agree (buffers ++ more) (draws ++ others)
more_agree [] more [] others h k = k
more_agree [] more (d ∷ draws) others h k = absurd h
more_agree (b ∷ buffers) more [] others h k = absurd h
more_agree (None ∷ buffers) more (d ∷ draws) others h k = more_agree buffers more draws others h k
more_agree (Some b ∷ buffers) more (d ∷ draws) others h k = (h.0, more_agree buffers more draws others h.1 k)

answers_agree : (pool : PoolName) (size : ℕ) (answers : List Answer) → Agree (buffers_by pool size 0 answers) (draws_by answers)
answers_agree pool size [] = tt
answers_agree pool size (answer ∷ earlier) =
    more_agree (buffers_by pool size 0 earlier) (buffer_got pool size 0 answer.stamp answer.event ∷ []) (draws_by earlier) (noted_as answer.stamp answer.event ∷ []) (answers_agree pool size earlier)
    (one_agrees pool size answer.stamp answer.event)

-- so many draws stand before the others
abbrev StandBehind : ℕ → List Draw → List Draw → Type 0
StandBehind number draws all = (place : ℕ) → slice_get all (number + place) ≡ slice_get draws place

next_behind : (number : ℕ) (draw : Draw) (draws all : List Draw) → StandBehind number (draw ∷ draws) all → StandBehind (number + 1) draws all
next_behind number draw draws all behind = λ place. let same : (number + 1) + place ≡ number + suc place = omega arith in ap (slice_get all) same ∙ behind (suc place)

first_behind : (number : ℕ) (draw : Draw) (draws all : List Draw) → StandBehind number (draw ∷ draws) all → slice_get all number ≡ Some draw
first_behind number draw draws all behind = let same : number ≡ number + 0 = omega arith in ap (slice_get all) same ∙ behind 0

filled_leased : (id : ClientId) (number : ℕ) (pages : List PlainPage) (buffers : List (Option (Buffer Leased))) (draws all : List Draw) → Agree buffers draws → StandBehind number draws all
    → AllByRecursion (IsLeasedTo id all) (filled_chunks id number pages buffers)
filled_leased id number [] buffers draws all agree behind = tt
filled_leased id number (p ∷ pages) [] draws all agree behind = tt
filled_leased id number (p ∷ pages) (b ∷ buffers) [] all agree behind = absurd agree
filled_leased id number (p ∷ pages) (None ∷ buffers) (d ∷ draws) all agree behind = filled_leased id (number + 1) pages buffers draws all agree (next_behind number d draws all behind)
filled_leased id number (p ∷ pages) (Some b ∷ buffers) (d ∷ draws) all agree behind = (
  record { sheet = sheet_for id number p; page = refl; owner = refl; draw = first_behind number d draws all behind ∙ ap (λ (draw : Draw). Some draw) agree.0 },
  filled_leased id (number + 1) pages buffers draws all agree.1 (next_behind number d draws all behind),
)

leased : (id : ClientId) (pages : List PlainPage) (client : PlainClient) (answers : List Answer) (chunks rest : List (Buffer Leased)) → client.core.draws ≡ draws_by answers
    → chunks ++ rest ≡ filled_chunks id 0 pages (buffers_by client.drawer.pool client.drawer.size 0 answers) → AllByRecursion (IsLeasedTo id client.core.draws) chunks
leased id pages client answers chunks rest draws is =
    let buffers = buffers_by client.drawer.pool client.drawer.size 0 answers in
    let all = filled_leased id 0 pages buffers (draws_by answers) (draws_by answers) (answers_agree client.drawer.pool client.drawer.size answers) (λ place. let same : 0 + place ≡ place = omega arith in ap (slice_get (draws_by answers)) same) in
    subst (λ (l : List Draw). AllByRecursion (IsLeasedTo id l) chunks) (sym draws)
    (all_front (IsLeasedTo id (draws_by answers)) chunks rest (subst (λ (l : List (Buffer Leased)). AllByRecursion (IsLeasedTo id (draws_by answers)) l) (sym is) all))

abbrev calling : ℕ → PlainClient → PlainClientActor
calling place client = record { done = place; client = client }

so_far_of : Laws → (settings : PlainSettings) (id : ClientId) (front rest : List Operation) (calls : ℕ) (client : PlainClient) → IsPlayable settings (front ++ rest)
    → HasDone (record { client = id; size = settings.size; calls = calls; autos = settings.autos; answers = []; keeps = true; renewed = 0; earlier = []; before = [] }) front client
    → length (sent client.triggers) ≤ client_pieces settings.size (front ++ rest) → HasSentSoFar settings id (front ++ rest) (calling (length front) client)
so_far_of laws settings id front rest calls client playable h few =
    let made : Made = record { client = id; size = settings.size; calls = calls; autos = settings.autos; answers = []; keeps = true; renewed = 0; earlier = []; before = [] } in
    let size = settings.size in
    let ops = front ++ rest in
    let n = length front in
    let s = (h.writes []).comes in
    let steps = (h.writes []).steps in
    let book = laws.books id size calls steps s.may in
    let has = laws.sent_is made front client h in
    let page : is_some (after (new_of made) steps).current ≡ has_open_page false front = ap (λ (c : Core Leased). is_some c.current) (sym s.core) ∙ h.page in
    let out = laws.handed id size calls front rest steps playable.least playable.client.bracketed (record { may = s.may; segments = recorded made front client h; page = page }) in
    let draws : client.core.draws ≡ draws_supplied steps = ap (λ (c : Core Leased). c.draws) s.core ∙ book.draws in
    record {
      draws = has.draws ∙ ap draws_by (sym (has.since ∙ append-nil has.answers));
      each = ap length draws ∙ out.drawn;
      chunks = λ more.
          ap (map (λ chunk. chunk.chunk.page)) s.chunks ∙ out.sheets more
          ∙ ap (λ (l : List Draw). sheets_of_items (sent_within n (sent_chunks (drawn_pages size id ops (l ++ more))))) (sym draws)
          ∙ same_sheets (sent_within n (sent_chunks (drawn_pages size id ops (client.core.draws ++ more))));
      leases = leased id (pages_of size front) client has.answers (sent client.chunks) (Rattle.std.specs.Option.option_to_list (Rattle.hs_client.specs.Core.handed client.core)) has.draws has.chunks;
      crumbs = h.crumbs ∙ ap items_of (sym (laws.crumbs front rest));
      triggers = h.triggers ∙ ap items_of (sym (laws.triggers settings.autos front rest));
      few = few;
    }

pub so_far : Laws → (settings : PlainSettings) (id : ClientId) (ops : List Operation) (caller : PlainClientActor) → ClientActorIsAt settings id ops caller → HasSentSoFar settings id ops caller
so_far laws settings id ops caller a =
    let done = caller.done in
    let whole : take done ops ++ drop done ops ≡ ops = take-append-drop done ops in
    let count : length (take done ops) ≡ done = length-take-le done ops a.within in
    let few : length (sent caller.client.triggers) ≤ client_pieces settings.size ops = omega (arith, a.enough.triggers, a.few) in
    let is = so_far_of laws settings id (take done ops) (drop done ops) (made_for settings id ops).calls caller.client (subst (λ (l : List Operation). IsPlayable settings l) (sym whole) a.playable) a.inside
    (subst (λ (l : List Operation). length (sent caller.client.triggers) ≤ client_pieces settings.size l) (sym whole) few) in
    subst (λ (n : ℕ). HasSentSoFar settings id ops (calling n caller.client)) count (subst (λ (l : List Operation). HasSentSoFar settings id l (calling (length (take done ops)) caller.client)) whole is)

-- ---- all operations

pub record AllLaws : Type 0 where
  pub started : FirstOperationsSend
  pub chunks : AllChunksAreSent
  pub crumbs : AllCrumbsAreSent
  pub triggers : AllTriggersAreSent

pub in_all : AllLaws → (settings : PlainSettings) (id : ClientId) (ops : List Operation) (caller : PlainClientActor) → ClientActorIsAt settings id ops caller → HasSentSoFar settings id ops caller → caller.done ≡ length ops → HasSentAll settings id ops caller
in_all laws settings id ops caller a far done =
    let size = settings.size in
    let draws = caller.client.core.draws in
    let sends = sends_of settings id ops draws in
    let bracketed = a.playable.client.bracketed in
    let whole : ops ++ [] ≡ ops = append-nil ops in
    let started = laws.started size ops [] a.playable.least (subst (λ (l : List Operation). Rattle.hs_records.specs.Records.AreBracketed false l) (sym whole) bracketed) in
    record {
      each = far.each ∙ ap (count_started size ops) done ∙ ap (λ (l : List Operation). count_started size l (length ops)) (sym whole) ∙ started.started;
      chunks =
          far.chunks [] ∙ ap₂ (λ n (l : List Draw). sheets_in (sent_within n (sends_of settings id ops l).chunks)) done (append-nil draws)
          ∙ ap sheets_in (laws.chunks size id ops draws a.playable.least bracketed);
      crumbs = far.crumbs ∙ ap (λ n. items_of (sent_within n sends.crumbs)) done ∙ ap items_of (laws.crumbs ops);
      triggers = far.triggers ∙ ap (λ n. items_of (sent_within n sends.triggers)) done ∙ ap items_of (laws.triggers settings.autos ops);
    }
