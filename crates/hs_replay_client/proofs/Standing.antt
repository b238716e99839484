-- What a client has done says where it is.
use Rattle.std.proofs.Common.{◌≡◌, ℕ, ◌≤◌, false, List, [], ◌++◌, length, map, take, drop, reverse, refl, sym, ap, ◌∙◌, subst, arith, length-append}
use Rattle.hs_replay_client.proofs.Prelude.{append-nil, take-append-drop, length-take-le, take_at, drop_at, is_some, flat_map, ClientId, Crumb, Trigger, Core, CoreStep, new_core, AreSteps, IsBook, after, draws_supplied, filled_chunks, segments_of_steps, with_all, Operation, PlainSettings, segments_of, count_started, items_of, Sent, sends_of, sent_within, has_open_page, pages_within, timed_pages, Working, PlainReplayClient, Made, new_of, buffer_got, Gone, HasDone, IsPlayable, ReplayClientIsAt, Waits, chunk_of, chunks_within, gone_of, made_for}
use Rattle.hs_records.proofs.Payloads.{nothing_comes}
use Rattle.hs_client.specs.Drawn.{drawn_pages}
use Rattle.hs_client.specs.Laws.{TimedPagesAreTimely}
use Rattle.hs_client.specs.Sending.{sent_crumbs, sent_triggers}
use Rattle.hs_client.specs.HandedOut.{CoresHandOutSoFar}
use Rattle.hs_client.specs.SoFar.{FirstCrumbsAreSent, FirstTriggersAreSent}
use Rattle.hs_replay_client.proofs.Fronts.{page_in, front_drawn, filled_are}

-- what is known of cores and of clients
pub record Laws : Type 0 where
  pub books : (client : ClientId) (size calls : ℕ) (steps : List (CoreStep (Unit {0}))) → AreSteps (new_core client size calls) steps → IsBook (new_core client size calls) steps
  pub timely : TimedPagesAreTimely
  pub handed : CoresHandOutSoFar (Unit {0})
  pub crumbs : FirstCrumbsAreSent
  pub triggers : FirstTriggersAreSent

-- the segments that the steps gave are those of the operations
pub recorded : (made : Made) (ops : List Operation) (gone : Gone) (works : Working) (h : HasDone made ops gone works) → reverse (segments_of_steps (h.writes []).steps) ≡ segments_of made.size ops
recorded made ops gone works h =
    let is = h.writes [] in
    let segments = segments_of_steps is.steps in
    sym (append-nil (reverse segments)) ∙ ap (λ pieces. reverse (with_all pieces segments) ++ []) (sym (nothing_comes made.size works.core.number works.core.trace)) ∙ is.gives ∙ ap (segments_of made.size) (append-nil ops)

-- ---- what was sent

-- what a client has done, where these operations are left
pub record IsSoFar (settings : PlainSettings) (client : ClientId) (ops : List Operation) (done : ℕ) (gone : Gone) (works : Working) : Type 0 where
  pub each : length works.core.draws ≡ count_started settings.size ops done
  pub chunks : gone.chunks ++ works.chunks ≡ chunks_within settings.size done (drawn_pages settings.size client ops works.core.draws)
  pub crumbs : gone.crumbs ++ works.crumbs ≡ items_of (sent_within done (sent_crumbs ops))
  pub triggers : gone.triggers ++ works.triggers ≡ items_of (sent_within done (sent_triggers settings.autos ops))

so_far_of : Laws → (settings : PlainSettings) (client : ClientId) (front rest : List Operation) (calls : ℕ) (gone : Gone) (works : Working)
    → IsPlayable settings (front ++ rest) → HasDone (record { client = client; size = settings.size; calls = calls; autos = settings.autos }) front gone works
    → IsSoFar settings client (front ++ rest) (length front) gone works
so_far_of laws settings client front rest calls gone works playable h =
    let made : Made = record { client = client; size = settings.size; calls = calls; autos = settings.autos } in
    let size = settings.size in
    let ops = front ++ rest in
    let n = length front in
    let s = (h.writes []).comes in
    let steps = (h.writes []).steps in
    let book = laws.books client size calls steps s.may in
    let page : is_some (after (new_of made) steps).current ≡ has_open_page false front = ap (λ (c : Core (Unit {0})). is_some c.current) (sym s.core) ∙ h.page in
    let out = laws.handed client size calls front rest steps playable.least playable.client.bracketed (record { may = s.may; segments = recorded made front gone works h; page = page }) in
    let draws : works.core.draws ≡ draws_supplied steps = ap (λ (c : Core (Unit {0})). c.draws) s.core ∙ book.draws in
    let first = pages_within n (timed_pages size ops) in
    let timely = laws.timely size ops playable.least playable.client.bracketed in
    let chunks : gone.chunks ++ works.chunks ≡ filled_chunks client 0 (map page_in first) (map (buffer_got size) works.core.draws) =
    s.chunks ∙ out.chunks ∙ ap (filled_chunks client 0 (map page_in first)) (s.buffers ∙ ap (map (buffer_got size)) (sym draws)) in
    record {
      each = ap length draws ∙ out.drawn;
      chunks = chunks ∙ filled_are size client 0 first works.core.draws ∙ ap (flat_map (chunk_of size)) (sym (front_drawn n client 0 0 (length ops) (timed_pages size ops) works.core.draws timely));
      crumbs = h.crumbs ∙ ap (λ (l : List (Sent Crumb)). items_of l) (sym (laws.crumbs front rest));
      triggers = h.triggers ∙ ap (λ (l : List (Sent Trigger)). items_of l) (sym (laws.triggers settings.autos front rest));
    }

pub so_far : Laws → (settings : PlainSettings) (client : ClientId) (ops : List Operation) (done : ℕ) (gone : Gone) (works : Working) → IsPlayable settings ops → done ≤ length ops
    → HasDone (made_for settings client ops) (take done ops) gone works → IsSoFar settings client ops done gone works
so_far laws settings client ops done gone works playable within h =
    let whole : take done ops ++ drop done ops ≡ ops = take-append-drop done ops in
    let count : length (take done ops) ≡ done = length-take-le done ops within in
    let is = so_far_of laws settings client (take done ops) (drop done ops) (made_for settings client ops).calls gone works (subst (λ (l : List Operation). IsPlayable settings l) (sym whole) playable) h in
    subst (λ (n : ℕ). IsSoFar settings client ops n gone works) count (subst (λ (l : List Operation). IsSoFar settings client l (length (take done ops)) gone works) whole is)

-- ---- where the client is

waits : {A : Type 0} (taken : ℕ) (gone waiting sent : List A) → gone ++ waiting ≡ sent → length gone ≡ taken → Waits taken sent waiting
waits taken gone waiting sent is long = (omega (arith, ap length is, length-append gone waiting, long), sym (drop_at gone waiting taken long) ∙ ap (drop taken) is)

fronts : {A : Type 0} (taken : ℕ) (gone waiting sent : List A) → gone ++ waiting ≡ sent → length gone ≡ taken → gone ≡ take taken sent
fronts taken gone waiting sent is long = sym (take_at gone waiting taken long) ∙ ap (take taken) is

-- how much was taken
pub record HasTaken (k l m : ℕ) (gone : Gone) : Type 0 where
  pub chunks : length gone.chunks ≡ k
  pub crumbs : length gone.crumbs ≡ l
  pub triggers : length gone.triggers ≡ m

pub is_at : Laws → (settings : PlainSettings) (client : ClientId) (ops : List Operation) (done k l m : ℕ) (gone : Gone) (player : PlainReplayClient) → IsPlayable settings ops → done ≤ length ops → player.done ≡ done
    → HasTaken k l m gone → HasDone (made_for settings client ops) (take done ops) gone player.works → ReplayClientIsAt settings client ops player.works.core.draws done k l m player
is_at laws settings client ops done k l m gone player playable within done_is took h =
    let works = player.works in
    let is = so_far laws settings client ops done gone works playable within h in
    let sends = sends_of settings client ops works.core.draws in
    let a = fronts k gone.chunks works.chunks (chunks_within settings.size done sends.drawn) is.chunks took.chunks in
    let b = fronts l gone.crumbs works.crumbs (items_of (sent_within done sends.crumbs)) is.crumbs took.crumbs in
    let c = fronts m gone.triggers works.triggers (items_of (sent_within done sends.triggers)) is.triggers took.triggers in
    let same : gone ≡ gone_of settings.size sends done k l m = λ i. record { chunks = a i; crumbs = b i; triggers = c i } in
    record {
      playable = playable;
      done_is = done_is;
      within = within;
      draws_are = refl;
      each = is.each;
      chunks = waits k gone.chunks works.chunks (chunks_within settings.size done sends.drawn) is.chunks took.chunks;
      crumbs = waits l gone.crumbs works.crumbs (items_of (sent_within done sends.crumbs)) is.crumbs took.crumbs;
      triggers = waits m gone.triggers works.triggers (items_of (sent_within done sends.triggers)) is.triggers took.triggers;
      inside = subst (λ (g : Gone). HasDone (made_for settings client ops) (take done ops) g works) same h;
    }
