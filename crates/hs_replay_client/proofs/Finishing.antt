-- The book of a client that has done all its operations.
use Rattle.std.proofs.Common.{◌≡◌, ℕ, true, List, [], ◌∷◌, length, map, take, Option, None, IsNone, refl, sym, ap, ◌∙◌, subst, arith}
use Rattle.hs_replay_client.proofs.Prelude.{append-nil, take_all, is_some, flat_map, is_some_false, ClientId, TraceId, Core, CoreStep, Began, Wrote, Needed, Supplied, Ended_, Refused, new_core, AreSteps, IsBook, after, Draw, Operation, PlainSettings, PlainReplayClient, new_of, Gone, HasDone, ReplayClientIsAt, IsDone, gone_of, made_for}
use Rattle.hs_client.specs.Core.{all_pages}
use Rattle.hs_client.specs.Calls.{note_of}
use Rattle.hs_client.proofs.Bare.{after_keeps}
use Rattle.hs_records.specs.Books.{PlainClientBook}
use Rattle.hs_records.specs.Pages.{pages_of, segment_pages}
use Rattle.hs_client.proofs.OneMore.{none_open}
use Rattle.hs_replay_client.proofs.Standing.{recorded}

after-client : (new : Core (Unit {0})) (steps : List (CoreStep (Unit {0}))) → (after new steps).client ≡ new.client
after-client new [] = refl
after-client new (Began trace ∷ earlier) = after-client new earlier
after-client new (Wrote moment payload more ∷ earlier) = after-client new earlier
after-client new (Needed len ∷ earlier) = after-client new earlier
after-client new (Supplied buffer stamp moment payload more ∷ earlier) = after-client new earlier
after-client new (Ended_ ∷ earlier) = after-client new earlier
after-client new (Refused ∷ earlier) = after-client new earlier

all_done : (settings : PlainSettings) (client : ClientId) (ops : List Operation) (drawn : List Draw) (k l m : ℕ) (player : PlainReplayClient) → ReplayClientIsAt settings client ops drawn (length ops) k l m player
    → (gone : Gone) × HasDone (made_for settings client ops) ops gone player.works
all_done settings client ops drawn k l m player a =
    let whole : take (length ops) ops ≡ ops = take_all (length ops) ops (omega arith) in
    let gone = gone_of settings.size (Rattle.hs_client.specs.Sending.sends_of settings client ops drawn) (length ops) k l m in
    (gone, subst (λ (l' : List Operation). HasDone (made_for settings client ops) l' gone player.works) whole a.inside)

pub is_closed : (player : PlainReplayClient) → IsDone player → IsNone player.works.core.trace
is_closed player is =
    let has = all_done is.settings is.client is.ops is.drawn is.k is.l is.m player is.at in
    ap (λ (t : Option TraceId). is_some t) has.1.trace ∙ none_open is.ops is.at.playable.client.bracketed

pub keeps_book : (player : PlainReplayClient) → IsDone player → player.works.core.keeps ≡ true
keeps_book player is =
    let has = all_done is.settings is.client is.ops is.drawn is.k is.l is.m player is.at in
    let writing = has.1.writes [] in
    ap (λ (c : Core (Unit {0})). c.keeps) writing.comes.core ∙ after_keeps (new_of (made_for is.settings is.client is.ops)) writing.steps

-- the notes of all pages, where there is no current one
closed_pages : (core : Core (Unit {0})) → core.current ≡ None → core.pages ≡ all_pages core
closed_pages core none = sym (append-nil core.pages) ∙ ap (λ (c : Core (Unit {0})). all_pages c) (sym same)
  where
    same : core ≡ record core { current = None }
    same = λ i. record core { current = none i }

pub noted : ((client : ClientId) (size calls : ℕ) (steps : List (CoreStep (Unit {0}))) → AreSteps (new_core client size calls) steps → IsBook (new_core client size calls) steps)
    → (settings : PlainSettings) (client : ClientId) (ops : List Operation) (drawn : List Draw) (k l m : ℕ) (player : PlainReplayClient) → ReplayClientIsAt settings client ops drawn (length ops) k l m player
    → (book : PlainClientBook) → book.client ≡ player.works.core.client → book.draws ≡ player.works.core.draws → book.pages ≡ player.works.core.pages
    → book ≡ record { client = client; draws = drawn; pages = map note_of (pages_of settings.size ops) }
noted books settings client ops drawn k l m player a book owner draws pages =
    let made = made_for settings client ops in
    let has = all_done settings client ops drawn k l m player a in
    let s = (has.1.writes []).comes in
    let steps = (has.1.writes []).steps in
    let b = books client settings.size made.calls steps s.may in
    let open_none : player.works.core.trace ≡ None =
    is_some_false player.works.core.trace (ap (λ (t : Option TraceId). is_some t) has.1.trace ∙ none_open ops a.playable.client.bracketed) in
    let none : player.works.core.current ≡ None = has.1.sound.closed open_none in
    let owner_is : book.client ≡ client = owner ∙ ap (λ (c : Core (Unit {0})). c.client) s.core ∙ after-client (new_of made) steps in
    let draws_is : book.draws ≡ drawn = draws ∙ a.draws_are in
    let pages_is : book.pages ≡ map note_of (pages_of settings.size ops) =
    pages ∙ closed_pages player.works.core none ∙ ap (λ (c : Core (Unit {0})). all_pages c) s.core ∙ b.pages
    ∙ ap (λ segments. map note_of (flat_map (segment_pages settings.size) segments)) (recorded made ops has.0 player.works has.1) in
    λ i. record { client = owner_is i; draws = draws_is i; pages = pages_is i }
