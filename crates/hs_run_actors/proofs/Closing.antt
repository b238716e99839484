-- A client that has done all its operations.
use Rattle.std.proofs.Common.{◌≡◌, true, List, [], length, map, take, Option, None, IsNone, sym, ap, ◌∙◌, subst, arith}
use Rattle.hs_run_actors.proofs.Prelude.{append-nil, is_some, is_some_false, ClientId, TraceId, Core, PlainClientBook, PlainClient, Made, HasDone, HasSent, pages_of, Operation, PlainSettings, Leased, open_after, PlainClientActor, ClientActorIsAt, IsDone, Notes, made_for}
use Rattle.std.proofs.lemmas.List.{take_all}
use Rattle.hs_client.specs.Core.{all_pages}
use Rattle.hs_client.specs.Calls.{note_of}
use Rattle.hs_client.proofs.Bare.{after_keeps}
use Rattle.hs_live.specs.Writing.{new_of}
use Rattle.hs_client.proofs.OneMore.{none_open}

all_done : (settings : PlainSettings) (id : ClientId) (ops : List Operation) (caller : PlainClientActor) → ClientActorIsAt settings id ops caller → caller.done ≡ length ops → HasDone (made_for settings id ops) ops caller.client
all_done settings id ops caller a all =
    let whole : take caller.done ops ≡ ops = take_all caller.done ops (omega (arith, all)) in
    subst (λ (l : List Operation). HasDone (made_for settings id ops) l caller.client) whole a.inside

pub is_closed : (caller : PlainClientActor) → IsDone caller → IsNone caller.client.core.trace
is_closed caller is =
    let has = all_done is.settings is.client is.ops caller is.at is.all in
    ap (λ (t : Option TraceId). is_some t) has.trace ∙ none_open is.ops is.at.playable.client.bracketed

pub keeps_book : (caller : PlainClientActor) → IsDone caller → caller.client.core.keeps ≡ true
keeps_book caller is =
    let writing = is.at.inside.writes [] in
    ap (λ (c : Core Leased). c.keeps) writing.comes.core ∙ after_keeps (new_of (made_for is.settings is.client is.ops)) writing.steps

-- the notes of all pages, where there is no current one
closed_pages : (core : Core Leased) → core.current ≡ None → core.pages ≡ all_pages core
closed_pages core none = sym (append-nil core.pages) ∙ ap (λ (c : Core Leased). all_pages c) (sym same)
  where
    same : core ≡ record core { current = None }
    same = λ i. record core { current = none i }

-- what the book of a client was made of
pub record IsBookOf (client : PlainClient) (book : PlainClientBook) : Type 0 where
  pub owner : book.client ≡ client.core.client
  pub draws : book.draws ≡ client.core.draws
  pub pages : book.pages ≡ client.core.pages

pub notes : ((made : Made) (ops : List Operation) (client : PlainClient) → HasDone made ops client → HasSent made ops client) → (caller : PlainClientActor) (book : PlainClientBook) → IsBookOf caller.client book → Notes caller book
notes sent_is caller book is = λ settings id ops a all.
    let has = all_done settings id ops caller a all in
    let sent = sent_is (made_for settings id ops) ops caller.client has in
    let closed : open_after None ops ≡ None = is_some_false (open_after None ops) (none_open ops a.playable.client.bracketed) in
    let owner : book.client ≡ id = is.owner ∙ a.is_of.owner in
    let pages : book.pages ≡ map note_of (pages_of settings.size ops) = is.pages ∙ closed_pages caller.client.core (sent.closed closed) ∙ sent.pages in
    λ i. record { client = owner i; draws = is.draws i; pages = pages i }
