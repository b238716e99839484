-- A client goes through the operations of a round.
use Rattle.std.proofs.Common.{◌≡◌, ℕ, ◌+◌, List, sym, ap, subst}
use Rattle.hs_run_actors.proofs.Prelude.{ClientId, Crumb, Trigger, Outgoing, Done, Does, DoesNothing, Key, PlainClient, GoesOn, draws_none, Operation, PlainSettings, Drawing, Leased, done_behind, Buffer, PlainClientActor, Uses, ClientActorIsAt, Goes}
use Rattle.hs_live.specs.Live.{Flushes}
use Rattle.hs_live.specs.Writing.{DrawsOn}
use Rattle.hs_live.proofs.Senders.{goes_same}
use Rattle.hs_run_actors.proofs.Operations.{Stands}
use Rattle.hs_run_actors.proofs.Going.{Stays, StaysSo, at_next, at_same}

-- what is known of ends that go on
pub record GoOn : Type 0 where
  pub chunks : (s t u : Outgoing (Buffer Leased) Key) → GoesOn s t → GoesOn t u → GoesOn s u
  pub crumbs : (s t u : Outgoing Crumb Key) → GoesOn s t → GoesOn t u → GoesOn s u
  pub triggers : (s t u : Outgoing Trigger Key) → GoesOn s t → GoesOn t u → GoesOn s u
  pub drawer : (a b c : Drawing) → DrawsOn a b → DrawsOn b c → DrawsOn a c

abbrev pub calling : ℕ → PlainClient → PlainClientActor
calling place client = record { done = place; client = client }

-- From where it stood at the start it came to this place.
pub record HasCome (settings : PlainSettings) (ops : List Operation) (start place : ℕ) (old now : PlainClient) : Type 0 where
  pub at : (id : ClientId) → ClientActorIsAt settings id ops (calling start old) → ClientActorIsAt settings id ops (calling place now)
  pub draws : DrawsOn old.drawer now.drawer
  pub chunks : GoesOn old.chunks now.chunks
  pub crumbs : GoesOn old.crumbs now.crumbs
  pub triggers : GoesOn old.triggers now.triggers

pub come_none : (settings : PlainSettings) (ops : List Operation) (start : ℕ) (client : PlainClient) → HasCome settings ops start start client client
come_none settings ops start client =
    record { at = λ id a. a; draws = draws_none client.drawer; chunks = goes_same client.chunks; crumbs = goes_same client.crumbs; triggers = goes_same client.triggers }

pub come_more : GoOn → (settings : PlainSettings) (ops : List Operation) (start place : ℕ) (op : Operation) (old now new : PlainClient) → HasCome settings ops start place old now → Stands ops place op → Does op Done now new → Uses op now new
    → HasCome settings ops start (place + 1) old new
come_more laws settings ops start place op old now new is there does uses =
    record {
      at = λ id a. at_next settings id ops place op now new (is.at id a) there does uses;
      draws = laws.drawer old.drawer now.drawer new.drawer is.draws uses.draws;
      chunks = laws.chunks old.chunks now.chunks new.chunks is.chunks uses.chunks.goes;
      crumbs = laws.crumbs old.crumbs now.crumbs new.crumbs is.crumbs uses.crumbs_are.goes;
      triggers = laws.triggers old.triggers now.triggers new.triggers is.triggers uses.triggers_are.goes;
    }

-- ---- the flush at the end of a round

abbrev pub with_links : PlainClient → PlainClient → PlainClient
with_links now new = record now { chunks = new.chunks; crumbs = new.crumbs; triggers = new.triggers }

flushed : {T : Type 0} (s t : Outgoing T Key) → Flushes s t → Stays s t
flushed s t f = record { key = f.goes.same.1; room = f.goes.same.3; items = f.items }

pub went : GoOn → (settings : PlainSettings) (ops : List Operation) (start end : ℕ) (old now new : PlainClient) → HasCome settings ops start end old now → end ≡ done_behind settings.stride start ops
    → Flushes now.chunks new.chunks → Flushes now.crumbs new.crumbs → Flushes now.triggers new.triggers → new ≡ with_links now new → DoesNothing now new → Goes settings ops (calling start old) (calling end new)
went laws settings ops start end old now new is end_is chunks crumbs triggers only nothing =
    let drawer : new.drawer ≡ now.drawer = ap (λ (l : PlainClient). l.drawer) only in
    let stays : StaysSo now new =
    record {
      nothing = nothing;
      core = ap (λ (l : PlainClient). l.core) only;
      left = ap (λ (d : Drawing). d.left) drawer;
      answers = ap (λ (d : Drawing). d.answers) drawer;
      chunks = flushed now.chunks new.chunks chunks;
      crumbs = flushed now.crumbs new.crumbs crumbs;
      triggers = flushed now.triggers new.triggers triggers;
    } in
    record {
      done = end_is;
      at = λ id a. at_same settings id ops end now new (is.at id a) stays;
      draws = subst (λ (d : Drawing). DrawsOn old.drawer d) (sym drawer) is.draws;
      chunks = record { goes = laws.chunks old.chunks now.chunks new.chunks is.chunks chunks.goes; full = chunks.kept };
      crumbs = record { goes = laws.crumbs old.crumbs now.crumbs new.crumbs is.crumbs crumbs.goes; full = crumbs.kept };
      triggers = record { goes = laws.triggers old.triggers now.triggers new.triggers is.triggers triggers.goes; full = triggers.kept };
    }
