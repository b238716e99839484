-- The next operation of a client may be done, and then the client stands behind it.
use Rattle.std.proofs.Common.{◌≡◌, ℕ, ◌+◌, ◌^◌, ◌<◌, ◌≤◌, true, length-append, List, ◌∷◌, length, map, take, drop, Option, None, inl, inr, sym, ap, ◌∙◌, subst, arith}
use Rattle.hs_run_actors.proofs.Prelude.{length-map, is_some, slice_get, AllByRecursion, is_some_false, Watch, ClientId, TraceId, AutoRule, TriggerRule, is_declared, Outgoing, sent, Done, HasDone, Does, DoesNothing, Key, PlainClient, IsDrawn, Answer, Operation, Begin, Point, End, Fire, Sample, PlainSettings, AreBracketed, open_after, PlainClientActor, Uses, MayDo, ClientActorIsAt, made_for}
use Rattle.std.proofs.lemmas.Option.{slice_get-map, slice_get_cases}
use Rattle.std.specs.Option.{option_map}
use Rattle.hs_link.specs.Contents.{HasPlaces}
use Rattle.hs_live.proofs.Cuts.{all_drawn}
use Rattle.hs_records.specs.Plain as plain
use Rattle.hs_records.specs.Records.{piece_count}
use Rattle.hs_records.specs.Validity.{operation_pieces, IsOperation}
use Rattle.hs_run_actors.specs.Performing.{MayRecord, HasRule}
use Rattle.hs_run_actors.specs.Standing.{IsClientOf, HasEnough}
use Rattle.hs_run_actors.proofs.Operations.{Stands, all_at, bracketed_at}

-- ---- what the next operation needs

-- the autotrigger that a sample names, with its rule
rule_at : (rules : List AutoRule) (auto : ℕ) (client : PlainClient) → map (λ (w : Watch). w.rule) client.autos ≡ rules → auto < length rules → HasRule rules auto client
rule_at rules auto client same within =
    elim (slice_get_cases client.autos auto).1 [
      | inl there ↦
          (there.0, there.2, ap (λ (l : List AutoRule). slice_get l auto) (sym same) ∙ slice_get-map (λ (w : Watch). w.rule) client.autos auto ∙ ap (option_map (λ (w : Watch). w.rule)) there.2)
      | inr past ↦ absurd (omega (arith, past.0, within, ap length same, length-map client.autos (λ (w : Watch). w.rule)))
    ]

-- a link that has room for all that is sent has places
has_places : {T : Type 0} (more : ℕ) (s : Outgoing T Key) → length (sent s) + more ≤ s.room → s.room < 2 ^ 32 → HasPlaces more s
has_places more s room few =
    let items = length-append s.put s.outbox in
    (omega (arith, items, room), omega (arith, items, room, few))

may_do_so : (settings : PlainSettings) (version : ℕ) (id : ClientId) (rest : List Operation) (op : Operation) (client : PlainClient) → map (λ (w : Watch). w.rule) client.autos ≡ settings.autos → IsClientOf settings id client
    → HasEnough settings.size (op ∷ rest) client → AreBracketed (is_some client.core.trace) (op ∷ rest) → IsOperation version settings op → MayDo settings.autos op client
may_do_so settings version id rest (Begin trace) client same is_of enough bracketed word = (omega (arith, enough.calls), is_some_false client.core.trace bracketed.0)
may_do_so settings version id rest (Point moment payload) client same is_of enough bracketed word =
    subst (λ size. MayRecord (piece_count size (length payload)) (length payload) client) (sym is_of.size)
    (record {
      opened = bracketed.0;
      few = word.1;
      calls = omega (arith, enough.calls);
      draws = omega (arith, enough.draws);
      places = has_places _ client.chunks (omega (arith, enough.chunks)) (omega (arith, enough.rooms));
    })
may_do_so settings version id rest (plain.Crumb node) client same is_of enough bracketed word =
    (bracketed.0, has_places _ client.crumbs (omega (arith, enough.crumbs)) (omega (arith, enough.rooms)), omega (arith, word, is_of.nodes))
may_do_so settings version id rest End client same is_of enough bracketed word = (omega (arith, enough.calls), bracketed.0, has_places _ client.chunks (omega (arith, enough.chunks)) (omega (arith, enough.rooms)))
may_do_so settings version id rest (Fire trigger) client same is_of enough bracketed word =
    (has_places _ client.triggers (omega (arith, enough.triggers)) (omega (arith, enough.rooms)), subst (λ (rules : List TriggerRule). is_declared rules trigger.trigger ≡ true) (sym is_of.rules) word.1)
may_do_so settings version id rest (Sample moment auto value) client same is_of enough bracketed word =
    (bracketed.0, has_places _ client.triggers (omega (arith, enough.triggers)) (omega (arith, enough.rooms)), rule_at settings.autos auto client same word.1)

abbrev calling : ℕ → PlainClient → PlainClientActor
calling place client = record { done = place; client = client }

pub may_do : (settings : PlainSettings) (id : ClientId) (ops : List Operation) (place : ℕ) (op : Operation) (client : PlainClient) → ClientActorIsAt settings id ops (calling place client) → Stands ops place op → MayDo settings.autos op client
may_do settings id ops place op client a is =
    let rest = drop (place + 1) ops in
    let enough = subst (λ (l : List Operation). HasEnough settings.size l client) is.rest a.enough in
    let bracketed = subst (λ (l : List Operation). AreBracketed (is_some (open_after None (take place ops))) l) is.rest (bracketed_at ops place a.playable.client.bracketed) in
    let word = all_at (IsOperation a.playable.version settings) ops place op is a.playable.client.words in
    may_do_so settings a.playable.version id rest op client a.inside.autos.rules_are a.is_of enough (subst (λ (t : Option TraceId). AreBracketed (is_some t) (op ∷ rest)) (sym a.inside.trace) bracketed) word

-- ---- behind it

pub at_next : (settings : PlainSettings) (id : ClientId) (ops : List Operation) (place : ℕ) (op : Operation) (old new : PlainClient) → ClientActorIsAt settings id ops (calling place old) → Stands ops place op → Does op Done old new
    → Uses op old new → ClientActorIsAt settings id ops (calling (place + 1) new)
at_next settings id ops place op old new a is does uses =
    let size = settings.size in
    let rest = drop (place + 1) ops in
    let enough = subst (λ (l : List Operation). HasEnough size l old) is.rest a.enough in
    let pieces : operation_pieces old.core.size op ≡ operation_pieces size op = ap (λ n. operation_pieces n op) a.is_of.size in
    record {
      playable = a.playable;
      within = omega (arith, is.within);
      inside = subst (λ (l : List Operation). HasDone (made_for settings id ops) l new) (sym is.front) (does (made_for settings id ops) (take place ops) a.inside);
      is_of =
          record {
            owner = uses.owner ∙ a.is_of.owner;
            size = uses.size ∙ a.is_of.size;
            nodes = ap (λ (k : Key). k.nodes) uses.crumbs_are.goes.same.1 ∙ a.is_of.nodes;
            rules = ap (λ (k : Key). k.rules) uses.triggers_are.goes.same.1 ∙ a.is_of.rules;
          };
      enough =
          record {
            calls = omega (arith, enough.calls, uses.counted, uses.calls_are, pieces);
            draws = omega (arith, enough.draws, uses.left, pieces);
            chunks = omega (arith, enough.chunks, uses.chunks.few, uses.chunks.goes.same.3, pieces);
            crumbs = omega (arith, enough.crumbs, uses.crumbs_are.few, uses.crumbs_are.goes.same.3);
            triggers = omega (arith, enough.triggers, uses.triggers_are.few, uses.triggers_are.goes.same.3);
            rooms = omega (arith, enough.rooms, uses.chunks.goes.same.3, uses.crumbs_are.goes.same.3, uses.triggers_are.goes.same.3);
          };
      answered = subst (λ (answers : List Answer). AllByRecursion IsDrawn answers) (sym uses.draws.since) (all_drawn uses.draws.added old.drawer.answers uses.draws.drawn a.answered);
      few = omega (arith, a.few, uses.triggers_are.goes.same.3);
    }

-- ---- where no operation is done

pub record Stays {T : Type 0} (s t : Outgoing T Key) : Type 0 where
  pub key : t.key ≡ s.key
  pub room : t.room ≡ s.room
  pub items : sent t ≡ sent s

-- the client is the same one, and its links were given nothing
pub record StaysSo (old new : PlainClient) : Type 0 where
  pub nothing : DoesNothing old new
  pub core : new.core ≡ old.core
  pub left : new.drawer.left ≡ old.drawer.left
  pub answers : new.drawer.answers ≡ old.drawer.answers
  pub chunks : Stays old.chunks new.chunks
  pub crumbs : Stays old.crumbs new.crumbs
  pub triggers : Stays old.triggers new.triggers

pub at_same : (settings : PlainSettings) (id : ClientId) (ops : List Operation) (place : ℕ) (old new : PlainClient) → ClientActorIsAt settings id ops (calling place old) → StaysSo old new → ClientActorIsAt settings id ops (calling place new)
at_same settings id ops place old new a stays =
    let enough = a.enough in
    record {
      playable = a.playable;
      within = a.within;
      inside = stays.nothing (made_for settings id ops) (take place ops) a.inside;
      is_of =
          record {
            owner = ap (λ (c : _). c.client) stays.core ∙ a.is_of.owner;
            size = ap (λ (c : _). c.size) stays.core ∙ a.is_of.size;
            nodes = ap (λ (k : Key). k.nodes) stays.crumbs.key ∙ a.is_of.nodes;
            rules = ap (λ (k : Key). k.rules) stays.triggers.key ∙ a.is_of.rules;
          };
      enough =
          record {
            calls = omega (arith, enough.calls, ap (λ (c : _). c.counted) stays.core, ap (λ (c : _). c.calls) stays.core);
            draws = omega (arith, enough.draws, stays.left);
            chunks = omega (arith, enough.chunks, ap length stays.chunks.items, stays.chunks.room);
            crumbs = omega (arith, enough.crumbs, ap length stays.crumbs.items, stays.crumbs.room);
            triggers = omega (arith, enough.triggers, ap length stays.triggers.items, stays.triggers.room);
            rooms = omega (arith, enough.rooms, stays.chunks.room, stays.crumbs.room, stays.triggers.room);
          };
      answered = subst (λ (answers : List Answer). AllByRecursion IsDrawn answers) (sym stays.answers) a.answered;
      few = omega (arith, a.few, stays.triggers.room);
    }
