-- What the agent takes leaves the client where it is, with one item more taken.
use Rattle.std.proofs.Common.{◌≡◌, ◌↔◌, ℕ, ◌+◌, ◌≤◌, Bool, IsTrue, List, [], ◌∷◌, ◌++◌, length, take, drop, Option, Some, None, refl, sym, ap, ◌∙◌, subst, arith, append_assoc}
use Rattle.hs_replay_client.proofs.Prelude.{length-map, slice_get-map, same_Some, slice_get, option_map, option_to_list, get_front, ClientId, Crumb, Trigger, Draw, Operation, PlainSettings, segments_from, segments_of, coming, items_of, AreInOrder, ChunksAreInOrder, Sent, sends_of, sent_within, Unleased, Working, PlainReplayClient, Made, IsWriting, Gone, HasDone, ReplayClientIsAt, Waits, chunks_within, gone_of, made_for, TakesChunk, TakesCrumb, TakesTrigger, TellsBare}
use Rattle.std.proofs.lemmas.List.{drop_all}
use Rattle.hs_client.specs.Order.{CrumbsAreInOrder, TriggersAreInOrder}
use Rattle.hs_replay_client.specs.Doing.{HasNothing}
use Rattle.hs_replay_client.specs.Places.{IsItemAt}
use Rattle.hs_replay_client.proofs.Chunks.{chunk_at, chunks_counted}
use Rattle.hs_replay_client.proofs.Lists.{is_next, none_waits, sent_first}
use Rattle.hs_replay_client.proofs.Steps.{chunk_taken}

-- ---- the next item of a list of items

item_found : {A : Type 0} (items : List (Sent A)) (place : ℕ) (x : A) → slice_get (items_of items) place ≡ Some x → (item : Sent A) × (slice_get items place ≡ Some item) × (item.item ≡ x)
item_found items place x found = by (slice_get items place) refl (sym (slice_get-map (λ item. item.item) items place) ∙ found)
  where
    by : (o : Option (Sent _)) → slice_get items place ≡ o → option_map (λ item. item.item) o ≡ Some x → (item : Sent _) × (slice_get items place ≡ Some item) × (item.item ≡ x)
    by None e h = absurd cc
    by (Some item) e h = (item, e, same_Some item.item x h)

pub item_at : {A : Type 0} (done place : ℕ) (items : List (Sent A)) (x : A) → AreInOrder 0 items → slice_get (items_of (sent_within done items)) place ≡ Some x → IsItemAt done place items x
item_at done place items x order found =
    let f = item_found (sent_within done items) place x found in
    let first = sent_first done 0 items order in
    record {
      item = f.0;
      next = ap (λ l. slice_get l place) first.1 ∙ get_front (sent_within done items) first.0 place f.0 f.1;
      within = f.1;
      is = f.2;
    }

pub all_taken : {A : Type 0} (place : ℕ) (items : List (Sent A)) → place ≤ length (items_of items) → [] ≡ drop place (items_of items) → place ≡ length items
all_taken place items within none = none_waits place (items_of items) within none ∙ length-map items (λ item. item.item)

-- ---- the client behind a taken item

pub done_chunk : (made : Made) (ops : List Operation) (gone : Gone) (works : Working) (chunk : Unleased) (chunks : List Unleased) → HasDone made ops gone works → works.chunks ≡ chunk ∷ chunks
    → HasDone made ops (record gone { chunks = gone.chunks ++ chunk ∷ [] }) (record works { chunks = chunks })
done_chunk made ops gone works chunk chunks h waits =
    record {
      writes = λ rest.
          let pieces = coming made.size works.core.number works.core.trace rest in
          let later = segments_from made.size works.core.number rest in
          let all = segments_of made.size (ops ++ rest) in
          let first = subst (λ (l : List Unleased). IsWriting made gone.chunks pieces later all (record { core = works.core; chunks = l })) waits (h.writes rest) in
          chunk_taken made gone.chunks pieces later all works.core chunk chunks first;
      size = h.size;
      calls = h.calls;
      counted = h.counted;
      trace = h.trace;
      page = h.page;
      sound = h.sound;
      crumbs = h.crumbs;
      triggers = h.triggers;
      autos = h.autos;
    }

pub done_crumb : (made : Made) (ops : List Operation) (gone : Gone) (works : Working) (crumb : Crumb) (crumbs : List Crumb) → HasDone made ops gone works → works.crumbs ≡ crumb ∷ crumbs
    → HasDone made ops (record gone { crumbs = gone.crumbs ++ crumb ∷ [] }) (record works { crumbs = crumbs })
done_crumb made ops gone works crumb crumbs h waits =
    record {
      writes = h.writes;
      size = h.size;
      calls = h.calls;
      counted = h.counted;
      trace = h.trace;
      page = h.page;
      sound = h.sound;
      crumbs = append_assoc gone.crumbs (crumb ∷ []) crumbs ∙ ap (λ (l : List Crumb). gone.crumbs ++ l) (sym waits) ∙ h.crumbs;
      triggers = h.triggers;
      autos = h.autos;
    }

pub done_trigger : (made : Made) (ops : List Operation) (gone : Gone) (works : Working) (trigger : Trigger) (triggers : List Trigger) → HasDone made ops gone works → works.triggers ≡ trigger ∷ triggers
    → HasDone made ops (record gone { triggers = gone.triggers ++ trigger ∷ [] }) (record works { triggers = triggers })
done_trigger made ops gone works trigger triggers h waits =
    record {
      writes = h.writes;
      size = h.size;
      calls = h.calls;
      counted = h.counted;
      trace = h.trace;
      page = h.page;
      sound = h.sound;
      crumbs = h.crumbs;
      triggers = append_assoc gone.triggers (trigger ∷ []) triggers ∙ ap (λ (l : List Trigger). gone.triggers ++ l) (sym waits) ∙ h.triggers;
      autos = h.autos;
    }

pub at_chunk : (settings : PlainSettings) (client : ClientId) (ops : List Operation) (drawn : List Draw) (done k l m : ℕ) (player : PlainReplayClient) (chunk : Unleased) (chunks : List Unleased)
    → ReplayClientIsAt settings client ops drawn done k l m player → player.works.chunks ≡ chunk ∷ chunks
    → ReplayClientIsAt settings client ops drawn done (k + 1) l m (record { done = player.done; works = record (player.works) { chunks = chunks } })
at_chunk settings client ops drawn done k l m player chunk chunks a waits =
    let sends = sends_of settings client ops drawn in
    let sent = chunks_within settings.size done sends.drawn in
    let n = is_next k sent chunks chunk a.chunks.0 (sym waits ∙ a.chunks.1) in
    let works : Working = record (player.works) { chunks = chunks } in
    let made = made_for settings client ops in
    let gone = gone_of settings.size sends done k l m in
    record {
      playable = a.playable;
      done_is = a.done_is;
      within = a.within;
      draws_are = a.draws_are;
      each = a.each;
      chunks = (n.within, n.left);
      crumbs = a.crumbs;
      triggers = a.triggers;
      inside =
          subst (λ (l : List Unleased). HasDone made (take done ops) (record gone { chunks = l }) works) (sym n.gone)
          (done_chunk made (take done ops) gone player.works chunk chunks a.inside waits);
    }

pub at_crumb : (settings : PlainSettings) (client : ClientId) (ops : List Operation) (drawn : List Draw) (done k l m : ℕ) (player : PlainReplayClient) (crumb : Crumb) (crumbs : List Crumb) → CrumbsAreInOrder
    → ReplayClientIsAt settings client ops drawn done k l m player → player.works.crumbs ≡ crumb ∷ crumbs
    → IsItemAt done l (sends_of settings client ops drawn).crumbs crumb × ReplayClientIsAt settings client ops drawn done k (l + 1) m (record { done = player.done; works = record (player.works) { crumbs = crumbs } })
at_crumb settings client ops drawn done k l m player crumb crumbs order a waits =
    let sends = sends_of settings client ops drawn in
    let sent = items_of (sent_within done sends.crumbs) in
    let n = is_next l sent crumbs crumb a.crumbs.0 (sym waits ∙ a.crumbs.1) in
    let works : Working = record (player.works) { crumbs = crumbs } in
    let made = made_for settings client ops in
    let gone = gone_of settings.size sends done k l m in (
      item_at done l sends.crumbs crumb (order ops) n.is,
      record {
        playable = a.playable;
        done_is = a.done_is;
        within = a.within;
        draws_are = a.draws_are;
        each = a.each;
        chunks = a.chunks;
        crumbs = (n.within, n.left);
        triggers = a.triggers;
        inside =
            subst (λ (l : List Crumb). HasDone made (take done ops) (record gone { crumbs = l }) works) (sym n.gone)
            (done_crumb made (take done ops) gone player.works crumb crumbs a.inside waits);
      },
    )

pub at_trigger : (settings : PlainSettings) (client : ClientId) (ops : List Operation) (drawn : List Draw) (done k l m : ℕ) (player : PlainReplayClient) (trigger : Trigger) (triggers : List Trigger) → TriggersAreInOrder
    → ReplayClientIsAt settings client ops drawn done k l m player → player.works.triggers ≡ trigger ∷ triggers
    → IsItemAt done m (sends_of settings client ops drawn).triggers trigger × ReplayClientIsAt settings client ops drawn done k l (m + 1) (record { done = player.done; works = record (player.works) { triggers = triggers } })
at_trigger settings client ops drawn done k l m player trigger triggers order a waits =
    let sends = sends_of settings client ops drawn in
    let sent = items_of (sent_within done sends.triggers) in
    let n = is_next m sent triggers trigger a.triggers.0 (sym waits ∙ a.triggers.1) in
    let works : Working = record (player.works) { triggers = triggers } in
    let made = made_for settings client ops in
    let gone = gone_of settings.size sends done k l m in (
      item_at done m sends.triggers trigger (order settings.autos ops) n.is,
      record {
        playable = a.playable;
        done_is = a.done_is;
        within = a.within;
        draws_are = a.draws_are;
        each = a.each;
        chunks = a.chunks;
        crumbs = a.crumbs;
        triggers = (n.within, n.left);
        inside =
            subst (λ (l : List Trigger). HasDone made (take done ops) (record gone { triggers = l }) works) (sym n.gone)
            (done_trigger made (take done ops) gone player.works trigger triggers a.inside waits);
      },
    )

-- ---- where nothing is left, or something

none_left : {A : Type 0} (items more : List A) → items ≡ more → more ≡ drop 1 items → items ≡ []
none_left [] more same rest = refl
none_left (x ∷ items) more same rest = absurd (omega (arith, ap length same, ap length rest))

pub takes_crumb : (old : PlainReplayClient) (answer : Option Crumb) (crumbs : List Crumb) → CrumbsAreInOrder → old.works.crumbs ≡ option_to_list answer ++ crumbs → crumbs ≡ drop 1 old.works.crumbs
    → TakesCrumb old answer (record { done = old.done; works = record (old.works) { crumbs = crumbs } })
takes_crumb old None crumbs order items rest = λ settings client ops drawn done k l m a.
    let none : old.works.crumbs ≡ [] = none_left old.works.crumbs crumbs items rest in
    let sends = sends_of settings client ops drawn in
    let same : crumbs ≡ old.works.crumbs = sym items in (
      all_taken l (sent_within done sends.crumbs) a.crumbs.0 (sym none ∙ a.crumbs.1),
      subst (λ (c : List Crumb). ReplayClientIsAt settings client ops drawn done k l m (record { done = old.done; works = record (old.works) { crumbs = c } })) (sym same) a,
    )
takes_crumb old (Some crumb) crumbs order items rest = λ settings client ops drawn done k l m a. at_crumb settings client ops drawn done k l m old crumb crumbs order a items

pub takes_trigger : (old : PlainReplayClient) (answer : Option Trigger) (triggers : List Trigger) → TriggersAreInOrder → old.works.triggers ≡ option_to_list answer ++ triggers → triggers ≡ drop 1 old.works.triggers
    → TakesTrigger old answer (record { done = old.done; works = record (old.works) { triggers = triggers } })
takes_trigger old None triggers order items rest = λ settings client ops drawn done k l m a.
    let none : old.works.triggers ≡ [] = none_left old.works.triggers triggers items rest in
    let sends = sends_of settings client ops drawn in
    let same : triggers ≡ old.works.triggers = sym items in (
      all_taken m (sent_within done sends.triggers) a.triggers.0 (sym none ∙ a.triggers.1),
      subst (λ (t : List Trigger). ReplayClientIsAt settings client ops drawn done k l m (record { done = old.done; works = record (old.works) { triggers = t } })) (sym same) a,
    )
takes_trigger old (Some trigger) triggers order items rest = λ settings client ops drawn done k l m a. at_trigger settings client ops drawn done k l m old trigger triggers order a items

-- as many chunks as sheets
pub chunks_taken : (settings : PlainSettings) (client : ClientId) (ops : List Operation) (drawn : List Draw) (done k l m : ℕ) (player : PlainReplayClient) → ReplayClientIsAt settings client ops drawn done k l m player → player.works.chunks ≡ []
    → k ≡ length (sent_within done (sends_of settings client ops drawn).chunks)
chunks_taken settings client ops drawn done k l m player a none =
    let pages = (sends_of settings client ops drawn).drawn in
    none_waits k (chunks_within settings.size done pages) a.chunks.0 (sym none ∙ a.chunks.1) ∙ chunks_counted settings.size done pages

pub takes_chunk : (old : PlainReplayClient) (answer : Option Unleased) (chunks : List Unleased) → ChunksAreInOrder → old.works.chunks ≡ option_to_list answer ++ chunks → chunks ≡ drop 1 old.works.chunks
    → TakesChunk old answer (record { done = old.done; works = record (old.works) { chunks = chunks } })
takes_chunk old None chunks order items rest = λ settings client ops drawn done k l m a.
    let none : old.works.chunks ≡ [] = none_left old.works.chunks chunks items rest in
    let same : chunks ≡ old.works.chunks = sym items in (
      chunks_taken settings client ops drawn done k l m old a none,
      subst (λ (c : List Unleased). ReplayClientIsAt settings client ops drawn done k l m (record { done = old.done; works = record (old.works) { chunks = c } })) (sym same) a,
    )
takes_chunk old (Some chunk) chunks order items rest = λ settings client ops drawn done k l m a.
    let sent = chunks_within settings.size done (sends_of settings client ops drawn).drawn in
    let n = is_next k sent chunks chunk a.chunks.0 (sym items ∙ a.chunks.1) in
    (chunk_at settings client ops drawn done k chunk order a.playable n.is, at_chunk settings client ops drawn done k l m old chunk chunks a items)

-- ---- whether all is taken

nothing_left : {A : Type 0} (taken : ℕ) (sent waiting : List A) → Waits taken sent waiting → taken ≡ length sent → waiting ≡ []
nothing_left taken sent waiting w all = w.1 ∙ drop_all taken sent (omega (arith, all))

pub tells_bare : (player : PlainReplayClient) (bare : Bool) → IsTrue bare ↔ HasNothing player.works → TellsBare player bare
tells_bare player bare tells = λ settings client ops drawn done k l m a.
    let sends = sends_of settings client ops drawn in (
      λ yes.
          let none = tells.0 yes in (
            chunks_taken settings client ops drawn done k l m player a none.0,
            all_taken l (sent_within done sends.crumbs) a.crumbs.0 (sym none.1 ∙ a.crumbs.1),
            all_taken m (sent_within done sends.triggers) a.triggers.0 (sym none.2 ∙ a.triggers.1),
          ),
      λ all.
          tells.1 (
            nothing_left k (chunks_within settings.size done sends.drawn) player.works.chunks a.chunks (all.0 ∙ sym (chunks_counted settings.size done sends.drawn)),
            nothing_left l (items_of (sent_within done sends.crumbs)) player.works.crumbs a.crumbs (all.1 ∙ sym (length-map (sent_within done sends.crumbs) (λ item. item.item))),
            nothing_left m (items_of (sent_within done sends.triggers)) player.works.triggers a.triggers (all.2 ∙ sym (length-map (sent_within done sends.triggers) (λ item. item.item))),
          ),
    )
