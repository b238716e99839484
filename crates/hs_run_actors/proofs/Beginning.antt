-- A client that was made has done nothing.
use Rattle.std.proofs.Common.{◌≡◌, ℕ, suc, true, List, [], ◌∷◌, ◌++◌, length, map, sym, ap, ◌∙◌, subst, subst₂, arith}
use Rattle.hs_run_actors.proofs.Prelude.{AllByRecursion, Watch, ClientId, MAX_TAKEN, AutoRule, TriggerRule, Crumb, Trigger, is_declared, Core, new_core, Outgoing, Incoming, sent, AreNewEnds, made_of, HasDone, Key, PlainClient, outgoing, incoming, Made, IsDrawn, IsPlayable, Operation, PlainSettings, Drawing, Giving, Leased, Buffer, client_pieces, PlainClientActor, crumbs_of, triggers_of, IsConnected, ConnectedClient, ClientActorIsAt, IsDrawerFor, made_for}
use Rattle.std.specs.List.{All}
use Rattle.hs_base.specs.Rules.{fired_by}
use Rattle.hs_live.specs.Calls.{IsNew, IsUnused}
use Rattle.hs_words.specs.Buffers.{buffer_of}
use Rattle.hs_words.specs.declared.token.Held.{Held}
use Rattle.hs_run_actors.specs.Making.{AreNewFor}
use Rattle.hs_run_actors.specs.Standing.{key_for}
use Rattle.hs_run_actors.proofs.Operations.{fewer_crumbs, fewer_triggers}

-- the new parts of a client
pub record AreParts (settings : PlainSettings) (id : ClientId) (ops : List Operation) (giver : Giving) (client : PlainClient) (chunks : Incoming (Buffer Leased) Key) (crumbs : Incoming Crumb Key) (triggers : Incoming Trigger Key) : Type 0 where
  pub core : client.core ≡ new_core id settings.size (client_pieces settings.size ops)
  pub autos : AreNewFor settings.autos client.autos
  pub drawer : IsDrawerFor settings ops giver client.drawer
  pub new_chunks : AreNewEnds (key_for settings id giver) MAX_TAKEN (client_pieces settings.size ops) client.chunks chunks
  pub new_crumbs : AreNewEnds (key_for settings id giver) MAX_TAKEN (crumbs_of ops) client.crumbs crumbs
  pub new_triggers : AreNewEnds (key_for settings id giver) MAX_TAKEN (triggers_of ops) client.triggers triggers

-- chunks that are seen as buffers
pub new_buffers : {g : _} (key : Key) (capacity room : ℕ) (s : Outgoing (Held Leased g) Key) (r : Incoming (Held Leased g) Key) → AreNewEnds key capacity room s r → AreNewEnds key capacity room (outgoing s) (incoming r)
new_buffers key capacity room s r new =
    record {
      ends = new.ends;
      keys = new.keys;
      sizes = new.sizes;
      sender = (ap (map buffer_of) new.sender.0, ap (map buffer_of) new.sender.1, new.sender.2);
      receiver = (ap (map buffer_of) new.receiver.0, ap (map buffer_of) new.receiver.1);
    }

-- the links as they were made, with the amounts that were counted
pub record AreLinks {g : _} (settings : PlainSettings) (id : ClientId) (ops : List Operation) (giver : Giving) (s : Outgoing (Held Leased g) Key) (r : Incoming (Held Leased g) Key) (sc : Outgoing Crumb Key) (rc : Incoming Crumb Key)
    (st : Outgoing Trigger Key) (rt : Incoming Trigger Key) : Type 0 where
  pub key : Key
  pub key_is : key ≡ key_for settings id giver
  pub calls : ℕ
  pub calls_are : calls ≡ client_pieces settings.size ops
  pub crumbs : ℕ
  pub crumbs_are : crumbs ≡ crumbs_of ops
  pub triggers : ℕ
  pub triggers_are : triggers ≡ triggers_of ops
  pub new_chunks : AreNewEnds key MAX_TAKEN calls s r
  pub new_crumbs : AreNewEnds key MAX_TAKEN crumbs sc rc
  pub new_triggers : AreNewEnds key MAX_TAKEN triggers st rt

at_amount : {T : Type 0} (key key' : Key) (room room' : ℕ) (s : Outgoing T Key) (r : Incoming T Key) → key ≡ key' → room ≡ room' → AreNewEnds key MAX_TAKEN room s r → AreNewEnds key' MAX_TAKEN room' s r
at_amount key key' room room' s r same rooms new = subst₂ (λ k n. AreNewEnds k MAX_TAKEN n s r) same rooms new

pub are_parts : {g : _} (settings : PlainSettings) (id : ClientId) (ops : List Operation) (giver : Giving) (core : Core Leased) (autos : List Watch) (drawer : Drawing) (s : Outgoing (Held Leased g) Key) (r : Incoming (Held Leased g) Key)
    (sc : Outgoing Crumb Key) (rc : Incoming Crumb Key) (st : Outgoing Trigger Key) (rt : Incoming Trigger Key) (links : AreLinks settings id ops giver s r sc rc st rt) → core ≡ new_core id settings.size links.calls
    → AreNewFor settings.autos autos → IsDrawerFor settings ops giver drawer
    → AreParts settings id ops giver (record { core = core; autos = autos; drawer = drawer; chunks = outgoing s; crumbs = sc; triggers = st }) (incoming r) rc rt
are_parts settings id ops giver core autos drawer s r sc rc st rt links core_is fresh can_draw =
    let key = key_for settings id giver in
    record {
      core = core_is ∙ ap (new_core id settings.size) links.calls_are;
      autos = fresh;
      drawer = can_draw;
      new_chunks = at_amount links.key key links.calls (client_pieces settings.size ops) (outgoing s) (incoming r) links.key_is links.calls_are (new_buffers links.key MAX_TAKEN links.calls s r links.new_chunks);
      new_crumbs = at_amount links.key key links.crumbs (crumbs_of ops) sc rc links.key_is links.crumbs_are links.new_crumbs;
      new_triggers = at_amount links.key key links.triggers (triggers_of ops) st rt links.key_is links.triggers_are links.new_triggers;
    }

nothing_sent : {T : Type 0} (key : Key) (capacity room : ℕ) (s : Outgoing T Key) (r : Incoming T Key) → AreNewEnds key capacity room s r → sent s ≡ []
nothing_sent key capacity room s r new = ap (λ l. l ++ s.outbox) new.sender.0 ∙ new.sender.1

unused : {T : Type 0} (settings : PlainSettings) (id : ClientId) (ops : List Operation) (giver : Giving) (client : PlainClient) (capacity room : ℕ) (s : Outgoing T Key) (r : Incoming T Key)
    → client.core ≡ new_core id settings.size (client_pieces settings.size ops) → IsDrawerFor settings ops giver client.drawer → AreNewEnds (key_for settings id giver) capacity room s r → IsUnused client s
unused settings id ops giver client capacity room s r core drawer new =
    record {
      nothing = nothing_sent (key_for settings id giver) capacity room s r new;
      owner = ap (λ (k : Key). k.client) new.keys.0 ∙ sym (ap (λ (c : Core Leased). c.client) core);
      pool = ap (λ (k : Key). k.pool) new.keys.0 ∙ sym drawer.pool;
      size = ap (λ (k : Key). k.size) new.keys.0 ∙ drawer.giver_size ∙ sym (ap (λ (c : Core Leased). c.size) core);
    }

-- what holds at each place holds of each
by_steps : (P : AutoRule → Type 0) (rules : List AutoRule) → All P rules → AllByRecursion P rules
by_steps P [] all = tt
by_steps P (rule ∷ rules) all = (all 0 rule (omega arith), by_steps P rules (λ k d low. all (suc k) d (omega (arith, low))))

-- the autotriggers fire declared ids
declared : (rules : List TriggerRule) (autos : List Watch) → AllByRecursion (λ (auto : AutoRule). is_declared rules (fired_by auto) ≡ true) (map (λ (watch : Watch). watch.rule) autos)
    → AllByRecursion (λ (watch : Watch). is_declared rules (fired_by watch.rule) ≡ true) autos
declared rules [] all = tt
declared rules (watch ∷ autos) all = (all.0, declared rules autos all.1)

pub is_new : (settings : PlainSettings) (id : ClientId) (ops : List Operation) (giver : Giving) (client : PlainClient) (chunks : Incoming (Buffer Leased) Key) (crumbs : Incoming Crumb Key) (triggers : Incoming Trigger Key) → IsPlayable settings ops → AreParts settings id ops giver client chunks crumbs triggers
    → IsNew client
is_new settings id ops giver client chunks crumbs triggers playable is =
    let size : client.core.size ≡ settings.size = ap (λ (c : Core Leased). c.size) is.core in
    let owner : client.core.client ≡ id = ap (λ (c : Core Leased). c.client) is.core in
    let calls : client.core.calls ≡ client_pieces settings.size ops = ap (λ (c : Core Leased). c.calls) is.core in
    let renewed : client.core.renewed ≡ 0 = ap (λ (c : Core Leased). c.renewed) is.core in
    let keeps : client.core.keeps ≡ true = ap (λ (c : Core Leased). c.keeps) is.core in
    let rules : client.triggers.key.rules ≡ settings.triggers = ap (λ (k : Key). k.rules) is.new_triggers.keys.0 in
    let known = by_steps (λ (auto : AutoRule). is_declared settings.triggers (fired_by auto) ≡ true) settings.autos playable.autos.declared in
    let known_here = subst (λ (l : List AutoRule). AllByRecursion (λ (auto : AutoRule). is_declared settings.triggers (fired_by auto) ≡ true) l) (sym is.autos.rules_are) known in
    let few = fewer_crumbs settings.size ops in
    let fewer = fewer_triggers settings.size ops in
    record {
      core = is.core ∙ sym (λ i. record (new_core (owner i) (size i) (calls i)) { keeps = keeps i; renewed = renewed i });
      autos = is.autos.fresh;
      declared = subst (λ (l : List TriggerRule). AllByRecursion (λ (watch : Watch). is_declared l (fired_by watch.rule) ≡ true) client.autos) (sym rules) (declared settings.triggers client.autos known_here);
      drawer = is.drawer.size ∙ sym size;
      chunks = unused settings id ops giver client MAX_TAKEN (client_pieces settings.size ops) client.chunks chunks is.core is.drawer is.new_chunks;
      crumbs = unused settings id ops giver client MAX_TAKEN (crumbs_of ops) client.crumbs crumbs is.core is.drawer is.new_crumbs;
      triggers = unused settings id ops giver client MAX_TAKEN (triggers_of ops) client.triggers triggers is.core is.drawer is.new_triggers;
      nodes = (ap (λ (k : Key). k.nodes) (is.new_crumbs.keys.0 ∙ sym is.new_chunks.keys.0), ap (λ (k : Key). k.nodes) (is.new_triggers.keys.0 ∙ sym is.new_chunks.keys.0));
      rooms = omega (arith, playable.few, few, fewer, is.new_chunks.sizes.1, is.new_crumbs.sizes.1, is.new_triggers.sizes.1);
    }

made_so : (settings : PlainSettings) (id : ClientId) (ops : List Operation) (giver : Giving) (client : PlainClient) (chunks : Incoming (Buffer Leased) Key) (crumbs : Incoming Crumb Key) (triggers : Incoming Trigger Key) → AreParts settings id ops giver client chunks crumbs triggers → made_of client ≡ made_for settings id ops
made_so settings id ops giver client chunks crumbs triggers is =
    λ i. record { client = (is.core i).client; size = (is.core i).size; calls = (is.core i).calls; autos = is.autos.rules_are i; answers = is.drawer.fresh i; keeps = (is.core i).keeps; renewed = (is.core i).renewed; earlier = []; before = [] }

pub new_at : (settings : PlainSettings) (id : ClientId) (ops : List Operation) (giver : Giving) (client : PlainClient) (chunks : Incoming (Buffer Leased) Key) (crumbs : Incoming Crumb Key) (triggers : Incoming Trigger Key) → IsPlayable settings ops → AreParts settings id ops giver client chunks crumbs triggers → HasDone (made_of client) [] client
    → ClientActorIsAt settings id ops (record { done = 0; client = client })
new_at settings id ops giver client chunks crumbs triggers playable is has =
    let size = settings.size in
    let key = key_for settings id giver in
    let counted : client.core.counted ≡ 0 = ap (λ (c : Core Leased). c.counted) is.core in
    let calls : client.core.calls ≡ client_pieces size ops = ap (λ (c : Core Leased). c.calls) is.core in
    let no_chunks = nothing_sent key MAX_TAKEN (client_pieces size ops) client.chunks chunks is.new_chunks in
    let no_crumbs = nothing_sent key MAX_TAKEN (crumbs_of ops) client.crumbs crumbs is.new_crumbs in
    let no_triggers = nothing_sent key MAX_TAKEN (triggers_of ops) client.triggers triggers is.new_triggers in
    let fewer = fewer_triggers size ops in
    record {
      playable = playable;
      within = omega arith;
      inside = subst (λ (made : Made). HasDone made [] client) (made_so settings id ops giver client chunks crumbs triggers is) has;
      is_of =
          record {
            owner = ap (λ (c : Core Leased). c.client) is.core;
            size = ap (λ (c : Core Leased). c.size) is.core;
            nodes = ap (λ (k : Key). k.nodes) is.new_crumbs.keys.0;
            rules = ap (λ (k : Key). k.rules) is.new_triggers.keys.0;
          };
      enough =
          record {
            calls = omega (arith, counted, calls);
            draws = is.drawer.left;
            chunks = omega (arith, ap length no_chunks, is.new_chunks.sizes.1);
            crumbs = omega (arith, ap length no_crumbs, is.new_crumbs.sizes.1);
            triggers = omega (arith, ap length no_triggers, is.new_triggers.sizes.1);
            rooms = (is_new settings id ops giver client chunks crumbs triggers playable is).rooms;
          };
      answered = subst (λ answers. AllByRecursion IsDrawn answers) (sym is.drawer.fresh) tt;
      few = omega (arith, fewer, is.new_triggers.sizes.1);
    }

-- what was made, where its client has these parts
pub connected : (settings : PlainSettings) (id : ClientId) (ops : List Operation) (giver : Giving) (drawer : Drawing) (c : ConnectedClient) (client : PlainClient) → IsPlayable settings ops
    → AreParts settings id ops giver client (incoming c.chunks) c.crumbs c.triggers → client.drawer ≡ drawer → c.caller ≡ record { done = 0; client = client } → HasDone (made_of client) [] client
    → IsConnected settings id ops giver drawer c
connected settings id ops giver drawer c client playable parts drawer_is caller has =
    let key = key_for settings id giver in
    record {
      at = subst (λ (caller : PlainClientActor). ClientActorIsAt settings id ops caller) (sym caller) (new_at settings id ops giver client (incoming c.chunks) c.crumbs c.triggers playable parts has);
      done = ap (λ (caller : PlainClientActor). caller.done) caller;
      drawer_is = ap (λ (caller : PlainClientActor). caller.client.drawer) caller ∙ drawer_is;
      chunks = subst (λ (caller : PlainClientActor). AreNewEnds key MAX_TAKEN (client_pieces settings.size ops) caller.client.chunks (incoming c.chunks)) (sym caller) parts.new_chunks;
      crumbs = subst (λ (caller : PlainClientActor). AreNewEnds key MAX_TAKEN (crumbs_of ops) caller.client.crumbs c.crumbs) (sym caller) parts.new_crumbs;
      triggers = subst (λ (caller : PlainClientActor). AreNewEnds key MAX_TAKEN (triggers_of ops) caller.client.triggers c.triggers) (sym caller) parts.new_triggers;
    }
