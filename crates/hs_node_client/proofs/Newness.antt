-- A client of the library that was made with new links.
use Rattle.std.proofs.Common.{◌≡◌, ℕ, suc, true, List, [], ◌∷◌, ◌++◌, map, refl, sym, ap, ◌∙◌, subst, arith}
use Rattle.std.specs.List.{All, AllByRecursion}
use Rattle.hs_auto.specs.Watching.{Watch}
use Rattle.hs_base.specs.Rules.{fired_by, is_declared}
use Rattle.hs_base.specs.declared.ids.ClientId.{ClientId}
use Rattle.hs_base.specs.declared.settings.AutoRule.{AutoRule}
use Rattle.hs_base.specs.declared.settings.TriggerRule.{TriggerRule}
use Rattle.hs_client.specs.Core.{Core, bare_core, new_core}
use Rattle.hs_link.specs.Contents.{AreNewEnds, Incoming, Outgoing, sent}
use Rattle.hs_live.specs.Calls.{IsNew}
use Rattle.hs_live.specs.Keys.{Key}
use Rattle.hs_live.specs.Live.{PlainClient, outgoing}
use Rattle.hs_ring.specs.Parts.{Drawing, Giving, Leased}
use Rattle.hs_words.specs.Buffers.{buffer_of}
use Rattle.hs_words.specs.declared.token.Held.{Held}
use Rattle.hs_node_client.specs.declared.limits.ClientLimits.{ClientLimits}
use Rattle.hs_node_client.specs.declared.making.Receivers.{Receivers}
use Rattle.hs_node_client.specs.declared.making.Senders.{Senders}
use Rattle.hs_node_client.specs.Fitting.{AreFit, IsFitAuto}
use Rattle.hs_node_client.specs.Making.{AreNewAutos, AreNewLinks, PlainRules, key_of}

nothing_sent : {T : Type 0} (key : Key) (capacity room : ℕ) (s : Outgoing T Key) (r : Incoming T Key) → AreNewEnds key capacity room s r → sent s ≡ []
nothing_sent key capacity room s r new = ap (λ l. l ++ s.outbox) new.sender.0 ∙ new.sender.1

no_buffers : {g : _} (key : Key) (capacity room : ℕ) (s : Outgoing (Held Leased g) Key) (r : Incoming (Held Leased g) Key) → AreNewEnds key capacity room s r → sent (outgoing s) ≡ []
no_buffers key capacity room s r new = ap (λ l. map buffer_of l ++ map buffer_of s.outbox) new.sender.0 ∙ ap (map buffer_of) new.sender.1

-- what holds at each place holds of each
by_steps : (P : AutoRule → Type 0) (rules : List AutoRule) → All P rules → AllByRecursion P rules
by_steps P [] all = tt
by_steps P (rule ∷ rules) all = (all 0 rule (omega arith), by_steps P rules (λ k d low. all (suc k) d (omega (arith, low))))

-- the autotriggers fire declared ids
fire_declared : (triggers : List TriggerRule) (autos : List Watch) → AllByRecursion (IsFitAuto triggers) (map (λ (watch : Watch). watch.rule) autos) → AllByRecursion (λ (watch : Watch). is_declared triggers (fired_by watch.rule) ≡ true) autos
fire_declared triggers [] all = tt
fire_declared triggers (watch ∷ autos) all = (all.0.1, fire_declared triggers autos all.1)

pub is_new : (limits : ClientLimits) (rules : PlainRules) (giver : Giving) (id : ClientId) (key : Key) (core : Core Leased) (autos : List Watch) (drawer : Drawing) (s : Senders) (r : Receivers) → AreFit limits rules.autos rules.triggers rules.nodes
    → giver.size ≡ limits.size → (drawer.size ≡ limits.size) × (drawer.pool ≡ giver.pool) → key ≡ key_of rules giver id → AreNewLinks limits key id s r → AreNewAutos rules.autos autos → core ≡ bare_core id limits.size limits.calls
    → IsNew (record { core = core; autos = autos; drawer = drawer; chunks = outgoing s.chunks; crumbs = s.crumbs; triggers = s.triggers })
is_new limits rules giver id key core autos drawer s r fit size drawn named links watches core_is =
    let most = limits.backlog in
    let client : PlainClient = record { core = core; autos = autos; drawer = drawer; chunks = outgoing s.chunks; crumbs = s.crumbs; triggers = s.triggers } in
    let owner : key.client ≡ core.client = ap (λ (k : Key). k.client) named ∙ sym (ap (λ (c : Core Leased). c.client) core_is) in
    let pool : key.pool ≡ drawer.pool = ap (λ (k : Key). k.pool) named ∙ sym drawn.1 in
    let sized : key.size ≡ core.size = ap (λ (k : Key). k.size) named ∙ size ∙ sym (ap (λ (c : Core Leased). c.size) core_is) in
    let chunks_key = links.chunks.keys.0 in
    let crumbs_key = links.crumbs.keys.0 in
    let triggers_key = links.triggers.keys.0 in
    let fits = fire_declared rules.triggers autos (by_steps (IsFitAuto rules.triggers) (map (λ (watch : Watch). watch.rule) autos) (subst (All (IsFitAuto rules.triggers)) (sym watches.rules_are) fit.autos_are)) in
    let rules_are : s.triggers.key.rules ≡ rules.triggers = ap (λ (k : Key). k.rules) (triggers_key ∙ named) in
    record {
      core = subst (λ (c : Core Leased). c ≡ record (new_core c.client c.size c.calls) { keeps = c.keeps; renewed = c.renewed }) (sym core_is) refl;
      autos = watches.fresh;
      declared = subst (λ (l : List TriggerRule). AllByRecursion (λ (watch : Watch). is_declared l (fired_by watch.rule) ≡ true) autos) (sym rules_are) fits;
      drawer = drawn.0 ∙ sym (ap (λ (c : Core Leased). c.size) core_is);
      chunks = record {
        nothing = no_buffers key most most s.chunks r.chunks links.chunks;
        owner = ap (λ (k : Key). k.client) chunks_key ∙ owner;
        pool = ap (λ (k : Key). k.pool) chunks_key ∙ pool;
        size = ap (λ (k : Key). k.size) chunks_key ∙ sized;
      };
      crumbs = record {
        nothing = nothing_sent key most most s.crumbs r.crumbs links.crumbs;
        owner = ap (λ (k : Key). k.client) crumbs_key ∙ owner;
        pool = ap (λ (k : Key). k.pool) crumbs_key ∙ pool;
        size = ap (λ (k : Key). k.size) crumbs_key ∙ sized;
      };
      triggers = record {
        nothing = nothing_sent key most most s.triggers r.triggers links.triggers;
        owner = ap (λ (k : Key). k.client) triggers_key ∙ owner;
        pool = ap (λ (k : Key). k.pool) triggers_key ∙ pool;
        size = ap (λ (k : Key). k.size) triggers_key ∙ sized;
      };
      nodes = (ap (λ (k : Key). k.nodes) (crumbs_key ∙ sym chunks_key), ap (λ (k : Key). k.nodes) (triggers_key ∙ sym chunks_key));
      rooms = omega (arith, links.chunks.sizes.1, links.crumbs.sizes.1, links.triggers.sizes.1, fit.sizes.backlog.0.1);
    }
