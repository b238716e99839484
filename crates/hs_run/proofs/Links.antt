-- A link in the rounds: in each pass the agent receives what its end was told of, and behind it is told of what the client sent, or in each
-- case of as much as fits.
use Rattle.std.proofs.Common.{◌≡◌, ℕ, zero, suc, ◌+◌, ◌<◌, ◌≤◌, min, Bool, true, false, nat_lt, ltb-true, ltb-false, List, length, refl, sym, ap, ◌∙◌, arith, slice_get}
use Rattle.hs_run.proofs.Prelude.{option_map_or, length-append, HasItem, get_some, MAX_TAKEN, Incoming, sent, Key, PlainClient, Port, Operation, PlainWorkload, IsValid, PlainClientActor, Goes, NodeWork, PlainNodeActors, RunState, NodeActorsStand, ClientActorMet, IsSameDoing, Came, ops_of}
use Rattle.hs_link.specs.Contents.{Outgoing}
use Rattle.hs_live.specs.Live.{IsEnd}
use Rattle.hs_run_actors.specs.Standing.{IsFlushed}
use Rattle.hs_run_actors.specs.AgentActors.{PlainAgentActor, HasReceived, Passes, ReceivesInPass, EachReceives}
use Rattle.hs_run.specs.Meeting.{EndsMet}
use Rattle.hs_run.proofs.StoryMoments.{site_of, site_stands, site_acts, site_moves, doing_same}
use Rattle.hs_run.proofs.StoryMeetings.{caller_at, acted_at, met_at, goes_at, caller_met, caller_moved}

-- one kind of links: where its ends stand, and what was received by the work
pub record Kind (T : Type 0) (W : PlainWorkload) (node client : ℕ) : Type 0 where
  pub ends : Port → List (Incoming T Key)
  pub sender : PlainClient → Outgoing T Key
  pub got : NodeWork → List T
  pub received : (work : NodeWork) (port : Port) → HasReceived work port → (r : Incoming T Key) → IsEnd client (ends port) r → r.received ≡ got work
  pub each : (work : NodeWork) (pass : _) (came : _) (old new : PlainAgentActor) → Passes W work pass came old new → EachReceives (ends old.port) (ends new.port)
  pub flushed : (ops : List Operation) (old new : PlainClientActor) → Goes W.settings ops old new → IsFlushed (sender old.client) (sender new.client)
  pub met : (port port' : Port) (old new : PlainClientActor) → ClientActorMet client port port' old new → EndsMet client (ends port) (sender old.client) (ends port') (sender new.client)
  pub long : (work : NodeWork) (site : PlainNodeActors) → NodeActorsStand W node work site → length (ends site.agent.port) ≡ W.settings.clients
  pub same : (old new : NodeWork) → IsSameDoing old new → got new ≡ got old

module _ (W : PlainWorkload) (valid : IsValid W) (rounds : ℕ) (m : RunState) (came : Came W rounds m) (node : ℕ) (few : node < W.settings.nodes) (client : ℕ) (own : client < W.settings.clients) {T : Type 0}
    (kind : Kind T W node client)
  where
    abbrev port_at : ℕ → Port
    port_at k = (site_of W valid rounds m came (came.at k) node).agent.port

    -- how many items the receiver was told of
    abbrev pub told_at : ℕ → ℕ
    told_at k = option_map_or (λ (r : Incoming T Key). length r.told) (slice_get (kind.ends (port_at k)) client) 0

    abbrev pub got_at : ℕ → ℕ
    got_at k = length (kind.got ((came.at k).works node))

    end_at : (k : ℕ) → k ≤ rounds → HasItem (kind.ends (port_at k)) client
    end_at k low =
        let long = kind.long ((came.at k).works node) (site_of W valid rounds m came (came.at k) node) (site_stands W valid rounds m came k node low few) in get_some (kind.ends (port_at k)) client (omega (arith, long, own))

    told_is : (k : ℕ) (r : Incoming T Key) → IsEnd client (kind.ends (port_at k)) r → told_at k ≡ length r.told
    told_is k r there = ap (λ o. option_map_or (λ (r : Incoming T Key). length r.told) o 0) there

    -- in a pass all that was told is received, or as many items as a pass takes
    record Received (k : ℕ) : Type 0 where
      old : Incoming T Key
      old_end : IsEnd client (kind.ends (port_at k)) old
      new : Incoming T Key
      new_end : IsEnd client (kind.ends (site_of W valid rounds m came (came.acted k) node).agent.port) new
      receives : ReceivesInPass old new
      old_got : length old.received ≡ got_at k
      new_got : length new.received ≡ got_at (suc k)

    received_in : (k : ℕ) → k < rounds → Received k
    received_in k low =
        let s = site_stands W valid rounds m came k node (omega (arith, low)) few in
        let a = site_acts W valid rounds m came k node low few in
        let old = end_at k (omega (arith, low)) in
        let out = (kind.each ((came.at k).works node) a.pass a.came (site_of W valid rounds m came (came.at k) node).agent (site_of W valid rounds m came (came.acted k) node).agent a.passes).each client old.item old.there in
        record {
          old = old.item;
          old_end = old.there;
          new = out.0;
          new_end = out.1;
          receives = out.2;
          old_got = ap length (kind.received ((came.at k).works node) (port_at k) s.agent.received old.item old.there);
          new_got = ap length
              (kind.received ((came.acted k).works node) (site_of W valid rounds m came (came.acted k) node).agent.port a.stands.agent.received out.0 out.1
              ∙ sym (kind.same ((came.acted k).works node) ((came.at (suc k)).works node) (doing_same W valid rounds m came k node low)));
        }

    pub takes_told : (k : ℕ) → k < rounds → min (told_at k) (got_at k + MAX_TAKEN) ≤ got_at (suc k)
    takes_told k low =
        let r = received_in k low in
        let all = r.receives.all in
        let told = told_is k r.old r.old_end in
        let before = r.old_got in
        let behind = r.new_got in
        omega (arith, all, told, before, behind)

    -- behind the pass the two ends heard of each other
    record Heard (k : ℕ) : Type 0 where
      told : told_at (suc k) ≡ length (kind.sender (acted_at W valid rounds m came node k client).client).put
      taken : (kind.sender (caller_at W valid rounds m came node (suc k) client).client).taken ≡ got_at (suc k)
      capacity : (kind.sender (caller_at W valid rounds m came node (suc k) client).client).capacity ≡ (kind.sender (acted_at W valid rounds m came node k client).client).capacity

    heard_in : (k : ℕ) → k < rounds → Heard k
    heard_in k low =
        let r = received_in k low in
        let port = (site_moves W valid rounds m came k node low few).port in
        let behind = end_at (suc k) (omega (arith, low)) in
        let there : IsEnd client (kind.ends (site_of W valid rounds m came (came.met k) node).agent.port) behind.item = ap (λ p. slice_get (kind.ends p) client) (sym port) ∙ behind.there in
        let met =
        kind.met (site_of W valid rounds m came (came.acted k) node).agent.port (site_of W valid rounds m came (came.met k) node).agent.port (acted_at W valid rounds m came node k client) (met_at W valid rounds m came node k client)
        (caller_met W valid rounds m came node few k client low own) r.new behind.item r.new_end there in
        let moved = caller_moved W valid rounds m came node few k client low own in
        record {
          told = told_is (suc k) behind.item behind.there ∙ ap (λ (q : Incoming T Key). length q.told) met.receiver;
          taken = ap (λ (c : PlainClientActor). (kind.sender c.client).taken) moved ∙ ap (λ (s : Outgoing T Key). s.taken) met.sender ∙ r.new_got;
          capacity = ap (λ (c : PlainClientActor). (kind.sender c.client).capacity) moved ∙ ap (λ (s : Outgoing T Key). s.capacity) met.sender;
        }

    -- at the beginning the client was told of nothing taken, and the agent of nothing put
    pub record LinkBegan : Type 0 where
      pub taken : (kind.sender (caller_at W valid rounds m came node 0 client).client).taken ≡ got_at 0
      pub capacity : (kind.sender (caller_at W valid rounds m came node 0 client).client).capacity ≡ MAX_TAKEN
      pub told : told_at 0 ≡ 0

    module _ (began : LinkBegan) where
      record Sizes (k : ℕ) : Type 0 where
        taken : (kind.sender (caller_at W valid rounds m came node k client).client).taken ≡ got_at k
        capacity : (kind.sender (caller_at W valid rounds m came node k client).client).capacity ≡ MAX_TAKEN

      flushed_in : (k : ℕ) → k < rounds → IsFlushed (kind.sender (caller_at W valid rounds m came node k client).client) (kind.sender (acted_at W valid rounds m came node k client).client)
      flushed_in k low =
          kind.flushed (ops_of W node client) (caller_at W valid rounds m came node k client) (acted_at W valid rounds m came node k client) (goes_at W valid rounds m came node few k client low own)

      sizes : (k : ℕ) → k ≤ rounds → Sizes k
      sizes zero low = record { taken = began.taken; capacity = began.capacity }
      sizes (suc k) low =
          let heard = heard_in k (omega (arith, low)) in
          let before = sizes k (omega (arith, low)) in
          let f = flushed_in k (omega (arith, low)) in
          record { taken = heard.taken; capacity = heard.capacity ∙ f.goes.same.2 ∙ before.capacity }

      abbrev sent_in : ℕ → ℕ
      sent_in k = length (sent (kind.sender (acted_at W valid rounds m came node k client).client))

      pub hears_sent : (k : ℕ) → k < rounds → min (length (sent (kind.sender (acted_at W valid rounds m came node k client).client))) (got_at k + MAX_TAKEN) ≤ told_at (suc k)
      hears_sent k low = either (nat_lt 0 (length (kind.sender (acted_at W valid rounds m came node k client).client).outbox)) refl
        where
          either : (b : Bool) → nat_lt 0 (length (kind.sender (acted_at W valid rounds m came node k client).client).outbox) ≡ b → min (sent_in k) (got_at k + MAX_TAKEN) ≤ told_at (suc k)
          either true e =
              let s = kind.sender (acted_at W valid rounds m came node k client).client in
              let f = flushed_in k low in
              let full = f.full (ltb-true 0 (length s.outbox) e) in
              let told = (heard_in k low).told in
              let z = sizes k (omega (arith, low)) in
              let taken = f.goes.same.4 in
              let capacity = f.goes.same.2 in
              let old_taken = z.taken in
              let old_capacity = z.capacity in
              omega (arith, full, told, taken, capacity, old_taken, old_capacity)
          either false e =
              let s = kind.sender (acted_at W valid rounds m came node k client).client in
              let none = ltb-false 0 (length s.outbox) e in
              let told = (heard_in k low).told in
              let both = length-append s.put s.outbox in
              omega (arith, none, told, both)

      -- no more is told than was sent
      pub told_few : (k : ℕ) → k < rounds → told_at (suc k) ≤ length (sent (kind.sender (acted_at W valid rounds m came node k client).client))
      told_few k low =
          let s = kind.sender (acted_at W valid rounds m came node k client).client in let told = (heard_in k low).told in let both = length-append s.put s.outbox in omega (arith, told, both)
