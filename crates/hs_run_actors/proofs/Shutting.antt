-- An agent whose links are closed: closing them, passes over what is left, and the end.
use Rattle.std.proofs.Common.{◌≡◌, ℕ, zero, suc, ◌<◌, Bool, true, false, ◌&&◌, List, [], ◌∷◌, ◌++◌, length, map, Option, Some, None, refl, sym, ap, ap₂, subst, ◌∙◌, arith, append_assoc, length-append, eqb, eqb-true, eq-eqb}
use Rattle.hs_run_actors.proofs.Prelude.{length-map, same_Some, slice_get_within, slice_get, AllByRecursion, option_map_or, get_there, get_map, all_at, Ask, Crumb, Trigger, crumbs_in, triggers_in, AreTurns, AgentRun, point_of, Incoming, Outgoing, Remaining, AreEnds, sent, Key, IsEnd, AgentEvent, PlainWorkload, Leased, Giving, Buffer, buffer_of, PoolName, Held, IsPooled, IsAskable, run_at, state_at, Intake, closed, linked, AreIntakesFor, HandsOut, HandOutFirst, key_of, PlainAgentActor, IsAgentActor, working_agent_of, CanPass, MakesPass, AreEndsOf, AreRests, are_given, PlainClosedAgent, IsClosedAgent, IsClosedAgentBare, ClosedAgentPasses, AreMatesOf, PlainWorkingAgent, Helping, WorkingAgentStands, lent_of, NodeWork, IsFew, with_asks, with_events, with_moved, came_of}
use Rattle.std.proofs.lemmas.List.{nil_from_length}
use Rattle.std.specs.Prelude.{filter_map}
use Rattle.std.specs.List.{cons_option}
use Rattle.hs_agent.specs.Points.{buffers_left, places_left}
use Rattle.hs_run_actors.specs.ClosedAgents.{AllSent, TakesLeft, all_sent, sent_at, closed_working_agent, closed_intakes}
use Rattle.hs_run_actors.proofs.Passed.{pass, came, came_behind, crumbs_behind, triggers_behind, ends_pass, gives_made, takes_asks, out_at, out_count}
use Rattle.hs_run_actors.proofs.Ports.{lined, line_at}
use Rattle.hs_run_actors.proofs.Resting.{shut_list, rest_at, left_at, all_empty, all_are_given}
use Rattle.hs_run_actors.proofs.Telling.{told, asked}

-- ---- a pass

module _ {T : Type 0} (field : Helping → List T) (helpings : List Helping) (old new : List (Remaining T Key)) (first : HandOutFirst (map field helpings) (shut_list old) (shut_list new)) where
  count_left : length new ≡ length old
  count_left = sym (length-map new (λ (r : Remaining T Key). closed r)) ∙ out_count (map field helpings) (shut_list old) (shut_list new) first ∙ length-map old (λ (r : Remaining T Key). closed r)

  at_pass : (client : ℕ) (r : Remaining T Key) (h : Helping) → slice_get old client ≡ Some r → slice_get helpings client ≡ Some h → (q : Remaining T Key) × (slice_get new client ≡ Some q) × HandsOut (field h) (closed r) (closed q)
  at_pass client r h at helped =
      let (k, there_k, out) = out_at (map field helpings) (shut_list old) (shut_list new) client (field h) (closed r) first (get_map field helpings client h helped) (rest_at old client r at) in
      let (q, at_q, is) = left_at new client k there_k in
      (q, at_q, subst (λ (l : Intake T). HandsOut (field h) (closed r) l) is out)

  module _ (number : length helpings ≡ length old) (before behind all : ℕ → List T) (was : (client : ℕ) (r : Remaining T Key) → slice_get old client ≡ Some r → before client ++ r.items ≡ all client)
      (brings : (client : ℕ) (h : Helping) → slice_get helpings client ≡ Some h → behind client ≡ before client ++ field h) where
    pub still_left : (client : ℕ) (q : Remaining T Key) → slice_get new client ≡ Some q → behind client ++ q.items ≡ all client
    still_left client q at =
        let count = count_left in
        let low = slice_get_within new client q at in
        let (h, helped) = get_there helpings client (omega (arith, low, number, count)) in
        let (r, at_r) = get_there old client (omega (arith, low, count)) in
        let (p, at_p, out) = at_pass client r h at_r helped in
        let same : q ≡ p = same_Some q p (sym at ∙ at_p) in
        ap₂ (λ (x : List T) (y : Remaining T Key). x ++ y.items) (brings client h helped) same ∙ append_assoc (before client) (field h) p.items ∙ ap (λ (l : List T). before client ++ l) (sym out.hands.1) ∙ was client r at_r

    pub takes_left : (client : ℕ) → client < length old → TakesLeft (all client) (before client) (behind client)
    takes_left client low =
        let (h, helped) = get_there helpings client (omega (arith, low, number)) in
        let (r, at_r) = get_there old client low in
        let (p, at_p, out) = at_pass client r h at_r helped in
        let sum = ap length (sym (was client r at_r)) ∙ length-append (before client) r.items in
        let more = ap length (brings client h helped) ∙ length-append (before client) (field h) in
        let most = out.all in
        omega (arith, sum, more, most)

module _ (W : PlainWorkload) (work : NodeWork) (all : AllSent) (old new : PlainClosedAgent) (shut : IsClosedAgent W work all old) (made : MakesPass W work (closed_intakes old) (closed_intakes new) (closed_working_agent new)) where
  abbrev events : List AgentEvent
  events = pass W work (closed_intakes old) (closed_intakes new) (closed_working_agent new) made

  abbrev brought : List (Buffer Leased)
  brought = came W work (closed_intakes old) (closed_intakes new) (closed_working_agent new) made

  count_chunks : length old.chunks ≡ W.settings.clients
  count_chunks = sym (length-map old.chunks (λ (r : Remaining (Buffer Leased) Key). closed r)) ∙ shut.stands.lines_are.chunks.count

  count_crumbs : length old.crumbs ≡ W.settings.clients
  count_crumbs = sym (length-map old.crumbs (λ (r : Remaining Crumb Key). closed r)) ∙ shut.stands.lines_are.crumbs.count

  count_triggers : length old.triggers ≡ W.settings.clients
  count_triggers = sym (length-map old.triggers (λ (r : Remaining Trigger Key). closed r)) ∙ shut.stands.lines_are.triggers.count

  pub passed_shut : new.clients ≡ W.settings.clients → (p : List AgentEvent) × (c : List (Buffer Leased)) × ClosedAgentPasses W work all p c old new
  passed_shut clients =
      let chunks_so = came_behind W work (closed_intakes old) (closed_intakes new) (closed_working_agent new) made in
      let crumbs_so = crumbs_behind W work (closed_intakes old) (closed_intakes new) (closed_working_agent new) made in
      let triggers_so = triggers_behind W work (closed_intakes old) (closed_intakes new) (closed_working_agent new) made in
      let n₁ = count_chunks in
      let n₂ = count_crumbs in
      let n₃ = count_triggers in (
        events,
        brought,
        record {
          stands =
              record {
                stands = made.stands;
                left =
                    record {
                      chunks = still_left (λ (h : Helping). h.chunks) made.helpings old.chunks new.chunks made.chunks (made.number ∙ sym n₁) (λ c. came_of c work) (λ c. came_of c (with_events events brought work)) all.chunks shut.left.chunks chunks_so;
                      crumbs = still_left (λ (h : Helping). h.crumbs) made.helpings old.crumbs new.crumbs made.crumbs (made.number ∙ sym n₂) (λ c. crumbs_in c work.events) (λ c. crumbs_in c (work.events ++ events)) all.crumbs shut.left.crumbs crumbs_so;
                      triggers =
                          still_left (λ (h : Helping). h.triggers) made.helpings old.triggers new.triggers made.triggers (made.number ∙ sym n₃) (λ c. triggers_in c work.events) (λ c. triggers_in c (work.events ++ events)) all.triggers shut.left.triggers triggers_so;
                    };
                clients_are = clients;
              };
          ends = ends_pass W work (closed_intakes old) (closed_intakes new) (closed_working_agent new) made;
          gives = gives_made W work (closed_intakes old) (closed_intakes new) (closed_working_agent new) made;
          chunks = λ c low.
              takes_left (λ (h : Helping). h.chunks) made.helpings old.chunks new.chunks made.chunks (made.number ∙ sym n₁) (λ c. came_of c work) (λ c. came_of c (with_events events brought work)) all.chunks shut.left.chunks chunks_so c (omega (arith, low, n₁));
          crumbs = λ c low.
              takes_left (λ (h : Helping). h.crumbs) made.helpings old.crumbs new.crumbs made.crumbs (made.number ∙ sym n₂) (λ c. crumbs_in c work.events) (λ c. crumbs_in c (work.events ++ events)) all.crumbs shut.left.crumbs crumbs_so c (omega (arith, low, n₂));
          triggers = λ c low.
              takes_left (λ (h : Helping). h.triggers) made.helpings old.triggers new.triggers made.triggers (made.number ∙ sym n₃) (λ c. triggers_in c work.events) (λ c. triggers_in c (work.events ++ events)) all.triggers shut.left.triggers triggers_so c
              (omega (arith, low, n₃));
          asks = takes_asks W work (closed_intakes old) (closed_intakes new) (closed_working_agent new) made;
        },
      )

pub can_pass_shut : (W : PlainWorkload) (work : NodeWork) (all : AllSent) (shut : PlainClosedAgent) → IsClosedAgent W work all shut → IsFew W work → CanPass W work shut.clients (closed_working_agent shut) (closed_intakes shut)
can_pass_shut W work all shut is few = record { clients_are = is.clients_are; few = few; stands = is.stands }

-- ---- messages and asks

module _ (W : PlainWorkload) (work : NodeWork) (all : AllSent) (old : PlainClosedAgent) (shut : IsClosedAgent W work all old) where
  pub told_shut : IsClosedAgent W (with_moved old.said work) all (record old { said = [] })
  told_shut =
      record {
        stands = told W work (closed_intakes old) (closed_working_agent old) shut.stands;
        left = record { chunks = shut.left.chunks; crumbs = shut.left.crumbs; triggers = shut.left.triggers };
        clients_are = shut.clients_are;
      }

  pub asked_shut : (asks : List Ask) → AllByRecursion (IsAskable W) asks → IsClosedAgent W (with_asks asks work) all (record old { asks = old.asks ++ asks })
  asked_shut asks askable =
      record {
        stands = asked W work (closed_intakes old) (closed_working_agent old) shut.stands asks askable;
        left = record { chunks = shut.left.chunks; crumbs = shut.left.crumbs; triggers = shut.left.triggers };
        clients_are = shut.clients_are;
      }

-- ---- closing

module _ {T : Type 0} where
  -- mates stand at the same places
  pub ends_of : (senders : List (Outgoing T Key)) (receivers : List (Incoming T Key)) → AreMatesOf senders receivers → AreEndsOf senders receivers
  ends_of senders receivers mates =
      go senders receivers mates.count (λ client s r at end. let (q, end_q, ends) = mates.each client s at in let same : q ≡ r = same_Some q r (sym end_q ∙ end) in subst (λ (x : Incoming T Key). AreEnds s x) same ends)
    where
      go : (senders : List (Outgoing T Key)) (receivers : List (Incoming T Key)) → length senders ≡ length receivers
          → ((client : ℕ) (s : Outgoing T Key) (r : Incoming T Key) → slice_get senders client ≡ Some s → slice_get receivers client ≡ Some r → AreEnds s r) → AreEndsOf senders receivers
      go [] [] count each = tt
      go [] (r ∷ receivers) count each = absurd (omega (arith, count))
      go (s ∷ senders) [] count each = absurd (omega (arith, count))
      go (s ∷ senders) (r ∷ receivers) count each = (each 0 s r refl refl, go senders receivers (omega (arith, count)) (λ client x y at end. each (suc client) x y at end))

  rest_is : (senders : List (Outgoing T Key)) (receivers : List (Incoming T Key)) (rests : List (Remaining T Key)) (client : ℕ) (x : Remaining T Key) → AreRests senders receivers rests → slice_get rests client ≡ Some x
      → (s : Outgoing T Key) × (r : Incoming T Key) × (slice_get senders client ≡ Some s) × (slice_get receivers client ≡ Some r) × (r.received ++ x.items ≡ sent s) × (x.key ≡ r.key)
  rest_is [] [] [] client x are at = let none : None ≡ Some x = at in absurd cc
  rest_is [] [] (y ∷ rests) client x are at = absurd are
  rest_is [] (r ∷ receivers) rests client x are at = absurd are
  rest_is (s ∷ senders) [] rests client x are at = absurd are
  rest_is (s ∷ senders) (r ∷ receivers) [] client x are at = absurd are
  rest_is (s ∷ senders) (r ∷ receivers) (y ∷ rests) zero x are at =
      let same : y ≡ x = same_Some y x at in
      (s, r, refl, refl, ap (λ (z : Remaining T Key). r.received ++ z.items) (sym same) ∙ are.0, ap (λ (z : Remaining T Key). z.key) (sym same) ∙ are.1)
  rest_is (s ∷ senders) (r ∷ receivers) (y ∷ rests) (suc client) x are at = rest_is senders receivers rests client x are.2 at

  count_rests : (senders : List (Outgoing T Key)) (receivers : List (Incoming T Key)) (rests : List (Remaining T Key)) → AreRests senders receivers rests → length rests ≡ length receivers
  count_rests [] [] [] are = refl
  count_rests [] [] (y ∷ rests) are = absurd are
  count_rests [] (r ∷ receivers) rests are = absurd are
  count_rests (s ∷ senders) [] rests are = absurd are
  count_rests (s ∷ senders) (r ∷ receivers) [] are = absurd are
  count_rests (s ∷ senders) (r ∷ receivers) (y ∷ rests) are = ap suc (count_rests senders receivers rests are.2)

  module _ (senders : List (Outgoing T Key)) (receivers : List (Incoming T Key)) (rests : List (Remaining T Key)) (are : AreRests senders receivers rests) where
    -- what was received and what is left are what was sent
    pub left_is : (before : ℕ → List T) → ((client : ℕ) (r : Incoming T Key) → IsEnd client receivers r → r.received ≡ before client) → (client : ℕ) (x : Remaining T Key) → slice_get rests client ≡ Some x → before client ++ x.items ≡ sent_at senders client
    left_is before was client x at =
        let (s, r, at_s, at_r, items, key) = rest_is senders receivers rests client x are at in
        ap (λ (l : List T). l ++ x.items) (sym (was client r at_r)) ∙ items ∙ sym (ap (λ (o : Option (Outgoing T Key)). option_map_or sent o []) at_s)

    pub lines_shut : (W : PlainWorkload) (node : ℕ) (pool : PoolName) → AreIntakesFor W node pool (lined receivers) → AreIntakesFor W node pool (shut_list rests)
    lines_shut W node pool lines =
        record {
          count = length-map rests (λ (r : Remaining T Key). closed r) ∙ count_rests senders receivers rests are ∙ sym (length-map receivers (λ (r : Incoming T Key). linked r)) ∙ lines.count;
          keys = λ client l at.
              let (x, at_x, is) = left_at rests client l at in
              let (s, r, at_s, at_r, items, key) = rest_is senders receivers rests client x are at_x in
              ap key_of is ∙ key ∙ lines.keys client (linked r) (line_at receivers client r at_r);
        }

-- all links are closed
pub shut_so : (W : PlainWorkload) (work : NodeWork) (manned : PlainAgentActor) (shut : PlainClosedAgent) (chunks : List (Outgoing (Buffer Leased) Key)) (crumbs : List (Outgoing Crumb Key)) (triggers : List (Outgoing Trigger Key)) → IsAgentActor W work manned
    → AreRests chunks manned.port.chunks shut.chunks → AreRests crumbs manned.port.crumbs shut.crumbs → AreRests triggers manned.port.triggers shut.triggers → closed_working_agent shut ≡ working_agent_of manned → shut.giver ≡ manned.port.giver → shut.clients ≡ manned.clients
    → IsClosedAgent W work (all_sent chunks crumbs triggers) shut
shut_so W work manned shut chunks crumbs triggers is a b c desk giver clients =
    let lines = is.stands.lines_are in
    record {
      stands =
          subst (λ (d : PlainWorkingAgent). WorkingAgentStands W work d (closed_intakes shut)) (sym desk)
          (record {
            works = is.stands.works;
            asks_are = is.stands.asks_are;
            askable = is.stands.askable;
            lines_are =
                record {
                  pool_is = ap (λ (g : Giving). g.pool) giver ∙ lines.pool_is;
                  size = ap (λ (g : Giving). g.size) giver ∙ lines.size;
                  chunks = lines_shut chunks manned.port.chunks shut.chunks a W work.node work.pool lines.chunks;
                  crumbs = lines_shut crumbs manned.port.crumbs shut.crumbs b W work.node work.pool lines.crumbs;
                  triggers = lines_shut triggers manned.port.triggers shut.triggers c W work.node work.pool lines.triggers;
                };
            turns = subst (λ (g : Giving). AreTurns W.settings work.node (map lent_of work.came) work.events g.turns) (sym giver) is.stands.turns;
          });
      left =
          record {
            chunks = left_is chunks manned.port.chunks shut.chunks a (λ k. came_of k work) is.received.chunks;
            crumbs = left_is crumbs manned.port.crumbs shut.crumbs b (λ k. crumbs_in k work.events) is.received.crumbs;
            triggers = left_is triggers manned.port.triggers shut.triggers c (λ k. triggers_in k work.events) is.received.triggers;
          };
      clients_are = clients ∙ is.clients_are;
    }

-- ---- the end

kept_step : {B : Type 0} (P : B → Type 0) (o : Option B) (rest : List B) → ((y : B) → o ≡ Some y → P y) → AllByRecursion P rest → AllByRecursion P (cons_option o rest)
kept_step P None rest each all = all
kept_step P (Some y) rest each all = (each y refl, all)

all_kept : {A B : Type 0} (P : B → Type 0) (f : A → Option B) (xs : List A) → ((x : A) (y : B) → f x ≡ Some y → P y) → AllByRecursion P (filter_map f xs)
all_kept P f [] each = tt
all_kept P f (x ∷ xs) each = kept_step P (f x) (filter_map f xs) (each x) (all_kept P f xs each)

held_pool : {g : _} (pool : PoolName) (rest : List (Held Leased g)) → AllByRecursion (λ (b : Buffer Leased). b.lease.pool ≡ pool) (map buffer_of rest) → AllByRecursion (λ (held : Held Leased g). held.lease.pool ≡ pool) rest
held_pool pool [] all = tt
held_pool pool (x ∷ rest) all = (all.0, held_pool pool rest all.1)

module _ (W : PlainWorkload) (work : NodeWork) (all : AllSent) (shut : PlainClosedAgent) (is : IsClosedAgent W work all shut) where
  abbrev pub last_run : AgentRun Leased
  last_run = run_at W work is.stands.works.is.buffers None

  -- what the agent has left is of the pool
  pub rest_pooled : {g : _} (rest : List (Held Leased g)) → map buffer_of rest ≡ buffers_left (point_of last_run) → AllByRecursion (λ (held : Held Leased g). held.lease.pool ≡ shut.giver.pool) rest
  rest_pooled rest e =
      let buffers = is.stands.works.is.buffers in
      let pooled = all_kept (λ (b : Buffer Leased). b.lease.pool ≡ shut.giver.pool) (slice_get buffers) (places_left (state_at W work)) (λ place b at. (all_at (IsPooled W work.pool) buffers place b is.stands.works.is.pooled at).pool_is ∙ sym is.stands.lines_are.pool_is) in
      held_pool shut.giver.pool rest (subst (λ (l : List (Buffer Leased)). AllByRecursion (λ (b : Buffer Leased). b.lease.pool ≡ shut.giver.pool) l) (sym e) pooled)

-- ---- whether nothing waits

all_three : (a b c : Bool) → (a && b && c) ≡ true → (a ≡ true) × (b ≡ true) × (c ≡ true)
all_three true true true e = (refl, refl, refl)
all_three true true false e = absurd cc
all_three true false c e = absurd cc
all_three false b c e = absurd cc

pub nothing_waits : {A : Type 0} (items : List A) (count : ℕ) (flag : Bool) → count ≡ length items → flag ≡ eqb count 0 → flag ≡ true → items ≡ []
nothing_waits [] count flag same e on = refl
nothing_waits (x ∷ items) count flag same e on = let none = eqb-true count 0 (sym e ∙ on) in absurd (omega (arith, none, same))

module _ (W : PlainWorkload) (work : NodeWork) (shut : PlainClosedAgent) where
  -- where something is left of a link
  pub not_bare : (are_given shut.chunks && are_given shut.crumbs && are_given shut.triggers) ≡ false → IsClosedAgentBare W work shut → ⊥
  not_bare e bare =
      let a = all_are_given shut.chunks bare.chunks in
      let b = all_are_given shut.crumbs bare.crumbs in
      let c = all_are_given shut.triggers bare.triggers in
      let whole : (are_given shut.chunks && are_given shut.crumbs && are_given shut.triggers) ≡ true = ap₂ (λ (x y : Bool). x && y) (ap₂ (λ (x y : Bool). x && y) a b) c in
      absurd cc

  -- and where nothing waits, by what is pinned
  pub bare_by_pins : (are_given shut.chunks && are_given shut.crumbs && are_given shut.triggers) ≡ true → shut.asks ≡ [] → shut.said ≡ [] → (pins : ℕ) → pins ≡ length (state_at W work).pinned
      → (eqb pins 0 ≡ true → IsClosedAgentBare W work shut) × (eqb pins 0 ≡ false → IsClosedAgentBare W work shut → ⊥)
  bare_by_pins given asks said pins count =
      let (a, b, c) = all_three (are_given shut.chunks) (are_given shut.crumbs) (are_given shut.triggers) given in (
        λ on.
            (let none = eqb-true pins 0 on in
            record {
              chunks = all_empty shut.chunks a;
              crumbs = all_empty shut.crumbs b;
              triggers = all_empty shut.triggers c;
              asks = asks;
              said = said;
              pinned = nil_from_length (state_at W work).pinned (sym count ∙ none);
            }),
        λ off bare. (let zero_pins : pins ≡ 0 = count ∙ ap length bare.pinned in let on = eq-eqb pins 0 zero_pins in absurd cc),
      )
