-- The agent offers until its hand is empty or an offer is unread, and a whole pass.
use Rattle.std.proofs.Common.{◌≡◌, ◌⊎◌, inl, inr, ℕ, ◌-◌, ◌<◌, ◌≤◌, Bool, true, false, List, [], ◌∷◌, ◌++◌, length, map, refl, sym, ap, subst, ◌∙◌, arith, append_assoc, append-nil, length-append}
use Rattle.hs_run_actors.proofs.Prelude.{map-append, AllByRecursion, all_each, all_append, MAX_PUBLISHED, Ask, Crumb, Trigger, asks_in, IsStamped, Answered, Turn, AgentEvent, Took, PlainWorkload, Leased, Giving, Buffer, answers_in, state_at, Intake, Intakes, HandOutFirst, MakesPass, PlainWorkingAgent, WorkingAgentStands, TakesFirst, TakesAsks, Helping, OffersNext, stamps_of, events_from, chunks_of, GiverGoesOn, IsOffer, NodeWork, with_events, chunk_event, crumb_event, trigger_event, ask_event, gave_event}
use Rattle.hs_law_agent.specs.Stepping as model
use Rattle.hs_law_agent.specs.Stepping.{Unread}
use Rattle.hs_words.specs.Ends as ends
use Rattle.hs_run_actors.specs.Stages.{AgentOffers, OffersAll}
use Rattle.hs_run_actors.proofs.Stages.{with_none, with_more, asks_more}
use Rattle.hs_run_actors.proofs.ByClient.{asks_of_none}

stamps_more : (xs ys : List Answered) → stamps_of (xs ++ ys) ≡ stamps_of xs ++ stamps_of ys
stamps_more [] ys = refl
stamps_more (model.Given stamp ∷ xs) ys = ap (λ (l : List ℕ). stamp ∷ l) (stamps_more xs ys)
stamps_more (model.Missed stamp ∷ xs) ys = ap (λ (l : List ℕ). stamp ∷ l) (stamps_more xs ys)
stamps_more (model.Unread ∷ xs) ys = stamps_more xs ys

gives_none : (giver : Giving) → GiverGoesOn giver giver []
gives_none giver =
    record {
      pool = refl;
      buffers = refl;
      size = refl;
      drawers = refl;
      floor = omega arith;
      above = tt;
      added = [];
      offers = tt;
      turns = refl;
    }

gives_more : (a b c : Giving) (xs ys : List Answered) → GiverGoesOn a b (stamps_of xs) → GiverGoesOn b c (stamps_of ys) → GiverGoesOn a c (stamps_of (xs ++ ys))
gives_more a b c xs ys g h =
    let low = g.floor in
    let high = h.floor in
    record {
      pool = h.pool ∙ g.pool;
      buffers = h.buffers ∙ g.buffers;
      size = h.size ∙ g.size;
      drawers = h.drawers ∙ g.drawers;
      floor = omega (arith, low, high);
      above =
          subst (AllByRecursion (λ (stamp : ℕ). a.floor ≤ stamp)) (sym (stamps_more xs ys))
          (all_append (λ (stamp : ℕ). a.floor ≤ stamp) (stamps_of xs) (stamps_of ys) g.above
          (all_each (λ (stamp : ℕ). b.floor ≤ stamp) (λ (stamp : ℕ). a.floor ≤ stamp) (stamps_of ys) (λ stamp above. omega (arith, above, low)) h.above));
      added = h.added ++ g.added;
      offers = all_append IsOffer h.added g.added h.offers g.offers;
      turns = h.turns ∙ ap (λ (l : List ends.GiverTurn). h.added ++ l) g.turns ∙ sym (append_assoc h.added g.added a.turns);
    }

module _ (W : PlainWorkload) (work : NodeWork) (old : Intakes) where
  offers_more : (xs ys : List Answered) (mid new : Intakes) (desk desk' : PlainWorkingAgent) → AgentOffers W work xs old mid desk → AgentOffers W (with_events (map gave_event xs) [] work) ys mid new desk' → AgentOffers W work (xs ++ ys) old new desk'
  offers_more xs ys mid new desk desk' o p =
      record {
        gives = gives_more old.giver mid.giver new.giver xs ys o.gives p.gives;
        only = p.only ∙ ap (λ (l : Intakes). record l { giver = new.giver }) o.only;
        stands =
            subst (λ (w : NodeWork). WorkingAgentStands W w desk' new)
            (with_more work (map gave_event xs) (map gave_event ys) [] [] ∙ ap (λ (l : List AgentEvent). with_events l [] work) (sym (map-append gave_event xs ys))) p.stands;
      }

  -- all offers so far were read
  pub record OffersSoFar (lines : Intakes) (desk : PlainWorkingAgent) : Type 0 where
    pub answers : List Answered
    pub stamped : AllByRecursion IsStamped answers
    pub offers : AgentOffers W work answers old lines desk

  pub no_offers : (desk : PlainWorkingAgent) → WorkingAgentStands W work desk old → OffersSoFar old desk
  no_offers desk stands =
      record {
        answers = [];
        stamped = tt;
        offers = record { gives = gives_none old.giver; only = refl; stands = subst (λ (w : NodeWork). WorkingAgentStands W w desk old) (sym (with_none work)) stands };
      }

  module _ (lines : Intakes) (desk : PlainWorkingAgent) (so_far : OffersSoFar lines desk) where
    abbrev pub offers_work : NodeWork
    offers_work = with_events (map gave_event so_far.answers) [] work

    pub offer_more : (lines' : Intakes) (desk' : PlainWorkingAgent) (b : Bool) → b ≡ true → OffersNext W offers_work lines lines' desk' b → OffersSoFar lines' desk'
    offer_more lines' desk' false e next = absurd cc
    offer_more lines' desk' true e next =
        record {
          answers = so_far.answers ++ next.0 ∷ [];
          stamped = all_append IsStamped so_far.answers (next.0 ∷ []) so_far.stamped (next.1, tt);
          offers = offers_more so_far.answers (next.0 ∷ []) lines lines' desk desk' so_far.offers next.2;
        }

    pub counts_on : (lines' : Intakes) (desk' : PlainWorkingAgent) (b : Bool) → b ≡ true → OffersNext W offers_work lines lines' desk' b
        → MAX_PUBLISHED - length (answers_in lines'.giver.turns) < MAX_PUBLISHED - length (answers_in lines.giver.turns)
    counts_on lines' desk' false e next = absurd cc
    counts_on lines' desk' true e next = let more = next.3 in let few = next.4 in omega (arith, more, few)

    pub offers_end : (lines' : Intakes) (desk' : PlainWorkingAgent) (b : Bool) → b ≡ false → OffersNext W offers_work lines lines' desk' b → OffersAll W work old lines' desk'
    offers_end lines' desk' true e next = absurd cc
    offers_end lines' desk' false e (inl unread) =
        record {
          answers = so_far.answers ++ Unread ∷ [];
          offers = offers_more so_far.answers (Unread ∷ []) lines lines' desk desk' so_far.offers unread;
          before = so_far.answers;
          stamped = so_far.stamped;
          ends = inr refl;
        }
    offers_end lines' desk' false e (inr none) =
        record {
          answers = so_far.answers ++ [];
          offers = offers_more so_far.answers [] lines lines' desk desk' so_far.offers none.0;
          before = so_far.answers;
          stamped = so_far.stamped;
          ends = inl (append-nil so_far.answers, ap (λ (l : List Answered). (state_at W (with_events (map gave_event l) [] work)).hand) (append-nil so_far.answers) ∙ none.1);
        }

-- ---- a whole pass

chunks_ask_none : (client : ℕ) (items : List (Buffer Leased)) → asks_in (map (chunk_event client) items) ≡ []
chunks_ask_none client [] = refl
chunks_ask_none client (item ∷ items) = chunks_ask_none client items

crumbs_ask_none : (client : ℕ) (items : List Crumb) → asks_in (map (crumb_event client) items) ≡ []
crumbs_ask_none client [] = refl
crumbs_ask_none client (item ∷ items) = crumbs_ask_none client items

triggers_ask_none : (client : ℕ) (items : List Trigger) → asks_in (map (trigger_event client) items) ≡ []
triggers_ask_none client [] = refl
triggers_ask_none client (item ∷ items) = triggers_ask_none client items

-- the work behind all stages
all_stages : (work : NodeWork) (a b c d : List AgentEvent) (came : List (Buffer Leased)) → with_events d [] (with_events c [] (with_events b [] (with_events a came work))) ≡ with_events (((a ++ b) ++ c) ++ d) came work
all_stages work a b c d came =
    ap (λ (w : NodeWork). with_events d [] (with_events c [] w)) (with_more work a b came []) ∙ ap (with_events d []) (with_more work (a ++ b) c (came ++ []) []) ∙ with_more work ((a ++ b) ++ c) d ((came ++ []) ++ []) []
    ∙ ap (λ (l : List (Buffer Leased)). with_events (((a ++ b) ++ c) ++ d) l work) (append-nil ((came ++ []) ++ []) ∙ append-nil (came ++ []) ∙ append-nil came)

pub pass_made : (W : PlainWorkload) (work : NodeWork) (old lines new : Intakes) (desk1 desk2 desk3 desk4 : PlainWorkingAgent) (first : TakesFirst W work W.settings.clients old lines desk1)
    → (asks : TakesAsks W (with_events (events_from 0 first.helpings) (chunks_of first.helpings) work) desk1 lines desk2)
    → WorkingAgentStands W (with_events (Took Turn ∷ []) [] (with_events (map ask_event asks.items) [] (with_events (events_from 0 first.helpings) (chunks_of first.helpings) work))) desk3 lines
    → OffersAll W (with_events (Took Turn ∷ []) [] (with_events (map ask_event asks.items) [] (with_events (events_from 0 first.helpings) (chunks_of first.helpings) work))) lines new desk4
    → MakesPass W work old new desk4
pass_made W work old lines new desk1 desk2 desk3 desk4 first asks turn offers =
    let hs = first.helpings in
    let whole = all_stages work (events_from 0 hs) (map ask_event asks.items) (Took Turn ∷ []) (map gave_event offers.answers) (chunks_of hs) in
    let chunks : new.chunks ≡ lines.chunks = ap (λ (l : Intakes). l.chunks) offers.offers.only in
    let crumbs : new.crumbs ≡ lines.crumbs = ap (λ (l : Intakes). l.crumbs) offers.offers.only in
    let triggers : new.triggers ≡ lines.triggers = ap (λ (l : Intakes). l.triggers) offers.offers.only in
    let waited = ap length first.stands.asks_are ∙ refl in
    let sum = length-append (asks_in (work.events ++ events_from 0 hs)) desk1.asks in
    let taken : length (asks_in (work.events ++ events_from 0 hs)) ≡ length (asks_in work.events) = ap length (asks_more work.events (events_from 0 hs) ∙ ap (λ (l : List Ask). asks_in work.events ++ l) (asks_of_none 0 hs) ∙ append-nil (asks_in work.events)) in
    let all = asks.all in
    record {
      helpings = hs;
      number = first.number;
      chunks = subst (λ (l : List (Intake (Buffer Leased))). HandOutFirst (map (λ (h : Helping). h.chunks) hs) old.chunks l) (sym chunks) first.chunks;
      crumbs = subst (λ (l : List (Intake Crumb)). HandOutFirst (map (λ (h : Helping). h.crumbs) hs) old.crumbs l) (sym crumbs) first.crumbs;
      triggers = subst (λ (l : List (Intake Trigger)). HandOutFirst (map (λ (h : Helping). h.triggers) hs) old.triggers l) (sym triggers) first.triggers;
      asks = asks.items;
      few_asks = asks.few;
      all_asks = omega (arith, waited, sum, taken, all);
      answers = offers.answers;
      gives = subst (λ (g : Giving). GiverGoesOn g new.giver (stamps_of offers.answers)) first.giver offers.offers.gives;
      before = offers.before;
      stamped = offers.stamped;
      ends = subst (λ (w : NodeWork). ((offers.answers ≡ offers.before) × ((state_at W w).hand ≡ [])) ⊎ (offers.answers ≡ offers.before ++ Unread ∷ [])) whole offers.ends;
      stands = subst (λ (w : NodeWork). WorkingAgentStands W w desk4 new) whole offers.offers.stands;
    }
