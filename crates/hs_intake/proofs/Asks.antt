-- Asks that an intake takes, one after another.
use Rattle.std.proofs.Common.{◌≡◌, ℕ, ◌+◌, ◌≤◌, List, [], ◌∷◌, ◌++◌, length, drop, map, Option, Some, None, refl, sym, ap, subst, ◌∙◌, arith, append_assoc, length-append, slice_get}
use Rattle.std.specs.Prelude.{filter_map}
use Rattle.std.specs.Option.{option_to_list}
use Rattle.hs_base.specs.declared.limits.TheConstants.{MAX_TAKEN}
use Rattle.hs_base.specs.declared.told.Ask.{Ask}
use Rattle.hs_base.specs.declared.told.Told.{Told}
use Rattle.hs_ring.specs.Parts.{Leased}
use Rattle.hs_law_agent.specs.Stepping.{Asked, told_by}
use Rattle.hs_agent.specs.Keeping.{PlainAgent}
use Rattle.hs_agent.specs.Runs.{AgentRun, state_of, Follows}
use Rattle.hs_agent.specs.Tries.{after_ask}
use Rattle.hs_inbox.specs.Delivering.{PlainInbox, Delivers}
use Rattle.hs_inbox.specs.declared.inbox.AskDelivered.{AskDelivered}
use Rattle.hs_inbox.specs.declared.inbox.AskDelivered.TheVariants as delivered
use Rattle.hs_mail.specs.Letters.{Letters}
use Rattle.hs_claimed.specs.Claims.{PlainClaims}
use Rattle.hs_intake.specs.declared.took.Next.TheVariants as nexts
use Rattle.hs_intake.specs.declared.took.Stop.{Stop}
use Rattle.hs_intake.specs.declared.took.Stop.TheVariants.{Empty, Most, Memory, Words, Claims}
use Rattle.hs_intake.specs.Intakes as acts
use Rattle.hs_intake.specs.Intakes.{PlainIntake, IntakeAct, life, Stands, SaysIt, Goes, HasRoom, claims_life, claim_by}
use Rattle.hs_intake.specs.Taking.{TakesFirst, TakesAsk, TakesAsks}
use Rattle.hs_intake.proofs.Claiming.{map_append, tells_claimed, tells_listed}
use Rattle.hs_intake.proofs.Acts.{goes_more, goes_nothing}

-- ---- the inbox

-- delivered messages leave the rules as they are
pub rules_stay : (old new : PlainInbox) (bytes : List ℕ) (answer : AskDelivered) → Delivers old bytes answer new → new.rules ≡ old.rules
rules_stay old new bytes delivered.Taken (ask, is, low, same) = ap (λ (i : PlainInbox). i.rules) same
rules_stay old new bytes delivered.Full (ask, is, high, same) = ap (λ (i : PlainInbox). i.rules) same
rules_stay old new bytes delivered.Refused (none, same) = ap (λ (i : PlainInbox). i.rules) same

first_there : (asks : List Ask) (ask : Ask) → Some ask ≡ slice_get asks 0 → asks ≡ ask ∷ drop 1 asks
first_there [] ask is = let none : Some ask ≡ None = is in absurd cc
first_there (a ∷ asks) ask is = let same : Some ask ≡ Some a = is in let one : ask ≡ a = cc in ap (λ (x : Ask). x ∷ asks) (sym one)

pub none_there : (asks : List Ask) → None ≡ slice_get asks 0 → asks ≡ []
none_there [] is = refl
none_there (a ∷ asks) is = let some : None ≡ Some a = is in absurd cc

-- the intake stands on where its inbox has the same rules
pub inbox_moved : (run : AgentRun Leased) (d : PlainIntake) (inbox : PlainInbox) → Stands run d → inbox.rules ≡ d.inbox.rules → Stands run (record d { inbox = inbox })
inbox_moved run d inbox stands same =
    record {
      follows = stands.follows;
      offered = stands.offered;
      size = stands.size;
      chunks = stands.chunks;
      crumbs = stands.crumbs;
      triggers = stands.triggers;
      late = stands.late;
      pooled = stands.pooled;
      waits = stands.waits;
      inbox = same ∙ stands.inbox;
    }

-- ---- one ask

ask_stands : (run : AgentRun Leased) (d : PlainIntake) (ask : Ask) (agent : PlainAgent Leased) (m : Letters) (claims : PlainClaims) (unsaid : Option Told) (inbox : PlainInbox)
    → Stands run d → inbox ≡ record d.inbox { asks = drop 1 d.inbox.asks } → Follows agent (after_ask run ask)
    → Stands (after_ask run ask) (record d { agent = agent; mail = m; claims = claims; unsaid = unsaid; inbox = inbox })
ask_stands run d ask agent m claims unsaid inbox stands without follows =
    record {
      follows = follows;
      offered = stands.offered;
      size = stands.size;
      chunks = stands.chunks;
      crumbs = stands.crumbs;
      triggers = stands.triggers;
      late = stands.late;
      pooled = stands.pooled;
      waits = stands.waits;
      inbox = ap (λ (i : PlainInbox). i.rules) without ∙ stands.inbox;
    }

pub took_ask : (run : AgentRun Leased) (d : PlainIntake) (ask : Ask) (agent : PlainAgent Leased) (told : Told) (mid : PlainClaims) (m : Letters) (claims : PlainClaims) (unsaid : Option Told) (inbox : PlainInbox)
    → Stands run d → Some ask ≡ slice_get d.inbox.asks 0 → inbox ≡ record d.inbox { asks = drop 1 d.inbox.asks } → Follows agent (after_ask run ask)
    → d.unsaid ≡ None → HasRoom d.claims → mid ≡ claims_life d.claims (filter_map claim_by (option_to_list (Some told))) → Some told ≡ told_by run.settings run.node (state_of run) (Asked ask)
    → SaysIt d.mail mid (Some told) m claims unsaid
    → TakesFirst run d (record d { agent = agent; mail = m; claims = claims; unsaid = unsaid; inbox = inbox })
took_ask run d ask agent told mid m claims unsaid inbox stands first without follows none room entered is says_it =
    record {
      ask = ask;
      rest = drop 1 d.inbox.asks;
      waited = first_there d.inbox.asks ask first;
      only = ap (λ (i : PlainInbox). record d { agent = agent; mail = m; claims = claims; unsaid = unsaid; inbox = i }) without;
      goes =
          record {
            stands = ask_stands run d ask agent m claims unsaid inbox stands without follows;
            tells =
                tells_listed d (record d { agent = agent; mail = m; claims = claims; unsaid = unsaid; inbox = inbox }) (Some told) (told_by run.settings run.node (state_of run) (Asked ask)) is
                (tells_claimed d (record d { agent = agent; mail = m; claims = claims; unsaid = unsaid; inbox = inbox }) (Some told) mid none room entered says_it);
          };
    }

pub ask_alive : (d : PlainIntake) (ask : Ask) (agent : PlainAgent Leased) (m : Letters) (claims : PlainClaims) (unsaid : Option Told) (inbox : PlainInbox) → (run : AgentRun Leased) × Stands run d
    → inbox ≡ record d.inbox { asks = drop 1 d.inbox.asks } → ((run : AgentRun Leased) → Follows d.agent run → Follows agent (after_ask run ask))
    → (run : AgentRun Leased) × Stands run (record d { agent = agent; mail = m; claims = claims; unsaid = unsaid; inbox = inbox })
ask_alive d ask agent m claims unsaid inbox known without after =
    (after_ask known.0 ask, ask_stands known.0 d ask agent m claims unsaid inbox known.1 without (after known.0 known.1.follows))

-- ---- one after another

-- The inbox was asked so many times, and the agent took an ask each time.
pub record SoAsked (run : AgentRun Leased) (old : PlainIntake) (count : ℕ) (new : PlainIntake) : Type 0 where
  pub asks : List Ask
  pub rest : List Ask
  pub waited : old.inbox.asks ≡ asks ++ rest
  pub count_is : length asks ≡ count
  pub only : new ≡ record old { agent = new.agent; mail = new.mail; claims = new.claims; unsaid = new.unsaid; inbox = record old.inbox { asks = rest } }
  pub goes : Goes run (map acts.TakesAsk asks) old new

pub none_asked : (run : AgentRun Leased) (old : PlainIntake) → Stands run old → SoAsked run old 0 old
none_asked run old stands =
    record { asks = []; rest = old.inbox.asks; waited = refl; count_is = refl; only = refl; goes = goes_nothing run old old stands refl refl refl }

only_more : (a b c : PlainIntake) (first second : List Ask) → b ≡ record a { agent = b.agent; mail = b.mail; claims = b.claims; unsaid = b.unsaid; inbox = record a.inbox { asks = first } }
    → c ≡ record b { agent = c.agent; mail = c.mail; claims = c.claims; unsaid = c.unsaid; inbox = record b.inbox { asks = second } }
    → c ≡ record a { agent = c.agent; mail = c.mail; claims = c.claims; unsaid = c.unsaid; inbox = record a.inbox { asks = second } }
only_more a b c first second one two =
    two ∙ ap (λ (d : PlainIntake). record d { agent = c.agent; mail = c.mail; claims = c.claims; unsaid = c.unsaid; inbox = record d.inbox { asks = second } }) one

pub one_ask_more : (run : AgentRun Leased) (old mid new : PlainIntake) (count : ℕ) → SoAsked run old count mid → ((later : AgentRun Leased) → Stands later mid → TakesFirst later mid new)
    → SoAsked run old (count + 1) new
one_ask_more run old mid new count so next =
    let done = map acts.TakesAsk so.asks in
    let one = next (life run done) so.goes.stands in
    let left : so.rest ≡ one.ask ∷ one.rest = sym (ap (λ (d : PlainIntake). d.inbox.asks) so.only) ∙ one.waited in
    record {
      asks = so.asks ++ one.ask ∷ [];
      rest = one.rest;
      waited = so.waited ∙ ap (λ (l : List Ask). so.asks ++ l) left ∙ sym (append_assoc so.asks (one.ask ∷ []) one.rest);
      count_is = (let long = length-append so.asks (one.ask ∷ []) in let count = so.count_is in omega (arith, long, count));
      only = only_more old mid new so.rest one.rest so.only one.only;
      goes =
          subst (λ (all : List IntakeAct). Goes run all old new) (sym (map_append acts.TakesAsk so.asks (one.ask ∷ [])))
          (goes_more run done (acts.TakesAsk one.ask ∷ []) old mid new so.goes one.goes);
    }

pub asks_stopped : (run : AgentRun Leased) (old mid new : PlainIntake) (count : ℕ) (stop : Stop) → count ≤ MAX_TAKEN → SoAsked run old count mid
    → ((later : AgentRun Leased) → Stands later mid → TakesAsk later mid (nexts.Stopped stop) new) → TakesAsks run old (record { count = count; stop = stop }) new
asks_stopped run old mid new count Empty few so next =
    let (same, none) = next (life run (map acts.TakesAsk so.asks)) so.goes.stands in
    subst (λ (d : PlainIntake). TakesAsks run old (record { count = count; stop = Empty }) d) (sym same)
    (record {
      asks = so.asks;
      rest = so.rest;
      waited = so.waited;
      count = so.count_is;
      few = (let is = so.count_is in omega (arith, is, few));
      only = so.only;
      goes = so.goes;
      stops = none;
    })
asks_stopped run old mid new count Most few so next = absurd (next (life run (map acts.TakesAsk so.asks)) so.goes.stands)
asks_stopped run old mid new count Memory few so next =
    let (same, some) = next (life run (map acts.TakesAsk so.asks)) so.goes.stands in
    subst (λ (d : PlainIntake). TakesAsks run old (record { count = count; stop = Memory }) d) (sym same)
    (record {
      asks = so.asks;
      rest = so.rest;
      waited = so.waited;
      count = so.count_is;
      few = (let is = so.count_is in omega (arith, is, few));
      only = so.only;
      goes = so.goes;
      stops = some;
    })
asks_stopped run old mid new count Words few so next =
    let (same, mute) = next (life run (map acts.TakesAsk so.asks)) so.goes.stands in
    subst (λ (d : PlainIntake). TakesAsks run old (record { count = count; stop = Words }) d) (sym same)
    (record {
      asks = so.asks;
      rest = so.rest;
      waited = so.waited;
      count = so.count_is;
      few = (let is = so.count_is in omega (arith, is, few));
      only = so.only;
      goes = so.goes;
      stops = mute;
    })
asks_stopped run old mid new count Claims few so next =
    let (same, mute) = next (life run (map acts.TakesAsk so.asks)) so.goes.stands in
    subst (λ (d : PlainIntake). TakesAsks run old (record { count = count; stop = Claims }) d) (sym same)
    (record {
      asks = so.asks;
      rest = so.rest;
      waited = so.waited;
      count = so.count_is;
      few = (let is = so.count_is in omega (arith, is, few));
      only = so.only;
      goes = so.goes;
      stops = mute;
    })

pub all_asked : (run : AgentRun Leased) (old new : PlainIntake) (count : ℕ) → count ≡ MAX_TAKEN → SoAsked run old count new → TakesAsks run old (record { count = MAX_TAKEN; stop = Most }) new
all_asked run old new count full so =
    record {
      asks = so.asks;
      rest = so.rest;
      waited = so.waited;
      count = so.count_is ∙ full;
      few = (let is = so.count_is in omega (arith, is, full));
      only = so.only;
      goes = so.goes;
      stops = refl;
    }
