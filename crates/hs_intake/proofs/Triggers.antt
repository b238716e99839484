-- Triggers that an intake takes, with a number for one more or without.
use Rattle.std.proofs.Common.{◌≡◌, ℕ, ◌+◌, ◌<◌, ◌≤◌, Bool, true, false, not, if◌then◌else◌, List, [], ◌∷◌, ◌++◌, length, map, Option, Some, None, refl, sym, ap, subst, ◌∙◌, arith}
use Rattle.std.specs.Prelude.{filter_map}
use Rattle.std.specs.Int.{from_bool}
use Rattle.std.specs.Option.{option_to_list, is_some}
use Rattle.hs_base.specs.declared.limits.TheConstants.{MAX_TAKEN}
use Rattle.hs_base.specs.declared.told.Told.{Told}
use Rattle.hs_base.specs.declared.told.Trigger.{Trigger}
use Rattle.hs_ring.specs.Parts.{Leased}
use Rattle.hs_link.specs.Contents.{Incoming}
use Rattle.hs_live.specs.Keys.{Key, IsTriggerOf}
use Rattle.hs_live.specs.Live.{Port, IsEnd, ReceivesAt}
use Rattle.hs_agent.specs.Keeping.{PlainAgent}
use Rattle.hs_agent.specs.Runs.{AgentRun, Follows}
use Rattle.hs_agent.specs.Tries.{after_trigger}
use Rattle.hs_mail.specs.Letters.{Letters}
use Rattle.hs_claimed.specs.Claims.{PlainClaims}
use Rattle.hs_intake.specs.Intakes.{PlainIntake, Triggers, TakesTrigger, after_act, life, has_left, told_on, limit_of, limited_in, Stands, Tells, SaysIt, told_in, trigger_line, HasRoom, claims_life, claim_by}
use Rattle.hs_intake.specs.declared.took.Fired.TheVariants as fired
use Rattle.hs_intake.specs.declared.took.Stop.{Stop}
use Rattle.hs_intake.specs.declared.took.Stop.TheVariants.{Empty, Most, Memory, Words, Claims}
use Rattle.hs_intake.specs.Taking.{Receives, TakesFired, TakesMost, HoldsOne}
use Rattle.hs_intake.proofs.Lines.{keys_after, receives_one, trigger_came, length_set}
use Rattle.hs_intake.proofs.Claiming.{tells_claimed, tells_listed}
use Rattle.hs_intake.proofs.Acts.{said_since, waits_now}
use Rattle.hs_intake.proofs.Many.{SoFar, none_yet, one_more, stopped, all_taken}

-- ---- the agent took one, or it left

-- the buffers, the settings and the rest of a run are as they were
stays : (run : AgentRun Leased) (d : PlainIntake) (client : ℕ) (trigger : Trigger) (left : Bool) → Stands run d
    → (agent : PlainAgent Leased) → Follows agent (if left then after_trigger run client trigger else run) → Stands (if left then after_trigger run client trigger else run) (record d { agent = agent })
stays run d client trigger true stands agent follows =
    record {
      follows = follows;
      offered = stands.offered;
      size = stands.size;
      chunks = stands.chunks;
      crumbs = stands.crumbs;
      triggers = stands.triggers;
      late = stands.late;
      pooled = stands.pooled;
      waits = stands.waits;
      inbox = stands.inbox;
    }
stays run d client trigger false stands agent follows =
    record {
      follows = follows;
      offered = stands.offered;
      size = stands.size;
      chunks = stands.chunks;
      crumbs = stands.crumbs;
      triggers = stands.triggers;
      late = stands.late;
      pooled = stands.pooled;
      waits = stands.waits;
      inbox = stands.inbox;
    }

pub trigger_taken : (run : AgentRun Leased) (d : PlainIntake) (client : ℕ) (trigger : Trigger) (agent : PlainAgent Leased)
    → Stands run d → Follows agent (after_act run (TakesTrigger client trigger)) → Stands (after_act run (TakesTrigger client trigger)) (record d { agent = agent })
trigger_taken run d client trigger agent stands follows = stays run d client trigger (has_left run) stands agent follows

pub triggers_moved : (run : AgentRun Leased) (d : PlainIntake) (client : ℕ) (items : List Trigger) (ends : List (Incoming Trigger Key))
    → Stands run d → Receives client items d.port.triggers ends → Stands run (record d { port = record d.port { triggers = ends } })
triggers_moved run d client items ends stands receives =
    record {
      follows = stands.follows;
      offered = stands.offered;
      size = stands.size;
      chunks = stands.chunks;
      crumbs = stands.crumbs;
      triggers = keys_after run.settings run.node d.port.giver d.clients client d.port.triggers ends items stands.triggers receives;
      late = stands.late;
      pooled = stands.pooled;
      waits = stands.waits;
      inbox = stands.inbox;
    }

-- ---- one trigger

trigger_stands : (run : AgentRun Leased) (d : PlainIntake) (client : ℕ) (trigger : Trigger) (port : Port) (agent : PlainAgent Leased) (m : Letters) (claims : PlainClaims) (unsaid : Option Told)
    → Stands run d → ReceivesAt client d.port.triggers (Some trigger) port.triggers → port ≡ record d.port { triggers = port.triggers } → Follows agent (after_act run (TakesTrigger client trigger))
    → Stands (after_act run (TakesTrigger client trigger)) (record d { agent = agent; port = port; mail = m; claims = claims; unsaid = unsaid })
trigger_stands run d client trigger port agent m claims unsaid stands receives only follows =
    let one = receives_one client trigger d.port.triggers port.triggers receives in
    let moved = triggers_moved run d client (trigger ∷ []) port.triggers stands one in
    let taken = trigger_taken run (record d { port = record d.port { triggers = port.triggers } }) client trigger agent moved follows in
    subst (λ (p : Port). Stands (after_act run (TakesTrigger client trigger)) (record d { agent = agent; port = p; mail = m; claims = claims; unsaid = unsaid })) (sym only)
    (said_since (after_act run (TakesTrigger client trigger)) (record d { agent = agent; port = record d.port { triggers = port.triggers } }) m claims unsaid taken)

-- it tells what the agent answers
trigger_tells : (run : AgentRun Leased) (d new : PlainIntake) (client : ℕ) (trigger : Trigger) (told : Option Told) (mid : PlainClaims)
    → d.unsaid ≡ None → HasRoom d.claims → mid ≡ claims_life d.claims (filter_map claim_by (option_to_list told)) → told ≡ told_on run client trigger
    → SaysIt d.mail mid told new.mail new.claims new.unsaid → Tells d (told_in run (TakesTrigger client trigger ∷ [])) new
trigger_tells run d new client trigger told mid none room entered is says_it =
    tells_listed d new told (told_on run client trigger) is (tells_claimed d new told mid none room entered says_it)

pub took_trigger : (run : AgentRun Leased) (d : PlainIntake) (client : ℕ) (trigger : Trigger) (port : Port) (agent : PlainAgent Leased) (told : Option Told) (tells : Bool) (mid : PlainClaims) (m : Letters) (claims : PlainClaims) (unsaid : Option Told)
    → Stands run d → ReceivesAt client d.port.triggers (Some trigger) port.triggers → port ≡ record d.port { triggers = port.triggers } → Follows agent (after_act run (TakesTrigger client trigger))
    → d.unsaid ≡ None → HasRoom d.claims → mid ≡ claims_life d.claims (filter_map claim_by (option_to_list told)) → told ≡ told_on run client trigger → tells ≡ is_some told → SaysIt d.mail mid told m claims unsaid
    → TakesFired run client d (fired.Taken tells) (record d { agent = agent; port = port; mail = m; claims = claims; unsaid = unsaid })
took_trigger run d client trigger port agent told tells mid m claims unsaid stands receives only follows none room entered is some says_it = (
  record {
    item = trigger;
    moves = record { receives = receives_one client trigger d.port.triggers port.triggers receives; others = ap (λ (p : Port). record { port = p; late = d.late }) only; clients = refl };
    back = refl;
    goes =
        record {
          stands = trigger_stands run d client trigger port agent m claims unsaid stands receives only follows;
          tells = trigger_tells run d (record d { agent = agent; port = port; mail = m; claims = claims; unsaid = unsaid }) client trigger told mid none room entered is says_it;
        };
  },
  some ∙ ap (λ (o : Option Told). is_some o) is,
)

pub held_trigger : (run : AgentRun Leased) (d : PlainIntake) (client : ℕ) (trigger : Trigger) (port : Port)
    → Stands run d → (r : Incoming Trigger Key) × IsEnd client d.port.triggers r × IsTriggerOf r.key trigger → ReceivesAt client d.port.triggers (Some trigger) port.triggers
    → port ≡ record d.port { triggers = port.triggers } → HoldsOne run trigger_line client d (record d { port = port; back = Some (Triggers client trigger) })
held_trigger run d client trigger port stands fact receives only =
    let one = receives_one client trigger d.port.triggers port.triggers receives in
    let moved = triggers_moved run d client (trigger ∷ []) port.triggers stands one in
    let came = trigger_came run.settings run.node d.port.giver d.clients client d.port.triggers trigger stands.triggers fact in
    let held = waits_now run (record d { port = record d.port { triggers = port.triggers } }) (Triggers client trigger) moved came in
    record {
      item = trigger;
      moves = record { receives = one; others = ap (λ (p : Port). record { port = p; late = d.late }) only; clients = refl };
      only = refl;
      stands = subst (λ (p : Port). Stands run (record d { port = p; back = Some (Triggers client trigger) })) (sym only) held;
    }

pub trigger_alive : (d : PlainIntake) (client : ℕ) (trigger : Trigger) (port : Port) (agent : PlainAgent Leased) (m : Letters) (claims : PlainClaims) (unsaid : Option Told) → (run : AgentRun Leased) × Stands run d
    → ReceivesAt client d.port.triggers (Some trigger) port.triggers → port ≡ record d.port { triggers = port.triggers }
    → ((run : AgentRun Leased) → Follows d.agent run → Follows agent (after_act run (TakesTrigger client trigger)))
    → (run : AgentRun Leased) × Stands run (record d { agent = agent; port = port; mail = m; claims = claims; unsaid = unsaid })
trigger_alive d client trigger port agent m claims unsaid known receives only after =
    (after_act known.0 (TakesTrigger client trigger), trigger_stands known.0 d client trigger port agent m claims unsaid known.1 receives only (after known.0 known.1.follows))

pub held_trigger_alive : (d : PlainIntake) (client : ℕ) (trigger : Trigger) (port : Port) → (run : AgentRun Leased) × Stands run d
    → (r : Incoming Trigger Key) × IsEnd client d.port.triggers r × IsTriggerOf r.key trigger → ReceivesAt client d.port.triggers (Some trigger) port.triggers
    → port ≡ record d.port { triggers = port.triggers } → (run : AgentRun Leased) × Stands run (record d { port = port; back = Some (Triggers client trigger) })
held_trigger_alive d client trigger port known fact receives only = (known.0, (held_trigger known.0 d client trigger port known.1 fact receives only).stands)

pub triggers_counted : (client count : ℕ) (items : List Trigger) (old new : List (Incoming Trigger Key)) → Receives client items old new → length old ≡ count → length new ≡ count
triggers_counted client count items old new receives counted = ap (λ (es : List (Incoming Trigger Key)). length es) receives.new_is ∙ length_set old client receives.later ∙ counted

-- ---- one after another

limited_append : (run : AgentRun Leased) (client : ℕ) (xs ys : List Trigger) → limited_in run client (xs ++ ys) ≡ limited_in run client xs + limited_in (life run (map (TakesTrigger client) xs)) client ys
limited_append run client [] ys = omega arith
limited_append run client (x ∷ xs) ys = let rest = limited_append (after_act run (TakesTrigger client x)) client xs ys in omega (arith, rest)

-- So many triggers were taken, and so many of them admitted no group.
abbrev pub SoMany : AgentRun Leased → ℕ → PlainIntake → ℕ → ℕ → PlainIntake → Type 0
SoMany run client old count limited new = (so : SoFar run trigger_line client old count new) × (limited ≡ limited_in run client so.items)

pub one_at_most : (b : Bool) → from_bool b ≤ 1
one_at_most true = omega arith
one_at_most false = omega arith

no_limit : (tells : Bool) → from_bool (not tells) ≡ (if tells then 0 else 1)
no_limit true = refl
no_limit false = refl

pub one_trigger_more : (run : AgentRun Leased) (client : ℕ) (old mid new : PlainIntake) (count limited limit : ℕ) (tells : Bool) → limit ≡ from_bool (not tells) → SoMany run client old count limited mid
    → ((later : AgentRun Leased) → Stands later mid → TakesFired later client mid (fired.Taken tells) new) → SoMany run client old (count + 1) (limited + limit) new
unfolding one_more
one_trigger_more run client old mid new count limited limit tells limit_is (so, is) next =
    let later = life run (map (TakesTrigger client) so.items) in
    let (one, told) = next later so.goes.stands in
    let here : limit ≡ limit_of later client one.item = limit_is ∙ no_limit tells ∙ ap (λ (b : Bool). if b then 0 else 1) told in
    let all = limited_append run client so.items (one.item ∷ []) in
    (one_more run trigger_line client (λ p xs ys. refl) old mid new count so (λ r stands. (next r stands).0), omega (arith, is, here, all))

pub triggers_stopped : (run : AgentRun Leased) (client : ℕ) (old mid new : PlainIntake) (count limited : ℕ) (stop : Stop) → count ≤ MAX_TAKEN → SoMany run client old count limited mid
    → ((later : AgentRun Leased) → Stands later mid → TakesFired later client mid (fired.Stopped stop) new) → TakesMost run client old (record { took = record { count = count; stop = stop }; limited = limited }) new
unfolding stopped
triggers_stopped run client old mid new count limited Empty few (so, is) next = (stopped run trigger_line client (λ p xs ys. refl) old mid new count Empty few so next, is)
triggers_stopped run client old mid new count limited Most few (so, is) next = absurd (next (life run (map (TakesTrigger client) so.items)) so.goes.stands)
triggers_stopped run client old mid new count limited Memory few (so, is) next = (stopped run trigger_line client (λ p xs ys. refl) old mid new count Memory few so next, is)
triggers_stopped run client old mid new count limited Words few (so, is) next = (stopped run trigger_line client (λ p xs ys. refl) old mid new count Words few so next, is)
triggers_stopped run client old mid new count limited Claims few (so, is) next = (stopped run trigger_line client (λ p xs ys. refl) old mid new count Claims few so next, is)

pub no_trigger_yet : (run : AgentRun Leased) (client : ℕ) (old : PlainIntake) → Stands run old → client < length old.port.triggers → SoMany run client old 0 0 old
unfolding none_yet
no_trigger_yet run client old stands low = (none_yet run trigger_line client old stands refl low, refl)

pub all_triggers : (run : AgentRun Leased) (client : ℕ) (old new : PlainIntake) (count limited : ℕ) → count ≡ MAX_TAKEN → SoMany run client old count limited new
    → TakesMost run client old (record { took = record { count = MAX_TAKEN; stop = Most }; limited = limited }) new
unfolding all_taken
all_triggers run client old new count limited full (so, is) = (all_taken run trigger_line client old new count full so, is)
