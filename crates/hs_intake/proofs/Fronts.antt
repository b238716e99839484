-- What waited at the front is taken, and triggers that are not seen leave.
use Rattle.std.proofs.Common.{◌≡◌, ℕ, ◌+◌, ◌<◌, ◌≤◌, true, false, List, [], ◌∷◌, ◌++◌, length, Option, Some, None, refl, sym, ap, subst, ◌∙◌, arith, length-append}
use Rattle.std.specs.Prelude.{filter_map}
use Rattle.std.specs.Option.{option_to_list, is_some}
use Rattle.hs_base.specs.declared.limits.TheConstants.{MAX_TAKEN}
use Rattle.hs_base.specs.declared.told.Crumb.{Crumb}
use Rattle.hs_base.specs.declared.told.Told.{Told}
use Rattle.hs_base.specs.declared.told.Trigger.{Trigger}
use Rattle.hs_ring.specs.Parts.{Leased}
use Rattle.hs_link.specs.Contents.{Incoming}
use Rattle.hs_live.specs.Keys.{Key}
use Rattle.hs_live.specs.Live.{Port, ReceivesAt}
use Rattle.hs_agent.specs.Keeping.{PlainAgent}
use Rattle.hs_agent.specs.Runs.{AgentRun, state_of, Follows}
use Rattle.hs_agent.specs.Tries.{after_crumb}
use Rattle.hs_law_agent.specs.Stepping.{Crumbed, told_by}
use Rattle.hs_mail.specs.Letters.{Letters}
use Rattle.hs_claimed.specs.Claims.{PlainClaims}
use Rattle.hs_intake.specs.declared.took.Stop.TheVariants.{Empty, Most}
use Rattle.hs_intake.specs.Intakes.{PlainIntake, Waiting, Crumbs, Triggers, TakesTrigger, after_act, told_on, claims_life, claim_by, HasRoom, Stands, SaysIt, Goes, acts_in, trigger_line}
use Rattle.hs_intake.specs.Taking.{Moves, TakesBack, DropsOne, DropsMany}
use Rattle.hs_intake.proofs.Claiming.{tells_said, tells_claimed, tells_listed, crumb_claims}
use Rattle.hs_intake.proofs.Lines.{receives_none, receives_one, dry_one}
use Rattle.hs_intake.proofs.Acts.{crumb_taken, said_since}
use Rattle.hs_intake.proofs.Many.{end_there, moves_more}
use Rattle.hs_intake.proofs.Triggers.{trigger_taken, triggers_moved, triggers_counted}

-- ---- the front

free_now : (run : AgentRun Leased) (d : PlainIntake) (back : Option Waiting) → back ≡ None → Stands run d → Stands run (record d { back = back })
free_now run d back none stands =
    subst (λ (o : Option Waiting). Stands run (record d { back = o })) (sym none)
    (record {
      follows = stands.follows;
      offered = stands.offered;
      size = stands.size;
      chunks = stands.chunks;
      crumbs = stands.crumbs;
      triggers = stands.triggers;
      late = stands.late;
      pooled = stands.pooled;
      waits = tt;
      inbox = stands.inbox;
    })

pub front_crumb : (run : AgentRun Leased) (d : PlainIntake) (client : ℕ) (crumb : Crumb) (agent : PlainAgent Leased) (back : Option Waiting) (told : Option Told) (m : Letters) (claims : PlainClaims) (unsaid : Option Told)
    → Stands run d → d.back ≡ Some (Crumbs client crumb) → back ≡ None → Follows agent (after_crumb run client crumb) → d.unsaid ≡ None
    → told ≡ told_by run.settings run.node (state_of run) (Crumbed client crumb) → SaysIt d.mail d.claims told m claims unsaid
    → TakesBack run d true (record d { agent = agent; back = back; mail = m; claims = claims; unsaid = unsaid })
front_crumb run d client crumb agent back told m claims unsaid stands there free follows none is says_it =
    let new : PlainIntake = record d { agent = agent; back = back; mail = m; claims = claims; unsaid = unsaid } in
    let taken = crumb_taken run d client crumb agent stands follows in
    let said = said_since (after_crumb run client crumb) (record d { agent = agent }) m claims unsaid taken in (
      free,
      (
        refl,
        (
          refl,
          subst (λ (o : Option Waiting). Goes run (acts_in o) d new) (sym there)
              (record {
                stands = free_now (after_crumb run client crumb) (record d { agent = agent; mail = m; claims = claims; unsaid = unsaid }) back free said;
                tells =
                    tells_listed d new told (told_by run.settings run.node (state_of run) (Crumbed client crumb)) is
                    (tells_said d new told none
                    (ap (λ (o : Option Told). filter_map claim_by (option_to_list o)) is ∙ crumb_claims run.settings run.node (state_of run) client crumb) says_it);
              }),
        ),
      ),
    )

pub front_trigger : (run : AgentRun Leased) (d : PlainIntake) (client : ℕ) (trigger : Trigger) (agent : PlainAgent Leased) (back : Option Waiting) (told : Option Told) (mid : PlainClaims) (m : Letters) (claims : PlainClaims) (unsaid : Option Told)
    → Stands run d → d.back ≡ Some (Triggers client trigger) → back ≡ None → Follows agent (after_act run (TakesTrigger client trigger)) → d.unsaid ≡ None → HasRoom d.claims
    → mid ≡ claims_life d.claims (filter_map claim_by (option_to_list told)) → told ≡ told_on run client trigger → SaysIt d.mail mid told m claims unsaid
    → TakesBack run d true (record d { agent = agent; back = back; mail = m; claims = claims; unsaid = unsaid })
front_trigger run d client trigger agent back told mid m claims unsaid stands there free follows none room entered is says_it =
    let new : PlainIntake = record d { agent = agent; back = back; mail = m; claims = claims; unsaid = unsaid } in
    let later = after_act run (TakesTrigger client trigger) in
    let taken = trigger_taken run d client trigger agent stands follows in
    let said = said_since later (record d { agent = agent }) m claims unsaid taken in (
      free,
      (
        refl,
        (
          refl,
          subst (λ (o : Option Waiting). Goes run (acts_in o) d new) (sym there)
              (record {
                stands = free_now later (record d { agent = agent; mail = m; claims = claims; unsaid = unsaid }) back free said;
                tells = tells_listed d new told (told_on run client trigger) is (tells_claimed d new told mid none room entered says_it);
              }),
        ),
      ),
    )

-- ---- triggers that leave

pub dropped : (run : AgentRun Leased) (d : PlainIntake) (client : ℕ) (result : Option Trigger) (port : Port) → Stands run d → ReceivesAt client d.port.triggers result port.triggers
    → port ≡ record d.port { triggers = port.triggers } → DropsOne run client d (is_some result) (record d { port = port })
dropped run d client (Some trigger) port stands receives only =
    let one = receives_one client trigger d.port.triggers port.triggers receives in (
      trigger,
      record { receives = one; others = ap (λ (p : Port). record { port = p; late = d.late }) only; clients = refl },
      refl,
      subst (λ (p : Port). Stands run (record d { port = p })) (sym only) (triggers_moved run d client (trigger ∷ []) port.triggers stands one),
    )
dropped run d client None port stands receives only =
    let (same, dry) = dry_one client d.port.triggers port.triggers receives in
    (ap (λ (p : Port). record d { port = p }) (only ∙ ap (λ ends. record d.port { triggers = ends }) same), dry)

-- So many triggers left.
pub record SoDropped (run : AgentRun Leased) (client : ℕ) (old : PlainIntake) (count : ℕ) (new : PlainIntake) : Type 0 where
  pub items : List Trigger
  pub count_is : length items ≡ count
  pub moves : Moves trigger_line client items old new
  pub only : new ≡ record old { port = new.port }
  pub stands : Stands run new

pub none_dropped : (run : AgentRun Leased) (client : ℕ) (old : PlainIntake) → Stands run old → client < length old.port.triggers → SoDropped run client old 0 old
none_dropped run client old stands low =
    let end = end_there old.port.triggers client low in
    record {
      items = [];
      count_is = refl;
      moves = record { receives = receives_none client old.port.triggers end.0 end.1; others = refl; clients = refl };
      only = refl;
      stands = stands;
    }

pub one_dropped : (run : AgentRun Leased) (client : ℕ) (old mid new : PlainIntake) (count : ℕ) → SoDropped run client old count mid → ((later : AgentRun Leased) → Stands later mid → DropsOne later client mid true new)
    → SoDropped run client old (count + 1) new
one_dropped run client old mid new count so next =
    let (item, moves, only, stands) = next run so.stands in
    record {
      items = so.items ++ item ∷ [];
      count_is = (let long = length-append so.items (item ∷ []) in let count = so.count_is in omega (arith, long, count));
      moves = moves_more run trigger_line client (λ p xs ys. refl) so.items (item ∷ []) old mid new so.moves moves;
      only = only ∙ ap (λ (d : PlainIntake). record d { port = new.port }) so.only;
      stands = stands;
    }

pub drops_stop : (run : AgentRun Leased) (client : ℕ) (old mid new : PlainIntake) (count : ℕ) → count ≤ MAX_TAKEN → SoDropped run client old count mid
    → ((later : AgentRun Leased) → Stands later mid → DropsOne later client mid false new) → DropsMany run client old (record { took = record { count = count; stop = Empty }; limited = count }) new
drops_stop run client old mid new count few so next =
    let (same, dry) = next run so.stands in
    subst (λ (d : PlainIntake). DropsMany run client old (record { took = record { count = count; stop = Empty }; limited = count }) d) (sym same)
    (record {
      items = so.items;
      count = so.count_is;
      few = (let is = so.count_is in omega (arith, is, few));
      limited = refl;
      moves = so.moves;
      only = so.only;
      stands = so.stands;
      stops = dry;
    })

pub all_dropped : (run : AgentRun Leased) (client : ℕ) (old new : PlainIntake) (count : ℕ) → count ≡ MAX_TAKEN → SoDropped run client old count new
    → DropsMany run client old (record { took = record { count = MAX_TAKEN; stop = Most }; limited = MAX_TAKEN }) new
all_dropped run client old new count full so =
    record {
      items = so.items;
      count = so.count_is ∙ full;
      few = (let is = so.count_is in omega (arith, is, full));
      limited = refl;
      moves = so.moves;
      only = so.only;
      stands = so.stands;
      stops = so.count_is ∙ full;
    }

pub drop_counted : (client count : ℕ) (result : Option Trigger) (old new : List (Incoming Trigger Key)) → ReceivesAt client old result new → length old ≡ count → length new ≡ count
drop_counted client count (Some trigger) old new receives counted = triggers_counted client count (trigger ∷ []) old new (receives_one client trigger old new receives) counted
drop_counted client count None old new receives counted = ap (λ (es : List (Incoming Trigger Key)). length es) (dry_one client old new receives).0 ∙ counted

pub drop_alive : (d : PlainIntake) (client : ℕ) (result : Option Trigger) (port : Port) → (run : AgentRun Leased) × Stands run d → ReceivesAt client d.port.triggers result port.triggers
    → port ≡ record d.port { triggers = port.triggers } → (run : AgentRun Leased) × Stands run (record d { port = port })
drop_alive d client (Some trigger) port known receives only = (
  known.0,
  subst (λ (p : Port). Stands known.0 (record d { port = p })) (sym only)
      (triggers_moved known.0 d client (trigger ∷ []) port.triggers known.1 (receives_one client trigger d.port.triggers port.triggers receives)),
)
drop_alive d client None port known receives only = (
  known.0,
  subst (λ (p : Port). Stands known.0 (record d { port = p }))
      (sym (only ∙ ap (λ ends. record d.port { triggers = ends }) (dry_one client d.port.triggers port.triggers receives).0)) known.1,
)
