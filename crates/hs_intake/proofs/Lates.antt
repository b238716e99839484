-- Crumbs of traces that need not be open, which an intake takes as other crumbs.
use Rattle.std.proofs.Common.{◌≡◌, ℕ, List, [], ◌∷◌, Option, Some, None, refl, ap, ◌∙◌}
use Rattle.std.specs.Prelude.{filter_map}
use Rattle.std.specs.Option.{option_to_list}
use Rattle.hs_base.specs.declared.told.Crumb.{Crumb}
use Rattle.hs_base.specs.declared.told.Told.{Told}
use Rattle.hs_ring.specs.Parts.{Leased}
use Rattle.hs_link.specs.Contents.{Incoming}
use Rattle.hs_live.specs.Keys.{Key, IsCrumbOf}
use Rattle.hs_live.specs.Live.{IsEnd, ReceivesAt}
use Rattle.hs_agent.specs.Keeping.{PlainAgent}
use Rattle.hs_agent.specs.Runs.{AgentRun, state_of, Follows}
use Rattle.hs_agent.specs.Tries.{after_crumb}
use Rattle.hs_law_agent.specs.Stepping.{Crumbed, told_by}
use Rattle.hs_mail.specs.Letters.{Letters}
use Rattle.hs_claimed.specs.Claims.{PlainClaims}
use Rattle.hs_intake.specs.Intakes.{PlainIntake, Crumbs, Stands, SaysIt, claim_by, late_line}
use Rattle.hs_intake.specs.Taking.{Receives, TakesOne, HoldsOne}
use Rattle.hs_intake.proofs.Lines.{keys_after, receives_one, crumb_came}
use Rattle.hs_intake.proofs.Claiming.{tells_said, tells_listed, crumb_claims}
use Rattle.hs_intake.proofs.Acts.{crumb_taken, said_since, waits_now}

lates_moved : (run : AgentRun Leased) (d : PlainIntake) (client : ℕ) (items : List Crumb) (ends : List (Incoming Crumb Key))
    → Stands run d → Receives client items d.late ends → Stands run (record d { late = ends })
lates_moved run d client items ends stands receives =
    record {
      follows = stands.follows;
      offered = stands.offered;
      size = stands.size;
      chunks = stands.chunks;
      crumbs = stands.crumbs;
      triggers = stands.triggers;
      late = keys_after run.settings run.node d.port.giver d.clients client d.late ends items stands.late receives;
      pooled = stands.pooled;
      waits = stands.waits;
      inbox = stands.inbox;
    }

late_stands : (run : AgentRun Leased) (d : PlainIntake) (client : ℕ) (crumb : Crumb) (ends : List (Incoming Crumb Key)) (agent : PlainAgent Leased) (m : Letters) (claims : PlainClaims) (unsaid : Option Told)
    → Stands run d → ReceivesAt client d.late (Some crumb) ends → Follows agent (after_crumb run client crumb)
    → Stands (after_crumb run client crumb) (record d { agent = agent; late = ends; mail = m; claims = claims; unsaid = unsaid })
late_stands run d client crumb ends agent m claims unsaid stands receives follows =
    let moved = lates_moved run d client (crumb ∷ []) ends stands (receives_one client crumb d.late ends receives) in
    said_since (after_crumb run client crumb) (record d { agent = agent; late = ends }) m claims unsaid (crumb_taken run (record d { late = ends }) client crumb agent moved follows)

pub took_late : (run : AgentRun Leased) (d : PlainIntake) (client : ℕ) (crumb : Crumb) (ends : List (Incoming Crumb Key)) (agent : PlainAgent Leased) (told : Option Told) (m : Letters) (claims : PlainClaims) (unsaid : Option Told)
    → Stands run d → ReceivesAt client d.late (Some crumb) ends → Follows agent (after_crumb run client crumb)
    → d.unsaid ≡ None → told ≡ told_by run.settings run.node (state_of run) (Crumbed client crumb) → SaysIt d.mail d.claims told m claims unsaid
    → TakesOne run late_line client d (record d { agent = agent; late = ends; mail = m; claims = claims; unsaid = unsaid })
took_late run d client crumb ends agent told m claims unsaid stands receives follows none is says_it =
    record {
      item = crumb;
      moves = record { receives = receives_one client crumb d.late ends receives; others = refl; clients = refl };
      back = refl;
      goes =
          record {
            stands = late_stands run d client crumb ends agent m claims unsaid stands receives follows;
            tells =
                tells_listed d (record d { agent = agent; late = ends; mail = m; claims = claims; unsaid = unsaid }) told (told_by run.settings run.node (state_of run) (Crumbed client crumb)) is
                (tells_said d (record d { agent = agent; late = ends; mail = m; claims = claims; unsaid = unsaid }) told none
                (ap (λ (o : Option Told). filter_map claim_by (option_to_list o)) is ∙ crumb_claims run.settings run.node (state_of run) client crumb) says_it);
          };
    }

pub held_late : (run : AgentRun Leased) (d : PlainIntake) (client : ℕ) (crumb : Crumb) (ends : List (Incoming Crumb Key))
    → Stands run d → (r : Incoming Crumb Key) × IsEnd client d.late r × IsCrumbOf r.key crumb → ReceivesAt client d.late (Some crumb) ends
    → HoldsOne run late_line client d (record d { late = ends; back = Some (Crumbs client crumb) })
held_late run d client crumb ends stands fact receives =
    let one = receives_one client crumb d.late ends receives in
    let moved = lates_moved run d client (crumb ∷ []) ends stands one in
    let came = crumb_came run.settings run.node d.port.giver d.clients client d.late crumb stands.late fact in
    record {
      item = crumb;
      moves = record { receives = one; others = refl; clients = refl };
      only = refl;
      stands = waits_now run (record d { late = ends }) (Crumbs client crumb) moved came;
    }

pub late_alive : (d : PlainIntake) (client : ℕ) (crumb : Crumb) (ends : List (Incoming Crumb Key)) (agent : PlainAgent Leased) (m : Letters) (claims : PlainClaims) (unsaid : Option Told) → (run : AgentRun Leased) × Stands run d
    → ReceivesAt client d.late (Some crumb) ends → ((run : AgentRun Leased) → Follows d.agent run → Follows agent (after_crumb run client crumb))
    → (run : AgentRun Leased) × Stands run (record d { agent = agent; late = ends; mail = m; claims = claims; unsaid = unsaid })
late_alive d client crumb ends agent m claims unsaid known receives after =
    (after_crumb known.0 client crumb, late_stands known.0 d client crumb ends agent m claims unsaid known.1 receives (after known.0 known.1.follows))
