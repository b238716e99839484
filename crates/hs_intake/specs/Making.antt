-- An intake as it was made, with the clients of its node.
use Rattle.std.specs.Prelude.{◌≡◌, ℕ, None}
use Rattle.hs_records.specs.Plain.{PlainSettings}
use Rattle.hs_agent.specs.Runs.{bare_run}
use Rattle.hs_inbox.specs.Delivering.{no_asks}
use Rattle.hs_claimed.specs.Claims.{no_claims}
use Rattle.hs_mail.specs.Letters.{Letters}
use Rattle.hs_node_client.specs.declared.limits.ClientLimits.{ClientLimits}
use Rattle.hs_node_client.specs.Making.{AreMade, rules_by}
use Rattle.hs_intake.specs.declared.making.MadeIntake.{MadeIntake}
use Rattle.hs_intake.specs.Intakes.{Stands}

-- It stands where its agent has taken nothing and keeps no journal, nothing was done with the clients, and the other ends of their links are its port.
pub record IsMade (settings : PlainSettings) (limits : ClientLimits) (mail : Letters) (asks claims : ℕ) (made : MadeIntake) : Type 0 where
  pub stands : Stands (bare_run settings limits.node) made.intake
  -- the room of the list of ends for late crumbs
  pub room : ℕ
  pub clients :
      AreMade limits (rules_by settings.autos settings.triggers settings.nodes)
      (record { port = made.intake.port; late = record { items = made.intake.late; room = room }; segments = made.segments; clients = made.clients })
  pub mail_is : made.intake.mail ≡ mail
  pub inbox_is : made.intake.inbox ≡ no_asks (record { 0 = limits.node }) settings.triggers asks
  pub claims_is : made.intake.claims ≡ no_claims claims
  -- nothing waits at the front
  pub back_is : made.intake.back ≡ None
  -- nothing waits to be said
  pub unsaid_is : made.intake.unsaid ≡ None
