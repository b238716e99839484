-- The ends of clients that were just made have the keys that an intake asks for.
use Rattle.std.proofs.Common.{◌≡◌, ℕ, ◌<◌, refl, ap, ◌∙◌, arith}
use Rattle.hs_records.specs.Plain.{PlainSettings}
use Rattle.hs_ring.specs.Parts.{Leased, Giving}
use Rattle.hs_link.specs.Contents.{Incoming}
use Rattle.hs_live.specs.Keys.{Key}
use Rattle.hs_agent.specs.Keeping.{PlainAgent}
use Rattle.hs_agent.specs.Runs.{bare_run, Follows}
use Rattle.hs_inbox.specs.Delivering.{PlainInbox}
use Rattle.hs_mail.specs.Letters.{Letters}
use Rattle.hs_claimed.specs.Claims.{PlainClaims}
use Rattle.hs_node_client.specs.declared.limits.ClientLimits.{ClientLimits}
use Rattle.hs_node_client.specs.declared.making.Made.{Made}
use Rattle.hs_node_client.specs.Making.{AreMade, BeginsAt, PlainRules, rules_by, key_of, id_of, receiving_of}
use Rattle.hs_intake.specs.Intakes.{IsKeyFor, Stands, new_intake}
use Rattle.hs_intake.proofs.Lines.{there_low, same_there}
use Rattle.hs_intake.proofs.Many.{end_there}

abbrev pub rules_in_settings : PlainSettings → PlainRules
rules_in_settings settings = rules_by settings.autos settings.triggers settings.nodes

key_for : (settings : PlainSettings) (limits : ClientLimits) (giver : Giving) (number : ℕ) (key : Key) → giver.size ≡ settings.size
    → key ≡ key_of (rules_in_settings settings) giver (id_of limits number) → IsKeyFor settings limits.node giver number key
key_for settings limits giver number key size is =
    record {
      client_is = ap (λ (k : Key). k.client) is;
      pool = ap (λ (k : Key). k.pool) is;
      size = ap (λ (k : Key). k.size) is ∙ size;
      nodes = ap (λ (k : Key). k.nodes) is;
      rules = ap (λ (k : Key). k.rules) is;
    }

-- the client of a number, as it was made
begins : (settings : PlainSettings) (limits : ClientLimits) (made : Made) → AreMade limits (rules_in_settings settings) made → (number : ℕ) → number < limits.clients
    → (client : _) × BeginsAt limits (rules_in_settings settings) made.port.giver number (receiving_of made) client
begins settings limits made are number low =
    let client = end_there made.clients.items number (let count = are.joined.clients_are in omega (arith, low, count)) in
    (client.0, are.joined.each number client.0 client.1)

pub made_stands : (settings : PlainSettings) (limits : ClientLimits) (made : Made) (agent : PlainAgent Leased) (mail : Letters) (inbox : PlainInbox) (claims : PlainClaims) → inbox.rules ≡ settings.triggers → limits.size ≡ settings.size
    → AreMade limits (rules_in_settings settings) made → Follows agent (bare_run settings limits.node) → Stands (bare_run settings limits.node) (new_intake agent made.port made.late.items mail inbox claims limits.clients)
made_stands settings limits made agent mail inbox claims rules same are follows =
    let size : made.port.giver.size ≡ settings.size = ap (λ (g : Giving). g.size) are.giver ∙ same in
    record {
      follows = follows;
      offered = refl;
      size = size;
      chunks =
          record {
            count = are.joined.chunks;
            keys = (λ number r at.
                let one = begins settings limits made are number (let low = there_low made.port.chunks number r at in let count = are.joined.chunks in omega (arith, low, count)) in
                key_for settings limits made.port.giver number r.key size
                (ap (λ (x : Incoming _ Key). x.key) (same_there made.port.chunks number r one.1.ends.chunks at one.1.stand.chunks) ∙ one.1.linked.chunks.keys.1));
          };
      crumbs =
          record {
            count = are.joined.crumbs;
            keys = (λ number r at.
                let one = begins settings limits made are number (let low = there_low made.port.crumbs number r at in let count = are.joined.crumbs in omega (arith, low, count)) in
                key_for settings limits made.port.giver number r.key size
                (ap (λ (x : Incoming _ Key). x.key) (same_there made.port.crumbs number r one.1.ends.crumbs at one.1.stand.crumbs) ∙ one.1.linked.crumbs.keys.1));
          };
      triggers =
          record {
            count = are.joined.triggers;
            keys = (λ number r at.
                let one = begins settings limits made are number (let low = there_low made.port.triggers number r at in let count = are.joined.triggers in omega (arith, low, count)) in
                key_for settings limits made.port.giver number r.key size
                (ap (λ (x : Incoming _ Key). x.key) (same_there made.port.triggers number r one.1.ends.triggers at one.1.stand.triggers) ∙ one.1.linked.triggers.keys.1));
          };
      late =
          record {
            count = are.joined.late;
            keys = (λ number r at.
                let one = begins settings limits made are number (let low = there_low made.late.items number r at in let count = are.joined.late in omega (arith, low, count)) in
                key_for settings limits made.port.giver number r.key size
                (ap (λ (x : Incoming _ Key). x.key) (same_there made.late.items number r one.1.ends.late at one.1.stand.late) ∙ one.1.linked.late.keys.1));
          };
      pooled = tt;
      waits = tt;
      inbox = rules;
    }
