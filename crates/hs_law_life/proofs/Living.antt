-- A life begins where nothing was taken, and what is said and delivered adds no act.
use Rattle.std.proofs.Common.{◌≡◌, ℕ, ◌<◌, List, [], length, Option, Some, None, refl, sym, ap, ◌∙◌, arith, slice_get}
use Rattle.std.specs.Option.{option_map_or}
use Rattle.hs_words.specs.Buffers.{Buffer}
use Rattle.hs_ring.specs.Parts.{Leased}
use Rattle.hs_link.specs.Contents.{Incoming}
use Rattle.hs_live.specs.Keys.{Key}
use Rattle.hs_inbox.specs.Delivering.{PlainInbox, Delivers}
use Rattle.hs_inbox.specs.declared.inbox.AskDelivered.{AskDelivered}
use Rattle.hs_inbox.specs.declared.inbox.AskDelivered.TheVariants.{Taken, Full, Refused}
use Rattle.hs_settings.specs.Settings.{PlainService}
use Rattle.hs_intake.specs.Intakes.{Waiting, acts_in}
use Rattle.hs_intake.proofs.Lines.{there_low, same_there}
use Rattle.hs_intake.proofs.Many.{end_there}
use Rattle.hs_node.specs.declared.making.MadeNode.{MadeNode}
use Rattle.hs_node.specs.Made.{IsMadeBy, run_settings}
use Rattle.hs_law_life.specs.NodeLives.{chunks_of, received_of, HasLived}

pub same_rules : (old : PlainInbox) (bytes : List ℕ) (answer : AskDelivered) (new : PlainInbox) → Delivers old bytes answer new → new.rules ≡ old.rules
same_rules old bytes Taken new (ask, is, few, same) = ap (λ (i : PlainInbox). i.rules) same
same_rules old bytes Full new (ask, is, many, same) = ap (λ (i : PlainInbox). i.rules) same
same_rules old bytes Refused new (none, same) = ap (λ (i : PlainInbox). i.rules) same

nothing_came : (s : PlainService) (number epoch : ℕ) (made : MadeNode) → IsMadeBy s number epoch made → (client : ℕ) → received_of client made.node.intake ≡ []
nothing_came s number epoch made is client = go (slice_get made.node.intake.port.chunks client) refl
  where
    go : (o : Option (Incoming (Buffer Leased) Key)) → slice_get made.node.intake.port.chunks client ≡ o → option_map_or (λ (r : Incoming (Buffer Leased) Key). r.received) o [] ≡ []
    go None at = refl
    go (Some r) at =
        let are = is.intake.clients.joined in
        let low : client < length made.node.intake.port.chunks = there_low made.node.intake.port.chunks client r at in
        let count = are.chunks in
        let count' = are.clients_are in
        let one = end_there made.clients.items client (omega (arith, low, count, count')) in
        let begins = are.each client one.0 one.1 in
        ap (λ (x : Incoming (Buffer Leased) Key). x.received) (same_there made.node.intake.port.chunks client r begins.ends.chunks at begins.stand.chunks) ∙ begins.linked.chunks.receiver.0

pub begins_by : (s : PlainService) (number epoch : ℕ) (made : MadeNode) → IsMadeBy s number epoch made → HasLived (run_settings s) number [] made.node.intake
begins_by s number epoch made is =
    record {
      stands = is.intake.stands;
      settled = tt;
      took = λ client. nothing_came s number epoch made is client ∙ sym (ap (λ (o : Option Waiting). chunks_of client (acts_in o)) is.intake.back_is);
    }
