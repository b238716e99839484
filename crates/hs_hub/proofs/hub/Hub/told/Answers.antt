use Rattle.std.proofs.Common.{rules, ◌≡◌, false, length, nat_le, ap, ◌∙◌}
use Rattle.hs_groups.specs.declared.answers.ToldOutcome.TheVariants as of_group
use Rattle.hs_groups.specs.Groups as groups
use Rattle.hs_hub.specs.Hub.{PlainHub, room, node_of, after_told}
use Rattle.hs_hub.specs.HubLayout.{hub_in}
use Rattle.hs_hub.proofs.Refusals.{nothing_changes}
use Rattle.hs_hub.proofs.hub.Hub.told.Goals as goal

pub returns-in-Refused-clause-after : goal.returns-in-Refused-clause-after
returns-in-Refused-clause-after c =
    let h = hub_in c.self.inside in
    let message = c.args.message in
    let told = c.args.told.now in
    let fits : nat_le (room h) (length told.laterals) ≡ false = search rules in
    let refused : of_group.Refused ≡ groups.answer_to h.groups (node_of message) message.epoch told = search rules in
    let new : c.told.new.self ≡ groups.after_told h.groups (node_of message) message.epoch told = search rules in
    nothing_changes h message told c.told.new.self fits refused new ∙ ap (λ (h : PlainHub). after_told h message told) c.self.view_is
