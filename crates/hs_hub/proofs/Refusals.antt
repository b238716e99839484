-- Where groups refuse what a node tells, nothing of a hub changes.
use Rattle.std.proofs.Common.{◌≡◌, ℕ, Bool, true, false, not, cond, ◌&&◌, length, nat_le, refl, sym, ap, ◌∙◌}
use Rattle.hs_base.specs.declared.ids.NodeId.{NodeId}
use Rattle.hs_base.specs.declared.told.Told.{Told}
use Rattle.hs_groups.specs.declared.answers.ToldOutcome.{ToldOutcome}
use Rattle.hs_groups.specs.declared.answers.ToldOutcome.TheVariants as of_group
use Rattle.hs_groups.specs.Following.{answer_of}
use Rattle.hs_groups.specs.Groups as groups
use Rattle.hs_groups.specs.Groups.{PlainGroups, latest_of, answer_of_hear, heard, is_known, is_full, followed_by}
use Rattle.hs_receipts.specs.declared.answers.MessageId.{MessageId}
use Rattle.hs_hub.specs.Hub.{PlainHub, room, node_of, after_answer_to_told, after_told}

groups_stay : (g : PlainGroups) (n : NodeId) (epoch : ℕ) (told : Told) → of_group.Refused ≡ groups.answer_to g n epoch told → groups.after_told g n epoch told ≡ g
groups_stay g n epoch told refused = by (is_known g n told.crumbs) (is_full g told.group.id) refused
  where
    by : (known many : Bool) → of_group.Refused ≡ cond known (cond many of_group.Full (of_group.Taken (answer_of_hear g n epoch))) of_group.Refused
        → cond (known && not many) (heard (followed_by g n (answer_of told.why (latest_of g n) epoch n) told) n epoch) g ≡ g
    by false many is = refl
    by true true is = refl
    by true false is = let never : of_group.Refused ≡ of_group.Taken (answer_of_hear g n epoch) = is in absurd cc

pub nothing_changes : (h : PlainHub) (message : MessageId) (told : Told) (new : PlainGroups) → nat_le (room h) (length told.laterals) ≡ false
    → of_group.Refused ≡ groups.answer_to h.groups (node_of message) message.epoch told → new ≡ groups.after_told h.groups (node_of message) message.epoch told
    → record h { groups = new } ≡ after_told h message told
nothing_changes h message told new fits refused is =
    let n = node_of message in
    let answer = groups.answer_to h.groups n message.epoch told in
    let same : record h { groups = new } ≡ h = ap (λ (g : PlainGroups). record h { groups = g }) (is ∙ groups_stay h.groups n message.epoch told refused) in
    let there : after_told h message told ≡ h =
    ap (λ (b : Bool). cond b h (after_answer_to_told h message told answer)) fits ∙ sym (ap (λ (a : ToldOutcome). after_answer_to_told h message told a) refused) in
    same ∙ sym there
