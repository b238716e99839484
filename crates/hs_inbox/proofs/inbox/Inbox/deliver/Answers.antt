use Rattle.std.proofs.Common.{◌≡◌, List, refl, sym, ap, subst, ◌∙◌}
use Rattle.hs_base.specs.declared.settings.TriggerRule.{TriggerRule}
use Rattle.hs_inbox.specs.Delivering.{PlainInbox, IsAskFor}
use Rattle.hs_inbox.proofs.inbox.Inbox.deliver.Goals as goal

pub returns-in_default : goal.returns-in_default
returns-in_default c = (
  (λ ask is.
      c.in_default.ensures.none ask
      (subst (λ (rules : List TriggerRule). IsAskFor c.self.inside.node rules c.args.bytes.now ask) (sym c.as_slice.ensures)
      (subst (λ (i : PlainInbox). IsAskFor i.node i.rules c.args.bytes.now ask) (sym c.self.view_is) is))),
  refl,
)
