use Rattle.std.proofs.Common.{◌≤◌, ◌+◌, refl, sym, ap, subst, arith}
use Rattle.hs_records.specs.Plain.{PlainSettings}
use Rattle.hs_settings.specs.Settings.{service_of}
use Rattle.hs_settings.specs.declared.setting.ServiceSetting.TheVariants as settings
use Rattle.hs_mail.specs.Letters.{Letters}
use Rattle.hs_node_client.specs.declared.limits.ClientLimits.{ClientLimits}
use Rattle.hs_intake.specs.Making as intake
use Rattle.hs_node.specs.declared.making.MadeNode.{MadeNode}
use Rattle.hs_node.specs.declared.making.TheConstants.{ASKS, CLAIMS_MORE}
use Rattle.hs_node.specs.Made.{limits_of, run_settings, IsMadeBy}
use Rattle.hs_node.proofs.making.make_by.Goals as goal

pub overflow_add-claims : goal.overflow_add-claims
overflow_add-claims c =
    let few : c.args.settings.claims ≤ 65536 = (c.requires.each settings.Claims).1 in
    omega (arith, few)

pub returns-in-Ok-make_intake-clause-made : goal.returns-in-Ok-make_intake-clause-made
returns-in-Ok-make_intake-clause-made c =
    let s = service_of c.args.settings in
    let made = c.in-Ok-make_intake.made in
    let asks = ASKS in
    let claims = c.args.settings.claims + CLAIMS_MORE in
    subst (λ (m : MadeNode). IsMadeBy s c.args.node c.args.epoch m) (sym c.join.ensures)
    (record {
      room = made.segments.room;
      intake =
          subst (λ (m : Letters). intake.IsMade (run_settings s) (limits_of s c.args.node) m asks claims made) c.in-Ok.ensures
          (subst (λ (l : ClientLimits). intake.IsMade (run_settings s) l c.in-Ok.mail asks claims made) c.limits_of-limits.ensures
          (subst (λ (p : PlainSettings). intake.IsMade p c.limits_of-limits.result c.in-Ok.mail asks claims made) c.run_settings-plain.ensures c.in-Ok-make_intake.ensures.made));
      notes = c.in-Ok-make.ensures.made;
      clients = ap (λ (l : ClientLimits). l.clients) c.limits_of-limits.ensures;
      limit = refl;
      limited = refl;
    })
