use Rattle.std.proofs.Common.{refl, sym, ap, subst}
use Rattle.hs_records.specs.Plain.{settings_of}
use Rattle.hs_agent.specs.Runs.{bare_run}
use Rattle.hs_inbox.specs.Delivering.{PlainInbox}
use Rattle.hs_intake.specs.Intakes.{PlainIntake}
use Rattle.hs_intake.specs.Making.{IsMade}
use Rattle.hs_intake.proofs.Made.{made_stands}
use Rattle.hs_intake.proofs.making.make_intake.Goals as goal

pub make-requires-3 : goal.make-requires-3
make-requires-3 c = (
  bare_run (settings_of c.args.settings.now) c.args.limits.now.node,
  made_stands (settings_of c.args.settings.now) c.args.limits.now c.in_ok-made.made c.in-Ok.agent c.args.mail c.in-Ok-make.inbox c.in-Ok-make-2.claims (ap (λ (i : PlainInbox). i.rules) c.in-Ok-make.ensures) c.requires.size c.in_ok-made.ensures.made c.in-Ok.ensures,
)

pub returns-clause-made : goal.returns-clause-made
returns-clause-made c =
    subst
    (λ (d : PlainIntake).
    IsMade (settings_of c.args.settings.now) c.args.limits.now c.args.mail c.args.asks c.args.claims
    (record { intake = d; segments = c.in_ok-made.made.segments; clients = c.in_ok-made.made.clients }))
    (sym c.make-3.ensures)
    (record {
      stands = made_stands (settings_of c.args.settings.now) c.args.limits.now c.in_ok-made.made c.in-Ok.agent c.args.mail c.in-Ok-make.inbox c.in-Ok-make-2.claims (ap (λ (i : PlainInbox). i.rules) c.in-Ok-make.ensures) c.requires.size c.in_ok-made.ensures.made c.in-Ok.ensures;
      room = c.in_ok-made.made.late.room;
      clients = c.in_ok-made.ensures.made;
      mail_is = refl;
      inbox_is = c.in-Ok-make.ensures;
      claims_is = c.in-Ok-make-2.ensures;
      back_is = refl;
      unsaid_is = refl;
    })
