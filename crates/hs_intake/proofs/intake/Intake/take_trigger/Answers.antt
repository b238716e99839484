use Rattle.std.proofs.Common.{◌≡◌, [], ◌∷◌, length, Some, None, sym, ap, subst, ◌∙◌}
use Rattle.hs_ring.specs.Parts.{Leased}
use Rattle.hs_live.specs.Live.{Port}
use Rattle.hs_agent.specs.Keeping.{PlainAgent}
use Rattle.hs_agent.specs.Runs.{AgentRun}
use Rattle.hs_intake.specs.Intakes.{PlainIntake, Stands, Triggers, HasRoom, trigger_line}
use Rattle.hs_intake.specs.IntakeLayout.{intake_in}
use Rattle.hs_intake.specs.declared.took.Fired.TheVariants as fired
use Rattle.hs_intake.specs.Taking.{TakesFired, HoldsOne}
use Rattle.hs_intake.proofs.Triggers.{took_trigger, held_trigger, trigger_alive, held_trigger_alive, triggers_counted}
use Rattle.hs_intake.proofs.Lines.{receives_one}
use Rattle.hs_intake.proofs.intake.Intake.take_trigger.Goals as goal

pub returns-in-Ok-clause-next : goal.returns-in-Ok-clause-next
returns-in-Ok-clause-next c = λ run stands.
    let d = intake_in c.self.inside in
    let there : Stands run d = subst (λ (x : PlainIntake). Stands run x) (sym c.self.view_is) stands in
    let none : d.unsaid ≡ None = ap (λ (x : PlainIntake). x.unsaid) c.self.view_is ∙ c.is_mute.ensures.open c.if-is_mute.false in
    let room : HasRoom d.claims = subst (λ (x : PlainIntake). HasRoom x.claims) (sym c.self.view_is) (c.is_short.ensures.room c.if-is_short.false) in
    subst (λ (x : PlainIntake). TakesFired run c.args.client x (fired.Taken c.is_some-tells.result) (record d { agent = c.fire.new.agent; port = c.trigger.new.self; mail = c.say.new.mail; claims = c.say.new.claims; unsaid = c.say.new.unsaid }))
    c.self.view_is
    (took_trigger run d c.args.client c.in-Some.trigger c.trigger.new.self c.fire.new.agent c.in-Ok.told c.is_some-tells.result c.enter.new.claims c.say.new.mail c.say.new.claims c.say.new.unsaid there c.in-Some.ensures.received
    c.trigger.ensures.only (c.in-Ok.ensures.after run there.follows) none room c.enter.ensures (c.in-Ok.ensures.told run there.follows) c.is_some-tells.ensures c.say.ensures)

pub returns-in-Err-clause-next : goal.returns-in-Err-clause-next
returns-in-Err-clause-next c = λ run stands.
    let d = intake_in c.self.inside in
    let there : Stands run d = subst (λ (x : PlainIntake). Stands run x) (sym c.self.view_is) stands in
    let port = c.trigger.new.self in
    let trigger = c.in-Some.trigger in
    subst (λ (x : PlainIntake). HoldsOne run trigger_line c.args.client x (record d { agent = c.fire.new.agent; port = port; back = Some (Triggers c.args.client trigger) })) c.self.view_is
    (subst (λ (a : PlainAgent Leased). HoldsOne run trigger_line c.args.client d (record d { agent = a; port = port; back = Some (Triggers c.args.client trigger) })) (sym c.in-Err.ensures.same)
    (held_trigger run d c.args.client trigger port there c.in-Some.ensures.fact c.in-Some.ensures.received c.trigger.ensures.only))

pub invariant_of-self-in-Ok : goal.invariant_of-self-in-Ok
invariant_of-self-in-Ok c =
    let d = intake_in c.self.inside in
    let trigger = c.in-Some.trigger in
    let port = c.trigger.new.self in
    record {
      chunks = ap (λ (p : Port). length p.chunks) c.trigger.ensures.only ∙ c.self.invariant.chunks;
      crumbs = ap (λ (p : Port). length p.crumbs) c.trigger.ensures.only ∙ c.self.invariant.crumbs;
      triggers = triggers_counted c.args.client d.clients (trigger ∷ []) d.port.triggers port.triggers (receives_one c.args.client trigger d.port.triggers port.triggers c.in-Some.ensures.received) c.self.invariant.triggers;
      late = c.self.invariant.late;
      stands = (λ alive.
          trigger_alive d c.args.client trigger port c.fire.new.agent c.say.new.mail c.say.new.claims c.say.new.unsaid
          (c.self.invariant.stands (c.fire.ensures.alive alive))
          c.in-Some.ensures.received c.trigger.ensures.only c.in-Ok.ensures.after);
    }

pub invariant_of-self-in-Err : goal.invariant_of-self-in-Err
invariant_of-self-in-Err c =
    let d = intake_in c.self.inside in
    let trigger = c.in-Some.trigger in
    let port = c.trigger.new.self in
    record {
      chunks = ap (λ (p : Port). length p.chunks) c.trigger.ensures.only ∙ c.self.invariant.chunks;
      crumbs = ap (λ (p : Port). length p.crumbs) c.trigger.ensures.only ∙ c.self.invariant.crumbs;
      triggers = triggers_counted c.args.client d.clients (trigger ∷ []) d.port.triggers port.triggers (receives_one c.args.client trigger d.port.triggers port.triggers c.in-Some.ensures.received) c.self.invariant.triggers;
      late = c.self.invariant.late;
      stands = (λ alive.
          subst (λ (a : PlainAgent Leased). (run : AgentRun Leased) × Stands run (record d { agent = a; port = port; back = Some (Triggers c.args.client trigger) })) (sym c.in-Err.ensures.same)
          (held_trigger_alive d c.args.client trigger port (c.self.invariant.stands (ap (λ (a : PlainAgent Leased). a.spent) (sym c.in-Err.ensures.same) ∙ alive)) c.in-Some.ensures.fact
          c.in-Some.ensures.received c.trigger.ensures.only));
    }
