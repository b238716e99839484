use Rattle.std.proofs.Common.{◌≡◌, true, false, [], ◌∷◌, Some, None, sym, ap, subst, ◌∙◌}
use Rattle.std.proofs.lemmas.Bool.{false_from_ne_true}
use Rattle.hs_ring.specs.Parts.{Leased}
use Rattle.hs_agent.specs.Keeping.{PlainAgent}
use Rattle.hs_agent.specs.Runs.{AgentRun}
use Rattle.hs_intake.specs.Intakes.{PlainIntake, Stands, Crumbs, late_line}
use Rattle.hs_intake.specs.IntakeLayout.{intake_in}
use Rattle.hs_intake.specs.Taking.{TakesOne, HoldsOne}
use Rattle.hs_intake.proofs.Acts.{crumbs_counted}
use Rattle.hs_intake.proofs.Lates.{took_late, held_late, late_alive}
use Rattle.hs_intake.proofs.Lines.{receives_one}
use Rattle.hs_intake.proofs.intake.Intake.take_late.Goals as goal

pub returns-in-Ok-clause-next : goal.returns-in-Ok-clause-next
returns-in-Ok-clause-next c = λ run stands.
    let d = intake_in c.self.inside in
    let there : Stands run d = subst (λ (x : PlainIntake). Stands run x) (sym c.self.view_is) stands in
    let none : d.unsaid ≡ None = ap (λ (x : PlainIntake). x.unsaid) c.self.view_is ∙ c.is_mute.ensures.open c.if-is_mute.false in
    subst (λ (x : PlainIntake). TakesOne run late_line c.args.client x (record d { agent = c.try_crumb.new.self; late = c.receive_at.new.receivers.items; mail = c.say.new.mail; claims = c.say.new.claims; unsaid = c.say.new.unsaid }))
    c.self.view_is
    (took_late run d c.args.client c.in-Some.crumb c.receive_at.new.receivers.items c.try_crumb.new.self c.in-Ok.told c.say.new.mail c.say.new.claims c.say.new.unsaid there c.in-Some.ensures.received
    (c.in-Ok.ensures.after run there.follows) none (c.in-Ok.ensures.told run there.follows) c.say.ensures)

pub returns-in-Err-clause-next : goal.returns-in-Err-clause-next
returns-in-Err-clause-next c = λ run stands.
    let d = intake_in c.self.inside in
    let there : Stands run d = subst (λ (x : PlainIntake). Stands run x) (sym c.self.view_is) stands in
    let ends = c.receive_at.new.receivers.items in
    let crumb = c.in-Some.crumb in
    subst (λ (x : PlainIntake). HoldsOne run late_line c.args.client x (record d { agent = c.try_crumb.new.self; late = ends; back = Some (Crumbs c.args.client crumb) })) c.self.view_is
    (subst (λ (a : PlainAgent Leased). HoldsOne run late_line c.args.client d (record d { agent = a; late = ends; back = Some (Crumbs c.args.client crumb) })) (sym c.in-Err.ensures.same)
    (held_late run d c.args.client crumb ends there c.in-Some.ensures.fact c.in-Some.ensures.received))

pub invariant_of-self-in-Ok : goal.invariant_of-self-in-Ok
invariant_of-self-in-Ok c =
    let d = intake_in c.self.inside in
    let crumb = c.in-Some.crumb in
    let ends = c.receive_at.new.receivers.items in
    record {
      chunks = c.self.invariant.chunks;
      crumbs = c.self.invariant.crumbs;
      triggers = c.self.invariant.triggers;
      late = crumbs_counted c.args.client d.clients (crumb ∷ []) d.late ends (receives_one c.args.client crumb d.late ends c.in-Some.ensures.received) c.self.invariant.late;
      stands = (λ alive.
          late_alive d c.args.client crumb ends c.try_crumb.new.self c.say.new.mail c.say.new.claims c.say.new.unsaid
          (c.self.invariant.stands (false_from_ne_true c.self.inside.agent.spent (λ was. let none : false ≡ true = c.in-Ok.ensures.stays was in absurd cc)))
          c.in-Some.ensures.received c.in-Ok.ensures.after);
    }

pub invariant_of-self-in-Err : goal.invariant_of-self-in-Err
invariant_of-self-in-Err c =
    let d = intake_in c.self.inside in
    let crumb = c.in-Some.crumb in
    let ends = c.receive_at.new.receivers.items in
    record {
      chunks = c.self.invariant.chunks;
      crumbs = c.self.invariant.crumbs;
      triggers = c.self.invariant.triggers;
      late = crumbs_counted c.args.client d.clients (crumb ∷ []) d.late ends (receives_one c.args.client crumb d.late ends c.in-Some.ensures.received) c.self.invariant.late;
      stands = (λ alive.
          subst (λ (a : PlainAgent Leased). (run : AgentRun Leased) × Stands run (record d { agent = a; late = ends; back = Some (Crumbs c.args.client crumb) })) (sym c.in-Err.ensures.same)
          (let known = c.self.invariant.stands (ap (λ (a : PlainAgent Leased). a.spent) (sym c.in-Err.ensures.same) ∙ alive) in
          (known.0, (held_late known.0 d c.args.client crumb ends known.1 c.in-Some.ensures.fact c.in-Some.ensures.received).stands)));
    }
