use Rattle.std.proofs.Common.{◌≡◌, [], ◌∷◌, length, true, false, Some, None, sym, ap, subst, ◌∙◌}
use Rattle.std.proofs.lemmas.Bool.{false_from_ne_true}
use Rattle.hs_ring.specs.Parts.{Leased}
use Rattle.hs_live.specs.Live.{Port}
use Rattle.hs_agent.specs.Keeping.{PlainAgent}
use Rattle.hs_agent.specs.Runs.{AgentRun}
use Rattle.hs_intake.specs.Intakes.{PlainIntake, Stands, Crumbs, crumb_line}
use Rattle.hs_intake.specs.IntakeLayout.{intake_in}
use Rattle.hs_intake.specs.Taking.{TakesOne, HoldsOne}
use Rattle.hs_intake.proofs.Acts.{took_crumb, held_crumb, crumb_alive, held_crumb_alive, crumbs_counted}
use Rattle.hs_intake.proofs.Lines.{receives_one}
use Rattle.hs_intake.proofs.intake.Intake.take_crumb.Goals as goal

pub returns-in-Ok-clause-next : goal.returns-in-Ok-clause-next
returns-in-Ok-clause-next c = λ run stands.
    let d = intake_in c.self.inside in
    let there : Stands run d = subst (λ (x : PlainIntake). Stands run x) (sym c.self.view_is) stands in
    let none : d.unsaid ≡ None = ap (λ (x : PlainIntake). x.unsaid) c.self.view_is ∙ c.is_mute.ensures.open c.if-is_mute.false in
    subst (λ (x : PlainIntake). TakesOne run crumb_line c.args.client x (record d { agent = c.try_crumb.new.self; port = c.crumb.new.self; mail = c.say.new.mail; claims = c.say.new.claims; unsaid = c.say.new.unsaid }))
    c.self.view_is
    (took_crumb run d c.args.client c.in-Some.crumb c.crumb.new.self c.try_crumb.new.self c.in-Ok.told c.say.new.mail c.say.new.claims c.say.new.unsaid there c.in-Some.ensures.received
    c.crumb.ensures.only (c.in-Ok.ensures.after run there.follows) none (c.in-Ok.ensures.told run there.follows) c.say.ensures)

pub returns-in-Err-clause-next : goal.returns-in-Err-clause-next
returns-in-Err-clause-next c = λ run stands.
    let d = intake_in c.self.inside in
    let there : Stands run d = subst (λ (x : PlainIntake). Stands run x) (sym c.self.view_is) stands in
    let port = c.crumb.new.self in
    let crumb = c.in-Some.crumb in
    subst (λ (x : PlainIntake). HoldsOne run crumb_line c.args.client x (record d { agent = c.try_crumb.new.self; port = port; back = Some (Crumbs c.args.client crumb) })) c.self.view_is
    (subst (λ (a : PlainAgent Leased). HoldsOne run crumb_line c.args.client d (record d { agent = a; port = port; back = Some (Crumbs c.args.client crumb) })) (sym c.in-Err.ensures.same)
    (held_crumb run d c.args.client crumb port there c.in-Some.ensures.fact c.in-Some.ensures.received c.crumb.ensures.only))

pub invariant_of-self-in-Ok : goal.invariant_of-self-in-Ok
invariant_of-self-in-Ok c =
    let d = intake_in c.self.inside in
    let crumb = c.in-Some.crumb in
    let port = c.crumb.new.self in
    record {
      chunks = ap (λ (p : Port). length p.chunks) c.crumb.ensures.only ∙ c.self.invariant.chunks;
      crumbs = crumbs_counted c.args.client d.clients (crumb ∷ []) d.port.crumbs port.crumbs (receives_one c.args.client crumb d.port.crumbs port.crumbs c.in-Some.ensures.received) c.self.invariant.crumbs;
      triggers = ap (λ (p : Port). length p.triggers) c.crumb.ensures.only ∙ c.self.invariant.triggers;
      late = c.self.invariant.late;
      stands = (λ alive.
          crumb_alive d c.args.client crumb port c.try_crumb.new.self c.say.new.mail c.say.new.claims c.say.new.unsaid
          (c.self.invariant.stands (false_from_ne_true c.self.inside.agent.spent (λ was. let none : false ≡ true = c.in-Ok.ensures.stays was in absurd cc)))
          c.in-Some.ensures.received c.crumb.ensures.only c.in-Ok.ensures.after);
    }

pub invariant_of-self-in-Err : goal.invariant_of-self-in-Err
invariant_of-self-in-Err c =
    let d = intake_in c.self.inside in
    let crumb = c.in-Some.crumb in
    let port = c.crumb.new.self in
    record {
      chunks = ap (λ (p : Port). length p.chunks) c.crumb.ensures.only ∙ c.self.invariant.chunks;
      crumbs = crumbs_counted c.args.client d.clients (crumb ∷ []) d.port.crumbs port.crumbs (receives_one c.args.client crumb d.port.crumbs port.crumbs c.in-Some.ensures.received) c.self.invariant.crumbs;
      triggers = ap (λ (p : Port). length p.triggers) c.crumb.ensures.only ∙ c.self.invariant.triggers;
      late = c.self.invariant.late;
      stands = (λ alive.
          subst (λ (a : PlainAgent Leased). (run : AgentRun Leased) × Stands run (record d { agent = a; port = port; back = Some (Crumbs c.args.client crumb) })) (sym c.in-Err.ensures.same)
          (held_crumb_alive d c.args.client crumb port (c.self.invariant.stands (ap (λ (a : PlainAgent Leased). a.spent) (sym c.in-Err.ensures.same) ∙ alive)) c.in-Some.ensures.fact
          c.in-Some.ensures.received c.crumb.ensures.only));
    }
