use Rattle.std.proofs.Common.{◌≡◌, true, false, Option, Some, None, sym, ap, subst, ◌∙◌}
use Rattle.std.specs.Option.{option_map}
use Rattle.std.proofs.lemmas.Bool.{false_from_ne_true}
use Rattle.hs_words.specs.Buffers.{buffer_of}
use Rattle.hs_intake.specs.declared.took.Back.{Back}
use Rattle.hs_intake.specs.IntakeLayout.{intake_in, waiting_of}
use Rattle.hs_intake.specs.Intakes.{PlainIntake, Stands, HasRoom}
use Rattle.hs_intake.specs.Taking.{TakesBack}
use Rattle.hs_intake.proofs.Acts.{front_chunk_alive, front_crumb_alive}
use Rattle.hs_intake.proofs.Fronts.{front_crumb, front_trigger}
use Rattle.hs_intake.proofs.intake.Intake.take_back.Goals as goal

pub invariant_of-self-in-Ok : goal.invariant_of-self-in-Ok
invariant_of-self-in-Ok c =
    let d = intake_in c.self.inside in
    record {
      chunks = c.self.invariant.chunks;
      crumbs = c.self.invariant.crumbs;
      triggers = c.self.invariant.triggers;
      late = c.self.invariant.late;
      stands = (λ alive.
          front_chunk_alive d c.in-Some-Chunk.client (buffer_of c.in-Some-Chunk.held) c.try_chunk.new.self (option_map waiting_of c.take.new.self)
          (ap (λ (o : Option Back). option_map waiting_of o) c.take.ensures.after)
          (ap (λ (o : Option Back). option_map waiting_of o) (sym c.take.ensures.value ∙ c.in-Some-Chunk.is) ∙ ap (λ (b : Back). Some (waiting_of b)) c.in-Some-Chunk.field-0-is)
          (c.self.invariant.stands (false_from_ne_true c.self.inside.agent.spent (λ was. let none : false ≡ true = c.in-Ok.ensures.stays was in absurd cc))) c.in-Ok.ensures.after);
    }

pub invariant_of-self-in-Ok-try_crumb : goal.invariant_of-self-in-Ok-try_crumb
invariant_of-self-in-Ok-try_crumb c =
    let d = intake_in c.self.inside in
    record {
      chunks = c.self.invariant.chunks;
      crumbs = c.self.invariant.crumbs;
      triggers = c.self.invariant.triggers;
      late = c.self.invariant.late;
      stands = (λ alive.
          front_crumb_alive d c.in-Some-Crumb.client c.in-Some-Crumb.crumb c.try_crumb.new.self (option_map waiting_of c.take.new.self) c.say.new.mail c.say.new.claims c.say.new.unsaid
          (ap (λ (o : Option Back). option_map waiting_of o) c.take.ensures.after)
          (c.self.invariant.stands (false_from_ne_true c.self.inside.agent.spent (λ was. let none : false ≡ true = c.in-Ok-try_crumb.ensures.stays was in absurd cc)))
          c.in-Ok-try_crumb.ensures.after);
    }

pub returns-in-Ok-try_crumb : goal.returns-in-Ok-try_crumb
returns-in-Ok-try_crumb c = λ run stands.
    let d = intake_in c.self.inside in
    let there : Stands run d = subst (λ (x : PlainIntake). Stands run x) (sym c.self.view_is) stands in
    let none : d.unsaid ≡ None = ap (λ (x : PlainIntake). x.unsaid) c.self.view_is ∙ c.is_mute-is_mute.ensures.open c.if-is_mute.false in
    subst (λ (x : PlainIntake). TakesBack run x true (record d { agent = c.try_crumb.new.self; back = option_map waiting_of c.take.new.self; mail = c.say.new.mail; claims = c.say.new.claims; unsaid = c.say.new.unsaid }))
    c.self.view_is
    (front_crumb run d c.in-Some-Crumb.client c.in-Some-Crumb.crumb c.try_crumb.new.self (option_map waiting_of c.take.new.self) c.in-Ok-try_crumb.told c.say.new.mail c.say.new.claims c.say.new.unsaid there
    (ap (λ (o : Option Back). option_map waiting_of o) (sym c.take.ensures.value ∙ c.in-Some-Crumb.is) ∙ ap (λ (b : Back). Some (waiting_of b)) c.in-Some-Crumb.field-0-is)
    (ap (λ (o : Option Back). option_map waiting_of o) c.take.ensures.after) (c.in-Ok-try_crumb.ensures.after run there.follows) none (c.in-Ok-try_crumb.ensures.told run there.follows) c.say.ensures)

pub returns-in-Ok-fire : goal.returns-in-Ok-fire
returns-in-Ok-fire c = λ run stands.
    let d = intake_in c.self.inside in
    let there : Stands run d = subst (λ (x : PlainIntake). Stands run x) (sym c.self.view_is) stands in
    let none : d.unsaid ≡ None = ap (λ (x : PlainIntake). x.unsaid) c.self.view_is ∙ c.is_mute-is_mute.ensures.open c.if-is_mute-2.false in
    let room : HasRoom d.claims = subst (λ (x : PlainIntake). HasRoom x.claims) (sym c.self.view_is) (c.is_short-is_short.ensures.room c.if-is_short.false) in
    let say = c.say-in-Ok-fire in
    subst (λ (x : PlainIntake). TakesBack run x true (record d { agent = c.fire.new.agent; back = option_map waiting_of c.take.new.self; mail = say.new.mail; claims = say.new.claims; unsaid = say.new.unsaid }))
    c.self.view_is
    (front_trigger run d c.in-Some-Trigger.client c.in-Some-Trigger.trigger c.fire.new.agent (option_map waiting_of c.take.new.self) c.in-Ok-fire.told c.enter.new.claims say.new.mail say.new.claims say.new.unsaid there
    (ap (λ (o : Option Back). option_map waiting_of o) (sym c.take.ensures.value ∙ c.in-Some-Trigger.is) ∙ ap (λ (b : Back). Some (waiting_of b)) c.in-Some-Trigger.field-0-is)
    (ap (λ (o : Option Back). option_map waiting_of o) c.take.ensures.after) (c.in-Ok-fire.ensures.after run there.follows) none room c.enter.ensures (c.in-Ok-fire.ensures.told run there.follows) say.ensures)
