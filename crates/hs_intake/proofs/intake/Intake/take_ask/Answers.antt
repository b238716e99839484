use Rattle.std.proofs.Common.{◌≡◌, List, None, true, false, refl, sym, ap, subst, ◌∙◌}
use Rattle.std.proofs.lemmas.Bool.{false_from_ne_true}
use Rattle.hs_base.specs.Rules.{is_declared}
use Rattle.hs_base.specs.declared.settings.TriggerRule.{TriggerRule}
use Rattle.hs_intake.specs.Intakes.{PlainIntake, Stands, HasRoom}
use Rattle.hs_intake.specs.IntakeLayout.{intake_in}
use Rattle.hs_intake.specs.Taking.{TakesFirst}
use Rattle.hs_intake.proofs.Asks.{none_there, took_ask, ask_alive}
use Rattle.hs_intake.proofs.intake.Intake.take_ask.Goals as goal

pub try_ask-requires : goal.try_ask-requires
try_ask-requires c = λ alive.
    let known = c.self.invariant.stands alive in
    (known.0, known.1.follows, subst (λ (rules : List TriggerRule). is_declared rules c.in-Some.first.now.group.trigger ≡ true) known.1.inbox c.in-Some.ensures.declared)

pub returns-in-Ok : goal.returns-in-Ok
returns-in-Ok c = λ run stands.
    let d = intake_in c.self.inside in
    let there : Stands run d = subst (λ (x : PlainIntake). Stands run x) (sym c.self.view_is) stands in
    let none : d.unsaid ≡ None = ap (λ (x : PlainIntake). x.unsaid) c.self.view_is ∙ c.is_mute.ensures.open c.if-is_mute.false in
    let room : HasRoom d.claims = subst (λ (x : PlainIntake). HasRoom x.claims) (sym c.self.view_is) (c.is_short-is_short.ensures.room c.if-is_short.false) in
    subst (λ (x : PlainIntake). TakesFirst run x (record d { agent = c.try_ask.new.self; mail = c.say.new.mail; claims = c.say.new.claims; unsaid = c.say.new.unsaid; inbox = c.take_first.new.self })) c.self.view_is
    (took_ask run d c.in-Some.first.now c.try_ask.new.self c.in-Ok.told c.enter.new.claims c.say.new.mail c.say.new.claims c.say.new.unsaid c.take_first.new.self there c.in-Some.ensures.first c.take_first.ensures
    (c.in-Ok.ensures.after run there.follows) none room c.enter.ensures (c.in-Ok.ensures.told run there.follows) c.say.ensures)

pub invariant_of-self : goal.invariant_of-self
invariant_of-self c =
    let d = intake_in c.self.inside in
    record {
      chunks = c.self.invariant.chunks;
      crumbs = c.self.invariant.crumbs;
      triggers = c.self.invariant.triggers;
      late = c.self.invariant.late;
      stands = (λ alive.
          ask_alive d c.in-Some.first.now c.try_ask.new.self c.say.new.mail c.say.new.claims c.say.new.unsaid c.take_first.new.self
          (c.self.invariant.stands (false_from_ne_true c.self.inside.agent.spent (λ was. let none : false ≡ true = c.in-Ok.ensures.stays was in absurd cc))) c.take_first.ensures c.in-Ok.ensures.after);
    }

pub returns-in_default : goal.returns-in_default
returns-in_default c = λ run stands. (refl, sym (ap (λ (x : PlainIntake). x.inbox.asks) c.self.view_is) ∙ none_there (intake_in c.self.inside).inbox.asks c.in_default.ensures.first)
