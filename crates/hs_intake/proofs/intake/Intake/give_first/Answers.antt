use Rattle.std.proofs.Common.{◌≡◌, true, false, Some, sym, ap, subst, ◌∙◌, length}
use Rattle.std.proofs.lemmas.Bool.{false_from_ne_true}
use Rattle.hs_words.specs.Buffers.{buffer_of, buffer_in}
use Rattle.hs_live.specs.Live.{Port}
use Rattle.hs_agent.specs.Runs.{offered_next, after_offer, answer_of, back_in}
use Rattle.hs_intake.specs.Intakes.{PlainIntake, LetsGo, after_act, Stands}
use Rattle.hs_intake.specs.IntakeLayout.{intake_in}
use Rattle.hs_intake.specs.Handing.{GivesFirst}
use Rattle.hs_intake.proofs.Handing.{returned, gave_on}
use Rattle.hs_intake.proofs.intake.Intake.give_first.Goals as goal

pub invariant_of-self-2 : goal.invariant_of-self-2
invariant_of-self-2 c =
    let d = intake_in c.self.inside in
    let port = c.give-given.new.self in
    let answer = c.give-given.result in
    record {
      chunks = ap (λ (p : Port). length p.chunks) c.give-given.ensures.only ∙ c.self.invariant.chunks;
      crumbs = ap (λ (p : Port). length p.crumbs) c.give-given.ensures.only ∙ c.self.invariant.crumbs;
      triggers = ap (λ (p : Port). length p.triggers) c.give-given.ensures.only ∙ c.self.invariant.triggers;
      late = c.self.invariant.late;
      stands = (λ alive.
          let known = c.self.invariant.stands (false_from_ne_true c.self.inside.agent.spent (λ was. let none : false ≡ true = c.in-Ok.ensures.stays was in absurd cc)) in
          let first : Some (buffer_of c.in-Some.held) ≡ offered_next known.0 = ap buffer_in (sym c.in-Some.is) ∙ c.in-Ok.ensures.first known.0 known.1.follows in (
            after_act known.0 (LetsGo (answer_of answer) (back_in answer)),
            gave_on known.0 d (buffer_of c.in-Some.held) (answer_of answer) (back_in answer) c.gave.new.self port known.1 first
                (returned d.port.giver port.giver c.in-Some.held answer c.give-given.ensures.given) c.give-given.ensures.only
                (c.gave.ensures.after (after_offer known.0) (c.in-Ok.ensures.after known.0 known.1.follows)),
          ));
    }

pub returns : goal.returns
returns c = λ run stands.
    let d = intake_in c.self.inside in
    let port = c.give-given.new.self in
    let answer = c.give-given.result in
    let there : Stands run d = subst (λ (x : PlainIntake). Stands run x) (sym c.self.view_is) stands in
    let first : Some (buffer_of c.in-Some.held) ≡ offered_next run = ap buffer_in (sym c.in-Some.is) ∙ c.in-Ok.ensures.first run there.follows in
    let returns = returned d.port.giver port.giver c.in-Some.held answer c.give-given.ensures.given in
    subst (λ (x : PlainIntake). GivesFirst run x (Some c.is_given-was_given.result) (record d { agent = c.gave.new.self; port = port })) c.self.view_is (
      ap (λ (p : Port). record d { agent = c.gave.new.self; port = p }) c.give-given.ensures.only,
      record {
        buffer = buffer_of c.in-Some.held;
        first = sym first;
        answer = answer_of answer;
        back = back_in answer;
        given = c.is_given-was_given.ensures;
        returns = returns;
        stands =
            gave_on run d (buffer_of c.in-Some.held) (answer_of answer) (back_in answer) c.gave.new.self port there first returns c.give-given.ensures.only
            (c.gave.ensures.after (after_offer run) (c.in-Ok.ensures.after run there.follows));
      },
    )
