use Rattle.std.proofs.Common.{◌+◌, Some, None, refl, ap, sym, subst, ◌∙◌, arith}
use Rattle.hs_check.proofs.Prelude.{one_if, is_turn, step_stamp, Step, Shown, is_give, HasGiven}
use Rattle.hs_check.proofs.Noting.{shown_more, highest_with, quiet_step}
use Rattle.hs_check.proofs.shown.Shown.note.Goals as goal

pub returns-in_default : goal.returns-in_default
returns-in_default c = λ earlier is.
    let quiet = quiet_step c.args.step c.in_default.not-Turn c.in_default.not-Given c.in_default.not-Missed in
    let give = ap one_if quiet.give in
    let turn = ap one_if quiet.turn in
    shown_more c.args.gives.now earlier c.args.step c.args.self.now c.args.self.now None is quiet.stamp is.given (omega (arith, give)) (omega arith) refl (omega (arith, turn))

pub returns-in-Turn : goal.returns-in-Turn
returns-in-Turn c = λ earlier is.
    let old : Shown = c.args.self.now in
    let give = ap (λ (s : Step). one_if (is_give s)) c.in-Turn.is in
    let turn = ap (λ (s : Step). one_if (is_turn s)) c.in-Turn.is in
    shown_more c.args.gives.now earlier c.args.step old (record old { turns = old.turns + 1 }) None is (ap step_stamp c.in-Turn.is) is.given (omega (arith, give)) (omega arith) refl (omega (arith, turn))

pub returns-in-Missed : goal.returns-in-Missed
returns-in-Missed c = λ earlier is.
    let old : Shown = c.args.self.now in
    let new : Shown = c.pass-in-Missed.new.self in
    let give = ap (λ (s : Step). one_if (is_give s)) c.in-Missed.is in
    let turn = ap (λ (s : Step). one_if (is_turn s)) c.in-Missed.is in
    let passed = c.pass-in-Missed.ensures in
    let gives = ap (λ (s : Shown). s.gives) passed in
    let events = ap (λ (s : Shown). s.events) passed in
    let turns = ap (λ (s : Shown). s.turns) passed in
    let given : HasGiven c.args.gives.now new = subst (HasGiven c.args.gives.now) (sym passed) is.given in
    shown_more c.args.gives.now earlier c.args.step old new (Some c.in-Missed.stamp) is (ap step_stamp c.in-Missed.is) given
    (omega (arith, give, gives)) (omega (arith, events)) (ap (λ (s : Shown). s.highest) passed) (omega (arith, turn, turns))

pub returns-in_ok-give-in-Given : goal.returns-in_ok-give-in-Given
returns-in_ok-give-in-Given c = λ earlier is.
    let old : Shown = c.args.self.now in
    let between : Shown = c.give.new.self in
    let new : Shown = c.pass.new.self in
    let give = ap (λ (s : Step). one_if (is_give s)) c.in-Given.is in
    let turn = ap (λ (s : Step). one_if (is_turn s)) c.in-Given.is in
    let gave = c.in_ok-give-in-Given.ensures.rest in
    let passed = c.pass.ensures in
    let gives = ap (λ (s : Shown). s.gives) passed ∙ ap (λ (s : Shown). s.gives) gave in
    let events = ap (λ (s : Shown). s.events) passed in
    let same = ap (λ (s : Shown). s.events) gave in
    let turns = ap (λ (s : Shown). s.turns) passed ∙ ap (λ (s : Shown). s.turns) gave in
    let given : HasGiven c.args.gives.now new = subst (HasGiven c.args.gives.now) (sym passed) (c.in_ok-give-in-Given.ensures.given is.given) in
    shown_more c.args.gives.now earlier c.args.step old new (Some c.in-Given.stamp) is (ap step_stamp c.in-Given.is) given
    (omega (arith, give, gives)) (omega (arith, events, same)) (ap (λ (s : Shown). s.highest) passed ∙ ap (λ (s : Shown). highest_with (Some c.in-Given.stamp) s.highest) gave) (omega (arith, turn, turns))
