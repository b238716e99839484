use Rattle.std.proofs.Common.{refl, sym, ap, ◌∙◌, subst}
use Rattle.std.proofs.lemmas.List.{take_all}
use Rattle.std.specs.List.{All}
use Rattle.hs_base.specs.Rules.{is_declared}
use Rattle.hs_node_client.specs.Fitting.{IsFitAuto}
use Rattle.hs_node_client.proofs.Known.{all_more}
use Rattle.hs_node_client.proofs.checking.are_fit.Goals as goal

pub loop-auto-preserved : goal.loop-auto-preserved
loop-auto-preserved c =
    let rules = c.args.triggers.now in
    all_more (IsFitAuto rules) c.args.autos.now c.loop-auto.auto-index _ c.loop-auto-test.true c.loop-auto.invariant
    ((c.if-not-is_within.ensures).0 refl, ap (is_declared rules) (sym c.fired_id.ensures) ∙ sym c.is_declared_in.ensures ∙ c.if-not-is_declared_in.false)

pub returns-clause-fit : goal.returns-clause-fit
returns-clause-fit c = λ _. subst (All (IsFitAuto c.args.triggers.now)) (take_all c.loop-auto.auto-index c.args.autos.now c.loop-auto-test.false) c.loop-auto.invariant
