use Rattle.std.proofs.Common.{map, ap₂, sym, ◌∙◌}
use Rattle.hs_compare.proofs.Prelude.{IfOk-weaker, settings_of, sent_triggers, operation_of, names_by}
use Rattle.hs_compare.proofs.Named.{names_are}
use Rattle.hs_compare.proofs.Quiet.{names_nothing}
use Rattle.hs_compare.proofs.client.client_names.Goals as goal

pub returns : goal.returns
returns c =
    let ops = map operation_of c.args.operations.now in
    let autos = (settings_of c.args.settings.now).autos in
    IfOk-weaker c.names_of.result _ _
    (λ names is.
    is ∙ ap₂ names_by (c.as_slice.ensures ∙ c.in_ok-sending.ensures.found.triggers) c.in_ok-sending.ensures.triggers ∙ names_are (sent_triggers autos ops))
    c.names_of.ensures

pub returns-then-not-any_may_trigger : goal.returns-then-not-any_may_trigger
returns-then-not-any_may_trigger c =
    c.new.ensures.items ∙ names_nothing (settings_of c.args.settings.now).autos c.args.operations.now (sym c.any_may_trigger.ensures ∙ c.if-not-any_may_trigger.true)
