use Rattle.std.proofs.Common.{List, map, sym, ◌∙◌, subst, arith}
use Rattle.hs_compare.proofs.Prelude.{length-map, IfOk-weaker, settings_of, sent_triggers, operation_of, operations_few, IsScriptOf, names_of, AreInTurn, NumberedEvent}
use Rattle.hs_compare.proofs.Named.{names_turn}
use Rattle.hs_compare.proofs.client.client_script.Goals as goal

pub script_of-requires-clause-few : goal.script_of-requires-clause-few
script_of-requires-clause-few c =
    omega (arith, c.requires.playable.few, operations_few (settings_of c.args.settings.now).size (map operation_of c.args.operations.now), length-map c.args.operations.now operation_of)

pub script_of-requires-clause-names : goal.script_of-requires-clause-names
script_of-requires-clause-names c =
    let ops = map operation_of c.args.operations.now in
    let autos = (settings_of c.args.settings.now).autos in
    subst (AreInTurn 0) (sym (c.as_slice.ensures ∙ c.in_ok-names.ensures)) (names_turn 0 (sent_triggers autos ops) (c.items_are_sent_in_order.ensures.triggers autos ops))

pub returns : goal.returns
returns c =
    let ops = map operation_of c.args.operations.now in
    let autos = (settings_of c.args.settings.now).autos in
    IfOk-weaker c.script_of.result (IsScriptOf c.args.client c.as_slice.result.now ops) (IsScriptOf c.args.client (names_of autos ops) ops)
    (λ script is. subst (λ (names : List NumberedEvent). IsScriptOf c.args.client names ops script) (c.as_slice.ensures ∙ c.in_ok-names.ensures) is)
    c.script_of.ensures
