use Rattle.std.proofs.Common.{◌++◌, sym, ap, ◌∙◌}
use Rattle.hs_compare.proofs.Prelude.{append-nil, on_ok_map, comes_in}
use Rattle.hs_compare.proofs.script.note_record.Goals as goal

pub returns-in-Some-clause-comes : goal.returns-in-Some-clause-comes
returns-in-Some-clause-comes c = λ before gone.
    on_ok_map c.append.result _ _ (λ more. more ∙ ap (λ found. c.args.events.now.items ++ comes_in found) (c.in-Some.ensures.brings before gone)) c.append.ensures.ok

pub returns-in-None-clause-comes : goal.returns-in-None-clause-comes
returns-in-None-clause-comes c = λ before gone.
    let events = c.args.events.now.items in
    sym (append-nil events) ∙ ap (λ found. events ++ comes_in found) (c.in-None.ensures.brings before gone)
