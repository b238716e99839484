use Rattle.std.proofs.Common.{List, [], ℕ, inl, refl, sym, subst}
use Rattle.hs_records.specs.Views.{workload_of}
use Rattle.hs_cli.specs.Endings.{Due, RefusesWorkload}
use Rattle.hs_workload.specs.Refusals.{too_long_text}
use Rattle.hs_cli.specs.declared.command.Command.TheVariants.{Watch}
use Rattle.hs_workload.specs.declared.status.Status.TheVariants.{Done, Refused, TooLong}
use Rattle.hs_cli.proofs.EndingLemmas.{finished}
use Rattle.hs_cli.proofs.watching.watch.Goals as goal

pub returns-in-Ok : goal.returns-in-Ok
returns-in-Ok g c =
    let W = workload_of c.in-Found.workload in
    let (about, valid, short, still) = c.in-Found.ensures.subject in
    let due : Due Watch W [] c.as_slice.result.now = subst (λ (text : List ℕ). Due Watch W [] text) (sym c.as_slice.ensures) c.in-Ok.ensures in
    finished Watch _ _ _ _ _ _ _ _ Done c.finish.result c.as_slice.result.now (W, _, about, due) still c.finish.ensures

pub returns-in-Refused : goal.returns-in-Refused
returns-in-Refused g c =
    let left = g.S.Source.left in
    let (refused, still) = c.in-Refused.ensures.subject in
    let told : RefusesWorkload Watch (left c.args.source.now) (left c.subject_of.new.source) c.deref.result.now =
    subst (λ (text : List ℕ). RefusesWorkload Watch (left c.args.source.now) (left c.subject_of.new.source) text) (sym c.deref.ensures.value) refused in
    finished Watch _ _ _ _ _ _ _ _ Refused c.finish-in-Refused.result c.deref.result.now (inl told) still c.finish-in-Refused.ensures

pub returns-in-TooLong : goal.returns-in-TooLong
returns-in-TooLong g c =
    let (reader, (input, beyond), still) = c.in-TooLong.ensures.subject in
    finished Watch _ _ _ _ _ _ _ _ TooLong c.refuse_too_long.result too_long_text (reader, (input, beyond, refl)) still c.refuse_too_long.ensures
