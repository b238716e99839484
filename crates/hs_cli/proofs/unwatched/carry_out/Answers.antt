use Rattle.std.proofs.Common.{List, ◌++◌, ℕ, inl, refl, sym, subst, ap₂}
use Rattle.hs_records.specs.Views.{workload_of}
use Rattle.hs_cli.specs.Answers.{IsAnswer}
use Rattle.hs_cli.specs.Endings.{IsAbout, RefusesWorkload}
use Rattle.hs_workload.specs.Refusals.{too_long_text}
use Rattle.hs_workload.specs.declared.status.Status.TheVariants.{Refused, TooLong}
use Rattle.hs_cli.proofs.EndingLemmas.{answered, finished}
use Rattle.hs_cli.proofs.unwatched.carry_out.Goals as goal

pub returns-in-Ok-clause-ends : goal.returns-in-Ok-clause-ends
returns-in-Ok-clause-ends g c =
    let left = g.S.Source.left in
    let W = workload_of c.in-Found.workload in
    let command = c.args.command in
    let journal = c.deref.result.now in
    let (is_about, valid, short, still) = c.in-Found.ensures.subject in
    let about : IsAbout command (left c.args.source.now) (left c.subject_of.new.source) W journal =
    subst (λ (part : List ℕ). IsAbout command (left c.args.source.now) (left c.subject_of.new.source) W part) (sym c.deref.ensures.value) is_about in
    let status = c.in-Ok.answer.status in
    let text = c.as_slice-front.result.now ++ c.as_slice.result.now in
    let answer : IsAnswer command W journal status text =
    subst (λ (all : List ℕ). IsAnswer command W journal status all) (sym (ap₂ (λ front behind. front ++ behind) c.as_slice-front.ensures c.as_slice.ensures)) c.in-Ok.ensures in
    finished command _ _ _ _ _ _ _ _ status c.finish_both.result text (answered command _ _ status text W journal about answer) still c.finish_both.ensures

pub returns-in-Refused-clause-ends : goal.returns-in-Refused-clause-ends
returns-in-Refused-clause-ends g c =
    let left = g.S.Source.left in
    let (refused, still) = c.in-Refused.ensures.subject in
    let told : RefusesWorkload c.args.command (left c.args.source.now) (left c.subject_of.new.source) c.deref-in-Refused.result.now =
    subst (λ (text : List ℕ). RefusesWorkload c.args.command (left c.args.source.now) (left c.subject_of.new.source) text) (sym c.deref-in-Refused.ensures.value) refused in
    finished c.args.command _ _ _ _ _ _ _ _ Refused c.finish.result c.deref-in-Refused.result.now (inl told) still c.finish.ensures

pub returns-in-TooLong-clause-ends : goal.returns-in-TooLong-clause-ends
returns-in-TooLong-clause-ends g c =
    let (reader, (input, beyond), still) = c.in-TooLong.ensures.subject in
    finished c.args.command _ _ _ _ _ _ _ _ TooLong c.refuse_too_long.result too_long_text (reader, (input, beyond, refl)) still c.refuse_too_long.ensures
