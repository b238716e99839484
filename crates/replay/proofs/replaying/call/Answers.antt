use Rattle.std.proofs.Common.{List, ℕ, refl, sym, subst}
use Rattle.hs_workload.specs.Input.{ReadWhole}
use Rattle.hs_workload.specs.Refusals.{too_long_text}
use Rattle.hs_workload.specs.declared.status.Status.TheVariants.{TooLong}
use Rattle.replay.specs.Endings.{IsAnswer}
use Rattle.replay.proofs.Finishing.{due_whole, finished}
use Rattle.replay.proofs.replaying.call.Goals as goal

pub returns-in-Ok : goal.returns-in-Ok
returns-in-Ok g c =
    let left = g.S.Source.left in
    let (whole, still) = c.in-Whole.ensures.read in
    let input : ReadWhole (left c.args.source.now) (left c.read_all.new.source) c.deref.result.now =
    subst (λ (bytes : List ℕ). ReadWhole (left c.args.source.now) (left c.read_all.new.source) bytes) (sym c.deref.ensures.value) whole in
    let answer : IsAnswer c.deref.result.now c.in-Ok.answer.status c.as_slice.result.now =
    subst (λ (text : List ℕ). IsAnswer c.deref.result.now c.in-Ok.answer.status text) (sym c.as_slice.ensures) c.in-Ok.ensures in
    finished _ _ _ _ _ _ _ _ c.in-Ok.answer.status c.finish.result c.as_slice.result.now (due_whole _ _ c.deref.result.now input c.in-Ok.answer.status c.as_slice.result.now answer) still c.finish.ensures

pub returns-in-TooLong : goal.returns-in-TooLong
returns-in-TooLong g c =
    let ((input, beyond), still) = c.in-TooLong.ensures.read in
    finished _ _ _ _ _ _ _ _ TooLong c.refuse_too_long.result too_long_text (input, beyond, refl) still c.refuse_too_long.ensures
