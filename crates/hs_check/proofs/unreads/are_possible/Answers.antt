use Rattle.std.proofs.Common.{◌≡◌, Bool, true, false, List, [], take, get_or, refl, sym, ap, subst, ◌∙◌, arith}
use Rattle.hs_check.proofs.Prelude.{not, ◌||◌, Step, is_unread, IsShown}
use Rattle.std.proofs.lemmas.List.{get_or_default}
use Rattle.hs_records.specs.declared.journal.Step.TheVariants as steps
use Rattle.hs_check.specs.Showing.{may_be_unread}
use Rattle.hs_check.proofs.Noting.{has_room}
use Rattle.hs_check.proofs.Stepping.{through, through_is, noted, goes_on, ends, at_end}
use Rattle.hs_check.proofs.unreads.are_possible.Goals as goal
use Rattle.hs_check.proofs.unreads.are_possible.Goals.{else-is_unread-via-then-is_unread+else-not-may_be_unread, else-is_unread-via-else-is_unread}

pub loop-step-init : goal.loop-step-init
loop-step-init c = record { shown = c.new-shown.ensures c.args.gives.now; is = refl }

pub returns-then-not-may_be_unread : goal.returns-then-not-may_be_unread
returns-then-not-may_be_unread c =
    let f = may_be_unread c.args.settings.now.buffers c.args.settings.now.stride c.args.draws.now c.args.gives.now in
    let log = c.args.log.now in
    let i = c.loop-step.step-index in
    let s = get_or log i (steps.Chunk 0) in
    let is = get_or_default log i (steps.Chunk 0) s c.loop-step-test.true in
    ends f log i s c.loop-step-test.true is (through f [] log) (sym c.is_unread.ensures ∙ c.if-is_unread.true)
    (sym (c.may_be_unread.ensures c.args.gives.now (take i log) c.loop-step.invariant.shown) ∙ c.if-not-may_be_unread.true) c.loop-step.invariant.is
    ∙ through_is f log

pub note-requires : goal.note-requires
note-requires c = has_room c.args.gives.now c.args.log.now c.loop-step.step-index c.loop-step.shown c.loop-step.invariant.shown c.loop-step-test.true (omega arith)

pub loop-step-preserved : goal.loop-step-preserved
loop-step-preserved c =
    let f = may_be_unread c.args.settings.now.buffers c.args.settings.now.stride c.args.draws.now c.args.gives.now in
    let log = c.args.log.now in
    let i = c.loop-step.step-index in
    let s = get_or log i (steps.Chunk 0) in
    let is = get_or_default log i (steps.Chunk 0) s c.loop-step-test.true in
    let holds : (not (is_unread s) || f (take i log)) ≡ true =
    elim c.else-is_unread.branch [
      | else-is_unread-via-then-is_unread+else-not-may_be_unread w ↦
          or_true (not (is_unread s)) (f (take i log)) (sym (w.may_be_unread.ensures c.args.gives.now (take i log) c.loop-step.invariant.shown) ∙ w.if-not-may_be_unread.false)
      | else-is_unread-via-else-is_unread w ↦ ap (λ b. not b || f (take i log)) (sym c.is_unread.ensures ∙ w.if-is_unread.false)
    ] in
    record {
      shown = subst (λ (l : List Step). IsShown c.args.gives.now l c.note.new.self) (sym (noted f log i s c.loop-step-test.true is)) (c.in_ok-note.ensures (take i log) c.loop-step.invariant.shown);
      is = goes_on f log i s c.loop-step-test.true is (through f [] log) holds c.loop-step.invariant.is;
    }
  where
    or_true : (a b : Bool) → b ≡ true → (a || b) ≡ true
    or_true true b h = refl
    or_true false b h = h

pub returns : goal.returns
returns c =
    let f = may_be_unread c.args.settings.now.buffers c.args.settings.now.stride c.args.draws.now c.args.gives.now in
    let log = c.args.log.now in
    at_end f log c.loop-step.step-index c.loop-step-test.false (through f [] log) c.loop-step.invariant.is ∙ through_is f log
