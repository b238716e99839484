-- The reader stands where the lines so far say that it does.
use Rattle.std.proofs.Common.{◌+◌, ℕ, sym, subst, ◌∙◌}
use Rattle.hs_workload.proofs.Prelude.{PlainWorkload, ReadError, first_fault, Refuses, Reads, Draft, fresh, IsSound, draft_of, error_at}
use Rattle.hs_text.specs.JudgingLaws.{reading_starts, text_cut_off, text_read}
use Rattle.hs_text.proofs.TidyLines.{tidy_line}
use Rattle.hs_text.specs.declared.stop.Stop.TheVariants.{Fault}
use Rattle.hs_workload.specs.declared.refusal.Reason.TheVariants.{Truncated}
use Rattle.hs_workload.proofs.Seen.{workload_reader}
use Rattle.hs_workload.proofs.Keeps.{keeps_fresh, sound}
use Rattle.hs_workload.proofs.Whole.{first_fault-judged, made_reads}
use Rattle.hs_workload.proofs.ReaderAnswers.{IsAt, at_next, stopped}
use Rattle.hs_workload.proofs.reader.read_lines.Goals as goal

pub loop-line-init : goal.loop-line-init
loop-line-init c =
    record {
      at = subst (λ (d : Draft). IsAt c.args.text.now c.args.text.now d) (sym c.new-reader.ensures) (reading_starts workload_reader c.args.text.now);
      sound = subst (λ (d : Draft). IsSound d) (sym c.new-reader.ensures) (sound fresh keeps_fresh);
      seen = λ is. sym c.is_tidy-is_seen.ensures ∙ is;
    }

pub loop-line-preserved : goal.loop-line-preserved
loop-line-preserved c =
    let next : Draft = draft_of c.read_line.new.self in
    let at : IsAt c.args.text.now c.in-Some.behind.now next =
    at_next c.args.text.now c.loop-line.rest.now c.in-Some.line.now c.in-Some.behind.now (draft_of c.loop-line.reader) next c.loop-line.invariant.at
    (record { split = c.in-Some.ensures.some; one = c.in-Some.ensures.line }) c.in_default-read_line.ensures in
    record { at = at; sound = sound next at.sees.keeps; seen = λ is. (tidy_line _ _ _ c.in-Some.ensures.some c.in-Some.ensures.line (c.loop-line.invariant.seen is)).1 }

pub read_line-requires-clause-seen : goal.read_line-requires-clause-seen
read_line-requires-clause-seen c = λ is. (tidy_line _ _ _ c.in-Some.ensures.some c.in-Some.ensures.line (c.loop-line.invariant.seen is)).0

pub returns-in-Err-clause-refused : goal.returns-in-Err-clause-refused
returns-in-Err-clause-refused c =
    let fault = first_fault c.args.text.now in
    let refuses = stopped c.args.text.now c.loop-line.rest.now c.in-Some.line.now c.in-Some.behind.now (draft_of c.loop-line.reader) c.in-Err.stop c.loop-line.invariant.at
    (record { split = c.in-Some.ensures.some; one = c.in-Some.ensures.line }) c.in-Err.ensures in
    subst (λ (e : ReadError). Refuses fault e) (sym c.error_at.ensures) (subst (λ (n : ℕ). Refuses fault (error_at (n + 1) c.in-Err.stop)) (sym c.lines-number.ensures) refuses)

pub returns-then-not-has_ended-clause-refused : goal.returns-then-not-has_ended-clause-refused
returns-then-not-has_ended-clause-refused c =
    let fault = first_fault c.args.text.now in
    let draft : Draft = draft_of c.loop-line.reader in
    let refuses = first_fault-judged c.args.text.now ∙ text_cut_off workload_reader c.args.text.now c.loop-line.rest.now (draft.lines + 1) draft c.loop-line.invariant.at
    c.in_default.ensures.none (sym c.has_ended.ensures ∙ c.if-not-has_ended.true) in
    subst (λ (e : ReadError). Refuses fault e) (sym c.error_at-then-not-has_ended.ensures) (subst (λ (n : ℕ). Refuses fault (error_at (n + 1) (Fault Truncated))) (sym c.lines.ensures) refuses)

pub returns-in-Ok-clause-found : goal.returns-in-Ok-clause-found
returns-in-Ok-clause-found c =
    let draft : Draft = draft_of c.loop-line.reader in
    let read = text_read workload_reader c.args.text.now c.loop-line.rest.now (draft.lines + 1) draft c.loop-line.invariant.at c.in_default.ensures.none
    (sym c.has_ended.ensures ∙ c.if-not-has_ended.false) in
    subst (λ (W : PlainWorkload). Reads c.args.text.now W) (sym c.in-Ok.ensures) (made_reads c.args.text.now draft read.0)

pub returns-in-Ok-clause-clean : goal.returns-in-Ok-clause-clean
returns-in-Ok-clause-clean c =
    let draft : Draft = draft_of c.loop-line.reader in
    let read = text_read workload_reader c.args.text.now c.loop-line.rest.now (draft.lines + 1) draft c.loop-line.invariant.at c.in_default.ensures.none
    (sym c.has_ended.ensures ∙ c.if-not-has_ended.false) in
    first_fault-judged c.args.text.now ∙ read.1
