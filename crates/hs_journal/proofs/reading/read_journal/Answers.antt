use Rattle.std.proofs.Common.{◌≡◌, ◌&&◌, true, false, nat_eq, Some, Err, length, refl, sym, ap, subst, ◌∙◌}
use Rattle.std.proofs.lemmas.Bool.{and_left, and_right}
use Rattle.hs_text.proofs.TidyLines.{tidy_line}
use Rattle.hs_text.specs.JudgingLaws.{IsReading, reading_starts, reading_goes_on, line_refused, text_cut_off, text_read}
use Rattle.hs_journal.specs.declared.refusal.JournalReason.TheVariants as reasons
use Rattle.hs_journal.specs.declared.refusal.JournalError.TheVariants as errors
use Rattle.hs_journal.specs.Faults.{first_fault, refusal_at, is_ended}
use Rattle.hs_journal.specs.Grammar.{Reads}
use Rattle.hs_journal.specs.Forward.{draft_of, line_step}
use Rattle.hs_journal.proofs.Seen.{journal_reader}
use Rattle.hs_journal.proofs.WholeTexts.{first_fault-judged, made_reads, one_journal, never_refused}
use Rattle.hs_journal.proofs.reading.read_journal.Goals as goal
use Rattle.hs_journal.proofs.reading.read_journal.Goals.{then-not-is_empty-via-then-not-is_empty, then-not-is_empty-via-else-not-is_empty+then-not-is_ended}

pub loop-line-init : goal.loop-line-init
loop-line-init c =
    record {
      at = subst (IsReading journal_reader c.args.text.now c.args.text.now 1) (sym c.new-reader.ensures) (reading_starts journal_reader c.args.text.now);
      seen = λ is. sym c.is_tidy-is_seen.ensures ∙ is;
    }

pub loop-line-preserved : goal.loop-line-preserved
loop-line-preserved c =
    record {
      at = reading_goes_on journal_reader c.args.text.now c.loop-line.rest.now c.in-Some.line.now c.in-Some.after.now c.loop-line.line_number (draft_of c.loop-line.reader) _
          c.loop-line.invariant.at (record { split = c.in-Some.ensures.some; one = c.in-Some.ensures.line }) c.in-Ok.ensures;
      seen = λ is. (tidy_line _ _ _ c.in-Some.ensures.some c.in-Some.ensures.line (c.loop-line.invariant.seen is)).1;
    }

pub read_line-requires-clause-seen : goal.read_line-requires-clause-seen
read_line-requires-clause-seen c = λ is. (tidy_line _ _ _ c.in-Some.ensures.some c.in-Some.ensures.line (c.loop-line.invariant.seen is)).0

pub returns-in-Err-Fault-clause-refused : goal.returns-in-Err-Fault-clause-refused
returns-in-Err-Fault-clause-refused c =
    let step : line_step (draft_of c.loop-line.reader) c.in-Some.line.now ≡ Err c.in-Err-Fault.reason = rw c.in-Err-Fault.field-0-is at c.in-Err-Fault.ensures in
    rw (c.refused.ensures ∙ ap (λ reason. errors.Refused (refusal_at c.loop-line.line_number reason)) c.in-Err-Fault.reason-is)
    (first_fault-judged c.args.text.now
    ∙ line_refused journal_reader c.args.text.now c.loop-line.rest.now c.in-Some.line.now c.in-Some.after.now c.loop-line.line_number (draft_of c.loop-line.reader) c.in-Err-Fault.reason
    c.loop-line.invariant.at (record { split = c.in-Some.ensures.some; one = c.in-Some.ensures.line }) step)

pub returns-in-Err-Fault-clause-only : goal.returns-in-Err-Fault-clause-only
returns-in-Err-Fault-clause-only c =
    let step : line_step (draft_of c.loop-line.reader) c.in-Some.line.now ≡ Err c.in-Err-Fault.reason = rw c.in-Err-Fault.field-0-is at c.in-Err-Fault.ensures in
    λ J reads.
    absurd (never_refused c.args.text.now J (refusal_at c.loop-line.line_number c.in-Err-Fault.reason) reads
    (first_fault-judged c.args.text.now
    ∙ line_refused journal_reader c.args.text.now c.loop-line.rest.now c.in-Some.line.now c.in-Some.after.now c.loop-line.line_number (draft_of c.loop-line.reader) c.in-Err-Fault.reason
    c.loop-line.invariant.at (record { split = c.in-Some.ensures.some; one = c.in-Some.ensures.line }) step))

pub returns-then-not-is_empty : goal.returns-then-not-is_empty
returns-then-not-is_empty c =
    let text = c.args.text.now in
    let rest = c.loop-line.rest.now in
    let line = c.loop-line.line_number in
    let draft = draft_of c.loop-line.reader in
    let is_cut : (nat_eq (length rest) 0 && is_ended draft.place) ≡ false =
    elim c.then-not-is_empty.branch [
      | then-not-is_empty-via-then-not-is_empty w ↦ and_left _ (is_ended draft.place) (sym c.is_empty.ensures ∙ w.if-not-is_empty.true)
      | then-not-is_empty-via-else-not-is_empty+then-not-is_ended w ↦ and_right (nat_eq (length rest) 0) _ (sym w.is_ended.ensures ∙ w.if-not-is_ended.true)
    ] in
    let fault : first_fault text ≡ Some (refusal_at line reasons.Truncated) =
    first_fault-judged text ∙ text_cut_off journal_reader text rest line draft c.loop-line.invariant.at c.in_default.ensures.none is_cut in
    record {
      found = tt;
      clean = tt;
      refused = rw c.refused-then-not-is_empty.ensures fault;
      only = λ J reads. absurd (never_refused text J (refusal_at line reasons.Truncated) reads fault);
    }

pub returns : goal.returns
returns c =
    let text = c.args.text.now in
    let rest = c.loop-line.rest.now in
    let draft = draft_of c.loop-line.reader in
    let empty : nat_eq (length rest) 0 ≡ true = sym c.is_empty.ensures ∙ c.if-not-is_empty.false in
    let ended : is_ended draft.place ≡ true = sym c.is_ended.ensures ∙ c.if-not-is_ended.false in
    let whole = text_read journal_reader text rest c.loop-line.line_number draft c.loop-line.invariant.at c.in_default.ensures.none (rw (empty, ended) refl) in
    let reads = subst (Reads text) (sym c.into_journal.ensures) (made_reads text draft whole.0) in
    record { found = reads; clean = first_fault-judged text ∙ whole.1; refused = tt; only = λ J other. one_journal text _ J reads other }
