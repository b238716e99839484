use Rattle.std.proofs.Common.{◌≡◌, ap, ◌∙◌, subst}
use Rattle.hs_report.proofs.Prelude.{filter, AreFatesOf, has_entry, is_kept, kept_of}
use Rattle.hs_report.proofs.KeptLemmas.{sorted_kept}
use Rattle.hs_report.proofs.writing.sort_out.Goals as goal

pub returns : goal.returns
returns c = λ W J valid lawful is.
    let outcome = c.args.outcome.now in
    let fates = c.in_ok-fates.fates in
    let kept : c.in_ok-kept.kept.items ≡ kept_of outcome = c.in_ok-kept.ensures ∙ ap (λ ts. filter (is_kept ts) c.as_slice.result.now) c.as_slice-claimed.ensures ∙ ap (filter (is_kept outcome.claimed.items)) c.as_slice.ensures in
    let are : AreFatesOf (kept_of outcome) fates = subst (λ es. AreFatesOf es fates) (c.as_slice-2.ensures.value ∙ kept) c.in_ok-fates.ensures in
    let found : c.in_ok-traces.traces.items ≡ filter (has_entry (kept_of outcome)) outcome.claimed.items = c.in_ok-traces.ensures (kept_of outcome) are ∙ ap (filter (has_entry (kept_of outcome))) c.as_slice-claimed.ensures in
    sorted_kept c.collected_records_are_whole.ensures W J outcome (record { fates = fates; traces = c.in_ok-traces.traces }) valid lawful is are found
