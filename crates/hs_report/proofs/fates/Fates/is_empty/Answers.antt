use Rattle.std.proofs.Common.{◌≡◌, List, [], not, eqb, length, ap, sym, ◌∙◌}
use Rattle.std.proofs.lemmas.List.{nil_from_length}
use Rattle.std.proofs.lemmas.Bool.{eqb-true}
use Rattle.hs_report.proofs.Prelude.{filter, Entry, is_of}
use Rattle.hs_base.proofs.Filters.{any_filtered}
use Rattle.hs_report.proofs.fates.Fates.is_empty.Goals as goal

pub returns : goal.returns
returns c = λ none entries are trace.
    let by_trace = c.args.self.now.by_trace.items in
    let nothing : by_trace ≡ [] = nil_from_length by_trace (ap length (sym c.as_slice.ensures.value) ∙ eqb-true (length c.as_slice.result.now) 0 (sym c.is_empty.ensures ∙ none)) in
    sym (any_filtered (is_of trace) entries) ∙ ap (λ own. not (eqb (length own) 0)) (sym (are.by_trace.same trace) ∙ ap (filter (is_of trace)) nothing)
