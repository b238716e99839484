use Rattle.std.proofs.Common.{ap, ◌∙◌, rules}
use Rattle.hs_report.proofs.Prelude.{filter, always_returns_same, Entry, is_of}
use Rattle.std.proofs.lemmas.List.Sorted.{IsNonDecreasingBy-from_sort_by_key}
use Rattle.hs_report.proofs.ByTrace.{same_of_trace}
use Rattle.hs_report.proofs.fates.sort_by_trace.Goals as goal

pub returns : goal.returns
returns c =
    record {
      rise = IsNonDecreasingBy-from_sort_by_key (λ (entry : Entry). entry.trace.0) _ c.in_ok-sort_by_key.ensures.sorted (λ a r q k. search rules);
      same = λ trace. same_of_trace trace c.in_ok-sorted.sorted.items c.sort_by_key.new.self.items
          (c.sort_by_key.ensures.stable (λ (entry : Entry). entry.trace.0) (always_returns_same _ _ _ (λ a r q k. search rules)))
          ∙ ap (filter (is_of trace)) c.in_ok-sorted.ensures.items;
    }
