use Rattle.std.proofs.Common.{eqb, ap, ◌∙◌}
use Rattle.hs_outcome.proofs.Prelude.{TraceId, rising_traces}
use Rattle.std.proofs.lemmas.List.Filters.{dedup_is}
use Rattle.std.proofs.lemmas.List.Sorted.{IsNonDecreasingBy-from_sort}
use Rattle.hs_outcome.proofs.Claimed.{sorted_once}
use Rattle.hs_outcome.proofs.claims.claimed_traces.Goals as goal

pub returns : goal.returns
returns c =
    c.from_vec.ensures.items ∙ dedup_is (λ (a b : TraceId). eqb a.0 b.0) c.sort_unstable.new.self.items c.dedup.new.self.items c.dedup.ensures.filtered
    ∙ sorted_once c.in_ok-traces.traces.items c.sort_unstable.new.self.items c.sort_unstable.ensures.permutation (IsNonDecreasingBy-from_sort (λ (t : TraceId). t.0) c.sort_unstable.new.self.items c.sort_unstable.ensures.sorted)
    ∙ ap rising_traces c.in_ok-traces.ensures
