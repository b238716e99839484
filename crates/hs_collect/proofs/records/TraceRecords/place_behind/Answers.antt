use Rattle.std.proofs.Common.{List, map, subst, sym, rules}
use Rattle.hs_collect.proofs.Prelude.{TraceRecord, AreInOrder, placed_of, IsPlaceBehind}
use Rattle.std.proofs.lemmas.List.Sorted.{IsPartitionPoint-from_clause}
use Rattle.hs_collect.proofs.Places.{stays, partitioned, place_is}
use Rattle.hs_collect.proofs.records.TraceRecords.place_behind.Goals as goal

pub returns-clause-place : goal.returns-clause-place
returns-clause-place c = λ order.
    let entries = c.as_slice.result.now in
    let place = c.partition_point.result in
    let sorted : AreInOrder (map placed_of entries) = subst (λ (es : List TraceRecord). AreInOrder (map placed_of es)) (sym c.as_slice.ensures) order in
    subst (λ (es : List TraceRecord). IsPlaceBehind c.args.client place (map placed_of es)) c.as_slice.ensures
    (place_is entries c.args.client place c.partition_point.ensures.bound
    (IsPartitionPoint-from_clause (stays c.args.client) entries place c.partition_point.ensures.partitioned (partitioned entries c.args.client sorted) (λ a r q k. search rules)))
