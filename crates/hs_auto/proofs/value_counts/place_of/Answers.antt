use Rattle.std.proofs.Common.{ltb, rules}
use Rattle.std.proofs.lemmas.List.Sorted.{IsPartitionPoint-from_clause, IsPartitionedBy-ltb}
use Rattle.hs_auto.specs.declared.value_counts.ValueCount.{ValueCount}
use Rattle.hs_auto.proofs.CountLemmas.{place_from, never_falls}
use Rattle.hs_auto.proofs.value_counts.place_of.Goals as goal

pub returns : goal.returns
returns c =
    let ts = c.args.counts.now in
    let v = c.args.value in
    place_from ts v c.partition_point.result c.partition_point.ensures.bound
    (IsPartitionPoint-from_clause (λ (t : ValueCount). ltb t.value v) ts c.partition_point.result c.partition_point.ensures.partitioned
    (IsPartitionedBy-ltb (λ (t : ValueCount). t.value) ts v (never_falls ts c.requires.rising)) (λ a r q k. search rules))
