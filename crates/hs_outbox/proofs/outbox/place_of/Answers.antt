use Rattle.std.proofs.Common.{◌^◌, ltb, rules}
use Rattle.std.proofs.lemmas.List.Sorted.{IsPartitionPoint-from_clause, IsPartitionedBy-ltb}
use Rattle.hs_outbox.specs.declared.outbox.OutboxEntry.{OutboxEntry}
use Rattle.hs_outbox.proofs.Places.{place_is, never_falls}
use Rattle.hs_outbox.proofs.outbox.place_of.Goals as goal

pub returns : goal.returns
returns c =
    let es = c.args.entries.now in
    let n = c.args.number in
    place_is n es c.partition_point.result c.partition_point.ensures.bound
    (IsPartitionPoint-from_clause (λ (e : OutboxEntry). ltb e.number n) es c.partition_point.result c.partition_point.ensures.partitioned
    (IsPartitionedBy-ltb (λ (e : OutboxEntry). e.number) es n (never_falls es 0 (2 ^ 64) c.requires)) (λ a r q k. search rules))
