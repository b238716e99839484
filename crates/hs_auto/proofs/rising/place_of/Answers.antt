use Rattle.std.proofs.Common.{◌≡◌, ltb, rules, true, false, sym, arith}
use Rattle.std.specs.List.Sorted.{IsPartitionPoint}
use Rattle.std.proofs.lemmas.List.Sorted.{IsPartitionPoint-from_clause, IsPartitionedBy-ltb}
use borrow.Author.Tests.{ltb-true, ltb-false}
use Rattle.hs_auto.proofs.RankLemmas.{count_partition}
use Rattle.hs_auto.proofs.rising.place_of.Goals as goal

pub returns : goal.returns
returns c =
    let v = c.args.value in
    let xs = c.args.sorted.now in
    let at : IsPartitionPoint (λ y. ltb y v ≡ true) (λ y. ltb y v ≡ false) xs c.partition_point.result =
    IsPartitionPoint-from_clause (λ y. ltb y v) xs c.partition_point.result c.partition_point.ensures.partitioned (IsPartitionedBy-ltb (λ x. x) xs v c.requires)
    (λ a r q k. search rules) in
    record {
      place =
          record {
            within = c.partition_point.ensures.bound;
            below = λ k low. ltb-true _ v (at.0 k 0 (omega (arith, c.partition_point.ensures.bound)) low);
            above = λ k high in'. ltb-false _ v (at.1 k 0 high in');
          };
      count = sym (count_partition (λ y. ltb y v) xs c.partition_point.result c.partition_point.ensures.bound at);
    }
