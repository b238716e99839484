use Rattle.std.proofs.Common.{◌≡◌, ◌-◌, List, length, take, drop, ltb, leb, ap, sym, ◌∙◌, subst, length-drop, rules, arith}
use Rattle.hs_report.proofs.Prelude.{IsNonDecreasingBy, take_all, Entry}
use Rattle.std.proofs.lemmas.List.Sorted.{IsPartitionPoint-from_clause, IsPartitionedBy-ltb, IsPartitionedBy-leb, IsNonDecreasingBy-drop}
use Rattle.hs_report.proofs.ByTrace.{between, Splits, number_of}
use Rattle.hs_report.proofs.fates.Fates.of.Goals as goal

pub returns : goal.returns
returns c = λ entries are.
    let trace = c.args.trace in
    let xs = c.args.self.now.by_trace.items in
    let all = c.deref-2.result.now in
    let start = c.partition_point-start.result in
    let rest = take (length all - start) (drop start all) in
    let rise : IsNonDecreasingBy number_of xs = are.by_trace.rise in
    let is : rest ≡ drop start xs = take_all (length all - start) (drop start all) (omega (arith, length-drop start all)) ∙ ap (drop start) c.deref-2.ensures.value in
    let least : Splits (λ (y : Entry). ltb y.trace.0 trace.0) c.deref.result.now start =
    IsPartitionPoint-from_clause (λ (y : Entry). ltb y.trace.0 trace.0) c.deref.result.now start c.partition_point-start.ensures.partitioned
    (IsPartitionedBy-ltb number_of c.deref.result.now trace.0 (subst (IsNonDecreasingBy number_of) (sym c.deref.ensures.value) rise)) (λ a r q k. search rules) in
    let more : Splits (λ (y : Entry). leb y.trace.0 trace.0) rest c.partition_point-count.result =
    IsPartitionPoint-from_clause (λ (y : Entry). leb y.trace.0 trace.0) rest c.partition_point-count.result c.partition_point-count.ensures.partitioned
    (IsPartitionedBy-leb number_of rest trace.0 (subst (IsNonDecreasingBy number_of) (sym is) (IsNonDecreasingBy-drop number_of start xs rise))) (λ a r q k. search rules) in
    between trace xs rest start c.partition_point-count.result (omega (arith, ap length c.deref.ensures.value, c.partition_point-start.ensures.bound)) is c.partition_point-count.ensures.bound
    (subst (λ (es : List Entry). Splits (λ (y : Entry). ltb y.trace.0 trace.0) es start) c.deref.ensures.value least) more
    ∙ are.by_trace.same trace
