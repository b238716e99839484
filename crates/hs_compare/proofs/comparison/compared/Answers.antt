use Rattle.std.proofs.Common.{List, length, ap, ◌∙◌, subst, arith}
use Rattle.hs_compare.proofs.Prelude.{length_map, TraceId, Entry, AreCounted, Coming}
use Rattle.hs_compare.proofs.Known.{claimed_counted}
use Rattle.hs_compare.proofs.comparison.compared.Goals as goal

pub rest_of-requires-clause-counted : goal.rest_of-requires-clause-counted
rest_of-requires-clause-counted c =
    let counts = c.in_ok-counts.counts.entries in
    let are = subst (λ (ts : List TraceId). AreCounted ts counts) (c.as_slice-kept.ensures.value ∙ c.in_ok-tail.ensures) c.in_ok-counts.ensures in
    claimed_counted c.args.ring.now.named c.args.all.now counts are c.args.entries.now c.args.claimed.now c.requires.beside c.requires.claimed

pub rest_of-requires-clause-few : goal.rest_of-requires-clause-few
rest_of-requires-clause-few c =
    omega (arith, ap length c.requires.beside, length_map (λ (e : Entry). e.trace) c.args.entries.now, length_map (λ (x : Coming). x.trace) c.args.all.now, c.requires.few)

pub compared_by-requires-clause-traces : goal.compared_by-requires-clause-traces
compared_by-requires-clause-traces c = c.as_slice-kept.ensures.value ∙ c.in_ok-tail.ensures

pub compared_by-requires-clause-each : goal.compared_by-requires-clause-each
compared_by-requires-clause-each c =
    omega (arith, ap length c.requires.beside, length_map (λ (e : Entry). e.trace) c.args.entries.now, length_map (λ (x : Coming). x.trace) c.args.all.now)

pub returns : goal.returns
returns c = c.compared_by.ensures c.args.claimed.now c.in_ok-rest.ensures.gap c.in_ok-rest.ensures.limited
