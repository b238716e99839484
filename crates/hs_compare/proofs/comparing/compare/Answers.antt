use Rattle.std.proofs.Common.{◌≡◌, map, ap, ap₂, ◌∙◌}
use Rattle.hs_compare.proofs.Prelude.{IfOk-weaker, compared_by, SumsToTail, workload_of, Comparison, comparison_by, coming_of, plain_comparison}
use Rattle.hs_law_run.specs.Lockstep.{lockstep}
use Rattle.hs_compare.proofs.Claiming.{traces_in}
use Rattle.hs_compare.proofs.Few.{records_fit, bytes_fit, ring_fits, named_once}
use Rattle.hs_compare.proofs.Outcomed.{claims_are_named, compared_is, outcome_beside, sums_to_tail}
use Rattle.hs_compare.proofs.comparing.compare.Goals as goal

pub compared-requires-clause-beside : goal.compared-requires-clause-beside
compared-requires-clause-beside c =
    let W = workload_of c.args.workload.now in
    ap traces_in c.as_slice-2.ensures
    ∙ outcome_beside c.kept_is_parted.ensures.beside W (lockstep W) c.args.outcome.now c.requires.replayed c.requires.valid (c.schedule_is_lawful.ensures W c.requires.valid) c.as_slice.result.now
    (ap (map coming_of) c.as_slice.ensures ∙ c.in_ok-all.ensures)

pub compared-requires-clause-few : goal.compared-requires-clause-few
compared-requires-clause-few c = records_fit (workload_of c.args.workload.now) c.requires.valid c.as_slice.result.now (ap (map coming_of) c.as_slice.ensures ∙ c.in_ok-all.ensures)

pub compared-requires-clause-kept : goal.compared-requires-clause-kept
compared-requires-clause-kept c = ring_fits (workload_of c.args.workload.now) c.requires.valid c.ring_keeps_each_once.ensures c.args.room c.in_ok-ring.ring c.in_ok-ring.ensures

pub compared-requires-clause-bytes : goal.compared-requires-clause-bytes
compared-requires-clause-bytes c = bytes_fit (workload_of c.args.workload.now) c.requires.valid c.as_slice.result.now (ap (map coming_of) c.as_slice.ensures ∙ c.in_ok-all.ensures)

pub compared-requires-clause-once : goal.compared-requires-clause-once
compared-requires-clause-once c = named_once (workload_of c.args.workload.now) c.args.room c.in_ok-ring.ring c.in_ok-ring.ensures

pub compared-requires-clause-claimed : goal.compared-requires-clause-claimed
compared-requires-clause-claimed c =
    let W = workload_of c.args.workload.now in
    claims_are_named c.claimed_traces_are_named.ensures W (lockstep W) c.args.outcome.now c.args.room c.in_ok-ring.ring c.as_slice-3.result.now c.requires.replayed c.requires.valid c.in_ok-ring.ensures
    c.as_slice-3.ensures

pub returns-clause-numbers : goal.returns-clause-numbers
returns-clause-numbers c =
    let W = workload_of c.args.workload.now in
    let all = c.as_slice.result.now in
    let ring = c.in_ok-ring.ring in
    IfOk-weaker c.compared.result (λ (found : Comparison). found ≡ comparison_by c.args.one_in all ring.named ring.traces c.as_slice-2.result.now c.as_slice-3.result.now)
    (λ (found : Comparison). plain_comparison found ≡ compared_by W (lockstep W) c.args.one_in c.args.room)
    (λ found is.
    ap plain_comparison is ∙ ap₂ (λ es ts. plain_comparison (comparison_by c.args.one_in all ring.named ring.traces es ts)) c.as_slice-2.ensures c.as_slice-3.ensures
    ∙ compared_is W (lockstep W) c.args.outcome.now c.args.one_in c.args.room all ring c.requires.replayed (ap (map coming_of) c.as_slice.ensures ∙ c.in_ok-all.ensures) c.in_ok-ring.ensures)
    c.compared.ensures

pub returns-clause-sum : goal.returns-clause-sum
returns-clause-sum c =
    let W = workload_of c.args.workload.now in
    IfOk-weaker c.compared.result (λ (found : Comparison). plain_comparison found ≡ compared_by W (lockstep W) c.args.one_in c.args.room) (λ (found : Comparison). SumsToTail (plain_comparison found))
    (λ found. sums_to_tail c.tail_is_the_sum.ensures W (lockstep W) c.args.one_in c.args.room (plain_comparison found) c.requires.valid (c.schedule_is_lawful.ensures W c.requires.valid))
    (returns-clause-numbers c)
