use Rattle.std.proofs.Common.{arith, sym, ◌∙◌}
use Rattle.hs_replay.proofs.Prelude.{rounds_of, behind_rounds, passed, workload_of}
use Rattle.hs_replay.proofs.Others.{nodes_only}
use Rattle.hs_replay.proofs.Scheduled.{closing_done, pass_left, pass_more, closed_at}
use Rattle.hs_replay.proofs.schedule.close.Goals as goal

pub passes-init : goal.passes-init
passes-init c = record { few = λ closing. omega arith; at = c.requires }

pub is_bare-requires : goal.is_bare-requires
is_bare-requires c =
    let W = workload_of c.args.workload.now in
    let m = passed c.passes.made W (behind_rounds W) in
    (W, m, nodes_only W m c.passes.nodes.items c.passes.coordinator c.passes.invariant.at, closing_done W c.passes.made (c.rounds_end.ensures W c.passes.invariant.at.valid (rounds_of W)))

pub pass-requires : goal.pass-requires
pass-requires c = let W = workload_of c.args.workload.now in (W, passed c.passes.made W (behind_rounds W), c.passes.invariant.at)

pub overflow_add-made : goal.overflow_add-made
overflow_add-made c =
    let W = workload_of c.args.workload.now in
    let closing = c.closing_ends.ensures W c.passes.invariant.at.valid in
    let low = c.passes.invariant.few closing in
    let most = closing.most in
    let few = closing.few in
    let m = passed c.passes.made W (behind_rounds W) in
    let no =
    sym
    (c.is_bare.ensures W m (nodes_only W m c.passes.nodes.items c.passes.coordinator c.passes.invariant.at) (closing_done W c.passes.made (c.rounds_end.ensures W c.passes.invariant.at.valid (rounds_of W))))
    ∙ c.passes-test.true
    in
    let less = pass_left W c.passes.made closing low no in
    omega (arith, less, most, few)

pub passes-smaller : goal.passes-smaller
passes-smaller c =
    let W = workload_of c.args.workload.now in
    let closing = c.closing_ends.ensures W c.passes.invariant.at.valid in
    let low = c.passes.invariant.few closing in
    let most = closing.most in
    let m = passed c.passes.made W (behind_rounds W) in
    let no =
    sym
    (c.is_bare.ensures W m (nodes_only W m c.passes.nodes.items c.passes.coordinator c.passes.invariant.at) (closing_done W c.passes.made (c.rounds_end.ensures W c.passes.invariant.at.valid (rounds_of W))))
    ∙ c.passes-test.true
    in
    let less = pass_left W c.passes.made closing low no in
    omega (arith, less, most)

pub passes-preserved : goal.passes-preserved
passes-preserved c =
    let W = workload_of c.args.workload.now in
    let m = passed c.passes.made W (behind_rounds W) in
    let no =
    sym
    (c.is_bare.ensures W m (nodes_only W m c.passes.nodes.items c.passes.coordinator c.passes.invariant.at) (closing_done W c.passes.made (c.rounds_end.ensures W c.passes.invariant.at.valid (rounds_of W))))
    ∙ c.passes-test.true
    in
    record {
      few = λ closing. let less = pass_left W c.passes.made closing (c.passes.invariant.few closing) no in omega (arith, less);
      at = pass_more W c.passes.made c.pass.new.nodes.items c.pass.new.coordinator (c.in_ok-pass.ensures W m c.passes.invariant.at);
    }

pub returns : goal.returns
returns c =
    let W = workload_of c.args.workload.now in
    let m = passed c.passes.made W (behind_rounds W) in
    let closing = c.closing_ends.ensures W c.passes.invariant.at.valid in
    let h = c.rounds_end.ensures W c.passes.invariant.at.valid (rounds_of W) in
    let bare =
    sym (c.is_bare.ensures W m (nodes_only W m c.passes.nodes.items c.passes.coordinator c.passes.invariant.at) (closing_done W c.passes.made h)) ∙ c.passes-test.false
    in
    closed_at W c.passes.made closing c.passes.nodes.items c.passes.coordinator h (c.passes.invariant.few closing) bare c.passes.invariant.at
