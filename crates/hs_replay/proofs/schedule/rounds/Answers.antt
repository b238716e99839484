use Rattle.std.proofs.Common.{arith, subst}
use Rattle.hs_replay.proofs.Prelude.{Machine, machine_start, clients_go, rounds, workload_of, AllAt, TellsLeft}
use Rattle.hs_replay.proofs.Others.{nodes_only}
use Rattle.hs_replay.proofs.Scheduled.{round_gone, round_left, round_more, rounds_through}
use Rattle.hs_replay.proofs.schedule.rounds.Goals as goal

pub rounds-init : goal.rounds-init
rounds-init c = record { few = omega arith; at = c.requires }

pub has_left-requires : goal.has_left-requires
has_left-requires c =
    let W = workload_of c.args.workload.now in
    let m = rounds c.rounds.made W (machine_start W) in
    (m, nodes_only W m c.rounds.nodes.items c.rounds.coordinator c.rounds.invariant.at)

pub play_all-requires : goal.play_all-requires
play_all-requires c =
    let W = workload_of c.args.workload.now in
    let m = rounds c.rounds.made W (machine_start W) in
    (m, nodes_only W m c.rounds.nodes.items c.rounds.coordinator c.rounds.invariant.at)

pub pass-requires : goal.pass-requires
pass-requires c =
    let W = workload_of c.args.workload.now in
    let m = rounds c.rounds.made W (machine_start W) in (
      W,
      clients_go W m,
      round_gone c.machines_are_whole.ensures c.clients_go_so.ensures W m c.rounds.nodes.items c.play_all.new.nodes.items c.rounds.coordinator c.rounds.invariant.at
          (c.in_ok-play_all.ensures m (nodes_only W m c.rounds.nodes.items c.rounds.coordinator c.rounds.invariant.at)),
    )

pub overflow_add-made : goal.overflow_add-made
overflow_add-made c =
    let W = workload_of c.args.workload.now in
    let m = rounds c.rounds.made W (machine_start W) in
    let h = c.rounds_end.ensures W c.rounds.invariant.at.valid c.rounds.made in
    let left = subst (TellsLeft W m) c.rounds-test.true (c.has_left.ensures m (nodes_only W m c.rounds.nodes.items c.rounds.coordinator c.rounds.invariant.at)) in
    let less = round_left W c.rounds.made h left in
    let few = h.few in
    omega (arith, less, few)

pub rounds-smaller : goal.rounds-smaller
rounds-smaller c =
    let W = workload_of c.args.workload.now in
    let m = rounds c.rounds.made W (machine_start W) in
    let h = c.rounds_end.ensures W c.rounds.invariant.at.valid c.rounds.made in
    let left = subst (TellsLeft W m) c.rounds-test.true (c.has_left.ensures m (nodes_only W m c.rounds.nodes.items c.rounds.coordinator c.rounds.invariant.at)) in
    let less = round_left W c.rounds.made h left in
    omega (arith, less)

pub rounds-preserved : goal.rounds-preserved
rounds-preserved c =
    let W = workload_of c.args.workload.now in
    let m = rounds c.rounds.made W (machine_start W) in
    let h = c.rounds_end.ensures W c.rounds.invariant.at.valid c.rounds.made in
    let only = nodes_only W m c.rounds.nodes.items c.rounds.coordinator c.rounds.invariant.at in
    let left = subst (TellsLeft W m) c.rounds-test.true (c.has_left.ensures m only) in
    let less = round_left W c.rounds.made h left in
    let gone = round_gone c.machines_are_whole.ensures c.clients_go_so.ensures W m c.rounds.nodes.items c.play_all.new.nodes.items c.rounds.coordinator c.rounds.invariant.at (c.in_ok-play_all.ensures m only) in
    record {
      few = omega (arith, less);
      at = round_more W c.rounds.made c.pass.new.nodes.items c.pass.new.coordinator h (c.in_ok-pass.ensures W (clients_go W m) gone);
    }

pub returns : goal.returns
returns c =
    let W = workload_of c.args.workload.now in
    let m = rounds c.rounds.made W (machine_start W) in
    let h = c.rounds_end.ensures W c.rounds.invariant.at.valid c.rounds.made in
    let all = subst (TellsLeft W m) c.rounds-test.false (c.has_left.ensures m (nodes_only W m c.rounds.nodes.items c.rounds.coordinator c.rounds.invariant.at)) in
    subst (λ (m : Machine). AllAt W m c.rounds.nodes.items c.rounds.coordinator) (rounds_through W c.rounds.made h c.rounds.invariant.few all) c.rounds.invariant.at
