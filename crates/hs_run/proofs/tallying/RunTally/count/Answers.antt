use Rattle.std.proofs.Common.{sym, subst}
use Rattle.hs_run.proofs.Prelude.{PlainRunTally, workload_of, MayCount}
use Rattle.hs_run.specs.TallyLayout.{tally_of}
use Rattle.hs_run.proofs.TallyRounds.{are_counts, fit, may_clients, may_logs}
use Rattle.hs_run.proofs.tallying.RunTally.count.Goals as goal

pub count_clients-requires : goal.count_clients-requires
count_clients-requires c =
    let W = workload_of c.args.workload.now in
    let nodes = c.args.nodes.now.items in
    let may : MayCount W nodes (tally_of c.self.inside) = subst (λ (counts : PlainRunTally). MayCount W nodes counts) (sym c.self.view_is) c.requires in
    may_clients W may.rounds nodes may.coordinator may.made c.self.inside.clients.items c.self.inside.logs.items may.counted

pub count_logs-requires : goal.count_logs-requires
count_logs-requires c =
    let W = workload_of c.args.workload.now in
    let nodes = c.args.nodes.now.items in
    let may : MayCount W nodes (tally_of c.self.inside) = subst (λ (counts : PlainRunTally). MayCount W nodes counts) (sym c.self.view_is) c.requires in
    may_logs W may.rounds nodes may.coordinator may.made c.self.inside.clients.items c.self.inside.logs.items may.counted c.callers_have_sent.ensures c.events_add_this.ensures c.lists_have_their_chunks.ensures

pub returns-clause-counts : goal.returns-clause-counts
returns-clause-counts c =
    let W = workload_of c.args.workload.now in
    let nodes = c.args.nodes.now.items in
    let may : MayCount W nodes (tally_of c.self.inside) = subst (λ (counts : PlainRunTally). MayCount W nodes counts) (sym c.self.view_is) c.requires in
    are_counts W may.rounds nodes may.coordinator may.made c.self.inside.clients.items c.self.inside.logs.items may.counted c.count_clients.new.counts.items c.count_logs.new.counts.items c.count_clients.ensures c.count_logs.ensures
    c.events_add_this.ensures

pub returns-clause-fits : goal.returns-clause-fits
returns-clause-fits c =
    let W = workload_of c.args.workload.now in
    let nodes = c.args.nodes.now.items in
    let may : MayCount W nodes (tally_of c.self.inside) = subst (λ (counts : PlainRunTally). MayCount W nodes counts) (sym c.self.view_is) c.requires in
    fit W may.rounds nodes may.coordinator may.made c.self.inside.clients.items c.self.inside.logs.items may.counted c.count_clients.new.counts.items c.count_logs.new.counts.items c.count_clients.ensures c.count_logs.ensures
    c.callers_have_sent.ensures c.events_add_this.ensures c.lists_have_their_chunks.ensures
