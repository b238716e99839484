use Rattle.std.proofs.Common.{replicate, ℕ, sym, ap, ◌∙◌}
use Rattle.hs_run.proofs.Prelude.{length-map, operations_of, workload_of, no_operations}
use Rattle.hs_run.proofs.TallyRounds.{none_counted}
use Rattle.hs_run.proofs.tallying.RunTally.make.Goals as goal

pub returns : goal.returns
returns c =
    let w = c.args.workload.now in
    none_counted (workload_of w) c.in_ok-clients.clients.items c.in_ok-logs.logs.items c.requires
    (c.in_ok-clients.ensures ∙ ap (λ (n : ℕ). replicate n no_operations) (c.len.ensures ∙ sym (length-map w.clients.items operations_of))) c.in_ok-logs.ensures
