use Rattle.std.proofs.Common.{◌≡◌, ◌+◌, map, drop}
use Rattle.hs_run_actors.proofs.Prelude.{client_pieces, operation_of, crumbs_of, triggers_of}
use Rattle.hs_run_actors.proofs.amounts.amounts_of.Given as goal

abbrev pub invariant-loop-operation : goal.invariant-loop-operation
invariant-loop-operation l =
    let all = map operation_of l.operations in
    let rest = map operation_of (drop l.operation-index l.operations) in
    (l.amounts.calls ≡ client_pieces l.size all) × (l.amounts.crumbs + crumbs_of rest ≡ crumbs_of all) × (l.amounts.triggers + triggers_of rest ≡ triggers_of all)
