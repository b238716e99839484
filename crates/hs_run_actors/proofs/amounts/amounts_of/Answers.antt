use Rattle.std.proofs.Common.{◌≡◌, ◌+◌, List, map, drop, ap, arith}
use Rattle.hs_run_actors.proofs.Prelude.{Op, operation_of, crumbs_of, triggers_of}
use Rattle.hs_run_actors.specs.Counting.{crumbs_in}
use Rattle.hs_run_actors.specs.Counting.{triggers_in}
use Rattle.hs_base.proofs.Parts.{drop_next}
use Rattle.hs_run_actors.proofs.Operations.{fewer_crumbs, fewer_triggers}
use Rattle.hs_run_actors.proofs.amounts.amounts_of.Goals as goal

pub overflow_add-amounts : goal.overflow_add-amounts
overflow_add-amounts c =
    let ops = c.args.operations.now in
    let i = c.loop-operation.operation-index in
    let item = c.operation-item.result in
    let here : crumbs_of (map operation_of (drop i ops)) ≡ crumbs_in (operation_of item) + crumbs_of (map operation_of (drop (i + 1) ops)) =
    ap (λ (l : List Op). crumbs_of (map operation_of l)) (drop_next ops i item c.loop-operation-test.true c.operation-item.is) in
    omega (arith, c.loop-operation.invariant.1, here, c.crumbs_in.ensures, fewer_crumbs c.args.size (map operation_of ops), c.requires.few)

pub overflow_add-amounts-in-loop-operation : goal.overflow_add-amounts-in-loop-operation
overflow_add-amounts-in-loop-operation c =
    let ops = c.args.operations.now in
    let i = c.loop-operation.operation-index in
    let item = c.operation-item.result in
    let here : triggers_of (map operation_of (drop i ops)) ≡ triggers_in (operation_of item) + triggers_of (map operation_of (drop (i + 1) ops)) =
    ap (λ (l : List Op). triggers_of (map operation_of l)) (drop_next ops i item c.loop-operation-test.true c.operation-item.is) in
    omega (arith, c.loop-operation.invariant.2, here, c.triggers_in.ensures, fewer_triggers c.args.size (map operation_of ops), c.requires.few)

pub returns-clause-fewer : goal.returns-clause-fewer
returns-clause-fewer c =
    let ops = map operation_of c.args.operations.now in
    let is = c.loop-operation.invariant in
    (omega (arith, is.0, is.1, fewer_crumbs c.args.size ops), omega (arith, is.0, is.2, fewer_triggers c.args.size ops))
