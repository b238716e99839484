use Rattle.std.proofs.Common.{ℕ, ◌≡◌, ◌*◌, ◌^◌, ◌≤◌, ◌<◌, sym, subst, List, length, map, get_or, ap, ◌∙◌, arith}
use Rattle.hs_check_follow.proofs.Prelude.{length-map, operation_of, operations_of, workload_of}
use Rattle.std.proofs.lemmas.Grind.{common_steps}
use Rattle.hs_records.specs.declared.setting.Setting.TheVariants as settings
use Rattle.hs_check_follow.proofs.Valid.{client_is_short, get_of_map}
use Rattle.hs_check_follow.proofs.Rounded.{rounds_fit}
use Rattle.hs_check_follow.proofs.rounds.count_rounds.Goals as goal

pub overflow_sub-stride : goal.overflow_sub-stride
overflow_sub-stride c = let stride = c.requires.head settings.Stride in omega (arith, stride.0)

pub overflow_add-len : goal.overflow_add-len
overflow_add-len c =
    let w = workload_of c.args.workload.now in
    let at = get_of_map operations_of c.args.workload.now.clients.items c.loop-operations.operations-index c.operations-item.result (omega (arith, ap length c.as_slice-operations-items.ensures)) (c.operations-item.is ∙ ap (λ (l : List _). get_or l c.loop-operations.operations-index c.operations-item.result) c.as_slice-operations-items.ensures) in
    let short = client_is_short w c.requires c.loop-operations.operations-index (operations_of c.operations-item.result) at in
    let many = length-map c.operations-item.result.items operation_of in
    let stride = c.requires.head settings.Stride in
    omega (arith, short, many, c.len.ensures, stride.1)

pub nonzero_div-len : goal.nonzero_div-len
nonzero_div-len c = let stride = c.requires.head settings.Stride in omega (arith, stride.0)

pub returns-clause-rounds : goal.returns-clause-rounds
returns-clause-rounds c = grind (arith, common_steps)

pub returns-clause-fits : goal.returns-clause-fits
returns-clause-fits c =
    let W = workload_of c.args.workload.now in
    subst (λ (n : ℕ). n * W.settings.stride < 2 ^ 64) (sym (returns-clause-rounds c)) (rounds_fit W c.requires)
