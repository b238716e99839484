use Rattle.std.proofs.Common.{◌≡◌, ◌<◌, List, length, map, refl, sym, ap, subst, ◌∙◌}
use Rattle.hs_check_follow.proofs.Prelude.{ClientId, Fills, MayFill, Operation, operations_at, place_of, buffer_in, operation_of, workload_of, own_operations}
use Rattle.hs_base.specs.declared.settings.AutoRule.{AutoRule}
use Rattle.hs_check_follow.proofs.clients.fill_next.Goals as goal

pub operations_of-operations-requires : goal.operations_of-operations-requires
operations_of-operations-requires c =
    let W = workload_of c.args.workload.now in
    subst (λ (c : ClientId). place_of W.settings.clients c.node c.number < length W.clients) (sym c.client.ensures) c.requires.low

pub next-requires : goal.next-requires
next-requires c =
    let W = workload_of c.args.workload.now in
    let f = c.args.sending.now.chunks in
    let own : map operation_of c.operations_of-operations.result.now ≡ own_operations W f =
    c.operations_of-operations.ensures ∙ ap (λ (c : ClientId). operations_at W (place_of W.settings.clients c.node c.number)) c.client.ensures in
    subst (λ (rules : List AutoRule). MayFill rules (map operation_of c.operations_of-operations.result.now) f) (sym c.as_slice-rules.ensures)
    (subst (λ (ops : List Operation). MayFill W.settings.autos ops f) (sym own) c.requires.may)

pub returns : goal.returns
returns c =
    let W = workload_of c.args.workload.now in
    let f = c.args.sending.now.chunks in
    let own : map operation_of c.operations_of-operations.result.now ≡ own_operations W f =
    c.operations_of-operations.ensures ∙ ap (λ (c : ClientId). operations_at W (place_of W.settings.clients c.node c.number)) c.client.ensures in
    let fills =
    subst (λ (rules : List AutoRule). Fills rules (own_operations W f) f (buffer_in c.in_ok-held.held) c.next.new.self) c.as_slice-rules.ensures
    (subst (λ (ops : List Operation). Fills c.as_slice-rules.result.now ops f (buffer_in c.in_ok-held.held) c.next.new.self) own c.in_ok-held.ensures) in
    record { fills = fills; crumbs = refl; triggers = refl; beside = record { found = refl; book = refl } }
