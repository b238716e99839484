use Rattle.std.proofs.Common.{◌≡◌, List, get_or, Some, option_map, refl, sym, ap, subst, ◌∙◌, arith}
use Rattle.hs_check_follow.proofs.Prelude.{length-map, slice_get-map, slice_get, lent_is, lent_from, Listing, Ask, journal_of, Step, workload_of, MayStepAt, StepsOn}
use Rattle.hs_check_follow.proofs.Steps.{may_step, node_done}
use Rattle.hs_check_follow.proofs.run.FollowedRun.step_node.Goals as goal

pub step-requires : goal.step-requires
step-requires c =
    let W = workload_of c.args.workload.now in
    let (run, at) = c.requires.knows in
    let J = journal_of c.args.journal.now in
    let node = c.args.node in
    let low = c.requires.node in
    let many = at.nodes_are.many in
    let logs = sym (length-map c.args.journal.now.logs.items (λ (l : Listing Step). l.items)) ∙ at.logs in
    let lists = at.hearing.lists in
    let log_there : slice_get J.logs node ≡ Some c.as_slice-log.result.now =
    slice_get-map (λ (l : Listing Step). l.items) c.args.journal.now.logs.items node
    ∙ ap (λ o. option_map (λ (l : Listing Step). l.items) o) (lent_from c.args.journal.now.logs.items c.as_slice.result.now node c.index-as_slice-node.result c.as_slice.ensures (omega (arith, low, many, logs)))
    ∙ ap (λ (l : List Step). Some l) (ap (λ (l : Listing Step). l.items) (sym c.index-as_slice-node.is) ∙ sym c.as_slice-log.ensures) in
    let list : Listing Ask = c.index-as_slice-node-2.result in
    let list_there = lent_from c.args.self.now.hearing.asks.items c.as_slice-2.result.now node c.index-as_slice-node-2.result c.as_slice-2.ensures (omega (arith, low, many, lists)) ∙ ap (λ (l : Listing Ask). Some l) (sym c.index-as_slice-node-2.is) in
    let x = c.index-as_mut_slice-node.result in
    let now = c.as_mut_slice.result.now in
    let t = get_or now node x in
    let may = may_step c.runs_fit.ensures c.runs_are_of_the_journal.ensures W J run c.args.self.now.nodes.items c.args.self.now.hearing at node t
    (lent_from c.args.self.now.nodes.items now node x c.as_mut_slice.ensures.value low) c.as_slice-log.result.now log_there list list_there in
    (J, run.heard, may.0, subst (λ (asks : List Ask). MayStepAt W J run.heard may.0 c.as_slice-log.result.now asks t) (sym c.as_slice-asks.ensures) may.2)

pub returns : goal.returns
returns c = λ run at.
    let W = workload_of c.args.workload.now in
    let J = journal_of c.args.journal.now in
    let node = c.args.node in
    let low = c.requires.node in
    let many = at.nodes_are.many in
    let logs = sym (length-map c.args.journal.now.logs.items (λ (l : Listing Step). l.items)) ∙ at.logs in
    let lists = at.hearing.lists in
    let log_there : slice_get J.logs node ≡ Some c.as_slice-log.result.now =
    slice_get-map (λ (l : Listing Step). l.items) c.args.journal.now.logs.items node
    ∙ ap (λ o. option_map (λ (l : Listing Step). l.items) o) (lent_from c.args.journal.now.logs.items c.as_slice.result.now node c.index-as_slice-node.result c.as_slice.ensures (omega (arith, low, many, logs)))
    ∙ ap (λ (l : List Step). Some l) (ap (λ (l : Listing Step). l.items) (sym c.index-as_slice-node.is) ∙ sym c.as_slice-log.ensures) in
    let list : Listing Ask = c.index-as_slice-node-2.result in
    let list_there = lent_from c.args.self.now.hearing.asks.items c.as_slice-2.result.now node c.index-as_slice-node-2.result c.as_slice-2.ensures (omega (arith, low, many, lists)) ∙ ap (λ (l : Listing Ask). Some l) (sym c.index-as_slice-node-2.is) in
    let x = c.index-as_mut_slice-node.result in
    let now = c.as_mut_slice.result.now in
    let t = get_or now node x in
    node_done c.runs_fit.ensures c.runs_are_of_the_journal.ensures W J run c.args.self.now at node t c.step.new.self
    (lent_from c.args.self.now.nodes.items now node x c.as_mut_slice.ensures.value low) c.as_slice-log.result.now log_there list list_there c.in_ok-done.done
    (subst (λ (asks : List Ask). StepsOn W c.as_slice-log.result.now asks t c.step.new.self c.in_ok-done.done) c.as_slice-asks.ensures c.in_ok-done.ensures)
    _ (lent_is c.args.self.now.nodes.items now node c.step.new.self c.as_mut_slice.ensures.value) refl
