use Rattle.std.proofs.Common.{◌≡◌, leb, List, length, Some, option_map, slice_get, sym, ap, ◌∙◌, arith}
use Rattle.hs_check_follow.proofs.Prelude.{length-map, slice_get-map, lent_from, Listing, journal_of, Step, FollowedNode}
use Rattle.hs_check_follow.proofs.Done.{through_more, not_through, all_done}
use Rattle.hs_check_follow.proofs.run.FollowedRun.is_done.Goals as goal

pub loop-node-init : goal.loop-node-init
loop-node-init c = λ W run at n node low there. absurd (omega (arith, low))

pub bounds-as_slice-node : goal.bounds-as_slice-node
bounds-as_slice-node c =
    let (W, run, at) = c.requires in
    let low = c.loop-node-test.true in
    let many = at.nodes_are.many in
    let logs = sym (length-map c.args.journal.now.logs.items (λ (l : Listing Step). l.items)) ∙ at.logs in
    let seen = ap length c.as_slice.ensures in
    let end = c.len-node-end.ensures in
    omega (arith, low, many, logs, seen, end)

pub returns-then-tracked-log : goal.returns-then-tracked-log
returns-then-tracked-log c = λ W run at.
    let J = journal_of c.args.journal.now in
    let node = c.loop-node.node in
    let low = c.loop-node-test.true in
    let many = at.nodes_are.many in
    let logs = sym (length-map c.args.journal.now.logs.items (λ (l : Listing Step). l.items)) ∙ at.logs in
    let end = c.len-node-end.ensures in
    let log_there : slice_get J.logs node ≡ Some c.as_slice-log.result.now =
    slice_get-map (λ (l : Listing Step). l.items) c.args.journal.now.logs.items node
    ∙ ap (λ o. option_map (λ (l : Listing Step). l.items) o) (lent_from c.args.journal.now.logs.items c.as_slice.result.now node c.index-as_slice-node.result c.as_slice.ensures (omega (arith, low, many, logs, end)))
    ∙ ap (λ (l : List Step). Some l) (ap (λ (l : Listing Step). l.items) (sym c.index-as_slice-node.is) ∙ sym c.as_slice-log.ensures) in
    let t_there = lent_from c.args.self.now.nodes.items c.as_slice-in-loop-node.result.now node c.index-as_slice-node-in-loop-node.result c.as_slice-in-loop-node.ensures (omega (arith, low, end)) in
    let t_is = t_there ∙ ap (λ (t : FollowedNode). Some t) (sym c.index-as_slice-node-in-loop-node.is) in
    not_through c.runs_are_of_the_journal.ensures W J run c.args.self.now.nodes.items c.args.self.now.hearing at node c.index-as_slice-node-in-loop-node.result c.as_slice-log.result.now t_is log_there c.if-tracked-log.true

pub loop-node-preserved : goal.loop-node-preserved
loop-node-preserved c = λ W run at.
    let J = journal_of c.args.journal.now in
    let node = c.loop-node.node in
    let low = c.loop-node-test.true in
    let many = at.nodes_are.many in
    let logs = sym (length-map c.args.journal.now.logs.items (λ (l : Listing Step). l.items)) ∙ at.logs in
    let end = c.len-node-end.ensures in
    let log_there : slice_get J.logs node ≡ Some c.as_slice-log.result.now =
    slice_get-map (λ (l : Listing Step). l.items) c.args.journal.now.logs.items node
    ∙ ap (λ o. option_map (λ (l : Listing Step). l.items) o) (lent_from c.args.journal.now.logs.items c.as_slice.result.now node c.index-as_slice-node.result c.as_slice.ensures (omega (arith, low, many, logs, end)))
    ∙ ap (λ (l : List Step). Some l) (ap (λ (l : Listing Step). l.items) (sym c.index-as_slice-node.is) ∙ sym c.as_slice-log.ensures) in
    let t_there = lent_from c.args.self.now.nodes.items c.as_slice-in-loop-node.result.now node c.index-as_slice-node-in-loop-node.result c.as_slice-in-loop-node.ensures (omega (arith, low, end)) in
    let t_is = t_there ∙ ap (λ (t : FollowedNode). Some t) (sym c.index-as_slice-node-in-loop-node.is) in
    through_more c.runs_are_of_the_journal.ensures W J run c.args.self.now.nodes.items c.args.self.now.hearing at node c.index-as_slice-node-in-loop-node.result c.as_slice-log.result.now t_is log_there c.if-tracked-log.false (c.loop-node.invariant W run at)

pub returns : goal.returns
returns c = λ W run at.
    let past = c.loop-node-test.false in
    let end = c.len-node-end.ensures in
    ap (λ k. leb k c.args.self.now.hearing.next) c.len.ensures
    ∙ all_done c.runs_are_of_the_journal.ensures W (journal_of c.args.journal.now) run c.args.self.now.nodes.items c.args.self.now.hearing at
    (λ n node low there. c.loop-node.invariant W run at n node (omega (arith, low, past, end)) there)
