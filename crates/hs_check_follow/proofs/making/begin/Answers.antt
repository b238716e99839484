use Rattle.std.proofs.Common.{◌≡◌, ◌+◌, ℕ, [], subst, arith}
use Rattle.hs_check_follow.proofs.Prelude.{journal_of, node_start, workload_of, AreFirst, NodeAt, FollowedNode}
use Rattle.hs_records.specs.declared.setting.Setting.TheVariants as settings
use Rattle.hs_check_follow.proofs.Beginning.{first_none, first_more, first_all, all_begin}
use Rattle.hs_check_follow.proofs.making.begin.Goals as goal

pub loop-node-init : goal.loop-node-init
loop-node-init c =
    let Is : ℕ → FollowedNode → Type 0 = λ n t. NodeAt (workload_of c.args.workload.now) (journal_of c.args.journal.now) (node_start (workload_of c.args.workload.now) (journal_of c.args.journal.now) n) t in
    first_all Is 0 [] c.new-nodes.result.items c.new-nodes.ensures.items (first_none Is)

pub loop-node-preserved : goal.loop-node-preserved
loop-node-preserved c =
    let Is : ℕ → FollowedNode → Type 0 = λ n t. NodeAt (workload_of c.args.workload.now) (journal_of c.args.journal.now) (node_start (workload_of c.args.workload.now) (journal_of c.args.journal.now) n) t in
    first_all Is (c.loop-node.node + 1) _ c.append.new.self.items c.in_ok-append.ensures.ok (first_more Is c.loop-node.node c.loop-node.nodes.items c.in_ok-make_node.field-0 c.loop-node.invariant c.in_ok-make_node.ensures)

pub make_hearing-requires : goal.make_hearing-requires
make_hearing-requires c = (c.requires.valid.head settings.Nodes).1

pub returns : goal.returns
returns c =
    let past = c.loop-node-test.false in
    let most = c.loop-node.auto.node-end in
    let all : c.loop-node.node ≡ c.args.workload.now.settings.nodes = omega (arith, past, most) in
    let Is : ℕ → FollowedNode → Type 0 = λ n t. NodeAt (workload_of c.args.workload.now) (journal_of c.args.journal.now) (node_start (workload_of c.args.workload.now) (journal_of c.args.journal.now) n) t in
    all_begin (workload_of c.args.workload.now) (journal_of c.args.journal.now) c.requires c.loop-node.nodes.items c.in_ok-hearing.hearing (subst (λ k. AreFirst Is k c.loop-node.nodes.items) all c.loop-node.invariant) c.in_ok-hearing.ensures
