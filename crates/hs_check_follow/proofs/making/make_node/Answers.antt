use Rattle.std.proofs.Common.{◌≡◌, ◌+◌, ℕ, [], refl, subst, arith}
use Rattle.hs_check_follow.proofs.Prelude.{journal_of, workload_of, FollowedClient, AreFirst, ClientStands}
use Rattle.hs_records.specs.declared.setting.Setting.TheVariants as settings
use Rattle.hs_check_follow.proofs.Beginning.{first_none, first_more, first_all, node_begins}
use Rattle.hs_check_follow.proofs.making.make_node.Goals as goal

pub make-requires-clause-size : goal.make-requires-clause-size
make-requires-clause-size c = c.requires.may.valid.head settings.Size

pub make-requires-clause-nodes : goal.make-requires-clause-nodes
make-requires-clause-nodes c = let most = (c.requires.may.valid.head settings.Nodes).1 in omega (arith, most)

pub loop-number-init : goal.loop-number-init
loop-number-init c =
    let Is : ℕ → FollowedClient → Type 0 = λ number s. ClientStands (workload_of c.args.workload.now) (journal_of c.args.journal.now) c.args.node [] number s in
    first_all Is 0 [] c.new-clients.result.items c.new-clients.ensures.items (first_none Is)

pub loop-number-preserved : goal.loop-number-preserved
loop-number-preserved c =
    let Is : ℕ → FollowedClient → Type 0 = λ number s. ClientStands (workload_of c.args.workload.now) (journal_of c.args.journal.now) c.args.node [] number s in
    first_all Is (c.loop-number.number + 1) _ c.append.new.self.items c.in_ok-append.ensures.ok (first_more Is c.loop-number.number c.loop-number.clients.items c.in_ok-make_client.field-0 c.loop-number.invariant c.in_ok-make_client.ensures)

pub returns : goal.returns
returns c =
    let past = c.loop-number-test.false in
    let most = c.loop-number.auto.number-end in
    let all : c.loop-number.number ≡ c.args.workload.now.settings.clients = omega (arith, past, most) in
    let Is : ℕ → FollowedClient → Type 0 = λ number s. ClientStands (workload_of c.args.workload.now) (journal_of c.args.journal.now) c.args.node [] number s in
    node_begins (workload_of c.args.workload.now) (journal_of c.args.journal.now) c.requires.may c.args.node _ (subst (λ k. AreFirst Is k c.loop-number.clients.items) all c.loop-number.invariant) c.in_ok-agent.ensures c.new.ensures.items refl c.new-2.ensures.items _ refl refl c.new-3.ensures.items c.new-4.ensures.items
