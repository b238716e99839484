use Rattle.hs_node_client.proofs.Joining.{is_port}
use Rattle.hs_node_client.specs.Making.{joined_ends, rules_by}
use Rattle.hs_node_client.proofs.making.make_all.Goals as goal

pub make-port-requires : goal.make-port-requires
make-port-requires c =
    let limits = c.args.limits.now in
    let rules = rules_by c.args.autos.now.items c.args.triggers.now.items c.args.nodes in
    let joined = c.in_ok-joined.joined in
    is_port limits rules c.in_ok-giver.giver joined.clients.items (joined_ends joined) c.in_ok-joined.ensures c.requires.sizes.clients.0 c.requires.sizes.clients.1
