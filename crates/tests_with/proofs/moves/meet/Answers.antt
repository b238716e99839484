use Rattle.tests_with.proofs.Pairs.{mates_of, port_met, client_met}
use Rattle.tests_with.proofs.moves.meet.Goals as goal

pub meet-requires : goal.meet-requires
meet-requires c = mates_of c.args.port.now c.args.client.now c.requires

pub returns-clause-same : goal.returns-clause-same
returns-clause-same c =
    (port_met c.args.port.now c.args.client.now c.meet.new.self c.meet.new.client c.meet.ensures.met, client_met c.args.port.now c.args.client.now c.meet.new.self c.meet.new.client c.meet.ensures.met)
