use Rattle.std.proofs.Common.{get_or}
use Rattle.hs_replay.proofs.Prelude.{on_ok_weaker, lent_is, lent_from}
use Rattle.hs_replay.proofs.coordinator.ask.Goals as goal

pub returns : goal.returns
returns c =
    let items = c.args.nodes.now.items in
    let now = c.as_mut_slice.result.now in
    on_ok_weaker c.ask.result
    (λ became.
    record {
      before = get_or now c.args.node c.index-as_mut_slice-node.result;
      stood = lent_from items now c.args.node c.index-as_mut_slice-node.result c.as_mut_slice.ensures.value c.requires;
      now = c.ask.new.self;
      set = lent_is items now c.args.node c.ask.new.self c.as_mut_slice.ensures.value;
      became = became;
    })
    c.ask.ensures
