use Rattle.std.proofs.Common.{get_or}
use Rattle.hs_replay.proofs.Prelude.{lent_is, lent_from}
use Rattle.hs_replay.proofs.coordinator.next_told.Goals as goal

pub returns : goal.returns
returns c =
    let items = c.args.nodes.now.items in
    let now = c.as_mut_slice.result.now in
    record {
      before = get_or now c.args.node c.index-as_mut_slice-node.result;
      stood = lent_from items now c.args.node c.index-as_mut_slice-node.result c.as_mut_slice.ensures.value c.requires;
      now = c.next_told.new.self;
      set = lent_is items now c.args.node c.next_told.new.self c.as_mut_slice.ensures.value;
      became = c.next_told.ensures;
    }
