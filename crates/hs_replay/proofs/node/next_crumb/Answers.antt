use Rattle.std.proofs.Common.{get_or}
use Rattle.hs_replay.proofs.Prelude.{lent_is, lent_from}
use Rattle.hs_replay.proofs.node.next_crumb.Goals as goal

pub returns : goal.returns
returns c =
    let items = c.args.players.now.items in
    let now = c.as_mut_slice.result.now in
    record {
      before = get_or now c.args.client c.index-as_mut_slice-client.result;
      stood = lent_from items now c.args.client c.index-as_mut_slice-client.result c.as_mut_slice.ensures.value c.requires;
      now = c.next_crumb.new.self;
      set = lent_is items now c.args.client c.next_crumb.new.self c.as_mut_slice.ensures.value;
      became = c.next_crumb.ensures;
    }
