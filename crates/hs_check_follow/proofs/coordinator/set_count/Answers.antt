use Rattle.std.proofs.Common.{get_or, refl}
use Rattle.hs_check_follow.proofs.Prelude.{lent_is, lent_from}
use Rattle.hs_check_follow.proofs.coordinator.set_count.Goals as goal

pub returns : goal.returns
returns c =
    let items = c.args.counts.now.items in
    let now = c.as_mut_slice.result.now in
    record {
      before = get_or now c.args.node 0;
      stood = lent_from items now c.args.node 0 c.as_mut_slice.ensures.value c.requires;
      now = c.args.count;
      set = lent_is items now c.args.node c.args.count c.as_mut_slice.ensures.value;
      became = refl;
    }
