use Rattle.std.proofs.Common.{refl}
use Rattle.hs_run.proofs.shutting.close.Goals as goal

pub returns : goal.returns
returns c =
    let only = c.in_ok-node.ensures.only in
    record {
      books = refl;
      drawers = refl;
      stands = c.in_ok-node.ensures.shut;
      giver = only.1;
      asks = only.2;
      said = only.3;
      agent = only.0;
    }
