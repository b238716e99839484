use Rattle.std.proofs.Common.{map}
use Rattle.hs_check_follow.proofs.Prelude.{settings_of, operation_of}
use Rattle.hs_check_follow.proofs.NothingSent.{plays_so}
use Rattle.hs_check_follow.proofs.second_play.SecondPlay.make.Goals as goal

pub returns : goal.returns
returns c =
    plays_so (settings_of c.args.settings.now) c.args.client (map operation_of c.args.operations.now) c.args.draws.now _ c.requires.each c.in_ok-script.ensures.left c.in_ok-script.ensures.size c.in_ok-player.ensures
