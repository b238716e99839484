-- Words that ask for no watchers are the command that they are without them.
use Rattle.std.proofs.Common.{◌≡◌, true, false, Option, Some, None, refl}
use Rattle.hs_cli.specs.Commands.{asks_to_watch, unwatched}
use Rattle.hs_cli.specs.declared.command.Command.{Command}
use Rattle.hs_cli.specs.declared.command.Command.TheVariants.{Replay, Run, Watch, Convert, Make, Drill, Check, Compare}

pub same_unwatched : (asked : Option Command) → asks_to_watch asked ≡ false → unwatched asked ≡ asked
same_unwatched None none = refl
same_unwatched (Some Watch) none = cc
same_unwatched (Some (Replay form)) none = refl
same_unwatched (Some (Run form)) none = refl
same_unwatched (Some Convert) none = refl
same_unwatched (Some (Make seed size)) none = refl
same_unwatched (Some (Drill seed size)) none = refl
same_unwatched (Some Check) none = refl
same_unwatched (Some (Compare one_in room)) none = refl

pub asked_to_watch : (asked : Option Command) → asks_to_watch asked ≡ true → asked ≡ Some Watch
asked_to_watch None asks = cc
asked_to_watch (Some Watch) asks = refl
asked_to_watch (Some (Replay form)) asks = cc
asked_to_watch (Some (Run form)) asks = cc
asked_to_watch (Some Convert) asks = cc
asked_to_watch (Some (Make seed size)) asks = cc
asked_to_watch (Some (Drill seed size)) asks = cc
asked_to_watch (Some Check) asks = cc
asked_to_watch (Some (Compare one_in room)) asks = cc
