use Rattle.std.proofs.Common.{◌∙◌}
use Rattle.clap.specs.Words.{found_of}
use Rattle.hs_cli.proofs.Told.{first_text}
use Rattle.hs_cli.proofs.command.word.Goals as goal

pub returns : goal.returns
returns c = c.get_str.ensures ∙ first_text (found_of c.args.matches.now) c.args.name.now
