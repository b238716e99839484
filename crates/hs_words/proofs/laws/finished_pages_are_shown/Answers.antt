use Rattle.std.proofs.Common.{◌++◌}
use Rattle.hs_words.proofs.Answering.{gives}
use Rattle.hs_words.proofs.Showing.{spelled_shows, gives_shown}
use Rattle.hs_words.proofs.laws.finished_pages_are_shown.Goals as goal

pub returns : goal.returns
returns c = record {
  shown = spelled_shows;
  same = λ sheet bytes rest read found spells reads shows. (gives bytes read reads sheet spells, gives_shown (bytes ++ rest) found shows sheet (spelled_shows sheet bytes rest spells));
}
