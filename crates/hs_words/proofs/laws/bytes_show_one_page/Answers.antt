use Rattle.hs_words.proofs.Showing.{shown_same, none_shown}
use Rattle.hs_words.proofs.laws.bytes_show_one_page.Goals as goal

pub returns : goal.returns
returns c = record { one = shown_same; none = none_shown }
