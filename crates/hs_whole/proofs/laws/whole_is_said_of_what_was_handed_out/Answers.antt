use Rattle.hs_whole.proofs.Law.{said_whole, said_led}
use Rattle.hs_whole.proofs.laws.whole_is_said_of_what_was_handed_out.Goals as goal

pub returns : goal.returns
returns c = record { whole = said_whole; led = said_led }
