use Rattle.hs_words.proofs.Readings.{page_same}
use Rattle.hs_words.proofs.laws.pages_have_bytes_of_their_own.Goals as goal

pub returns : goal.returns
returns c = page_same
