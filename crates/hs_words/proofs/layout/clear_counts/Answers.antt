use Rattle.hs_words.proofs.Layouts.{nothing_left, length_counted}
use Rattle.hs_words.proofs.layout.clear_counts.Goals as goal

pub returns-clause-len : goal.returns-clause-len
returns-clause-len c = length_counted c.args.buffer.now c.write_counts.new.buffer 0 0 c.requires c.write_counts.ensures

pub returns-clause-shows : goal.returns-clause-shows
returns-clause-shows c = nothing_left c.args.buffer.now c.write_counts.new.buffer c.requires c.write_counts.ensures
