use Rattle.std.proofs.Common.{◌∙◌}
use Rattle.hs_outcome.proofs.Journals.{journal_is}
use Rattle.hs_outcome.proofs.gathering.gather.Goals as goal

pub found_in-requires : goal.found_in-requires
found_in-requires c = c.requires

pub returns : goal.returns
returns c = λ W J are.
    record {
      version = are.version;
      journal = c.in_ok-journal.ensures ∙ journal_is c.following_plays_out.ensures c.runs_are_of_the_journal.ensures c.journals_have_the_shape.ensures W J c.args.books are;
      entries = c.in_ok-found.ensures.entries W J are;
      totals = c.in_ok-found.ensures.totals W J are;
      claimed = c.in_ok-found.ensures.claimed W J are;
      collected = c.in_ok-found.ensures.collected W J are;
    }
