use Rattle.hs_outcome.proofs.Fitting.{reported_fit}
use Rattle.hs_outcome.proofs.laws.reported_pages_are_pages.Goals as goal

pub returns : goal.returns
returns c =
    reported_fit (
    record {
      carry = c.pages_carry_the_records.ensures;
      hold = c.pages_hold_the_pieces.ensures;
      counted = c.pieces_are_counted.ensures;
      join = c.pieces_join_to_the_payload.ensures;
      fit = c.pages_fit.ensures;
      timed = c.timed_pages_are_the_pages.ensures;
    }) c.reported_pages_are_of_clients.ensures.reported
