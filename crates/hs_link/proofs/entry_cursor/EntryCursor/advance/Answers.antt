use Rattle.std.proofs.Common.{◌∙◌}
use Rattle.hs_link.proofs.Lists.{next_entry, first_entry}
use Rattle.hs_link.proofs.entry_cursor.EntryCursor.advance.Goals.{then-self, else-self}
use Rattle.hs_link.proofs.entry_cursor.EntryCursor.advance.Goals as goal

pub invariant_of-self : goal.invariant_of-self
invariant_of-self c = let was = c.args.self.now.lies in record {
  lies = (
    elim c.if-self.branch [
      | then-self w ↦ w.self-is ∙ next_entry _ _ _ was.0 w.if-self.true
      | else-self w ↦ w.self-is ∙ first_entry _ _ _ was.0 was.1 w.if-self.false
    ],
    was.1,
  );
}
