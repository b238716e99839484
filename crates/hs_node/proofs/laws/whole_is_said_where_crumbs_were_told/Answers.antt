use Rattle.hs_claimed.specs.Claims.{told_by, told_for}
use Rattle.hs_whole.specs.History.{notes_after}
use Rattle.hs_whole.specs.Notes.{crumbs_of, wholeness_of}
use Rattle.hs_node.specs.Told.{is_told}
use Rattle.hs_node.proofs.Told.{all_named, says_whole, says_unheard}
use Rattle.hs_node.proofs.laws.whole_is_said_where_crumbs_were_told.Goals as goal

pub returns : goal.returns
returns c =
    record {
      whole = λ limits claims claim deeds in_range of places bound is.
          let notes = notes_after limits deeds in
          let says = says_whole (is_told notes claims claim) (wholeness_of notes claim.trace) is in
          let led = c.whole_is_said_of_what_was_handed_out.ensures.led limits claim.trace deeds in_range of places bound says.1 in
          (led.0, λ node on. all_named (crumbs_of notes claim.trace) (told_by claims claim.group) (told_for claims claim.trace) says.0 node (led.1 node on));
      unheard = λ notes claims claim is node on.
          all_named (crumbs_of notes claim.trace) (told_by claims claim.group) (told_for claims claim.trace) (says_unheard (is_told notes claims claim) (wholeness_of notes claim.trace) is) node on;
    }
