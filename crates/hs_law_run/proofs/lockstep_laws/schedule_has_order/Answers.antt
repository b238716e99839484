use Rattle.std.proofs.Common.{◌≡◌, true, sym, subst}
use Rattle.hs_records.specs.Journals.{PlainJournal}
use Rattle.hs_law_journal.specs.Ends.{is_followed, has_rounds}
use Rattle.hs_law_journal.specs.Passes.{has_passes, has_offers}
use Rattle.hs_law_journal.specs.Played.{played}
use Rattle.hs_law_journal.specs.Unreads.{has_unreads}
use Rattle.hs_law_run.specs.Told.{doings_of}
use Rattle.hs_law_run.proofs.lockstep_laws.schedule_has_order.Goals as goal

pub returns : goal.returns
returns c =
    let told = c.schedule_is_doings.ensures in
    record {
      passes = λ W. let t = told W in subst (λ (J : PlainJournal). has_passes (played W J) ≡ true) (sym t.journal) (c.doings_are_whole_passes.ensures W (doings_of W t.count) t.playable t.passes);
      offers = λ W. let t = told W in subst (λ (J : PlainJournal). has_offers (played W J) ≡ true) (sym t.journal) (c.doings_make_their_offers.ensures W (doings_of W t.count) t.playable t.offers);
      unreads = λ W. let t = told W in subst (λ (J : PlainJournal). has_unreads (played W J) ≡ true) (sym t.journal) (c.none_is_unread.ensures W (doings_of W t.count) t.playable t.read);
      followed = λ W. let t = told W in subst (λ (J : PlainJournal). is_followed (played W J) ≡ true) (sym t.journal) (c.doings_can_be_followed.ensures W (doings_of W t.count) t.playable);
      rounds = λ W. let t = told W in subst (λ (J : PlainJournal). has_rounds (played W J) ≡ true) (sym t.journal) (c.doings_are_enough.ensures W (doings_of W t.count) t.playable t.passes t.rounds);
    }
