-- The schedule is doings that keep what its parts promise. So the clauses on order follow from the law on doings, and of a valid workload
-- the clause on pace.
use Rattle.std.proofs.Common.{◌≡◌, true, sym, subst, ◌∙◌}
use Rattle.hs_law_run.proofs.Prelude.{AllByRecursion, PlainJournal, played, Known}
use Rattle.hs_law_journal.specs.Doings.{NodeDoings, all_events}
use Rattle.hs_law_journal.specs.Pace.{has_pace}
use Rattle.hs_law_run.specs.Facts.{KeepPace, KeepsPace}
use Rattle.hs_law_run.specs.Playing.{AreInPace}
use Rattle.hs_law_run.specs.Unread.{IsRead}
use Rattle.hs_client.specs.SoFar.{FirstOperationsSend, FirstChunksAreSent}
use Rattle.hs_law_run.specs.Clauses.{ScheduleHasPace}
use Rattle.hs_law_run.specs.Told.{doings_of, ScheduleIsDoings}
use Rattle.hs_law_run.proofs.InPace.{takes_in_pace, asks_in_pace}
use Rattle.hs_law_run.proofs.Meets.{meets_in_rounds}
use Rattle.hs_law_run.proofs.Playable.{every, are_playable, have_passes, have_offers, have_rounds}
use Rattle.hs_law_run.proofs.LockstepQuiet.{all_read}
use Rattle.hs_law_run.proofs.Stages.{IsOver, is_over}
use Rattle.hs_law_run.proofs.Told.{journal_is}

pub schedule_is_doings : Known → ScheduleIsDoings
schedule_is_doings known W =
    let o : IsOver W = is_over W in
    record {
      count = o.count;
      journal = o.is ∙ sym (journal_is known W o.count);
      playable = are_playable known W o.count;
      passes = have_passes known W o.count;
      rounds = have_rounds known W o.count o.enough;
      offers = have_offers known W o.count;
      read = every known W o.count (λ (d : NodeDoings). AllByRecursion IsRead (all_events d)) (λ i low. all_read known W i low o.count);
    }

-- ---- the pace

pub schedule_has_pace : Known → FirstOperationsSend → FirstChunksAreSent → AreInPace → ScheduleHasPace
schedule_has_pace known first front paces W valid =
    let o : IsOver W = is_over W in
    let d = doings_of W o.count in
    let pace : KeepPace W d =
    every known W o.count (KeepsPace W d)
    (λ i low.
    record {
      gives = meets_in_rounds known W valid o.count o.enough i low;
      items = takes_in_pace known first front W valid o.count i low;
      asks = asks_in_pace known first front W valid o.count i low;
    })
    in
    subst (λ (J : PlainJournal). has_pace (played W J) ≡ true) (sym (o.is ∙ sym (journal_is known W o.count))) (paces W d (are_playable known W o.count) (have_passes known W o.count) pace)
