-- Small runs, and what their facts come to: a client with one point, and the node that evicts a trace and claims it when it comes again.
use Rattle.std.specs.Prelude.{◌≡◌, [], ◌∷◌, length, map, refl}
use Rattle.std.proofs.Common.{lit≤}
use Rattle.hs_records.specs.declared.journal.Draw.TheVariants.{Got}
use Rattle.hs_client.specs.Drawn.{DrawnPage}
use Rattle.hs_law_journal.specs.Following.{followed}
use Rattle.hs_law_journal.specs.Journals.{of_one_point}
use Rattle.hs_law_journal.specs.Workloads.{one_point}
use Rattle.hs_law_journal.specs.Doings.{Doings, events_in, chunks_in, journal_of, last_state, run_of}
use Rattle.hs_law_run.specs.Facts.{HaveDrawn, HaveRounds, pages_at}
use Rattle.hs_law_journal.specs.LoopPassExamples.{one_pass}

abbrev of_one : Doings
of_one = record { draws = (Got 0 0 ∷ []) ∷ []; nodes = record { node = 0; passes = one_pass ∷ [] } ∷ []; heard = [] ∷ [] }

its_journal : journal_of one_point of_one ≡ of_one_point
its_journal = refl

-- and following that journal comes to what was done
its_run : followed one_point of_one_point ≡ run_of one_point of_one
its_run = refl

drawn_for_each_page : HaveDrawn one_point of_one
drawn_for_each_page = refl

one_round : HaveRounds one_point of_one
one_round = lit≤ tt

none_pinned : (last_state one_point.settings (record { node = 0; passes = one_pass ∷ [] })).pinned ≡ []
none_pinned = refl

its_pages : map (λ (page : DrawnPage). page.number) (pages_at one_point of_one_point 0) ≡ 0 ∷ []
its_pages = refl

-- the chunk is taken in the one pass, and none before
taken_then : (length (chunks_in 0 (events_in (record { node = 0; passes = one_pass ∷ [] }) 0)) ≡ 0) × (length (chunks_in 0 (events_in (record { node = 0; passes = one_pass ∷ [] }) 1)) ≡ 1)
taken_then = (refl, refl)
