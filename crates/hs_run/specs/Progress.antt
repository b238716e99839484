-- How far a workload and a journal of it have come after so many rounds: the operations that are done by then, the records among them, the
-- pages that they start and for which the draw found nothing, and what the agents took and gave in as many passes.
use Rattle.std.specs.Prelude.{ℕ, ◌*◌, Bool, true, false, not, min, List, length, take, count_by, sum_by}
use Rattle.std.specs.List.{flat_map, range_with_len}
use Rattle.hs_board.specs.declared.progress.Progress.{Progress}
use Rattle.hs_records.specs.declared.journal.Draw.{Draw}
use Rattle.hs_records.specs.declared.journal.Step.{Step}
use Rattle.hs_records.specs.declared.journal.Step.TheVariants as steps
use Rattle.hs_records.specs.Journals.{PlainJournal}
use Rattle.hs_records.specs.Plain.{Operation, Begin, Point, Crumb, End, Fire, Sample, PlainWorkload}
use Rattle.hs_client.specs.Drawn.{has_buffer}
use Rattle.hs_client.specs.Draws.{count_started}
use Rattle.hs_client.specs.Sending.{operations_at, draws_at}
use Rattle.hs_law_journal.specs.Following.{log_at}
use Rattle.hs_law_journal.specs.Passes.{passes_of}

abbrev pub is_point : Operation → Bool
is_point (Begin trace) = false
is_point (Point moment payload) = true
is_point (Crumb node) = false
is_point End = false
is_point (Fire trigger) = false
is_point (Sample moment auto value) = false

abbrev pub is_chunk : Step → Bool
is_chunk (steps.Chunk client) = true
is_chunk _ = false

abbrev pub is_given : Step → Bool
is_given (steps.Given stamp) = true
is_given _ = false

-- how many operations of a client are done after so many rounds, and of these how many are points
abbrev pub done_after : PlainWorkload → ℕ → List Operation → ℕ
done_after W rounds ops = min (rounds * W.settings.stride) (length ops)

abbrev pub points_after : PlainWorkload → ℕ → List Operation → ℕ
points_after W rounds ops = count_by is_point (take (done_after W rounds ops) ops)

-- the draws of the client at a place for the pages that are started by then
abbrev pub draws_after : PlainWorkload → PlainJournal → ℕ → ℕ → List Draw
draws_after W J rounds place = let ops = operations_at W place in take (count_started W.settings.size ops (done_after W rounds ops)) (draws_at J place)

abbrev pub nulls_after : PlainWorkload → PlainJournal → ℕ → ℕ → ℕ
nulls_after W J rounds place = count_by (λ draw. not (has_buffer draw)) (draws_after W J rounds place)

-- the steps of a node's first so many passes
abbrev pub steps_after : PlainJournal → ℕ → ℕ → List Step
steps_after J rounds node = flat_map (λ pass. pass) (take rounds (passes_of (log_at J node)))

abbrev pub progress_after : PlainWorkload → PlainJournal → ℕ → Progress
progress_after W J rounds =
    record {
      rounds = rounds;
      operations = sum_by (done_after W rounds) W.clients;
      records = sum_by (points_after W rounds) W.clients;
      nulls = sum_by (nulls_after W J rounds) (range_with_len 0 (length W.clients));
      taken = sum_by (λ node. count_by is_chunk (steps_after J rounds node)) (range_with_len 0 W.settings.nodes);
      given = sum_by (λ node. count_by is_given (steps_after J rounds node)) (range_with_len 0 W.settings.nodes);
    }
