-- The latest standing of each trace and life of a node: that of the highest number among the messages in which the life spoke of
-- the trace, whatever the order in which they came.
use Rattle.std.specs.Prelude.{◌≡◌, ℕ, Bool, ◌&&◌, ◌==◌, List, [], ◌∷◌, length, sum_by, nat_le, Option, Some, None, if◌then◌else◌, refl}
use Rattle.std.specs.Option.{option_and_then, option_map_or}
use Rattle.std.specs.Ordering.{nat_cmp, is_eq}
use Rattle.std.specs.declared.cmp.Ordering.{Ordering}
use Rattle.std.specs.Map.{lookup, set_value, remove_entry, values_of}
use Rattle.std.specs.BTreeMap.{insert_entry}
use Rattle.indexmap.specs.IndexMap.{insert_entry as put_entry}
use Rattle.hs_base.specs.declared.ids.TraceId.{TraceId}
use Rattle.hs_base.specs.Samples.{t}
use Rattle.hs_wire.specs.declared.message.Standing.{Standing}
use Rattle.hs_wire.specs.declared.message.Losses.{Losses}
use Rattle.hs_wire.specs.declared.message.Wholeness.TheVariants.{Open, WholeSince}
use Rattle.hs_standings.specs.declared.answers.Life.{Life}
use Rattle.hs_standings.specs.declared.answers.Latest.{Latest}
use Rattle.hs_standings.specs.declared.answers.StandingOutcome.{StandingOutcome as Answer}
use Rattle.hs_standings.specs.declared.answers.StandingOutcome.TheVariants.{Noted, Older, Full}

-- whether two lives are one
abbrev pub same_life : Life → Life → Bool
same_life a b = a.node == b.node && a.epoch == b.epoch

abbrev pub trace_cmp : TraceId → TraceId → Ordering
trace_cmp a b = nat_cmp a.0 b.0

-- whether two traces are one
abbrev pub same_id : TraceId → TraceId → Bool
same_id a b = is_eq (trace_cmp a b)

-- the lives that spoke of a trace, each with its latest standing
abbrev pub Lives : Type 0
Lives = List (Life × Latest)

abbrev pub Books : Type 0
Books = List (TraceId × Lives)

-- at most so many standings, by trace
pub record PlainStandings : Type 0 where
  pub most : ℕ
  pub books : Books

abbrev pub no_standings : ℕ → PlainStandings
no_standings most = record { most = most; books = [] }

abbrev pub latest_at : ℕ → Standing → Latest
latest_at number standing = record { number = number; standing = standing }

-- how many standings there are
abbrev pub count_in : Books → ℕ
count_in books = sum_by (λ lives. length lives) (values_of books)

abbrev pub count_of : PlainStandings → ℕ
count_of s = count_in s.books

-- the lives that spoke of a trace, and the latest standing of one
abbrev pub lives_of : Books → TraceId → Option Lives
lives_of books trace = lookup (same_id trace) books

abbrev pub latest_of : PlainStandings → TraceId → Life → Option Latest
latest_of s trace life = option_and_then (λ lives. lookup (same_life life) lives) (lives_of s.books trace)

-- the answer to a standing of a trace, that a life says in the message with this number
abbrev pub answer_to : PlainStandings → TraceId → Life → ℕ → Answer
answer_to s trace life number =
    option_map_or (λ latest. if nat_le number latest.number then Older else Noted) (latest_of s trace life)
    (if nat_le s.most (count_of s) then Full else Noted)

-- the lives with this standing as the latest of one
abbrev pub with_latest : Lives → Life → Latest → Lives
with_latest lives life latest = put_entry same_life lives life latest

abbrev pub with_lives : Books → TraceId → Life → Latest → Option Lives → Books
with_lives books trace life latest None = insert_entry trace_cmp books trace ((life, latest) ∷ [])
with_lives books trace life latest (Some lives) = set_value (same_id trace) books (with_latest lives life latest)

abbrev pub with_standing : PlainStandings → TraceId → Life → Latest → PlainStandings
with_standing s trace life latest = record s { books = with_lives s.books trace life latest (lives_of s.books trace) }

-- without what is noted of a trace
abbrev pub without_trace : PlainStandings → TraceId → PlainStandings
without_trace s trace = record s { books = remove_entry (same_id trace) s.books }

-- ---- worked examples: at most two standings, of trace 9

abbrev pub none_lost : Losses
none_lost = record { null_pages = 0; full_points = 0; dry_points = 0; long_points = 0; refused_crumbs = 0; evicted_crumbs = 0; forgotten_crumbs = 0; evicted_pages = 0; abandoned_pages = 0 }

abbrev pub open_at : ℕ → Latest
open_at number = latest_at number (record { trace = t 9; group = record { node = 0; number = 7 }; wholeness = Open; open_segments = 1; horizon = 4; pages = 1; crumbs = record { 0 = 0 }; losses = none_lost })

abbrev pub whole_at : ℕ → Latest
whole_at number = latest_at number (record { trace = t 9; group = record { node = 0; number = 7 }; wholeness = WholeSince; open_segments = 0; horizon = 4; pages = 1; crumbs = record { 0 = 0 }; losses = none_lost })

abbrev pub life : ℕ → Life
life epoch = record { node = 3; epoch = epoch }

abbrev one : PlainStandings
one = with_standing (no_standings 2) (t 9) (life 1) (whole_at 6)

-- an earlier message and the same one change nothing; a later one, and one of the next life, do
the_latest_counts : (answer_to one (t 9) (life 1) 5 ≡ Older) × (answer_to one (t 9) (life 1) 6 ≡ Older) × (answer_to one (t 9) (life 1) 7 ≡ Noted) × (answer_to one (t 9) (life 2) 1 ≡ Noted)
the_latest_counts = (refl, refl, refl, refl)

abbrev two : PlainStandings
two = with_standing (with_standing one (t 9) (life 1) (open_at 7)) (t 9) (life 2) (whole_at 1)

each_life_has_its_own : (latest_of two (t 9) (life 1) ≡ Some (open_at 7)) × (latest_of two (t 9) (life 2) ≡ Some (whole_at 1)) × (count_of two ≡ 2)
each_life_has_its_own = (refl, refl, refl)

-- a third life has to wait, and one that spoke already has not
full : (answer_to two (t 9) (life 3) 1 ≡ Full) × (answer_to two (t 9) (life 2) 2 ≡ Noted) × (count_of (without_trace two (t 9)) ≡ 0)
full = (refl, refl, refl)
