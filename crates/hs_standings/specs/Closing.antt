-- When a life of a node is closed to a trace: its latest standing says that its part is whole, or that it heard nothing of the trace,
-- and no segment of the trace is open there. Only then nothing more is to come of it.
use Rattle.std.specs.Prelude.{◌≡◌, ℕ, Bool, true, false, ◌&&◌, ◌||◌, ◌==◌, refl}
use Rattle.std.specs.List.{list_all}
use Rattle.std.specs.Option.{option_map_or}
use Rattle.hs_base.specs.declared.ids.TraceId.{TraceId}
use Rattle.hs_base.specs.Samples.{t}
use Rattle.hs_wire.specs.declared.message.Wholeness.{Wholeness}
use Rattle.hs_wire.specs.declared.message.Wholeness.TheVariants.{WholeSince, Lost, UnheardSince, Unknown, Open}
use Rattle.hs_standings.specs.declared.answers.Latest.{Latest}
use Rattle.hs_standings.specs.Standing.{PlainStandings, Lives, no_standings, lives_of, with_standing, latest_at, none_lost, whole_at, open_at, life}

-- whether a word is that of a part that is whole
abbrev pub is_whole_word : Wholeness → Bool
is_whole_word WholeSince = true
is_whole_word Lost = false
is_whole_word UnheardSince = false
is_whole_word Unknown = false
is_whole_word Open = false

-- whether a word is that of a part that is whole, or of which nothing was heard
abbrev pub is_closing_word : Wholeness → Bool
is_closing_word WholeSince = true
is_closing_word Lost = false
is_closing_word UnheardSince = true
is_closing_word Unknown = false
is_closing_word Open = false

abbrev pub is_closed : Latest → Bool
is_closed latest = is_closing_word latest.standing.wholeness && latest.standing.open_segments == 0

abbrev pub says_whole : Latest → Bool
says_whole latest = is_whole_word latest.standing.wholeness && latest.standing.open_segments == 0

-- whether a life is closed, and has notes of the trace if it ever had any: it says whole, or unheard since its first segment. One that says
-- unheard since a later segment may have forgotten the trace, though it names a node: a crumb outside of a segment may have come behind.
abbrev pub knows_all : Latest → Bool
knows_all latest = is_closed latest && (is_whole_word latest.standing.wholeness || latest.standing.horizon == 0)

-- whether each of these lives is closed
abbrev pub all_closed : Lives → Bool
all_closed lives = list_all (λ entry. is_closed entry.1) lives

-- whether each life that spoke of a trace is closed to it
abbrev pub are_closed : PlainStandings → TraceId → Bool
are_closed s trace = option_map_or all_closed (lives_of s.books trace) true

-- ---- worked examples: of trace 9

-- life 1 says whole, then that a segment is open; life 2 says whole
abbrev one : PlainStandings
one = with_standing (no_standings 4) (t 9) (life 1) (whole_at 6)

closes : (are_closed one (t 9) ≡ true) × (are_closed (with_standing one (t 9) (life 2) (whole_at 1)) (t 9) ≡ true)
closes = (refl, refl)

opens : (are_closed (with_standing one (t 9) (life 1) (open_at 7)) (t 9) ≡ false) × (are_closed (with_standing one (t 9) (life 2) (open_at 1)) (t 9) ≡ false)
opens = (refl, refl)

-- a life says whole since 4 segments, or unheard since so many; or crumbs that it left led to node 0
abbrev unheard_since : ℕ → Latest
unheard_since horizon = latest_at 1 (record { trace = t 9; group = record { node = 0; number = 7 }; wholeness = UnheardSince; open_segments = 0; horizon = horizon; pages = 0; crumbs = record { 0 = 0 }; losses = none_lost })

abbrev led_on : Latest
led_on = latest_at 1 (record { trace = t 9; group = record { node = 0; number = 7 }; wholeness = UnheardSince; open_segments = 0; horizon = 4; pages = 0; crumbs = record { 0 = 1 }; losses = none_lost })

forgets : (knows_all (whole_at 6) ≡ true) × (knows_all (unheard_since 0) ≡ true) × (knows_all (unheard_since 4) ≡ false) × (is_closed (unheard_since 4) ≡ true) × (knows_all led_on ≡ false) × (knows_all (open_at 7) ≡ false)
forgets = (refl, refl, refl, refl, refl, refl)
