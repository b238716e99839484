-- Whether gives answer their draws, event by event in the order of stamps: the last event of the buffer before a give is the draw
-- of the chunk that lay in it.
use Rattle.std.specs.Prelude.{◌≡◌, ℕ, Bool, true, false, ◌&&◌, ◌==◌, List, [], ◌∷◌, Option, Some, None, slice_index_or, if◌then◌else◌, refl}
use Rattle.std.specs.Option.{option_map_or}
use Rattle.hs_records.specs.declared.journal.Draw.{Draw}
use Rattle.hs_records.specs.declared.journal.Draw.TheVariants as draws
use Rattle.hs_law_journal.specs.Pooled.{has_buffer}
use Rattle.hs_check_follow.specs.declared.answers.Latest.{Latest}
use Rattle.hs_check_follow.specs.declared.happened.NotedEvent.{NotedEvent}
use Rattle.hs_check_follow.specs.declared.happened.NotedEvent.TheVariants as happenings
use Rattle.hs_check_follow.specs.declared.happened.StampedEvent.{StampedEvent}
use Rattle.hs_check_follow.specs.Happening.{event_of}

-- the stamp of the last of these events that is one of the buffer; the last event stands first
abbrev pub last_at : ℕ → List StampedEvent → Option ℕ
last_at buffer [] = None
last_at buffer (timed ∷ before) = if has_buffer buffer (event_of timed.event) then Some timed.stamp else last_at buffer before

-- whether an event is no give, or one that answers its draw
abbrev pub answers_last : List StampedEvent → NotedEvent → Bool
answers_last before (happenings.Given buffer drawn) = option_map_or (λ stamp. stamp == drawn) (last_at buffer before) false
answers_last before _ = true

abbrev pub answers_through : List StampedEvent → List StampedEvent → Bool
answers_through before [] = true
answers_through before (timed ∷ later) = answers_last before timed.event && answers_through (timed ∷ before) later

-- whether a draw got a buffer
abbrev pub is_got : Option Draw → Bool
is_got (Some (draws.Got buffer stamp)) = true
is_got _ = false

-- the stamp that is noted of a buffer
abbrev pub latest_at : Latest → ℕ → Option ℕ
latest_at latest buffer = slice_index_or latest.stamps.items buffer None

-- of each buffer its last event is known
abbrev pub IsLatest : List StampedEvent → Latest → Type 0
IsLatest before latest = (buffer : ℕ) → latest_at latest buffer ≡ last_at buffer before

-- this stamp is noted of a buffer, and of each other what was noted
abbrev pub IsSet : (buffer stamp : ℕ) → Latest → Latest → Type 0
IsSet buffer stamp old new = (other : ℕ) → latest_at new other ≡ (if buffer == other then Some stamp else latest_at old other)

abbrev at : ℕ → NotedEvent → StampedEvent
at stamp event = record { stamp = stamp; event = event }

-- the second draw of buffer 0 comes between its first and the give
between : (answers_through [] (at 0 (happenings.Got 0) ∷ at 1 (happenings.Got 1) ∷ at 2 (happenings.Given 0 0) ∷ []) ≡ true)
    × (answers_through [] (at 0 (happenings.Got 0) ∷ at 1 (happenings.Got 0) ∷ at 2 (happenings.Given 0 0) ∷ []) ≡ false)
between = (refl, refl)
