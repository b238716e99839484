-- What is news of a trace: whatever differs from the standing that was said last, but for the horizon, and but that the trace was forgotten.
-- The horizon moves with the segments of other traces, so a node would have to say it of each claimed trace again and again. A trace of which
-- something was said, and of which nothing is known any more, was forgotten: what was said of it stays true.
use Rattle.std.specs.Prelude.{◌≡◌, ℕ, Bool, true, false, not, ◌&&◌, ◌==◌, Option, Some, None, refl}
use Rattle.hs_base.specs.Samples.{t}
use Rattle.hs_wire.specs.declared.message.Losses.{Losses}
use Rattle.hs_wire.specs.declared.message.Standing.{Standing}
use Rattle.hs_wire.specs.declared.message.Wholeness.{Wholeness}
use Rattle.hs_wire.specs.declared.message.Wholeness.TheVariants.{WholeSince, UnheardSince, Unknown}
use Rattle.hs_wire.specs.Messages.{wholeness_byte}

-- each of the five has a byte of its own
abbrev pub same_wholeness : Wholeness → Wholeness → Bool
same_wholeness a b = wholeness_byte a == wholeness_byte b

abbrev pub same_losses : Losses → Losses → Bool
same_losses a b =
    (a.null_pages == b.null_pages) && ((a.full_points == b.full_points) && ((a.dry_points == b.dry_points) && ((a.long_points == b.long_points) && ((a.refused_crumbs == b.refused_crumbs)
    && ((a.evicted_crumbs == b.evicted_crumbs) && ((a.forgotten_crumbs == b.forgotten_crumbs) && ((a.evicted_pages == b.evicted_pages) && (a.abandoned_pages == b.abandoned_pages))))))))

-- whether two standings of a trace and a group say the same, their horizons aside
abbrev pub same_word : Standing → Standing → Bool
same_word a b = same_wholeness a.wholeness b.wholeness && ((a.open_segments == b.open_segments) && ((a.pages == b.pages) && ((a.crumbs.0 == b.crumbs.0) && same_losses a.losses b.losses)))

-- whether a standing says unheard, and names no node to which a crumb led: nothing is known of the trace
abbrev pub knows_nothing : Standing → Bool
knows_nothing standing = same_wholeness standing.wholeness UnheardSince && standing.crumbs.0 == 0

-- whether a standing is news where this was said last
abbrev pub is_news : Option Standing → Standing → Bool
is_news None standing = true
is_news (Some last) standing = not (same_word last standing) && not (knows_nothing standing)

-- ---- worked examples: of trace 9, which group 7 of node 0 claims

abbrev no_loss : Losses
no_loss = record { null_pages = 0; full_points = 0; dry_points = 0; long_points = 0; refused_crumbs = 0; evicted_crumbs = 0; forgotten_crumbs = 0; evicted_pages = 0; abandoned_pages = 0 }

-- it was handed out as far as so many pages, and is so whole since this horizon
abbrev pub word : Wholeness → (horizon pages : ℕ) → Standing
word wholeness horizon pages = record { trace = t 9; group = record { node = 0; number = 7 }; wholeness = wholeness; open_segments = 0; horizon = horizon; pages = pages; crumbs = record { 0 = 0 }; losses = no_loss }

first_word : is_news None (word UnheardSince 0 0) ≡ true
first_word = refl

-- a trace that was forgotten is nothing new, whatever was said of it; a crumb of it that comes then is
forgotten : (is_news (Some (word WholeSince 4 2)) (word UnheardSince 9 0) ≡ false) × (is_news (Some (word Unknown 4 2)) (word UnheardSince 9 0) ≡ false)
    × (is_news (Some (word WholeSince 4 2)) (record (word UnheardSince 9 0) { crumbs = record { 0 = 2 } }) ≡ true) × (is_news (Some (word UnheardSince 4 0)) (word WholeSince 4 2) ≡ true)
forgotten = (refl, refl, refl, refl)

-- a horizon that moved is nothing new; a page more is, and so is a crumb to another node, and a trace that is whole now
nothing_new : (is_news (Some (word WholeSince 4 2)) (word WholeSince 4 2) ≡ false) × (is_news (Some (word WholeSince 4 2)) (word WholeSince 9 2) ≡ false)
nothing_new = (refl, refl)

something_new : (is_news (Some (word Unknown 4 2)) (word Unknown 4 3) ≡ true) × (is_news (Some (word Unknown 4 2)) (record (word Unknown 4 2) { crumbs = record { 0 = 2 } }) ≡ true) × (is_news (Some (word Unknown 4 2)) (word WholeSince 4 2) ≡ true) × (is_news (Some (word Unknown 4 2)) (record (word Unknown 4 2) { losses = record no_loss { evicted_pages = 1 } }) ≡ true)
something_new = (refl, refl, refl, refl)
