-- What contracts see of a client of a service: the client of the library, the link for crumbs of traces that need not be open, what it
-- notes of its segments, and what it counts.
use Rattle.std.specs.Prelude.{◌≡◌, ℕ, ◌+◌, ◌*◌, ◌/◌, ◌^◌, ◌<◌, ◌≤◌, Bool, true, false, if◌then◌else◌, nat_lt, length, count_by, IfSome}
use Rattle.hs_base.specs.declared.ids.TraceId.{TraceId}
use Rattle.hs_base.specs.declared.told.Crumb.{Crumb}
use Rattle.hs_client.specs.Core.{Core, is_null}
use Rattle.hs_link.specs.Contents.{Outgoing}
use Rattle.hs_live.specs.Keys.{Key}
use Rattle.hs_live.specs.Live.{PlainClient, GoesOn}
use Rattle.hs_live.specs.Writing.{DrawsOn}
use Rattle.hs_ring.specs.Parts.{Leased, Drawing, Refills}
use Rattle.hs_node_client.specs.declared.counts.RunningCounts.{RunningCounts}
use Rattle.hs_node_client.specs.declared.notebook.Notebook.{Notebook}
use Rattle.hs_node_client.specs.declared.paged.NextPage.{NextPage}
use Rattle.hs_node_client.specs.declared.segment.SegmentState.{SegmentState}
use Rattle.hs_node_client.specs.declared.segment.SegmentState.TheVariants.{Closed}
use Rattle.hs_node_client.specs.Counting.{opened, closed, renewed, segment_counts, with_dropped}
use Rattle.hs_node_client.specs.Notes.{PutsOn, Notes}
use Rattle.hs_node_client.specs.Paging.{place_behind, place_in}

pub record PlainNodeClient : Type 0 where
  pub live : PlainClient
  pub late : Outgoing Crumb Key
  pub notebook : Notebook
  pub tally : RunningCounts

-- ---- what stays

-- Nothing was done: what waited in the outboxes may have gone into the rings.
pub record PutsThrough (old new : PlainClient) : Type 0 where
  pub only : new ≡ record old { chunks = new.chunks; crumbs = new.crumbs; triggers = new.triggers }
  pub chunks : PutsOn old.chunks new.chunks
  pub crumbs : PutsOn old.crumbs new.crumbs
  pub triggers : PutsOn old.triggers new.triggers

-- The ends are the same ones, and go on.
pub record KeepsEnds (old new : PlainClient) : Type 0 where
  pub drawer : DrawsOn old.drawer new.drawer
  pub chunks : GoesOn old.chunks new.chunks
  pub crumbs : GoesOn old.crumbs new.crumbs
  pub triggers : GoesOn old.triggers new.triggers
  pub owner : new.core.client ≡ old.core.client
  pub size : new.core.size ≡ old.core.size
  pub calls : new.core.calls ≡ old.core.calls

-- ---- draws

-- Fewer than half of the draws of the whole allowance are left.
abbrev pub HasFewDraws : Drawing → Type 0
HasFewDraws drawer = drawer.left < drawer.most / 2

-- Where few draws were left, the allowance was made whole, or could not be, and the drawer stayed. Where enough were left it stayed.
pub record KeepsDraws (old new : Drawing) : Type 0 where
  pub few : HasFewDraws old → (is_whole : Bool) × Refills old is_whole new
  pub enough : old.most / 2 ≤ old.left → new ≡ old

-- ---- what is noted

-- what a note leaves of the counts
abbrev pub counted_note : Bool → RunningCounts → RunningCounts
counted_note true tally = tally
counted_note false tally = with_dropped tally

-- It is noted, with the place of the client's next page. A note that is dropped is counted.
abbrev pub NotesIt : TraceId → SegmentState → NextPage → Notebook → RunningCounts → Notebook → RunningCounts → Type 0
NotesIt trace state place old counted new tally = (was_sent : Bool) × Notes place trace state old was_sent new × (tally ≡ counted_note was_sent counted)

-- the null pages of a core
abbrev pub nulls_of : Core Leased → ℕ
nulls_of core = count_by is_null core.draws

-- the counts where a trace is opened: after a renewal, if fewer than half of the core's calls were left
abbrev pub tally_at_begin : PlainNodeClient → RunningCounts
tally_at_begin old =
    if nat_lt old.live.core.calls (2 * old.live.core.counted) then opened 0 0 (renewed (nulls_of old.live.core) old.tally) else opened (nulls_of old.live.core) (length old.live.core.pages) old.tally

-- The end of the open segment is noted with its counts.
abbrev pub NotesEnd : PlainNodeClient → PlainNodeClient → Type 0
NotesEnd old new = IfSome old.live.core.trace (λ trace. NotesIt trace (Closed (segment_counts (nulls_of new.live.core) (length new.live.core.pages) old.tally)) (place_in new.live.core) old.notebook (closed old.tally) new.notebook new.tally)

-- What became of a crumb of a trace that need not be open is noted, if a number is left beside that for the end of a segment. Else nothing is.
pub record NotesLate (trace : TraceId) (state : SegmentState) (old : PlainNodeClient) (counted : RunningCounts) (new : PlainNodeClient) : Type 0 where
  pub noted : old.notebook.number + 2 < 2 ^ 64 → NotesIt trace state (place_behind old.live.core) old.notebook counted new.notebook new.tally
  pub spent : 2 ^ 64 ≤ old.notebook.number + 2 → (new.notebook ≡ old.notebook) × (new.tally ≡ counted)

-- how many items wait in all outboxes
abbrev pub waiting : PlainNodeClient → ℕ
waiting client = length client.live.chunks.outbox + length client.live.crumbs.outbox + length client.live.triggers.outbox + length client.late.outbox + length client.notebook.link.outbox
