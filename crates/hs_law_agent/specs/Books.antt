-- The book of an agent: its steps, a fate for each chunk as they arrived, its claims as it made them, and the bytes of the
-- pages as it reported them.
use Rattle.std.specs.Prelude.{ℕ, List, map, filter_map, slice_get, Option, option_map}
use Rattle.hs_base.specs.declared.told.Fate.{Fate}
use Rattle.hs_base.specs.declared.told.Fate.TheVariants as fates
use Rattle.hs_base.specs.Ranks.{trace_rank}
use Rattle.hs_records.specs.declared.books.Standing.{Standing}
use Rattle.hs_records.specs.declared.books.Claim.{Claim}
use Rattle.hs_records.specs.Books.{PlainAgentBook}
use Rattle.hs_words.specs.Pages.{page_bytes}
use Rattle.hs_law_agent.specs.Standings.{ChunkStanding, Indexed, Pinned, Reported, Evicted, Abandoned, Taken}
use Rattle.hs_law_agent.specs.State.{AgentState, ClaimedTrace}

-- the fate of the pieces on a chunk's page; a chunk that is still pinned was not discarded
abbrev pub fate_of : ChunkStanding → Fate
fate_of Indexed = fates.Live
fate_of (Pinned group) = fates.Live
fate_of (Reported group) = fates.Reported group.trigger group.lead
fate_of (Evicted chunks traces) = fates.Evicted chunks traces
fate_of (Abandoned group) = fates.Abandoned group.trigger group.lead (trace_rank group.lead)

abbrev pub page_standing : Taken → Standing
page_standing chunk = record { client = chunk.sheet.header.client; page = chunk.sheet.header.page; fate = fate_of chunk.standing }

abbrev pub claim_note : ClaimedTrace → Claim
claim_note claim = record { trace = claim.trace; group = claim.group }

-- the bytes of the page at a place
abbrev pub bytes_at : List Taken → ℕ → Option (List ℕ)
bytes_at taken place = option_map (λ (chunk : Taken). page_bytes chunk.sheet) (slice_get taken place)

-- the book of a node's agent that came to this state
abbrev pub book_of : ℕ → AgentState → PlainAgentBook
book_of node state =
    record {
      node = record { 0 = node };
      log = state.log;
      standings = map page_standing state.taken;
      claims = map claim_note state.claims;
      sent = filter_map (bytes_at state.taken) state.reported;
    }
