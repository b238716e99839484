-- Where a run of the model comes to by what an agent does with its chunks, without what it notes in its log.
use Rattle.std.specs.Prelude.{ℕ, Bool, List, [], ◌∷◌, ◌++◌, map, filter_map, flat_map, slice_get, if◌then◌else◌}
use Rattle.std.specs.Option.{option_map_or}
use Rattle.hs_base.specs.declared.told.Ask.{Ask}
use Rattle.hs_base.specs.declared.told.Crumb.{Crumb}
use Rattle.hs_base.specs.declared.told.Trigger.{Trigger}
use Rattle.hs_words.specs.Buffers.{Buffer}
use Rattle.hs_words.specs.Pages.{Sheet}
use Rattle.hs_law_agent.specs.Standings.{indexed_places}
use Rattle.hs_law_agent.specs.State.{AgentState}
use Rattle.hs_law_agent.specs.Stepping.{take_chunk, take_crumb, take_trigger, claim_for}
use Rattle.hs_records.specs.Books.{PlainAgentBook}
use Rattle.hs_law_agent.specs.Books.{page_standing, claim_note, bytes_at}
use Rattle.hs_agent.specs.Keeping.{Point, with_state}

-- the page that came in a chunk
abbrev pub sheet_in : {L : Type 0} → Buffer L → Sheet
sheet_in buffer = option_map_or (λ sheet. sheet) buffer.chunk.page (record { header = record { trace = record { 0 = 0 }; client = record { node = 0; number = 0 }; page = 0; first = 0 }; pieces = [] })

abbrev pub chunk_taken : {L : Type 0} → Buffer L → Point L → Point L
chunk_taken buffer point = record point { state = take_chunk point.settings (sheet_in buffer) point.state; buffers = point.buffers ++ buffer ∷ [] }

abbrev pub crumb_taken : {L : Type 0} → Crumb → Point L → Point L
crumb_taken crumb point = with_state (take_crumb point.settings crumb point.state) point

abbrev pub trigger_taken : {L : Type 0} → Trigger → Point L → Point L
trigger_taken trigger point = with_state (take_trigger point.settings point.node trigger point.state) point

-- what the group of an admitted trigger asks for
abbrev pub ask_by : ℕ → Trigger → ℕ → Ask
ask_by node trigger number =
    record { group = record { id = record { node = node; number = number }; trigger = trigger.trigger; lead = trigger.lead }; laterals = trigger.laterals }

-- what the group names is claimed
abbrev pub claimed_for : {L : Type 0} → Ask → Point L → Point L
claimed_for ask point = with_state (claim_for point.settings ask point.state) point

-- ---- the end

-- the book of a node's agent that came to this state, which is empty where no journal was kept
abbrev pub book_kept : Bool → ℕ → AgentState → PlainAgentBook
book_kept keeps node state =
    record {
      node = record { 0 = node };
      log = if keeps then state.log else [];
      standings = if keeps then map page_standing state.taken else [];
      claims = if keeps then map claim_note state.claims else [];
      sent = if keeps then filter_map (bytes_at state.taken) state.reported else [];
    }

-- the places of what is left: what is indexed, trace by trace from the one touched longest ago, and then the hand
abbrev pub places_left : AgentState → List ℕ
places_left state = flat_map (indexed_places state.taken) state.touched ++ state.hand

-- the chunks that are left, each as it came last
abbrev pub buffers_left : {L : Type 0} → Point L → List (Buffer L)
buffers_left point = filter_map (slice_get point.buffers) (places_left point.state)
