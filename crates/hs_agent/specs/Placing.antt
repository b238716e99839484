-- A chunk inside an agent: beside its lease it has its place in the order of arrival.
use Rattle.std.specs.Prelude.{ℕ}
use Rattle.hs_words.specs.Buffers.{Buffer}
use Rattle.hs_agent.specs.declared.placed.Tagged.{Tagged}

abbrev pub Placed : Type 0 → Type 0
Placed L = Buffer (Tagged L)

abbrev pub place_of : {L : Type 0} → Placed L → ℕ
place_of placed = placed.lease.place.0

-- a buffer, at a place
abbrev pub placed_at : {L : Type 0} → ℕ → Buffer L → Placed L
placed_at place buffer = record { chunk = buffer.chunk; lease = record { lease = buffer.lease; place = record { 0 = place } } }

-- the buffer alone
abbrev pub untagged : {L : Type 0} → Placed L → Buffer L
untagged placed = record { chunk = placed.chunk; lease = placed.lease.lease }
