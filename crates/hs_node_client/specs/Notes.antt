-- What a client notes of its segments, on a link of its own. Each note has a number, which rises by one, whether the note is sent or
-- dropped.
use Rattle.std.specs.Prelude.{◌≡◌, ℕ, ◌+◌, ◌<◌, Bool, true, false, List, [], ◌∷◌, ◌++◌}
use Rattle.std.specs.List.{AllByRecursion}
use Rattle.std.proofs.Common.{lit≤}
use Rattle.hs_base.specs.declared.ids.TraceId.{TraceId}
use Rattle.hs_link.specs.Contents.{Outgoing, sent, HasPlaces}
use Rattle.hs_live.specs.Live.{GoesOn}
use Rattle.hs_node_client.specs.declared.segment.SegmentNote.{SegmentNote}
use Rattle.hs_node_client.specs.declared.segment.SegmentState.{SegmentState}
use Rattle.hs_node_client.specs.declared.segment.SegmentState.TheVariants.{Opened}
use Rattle.hs_node_client.specs.declared.notebook.Notebook.{Notebook}
use Rattle.hs_node_client.specs.declared.paged.NextPage.{NextPage}

-- The sender went on and was given nothing: what waited may have gone into the ring.
pub record PutsOn {T F : Type 0} (s t : Outgoing T F) : Type 0 where
  pub goes : GoesOn s t
  pub items : sent t ≡ sent s

-- The outbox has fewer places than so many, before what waits went into the ring, and after.
pub record Lacks {T F : Type 0} (places : ℕ) (s t : Outgoing T F) : Type 0 where
  pub before : HasPlaces places s → ⊥
  pub after : HasPlaces places t → ⊥

-- what was sent of a note, where the client's next page comes at this place
abbrev pub SendsNote : NextPage → TraceId → SegmentState → Notebook → Bool → Notebook → Type 0
SendsNote place trace state old true new = sent new.link ≡ sent old.link ++ record { number = old.number; trace = trace; core = place.core; page = place.page; state = state } ∷ []
SendsNote place trace state old false new = (sent new.link ≡ sent old.link) × (HasPlaces 1 new.link → ⊥)

-- The note has the next number. It was sent, or it was dropped where the outbox had no place.
pub record Notes (place : NextPage) (trace : TraceId) (state : SegmentState) (old : Notebook) (was_sent : Bool) (new : Notebook) : Type 0 where
  pub number : new.number ≡ old.number + 1
  pub sends : SendsNote place trace state old was_sent new
  pub goes : GoesOn old.link new.link

-- ---- numbers

-- Each note has a number below those of all behind it.
abbrev pub AreRising : List SegmentNote → Type 0
AreRising [] = Unit {0}
AreRising (note ∷ later) = AllByRecursion (λ (other : SegmentNote). note.number < other.number) later × AreRising later

-- The numbers of what was sent rise, and lie below the next one.
pub record AreNumbered (notebook : Notebook) : Type 0 where
  pub rising : AreRising (sent notebook.link)
  pub below : AllByRecursion (λ (note : SegmentNote). note.number < notebook.number) (sent notebook.link)

-- ---- examples

-- of the notes 0, 1 and 4 the numbers 2 and 3 were dropped
abbrev note_of : TraceId → ℕ → SegmentNote
note_of trace number = record { number = number; trace = trace; core = 0; page = 0; state = Opened }

a_gap : (trace : TraceId) → AreRising (note_of trace 0 ∷ note_of trace 1 ∷ note_of trace 4 ∷ [])
a_gap trace = ((lit≤ tt, (lit≤ tt, tt)), ((lit≤ tt, tt), (tt, tt)))
