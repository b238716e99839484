-- Worked examples of what a node says of chunks that left, and hears of notes.
use Rattle.std.specs.Prelude.{◌≡◌, ℕ, [], ◌∷◌, Option, Some, None, filter_map, refl}
use Rattle.std.proofs.Common.{inl, inr}
use Rattle.hs_base.specs.Samples.{t}
use Rattle.hs_base.specs.declared.ids.TraceId.{TraceId}
use Rattle.hs_base.specs.declared.told.Ask.{Ask}
use Rattle.hs_base.specs.declared.told.Told.{Told}
use Rattle.hs_ring.specs.Parts.{Leased}
use Rattle.hs_wire.specs.Messages.{PlainReported, SaysTold, SaysReported}
use Rattle.hs_agent.specs.declared.hand.Left.{Left}
use Rattle.hs_agent.specs.declared.hand.Left.TheVariants.{Reported, Evicted}
use Rattle.hs_agent.specs.Runs.{AgentRun}
use Rattle.hs_law_agent.specs.Standings as standings
use Rattle.hs_law_agent.specs.Samples.{group}
use Rattle.hs_mail.specs.declared.mail.Unposted.{Unposted}
use Rattle.hs_mail.specs.declared.mail.Unposted.TheVariants.{TooLong}
use Rattle.hs_node_client.specs.declared.segment.SegmentNote.{SegmentNote}
use Rattle.hs_node_client.specs.declared.segment.SegmentState.TheVariants.{Opened}
use Rattle.hs_whole.specs.declared.answers.Loss.TheVariants.{EvictedPages, AbandonedPages}
use Rattle.hs_whole.specs.Pages.{p}
use Rattle.hs_whole.specs.Notes.{PlainNotes, no_notes_in, looked}
use Rattle.hs_whole.specs.History.{Opens, Loses, HandsOut, Misses, Drops}
use Rattle.hs_intake.specs.declared.took.PartedChunk.{PartedChunk}
use Rattle.hs_intake.specs.Intakes.{TakesAsk, Turns}
use Rattle.hs_node.specs.Nodes.{told_of, page_of, parts_in, AreParted, note_of, HearsAs, Note, Gone, note_in, parted_in, AreHeard, deed_for}

-- Of what is said, what was told and which pages were posted.
said_in_order : (told : Told) (page : PlainReported)
    → (filter_map told_of (SaysReported page ∷ SaysTold told ∷ []) ≡ told ∷ []) × (filter_map page_of (SaysReported page ∷ SaysTold told ∷ []) ≡ page ∷ [])
said_in_order told page = (refl, refl)

-- A turn and an ask let nothing go.
nothing_leaves : (run : AgentRun Leased) (ask : Ask) → parts_in run (TakesAsk ask ∷ Turns ∷ []) ≡ []
nothing_leaves run ask = refl

-- page 3 of core 1 of client 2, which left so
abbrev left_as : TraceId → Left → Option Unposted → PartedChunk
left_as trace left unposted = record { trace = trace; client = 2; core = 1; page = 3; left = left; unposted = unposted }

-- A reported page was posted, and an evicted one has no page to post.
two_leave : (page : PlainReported)
    → AreParted
    (record { trace = t 7; client = 2; core = 1; number = 3; standing = standings.Reported (group 0 0 1 7); page = Some page } ∷ record { trace = t 8; client = 2; core = 1; number = 3; standing = standings.Evicted 3 2; page = None } ∷ [])
    (left_as (t 7) (Reported (group 0 0 1 7)) None ∷ left_as (t 8) (Evicted 3 2) None ∷ [])
    (page ∷ [])
two_leave page = ((refl, (refl, (refl, (refl, refl)))), ([], refl, ((refl, (refl, (refl, (refl, refl)))), ([], refl, refl))))

-- What is heard of them, and of a page that is too long for its place.
heard_of_them : (deed_for (left_as (t 7) (Reported (group 0 0 1 7)) None) ≡ HandsOut 2 (p 1 3) (t 7))
    × ((deed_for (left_as (t 8) (Evicted 3 2) None) ≡ Loses (t 8) EvictedPages 1)
    × (deed_for (left_as (t 7) (Reported (group 0 0 1 7)) (Some TooLong)) ≡ Loses (t 7) AbandonedPages 1))
heard_of_them = (refl, (refl, refl))

-- A note that opens a segment of client 2.
abbrev opens : SegmentNote
opens = record { number = 5; trace = t 9; core = 1; page = 3; state = Opened }

-- Where the node has three clients it is heard so, or dropped; where it has two it is missed, and never heard.
abbrev notes_of : ℕ → PlainNotes
notes_of clients = no_notes_in (record { clients = clients; traces = 4 })

is_heard : (note_of 2 opens ≡ Opens 2 5 (t 9) (p 1 3)) × HearsAs (notes_of 3) 2 opens (Opens 2 5 (t 9) (p 1 3)) × HearsAs (notes_of 3) 2 opens (Drops (t 9)) × HearsAs (notes_of 2) 2 opens Misses
unfolding looked
is_heard = (refl, inl refl, inr refl, inl refl)

never_missed : HearsAs (notes_of 3) 2 opens Misses → ⊥
unfolding looked
never_missed (inl is) = let both : Misses ≡ Opens 2 5 (t 9) (p 1 3) = is in absurd cc
never_missed (inr is) = let both : Misses ≡ Drops (t 9) = is in absurd cc

-- The note came, and then a page left: so both are heard, in this order.
in_order : AreHeard (notes_of 3) (Note 2 opens (Opens 2 5 (t 9) (p 1 3)) ∷ Gone (left_as (t 9) (Reported (group 0 0 1 9)) None) ∷ [])
    × (filter_map note_in (Note 2 opens (Opens 2 5 (t 9) (p 1 3)) ∷ Gone (left_as (t 9) (Evicted 3 2) None) ∷ []) ≡ (2, opens) ∷ [])
    × (filter_map parted_in (Note 2 opens Misses ∷ Gone (left_as (t 9) (Evicted 3 2) None) ∷ []) ≡ left_as (t 9) (Evicted 3 2) None ∷ [])
unfolding looked
in_order = ((inl refl, tt), refl, refl)
