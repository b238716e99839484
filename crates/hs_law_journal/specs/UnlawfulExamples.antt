-- For each clause small journals that fail it, and none of the clauses asked before it.
use Rattle.std.specs.Prelude.{◌≡◌, List, [], ◌∷◌, ◌++◌, Some, refl}
use Rattle.hs_records.specs.declared.journal.Draw.{Draw}
use Rattle.hs_records.specs.declared.journal.Draw.TheVariants.{Got, Empty}
use Rattle.hs_records.specs.declared.journal.Step.TheVariants.{Chunk}
use Rattle.hs_records.specs.Plain.{PlainWorkload}
use Rattle.hs_client.specs.Samples.{settings, workload, segment}
use Rattle.hs_law_journal.specs.Lawful.{first_unlawful}
use Rattle.hs_law_journal.specs.Samples.{journal, alone, chunk, crumb, trigger, ask, turn, given, missed, unread}
use Rattle.hs_law_journal.specs.Workloads.{one_point, three_points, three_traces, trigger_first, one_token, four_nodes, side_by_side}

-- three pages that were drawn in their order
abbrev three : List Draw
three = Got 0 0 ∷ Got 1 1 ∷ Got 2 2 ∷ []

-- L1: a draw too few, a log too many
no_shape : (first_unlawful three_traces (alone (Got 0 0 ∷ Got 1 1 ∷ []) (chunk ∷ chunk ∷ turn ∷ []) []) ≡ Some 1)
    × (first_unlawful one_point (journal 1 1 ((Got 0 0 ∷ []) ∷ []) ((chunk ∷ turn ∷ []) ∷ (turn ∷ []) ∷ []) []) ≡ Some 1)
no_shape = (refl, refl)

-- L2: a stamp is left out, two are in the wrong order
no_stamps : (first_unlawful three_traces (alone three (chunk ∷ chunk ∷ chunk ∷ turn ∷ given 4 ∷ []) []) ≡ Some 2)
    × (first_unlawful three_traces (alone (Got 0 1 ∷ Got 1 0 ∷ Got 2 2 ∷ []) (chunk ∷ chunk ∷ chunk ∷ turn ∷ given 3 ∷ []) []) ≡ Some 2)
no_stamps = (refl, refl)

-- L5: a log that ends without a turn, an offer before the turn
no_passes : (first_unlawful three_traces (alone three (chunk ∷ chunk ∷ chunk ∷ []) []) ≡ Some 5)
    × (first_unlawful three_traces (alone three (chunk ∷ chunk ∷ chunk ∷ given 3 ∷ turn ∷ []) []) ≡ Some 5)
no_passes = (refl, refl)

-- L8: a chunk of a page without a buffer, an offer with an empty hand, a message that nobody told, an ask that nobody sent
not_followed : (first_unlawful three_points (alone (Got 0 0 ∷ Empty 1 ∷ []) (chunk ∷ chunk ∷ turn ∷ []) []) ≡ Some 8)
    × (first_unlawful one_point (alone (Got 0 0 ∷ []) (chunk ∷ turn ∷ given 1 ∷ []) []) ≡ Some 8)
    × (first_unlawful one_point (alone (Got 0 0 ∷ []) (chunk ∷ turn ∷ []) (0 ∷ [])) ≡ Some 8)
    × (first_unlawful one_point (alone (Got 0 0 ∷ []) (chunk ∷ ask ∷ turn ∷ []) []) ≡ Some 8)
not_followed = (refl, refl, refl, refl)

-- L3: not the front of the queue, a miss without an empty draw, an empty draw where a buffer waits
no_history : (first_unlawful three_traces (alone (Got 0 0 ∷ Got 2 1 ∷ Got 1 2 ∷ []) (chunk ∷ chunk ∷ chunk ∷ turn ∷ given 3 ∷ []) []) ≡ Some 3)
    × (first_unlawful three_traces (alone three (chunk ∷ chunk ∷ chunk ∷ turn ∷ missed 3 ∷ given 4 ∷ []) []) ≡ Some 3)
    × (first_unlawful one_point (alone (Empty 0 ∷ []) (turn ∷ []) []) ≡ Some 3)
no_history = (refl, refl, refl)

-- two clients that draw the one buffer one behind the other
abbrev pair : PlainWorkload
pair = side_by_side 2 (segment 1 1 ∷ segment 2 2 ∷ []) 1

-- L4: the chunk of the first client is given first, under a stamp below that of its own draw
no_answer : first_unlawful pair (journal 1 2 ((Got 0 2 ∷ []) ∷ (Got 0 0 ∷ []) ∷ []) ((Chunk 0 ∷ Chunk 1 ∷ turn ∷ given 1 ∷ given 3 ∷ []) ∷ []) []) ≡ Some 4
no_answer = refl

-- L6: a buffer stays in the hand, an offer behind one that was unread
no_offers : (first_unlawful three_traces (alone three (chunk ∷ chunk ∷ chunk ∷ turn ∷ []) []) ≡ Some 6)
    × (first_unlawful three_traces (alone three (chunk ∷ chunk ∷ chunk ∷ turn ∷ unread ∷ given 3 ∷ []) []) ≡ Some 6)
no_offers = (refl, refl)

-- L7: too early an offer
too_early : first_unlawful three_traces (alone three (chunk ∷ chunk ∷ chunk ∷ turn ∷ unread ∷ []) []) ≡ Some 7
too_early = refl

-- the draw of that place is empty
unread_empty : first_unlawful (side_by_side 3 (segment 1 1 ∷ segment 2 2 ∷ segment 3 3 ∷ []) 1)
    (journal 1 3 ((Got 0 0 ∷ []) ∷ (Empty 1 ∷ []) ∷ (Empty 2 ∷ []) ∷ []) ((chunk ∷ turn ∷ missed 3 ∷ missed 4 ∷ unread ∷ []) ∷ []) [])
    ≡ Some 7
unread_empty = refl

-- its chunk was given
unread_given : first_unlawful pair (journal 1 2 ((Got 0 0 ∷ []) ∷ (Got 0 2 ∷ []) ∷ []) ((Chunk 0 ∷ Chunk 1 ∷ turn ∷ given 1 ∷ unread ∷ []) ∷ []) []) ≡ Some 7
unread_given = refl

-- its client drew again before the miss
unread_drawn_past : first_unlawful (side_by_side 1 ((segment 1 1 ++ segment 2 2) ∷ []) 1) (alone (Got 0 0 ∷ Empty 1 ∷ []) (chunk ∷ turn ∷ missed 2 ∷ unread ∷ []) []) ≡ Some 7
unread_drawn_past = refl

-- it is of an earlier round
unread_rounds_later : first_unlawful pair (journal 1 2 ((Got 0 0 ∷ []) ∷ (Empty 1 ∷ []) ∷ []) ((turn ∷ Chunk 0 ∷ turn ∷ missed 2 ∷ unread ∷ []) ∷ []) []) ≡ Some 7
unread_rounds_later = refl

-- L9: three rounds and one pass; nodes that do not make as many
no_rounds : (first_unlawful (workload (settings 4 4 8 4 1 []) (segment 1 7 ∷ [])) (alone (Got 0 0 ∷ []) (chunk ∷ turn ∷ []) []) ≡ Some 9)
    × (first_unlawful four_nodes
    (journal 4 1
    ((Got 0 0 ∷ []) ∷ (Got 0 0 ∷ []) ∷ (Got 0 0 ∷ []) ∷ (Got 0 0 ∷ []) ∷ [])
    ((chunk ∷ crumb ∷ trigger ∷ turn ∷ given 1 ∷ turn ∷ turn ∷ [])
    ∷ (chunk ∷ crumb ∷ turn ∷ ask ∷ turn ∷ given 1 ∷ turn ∷ [])
    ∷ (chunk ∷ crumb ∷ turn ∷ turn ∷ ask ∷ turn ∷ given 1 ∷ []) ∷ (chunk ∷ turn ∷ turn ∷ []) ∷ [])
    (0 ∷ 1 ∷ 2 ∷ []))
    ≡ Some 9)
no_rounds = (refl, refl)

-- L10: a chunk that nobody took, a message that nobody took, a chunk that is still pinned
left_over : (first_unlawful one_point (alone (Got 0 0 ∷ []) (turn ∷ []) []) ≡ Some 10)
    × (first_unlawful trigger_first (alone (Got 0 0 ∷ []) (trigger ∷ turn ∷ turn ∷ turn ∷ chunk ∷ turn ∷ given 1 ∷ []) []) ≡ Some 10)
    × (first_unlawful one_token (alone three (chunk ∷ chunk ∷ chunk ∷ trigger ∷ trigger ∷ trigger ∷ turn ∷ given 3 ∷ []) (0 ∷ 0 ∷ [])) ≡ Some 10)
left_over = (refl, refl, refl)

-- L11: a chunk is taken two passes late
late_chunk : first_unlawful one_point (alone (Got 0 0 ∷ []) (turn ∷ turn ∷ chunk ∷ turn ∷ []) []) ≡ Some 11
late_chunk = refl

-- a give of the first pass comes behind a draw of the second round
late_give : first_unlawful (workload (settings 4 0 8 4 3 []) ((segment 1 1 ++ segment 2 2) ∷ [])) (alone (Got 0 0 ∷ Got 1 1 ∷ []) (chunk ∷ turn ∷ given 2 ∷ chunk ∷ turn ∷ given 3 ∷ []) []) ≡ Some 11
late_give = refl

-- an ask waits for two passes
late_ask : first_unlawful four_nodes
    (journal 4 1
    ((Got 0 0 ∷ []) ∷ (Got 0 0 ∷ []) ∷ (Got 0 0 ∷ []) ∷ (Got 0 0 ∷ []) ∷ [])
    ((chunk ∷ crumb ∷ trigger ∷ turn ∷ given 1 ∷ turn ∷ turn ∷ turn ∷ turn ∷ [])
    ∷ (chunk ∷ crumb ∷ turn ∷ turn ∷ turn ∷ ask ∷ turn ∷ given 1 ∷ turn ∷ [])
    ∷ (chunk ∷ crumb ∷ turn ∷ turn ∷ turn ∷ turn ∷ ask ∷ turn ∷ given 1 ∷ []) ∷ (chunk ∷ turn ∷ turn ∷ turn ∷ turn ∷ turn ∷ []) ∷ [])
    (0 ∷ 1 ∷ 2 ∷ []))
    ≡ Some 11
late_ask = refl
