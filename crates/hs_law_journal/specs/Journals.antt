-- For the worked examples: the journals of the small workloads, as one thread in lockstep makes them.
use Rattle.std.specs.Prelude.{[], ◌∷◌}
use Rattle.hs_records.specs.declared.journal.Draw.TheVariants.{Got, Empty}
use Rattle.hs_records.specs.Journals.{PlainJournal}
use Rattle.hs_law_journal.specs.Samples.{journal, alone, chunk, crumb, trigger, ask, turn, given}

abbrev pub of_nothing : PlainJournal
of_nothing = alone [] [] []

abbrev pub of_one_point : PlainJournal
of_one_point = alone (Got 0 0 ∷ []) (chunk ∷ turn ∷ []) []

-- the third point finds the pool empty
abbrev pub of_three_points : PlainJournal
of_three_points = alone (Got 0 0 ∷ Empty 1 ∷ []) (chunk ∷ turn ∷ []) []

-- the third trace evicts the first
abbrev pub of_three_traces : PlainJournal
of_three_traces = alone (Got 0 0 ∷ Got 1 1 ∷ Got 2 2 ∷ []) (chunk ∷ chunk ∷ chunk ∷ turn ∷ given 3 ∷ []) []

abbrev pub of_touched_again : PlainJournal
of_touched_again = alone (Got 0 0 ∷ Got 1 1 ∷ Got 2 2 ∷ Got 3 3 ∷ []) (chunk ∷ chunk ∷ chunk ∷ chunk ∷ turn ∷ given 4 ∷ []) []

-- the claim comes in the first round and the chunk in the fourth
abbrev pub of_trigger_first : PlainJournal
of_trigger_first = alone (Got 0 0 ∷ []) (trigger ∷ turn ∷ turn ∷ turn ∷ chunk ∷ turn ∷ given 1 ∷ []) (0 ∷ [])

abbrev pub of_evicted_then_claimed : PlainJournal
of_evicted_then_claimed =
    alone (Got 0 0 ∷ Got 0 2 ∷ []) (turn ∷ turn ∷ chunk ∷ turn ∷ given 1 ∷ trigger ∷ turn ∷ turn ∷ turn ∷ chunk ∷ turn ∷ given 3 ∷ []) (0 ∷ [])

abbrev pub of_two_ids : PlainJournal
of_two_ids = alone (Got 0 0 ∷ []) (chunk ∷ trigger ∷ trigger ∷ turn ∷ given 1 ∷ []) (0 ∷ 0 ∷ [])

-- the second trigger is not admitted; two pages take two turns
abbrev pub of_one_token : PlainJournal
of_one_token =
    alone (Got 0 0 ∷ Got 1 1 ∷ Got 2 2 ∷ []) (chunk ∷ chunk ∷ chunk ∷ trigger ∷ trigger ∷ trigger ∷ turn ∷ given 3 ∷ turn ∷ given 4 ∷ []) (0 ∷ 0 ∷ [])

-- the two traces that stay are reported in two passes, behind the one that is abandoned
abbrev pub of_short_of_pins : PlainJournal
of_short_of_pins =
    journal 2 1
    ((Got 0 0 ∷ Got 1 1 ∷ Got 2 2 ∷ []) ∷ (Got 0 0 ∷ Got 1 1 ∷ Got 2 2 ∷ []) ∷ [])
    ((chunk ∷ chunk ∷ chunk ∷ trigger ∷ trigger ∷ trigger ∷ turn ∷ given 3 ∷ given 4 ∷ turn ∷ given 5 ∷ [])
    ∷ (chunk ∷ chunk ∷ chunk ∷ trigger ∷ trigger ∷ trigger ∷ turn ∷ given 3 ∷ given 4 ∷ turn ∷ given 5 ∷ []) ∷ [])
    (0 ∷ 0 ∷ 0 ∷ 1 ∷ 1 ∷ 1 ∷ [])

-- crumbs lead from node 0 to node 1 and from there to node 2, which are asked once each; nobody asks node 3
abbrev pub of_four_nodes : PlainJournal
of_four_nodes =
    journal 4 1
    ((Got 0 0 ∷ []) ∷ (Got 0 0 ∷ []) ∷ (Got 0 0 ∷ []) ∷ (Got 0 0 ∷ []) ∷ [])
    ((chunk ∷ crumb ∷ trigger ∷ turn ∷ given 1 ∷ turn ∷ turn ∷ [])
    ∷ (chunk ∷ crumb ∷ turn ∷ ask ∷ turn ∷ given 1 ∷ turn ∷ [])
    ∷ (chunk ∷ crumb ∷ turn ∷ turn ∷ ask ∷ turn ∷ given 1 ∷ []) ∷ (chunk ∷ turn ∷ turn ∷ turn ∷ []) ∷ [])
    (0 ∷ 1 ∷ 2 ∷ [])

-- a claimed chunk is abandoned at once, and so is the next one of its trace
abbrev pub of_no_pins : PlainJournal
of_no_pins = alone (Got 0 0 ∷ Got 1 1 ∷ []) (chunk ∷ chunk ∷ trigger ∷ turn ∷ given 2 ∷ given 3 ∷ []) (0 ∷ [])

abbrev pub of_refused_trigger : PlainJournal
of_refused_trigger = alone (Got 0 0 ∷ Got 1 1 ∷ []) (chunk ∷ chunk ∷ trigger ∷ trigger ∷ turn ∷ given 2 ∷ []) (0 ∷ [])
