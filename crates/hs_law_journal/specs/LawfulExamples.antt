-- Journals that are lawful for small workloads.
use Rattle.std.specs.Prelude.{◌≡◌, [], ◌∷◌, None, refl}
use Rattle.hs_records.specs.declared.journal.Draw.TheVariants.{Got, Empty}
use Rattle.hs_client.specs.Samples.{segment}
use Rattle.hs_law_journal.specs.Lawful.{first_unlawful}
use Rattle.hs_law_journal.specs.Samples.{journal, alone, chunk, turn, missed, unread}
use Rattle.hs_law_journal.specs.Journals
use Rattle.hs_law_journal.specs.Workloads.{nothing, one_point, three_points, three_traces, touched_again, trigger_first, evicted_then_claimed, two_ids, one_token, short_of_pins, four_nodes, no_pins, refused_trigger, side_by_side}

no_operations : first_unlawful nothing Journals.of_nothing ≡ None
no_operations = refl

point : first_unlawful one_point Journals.of_one_point ≡ None
point = refl

-- the third point finds the pool empty
pool_is_empty : first_unlawful three_points Journals.of_three_points ≡ None
pool_is_empty = refl

-- the third trace evicts the first
one_goes : first_unlawful three_traces Journals.of_three_traces ≡ None
one_goes = refl

second_goes : first_unlawful touched_again Journals.of_touched_again ≡ None
second_goes = refl

-- a chunk that waits for one pass is in time, and further passes do no harm
one_pass_late : (first_unlawful one_point (alone (Got 0 0 ∷ []) (turn ∷ chunk ∷ turn ∷ []) []) ≡ None)
    × (first_unlawful one_point (alone (Got 0 0 ∷ []) (chunk ∷ turn ∷ turn ∷ turn ∷ []) []) ≡ None)
one_pass_late = (refl, refl)

claim_before_its_chunk : first_unlawful trigger_first Journals.of_trigger_first ≡ None
claim_before_its_chunk = refl

claim_behind_an_eviction : first_unlawful evicted_then_claimed Journals.of_evicted_then_claimed ≡ None
claim_behind_an_eviction = refl

second_claims_nothing : first_unlawful two_ids Journals.of_two_ids ≡ None
second_claims_nothing = refl

second_is_limited : first_unlawful one_token Journals.of_one_token ≡ None
second_is_limited = refl

-- the two traces that stay are reported in two passes, behind the one that is abandoned
all_agents_choose_alike : first_unlawful short_of_pins Journals.of_short_of_pins ≡ None
all_agents_choose_alike = refl

-- crumbs lead from node 0 to node 1 and from there to node 2, which are asked once each; nobody asks node 3
crumbs_lead_on : first_unlawful four_nodes Journals.of_four_nodes ≡ None
crumbs_lead_on = refl

-- a claimed chunk is abandoned at once, and so is the next one of its trace
nothing_may_be_pinned : first_unlawful no_pins Journals.of_no_pins ≡ None
nothing_may_be_pinned = refl

refused : first_unlawful refused_trigger Journals.of_refused_trigger ≡ None
refused = refl

-- the second client found the pool empty: the give misses, and the one behind it may be unread
missed_and_unread : first_unlawful (side_by_side 2 (segment 1 1 ∷ segment 2 2 ∷ []) 1)
    (journal 1 2 ((Got 0 0 ∷ []) ∷ (Empty 1 ∷ []) ∷ []) ((chunk ∷ turn ∷ missed 2 ∷ unread ∷ []) ∷ []) [])
    ≡ None
missed_and_unread = refl
