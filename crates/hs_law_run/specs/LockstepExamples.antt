-- The lockstep journals of small workloads: those that the examples of the lawful journal print.
use Rattle.std.specs.Prelude.{◌≡◌, [], ◌∷◌, refl}
use Rattle.hs_records.specs.declared.journal.Draw.TheVariants.{Got, Empty}
use Rattle.hs_law_journal.specs.Workloads.{nothing, one_point, three_points, three_traces, touched_again, trigger_first, evicted_then_claimed, two_ids, one_token, short_of_pins, four_nodes, no_pins, refused_trigger}
use Rattle.hs_law_journal.specs.Journals
use Rattle.hs_law_run.specs.Lockstep.{lockstep, next_draws}

-- the queue has one buffer
draws_of_three : next_draws 3 5 (7 ∷ []) ≡ Got 7 5 ∷ Empty 6 ∷ Empty 7 ∷ []
draws_of_three = refl

no_operations : lockstep nothing ≡ Journals.of_nothing
no_operations = refl

point : lockstep one_point ≡ Journals.of_one_point
point = refl

pool_is_empty : lockstep three_points ≡ Journals.of_three_points
pool_is_empty = refl

one_goes : lockstep three_traces ≡ Journals.of_three_traces
one_goes = refl

second_goes : lockstep touched_again ≡ Journals.of_touched_again
second_goes = refl

claim_before_its_chunk : lockstep trigger_first ≡ Journals.of_trigger_first
claim_before_its_chunk = refl

claim_behind_an_eviction : lockstep evicted_then_claimed ≡ Journals.of_evicted_then_claimed
claim_behind_an_eviction = refl

second_claims_nothing : lockstep two_ids ≡ Journals.of_two_ids
second_claims_nothing = refl

second_is_limited : lockstep one_token ≡ Journals.of_one_token
second_is_limited = refl

all_agents_choose_alike : lockstep short_of_pins ≡ Journals.of_short_of_pins
all_agents_choose_alike = refl

crumbs_lead_on : lockstep four_nodes ≡ Journals.of_four_nodes
crumbs_lead_on = refl

nothing_may_be_pinned : lockstep no_pins ≡ Journals.of_no_pins
nothing_may_be_pinned = refl

refused : lockstep refused_trigger ≡ Journals.of_refused_trigger
refused = refl
