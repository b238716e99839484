-- What several proofs of this crate take from other crates and from its own specs: each imports it from here.
pub use Rattle.hs_base.specs.Ids.{same_trace}
pub use Rattle.hs_base.specs.NodeSets.{with_node}
pub use Rattle.hs_base.specs.Rules.{is_declared}
pub use Rattle.hs_base.specs.declared.ids.NodeId.{NodeId}
pub use Rattle.hs_base.specs.declared.ids.TraceId.{TraceId}
pub use Rattle.hs_base.specs.declared.ids.TriggerId.{TriggerId}
pub use Rattle.hs_base.specs.declared.limits.TheConstants.{TOKEN}
pub use Rattle.hs_base.specs.declared.node_set.NodeSet.{NodeSet}
pub use Rattle.hs_base.specs.declared.settings.TriggerRule.{TriggerRule}
pub use Rattle.hs_base.specs.declared.told.Group.{Group}
pub use Rattle.hs_base.proofs.Alls.{all_each}
pub use Rattle.hs_base.proofs.Bools.{bool_same}
pub use Rattle.hs_pins.specs.Abandoning.{fullest_id, going, id_cmp, least_of_id, leaving, next_to_go, relieved, staying}
pub use Rattle.hs_pins.specs.Buckets.{attempted, BucketState, fresh_bucket, level_found}
pub use Rattle.hs_pins.specs.Choosing.{least, ordered_by, put_by}
pub use Rattle.hs_pins.specs.ClaimsLayout.{AreNamed, AreNoted, claim_from, is_named, ClaimList, nobody, party_at}
pub use Rattle.hs_pins.specs.Counting.{HaveChunks, IsCounted, IsKept}
pub use Rattle.hs_pins.specs.Groups.{chunks_of, count_of, greatest_of, Groups, pinned}
pub use Rattle.hs_pins.specs.PinsLayout.{chunks_at, fresh_buckets_of, HasLanes, HasPinned, HasQueues, in_order, Remembers, with_mark}
pub use Rattle.hs_pins.specs.Priorities.{group_at, group_cmp, is_no_greater, mark_of, priority_cmp, priority_of, same_group, same_mark, same_priority}
pub use Rattle.hs_pins.specs.Queues.{count_in, fresh_queues, groups_of, IsFullest, pinned_in, Queues, same_id, total_of, with_groups}
pub use Rattle.hs_pins.specs.Remembered.{admission, admitted_after, arrived, Claim, claim_for, claim_of, claimed, comes_back, crumbed, is_abandoned, is_claim_of, is_for, IsSound, moments_of, Pin, pin_for, pin_of, pins_for, pins_under, Remembered, rule_of, tried_at, with_crumb, with_pin, without_first, without_group}
pub use Rattle.hs_pins.specs.Waiting.{goes_behind, next_of, order_of, taken}
pub use Rattle.hs_pins.specs.declared.bucket.Attempt.TheVariants.{Admitted, Limited}
pub use Rattle.hs_pins.specs.declared.claims.ClaimNote.{ClaimNote}
pub use Rattle.hs_pins.specs.declared.priority.Mark.{Mark}
pub use Rattle.hs_pins.specs.declared.priority.Priority.{Priority}
pub use Rattle.hs_words.specs.Buffers.{Buffer, buffer_of}
pub use Rattle.std.proofs.lemmas.Bool.{and_parts, eq-eqb, eqb-true, lt-ltb, ltb-false, ltb-true}
pub use Rattle.std.proofs.lemmas.Cmp.{nat_cmp_total, on_total, then_total, tied_itself}
pub use Rattle.std.proofs.lemmas.List.{append-nil, length-map, map-append}
pub use Rattle.std.proofs.lemmas.List.Elements.{filter-append}
pub use Rattle.std.proofs.lemmas.List.Sums.{sum_by-cons}
pub use Rattle.std.proofs.lemmas.Map.{lookup-set_value}
pub use Rattle.std.proofs.lemmas.Map.Entries.{sum_by-remove_entry, sum_by-set_value}
pub use Rattle.std.proofs.lemmas.Map.Keys.{sorted_head, sorted_tail}
pub use Rattle.std.proofs.lemmas.Map.Lookups.{exact_unsigned}
pub use Rattle.std.proofs.lemmas.Map.Steps.{set_value_same}
pub use Rattle.std.specs.BTreeMap.{insert_entry}
pub use Rattle.std.specs.Cmp.{eq_by_cmp_equiv, IsEquivalence, IsTotalOrder}
pub use Rattle.std.specs.List.{AllByRecursion, list_any}
unfoldable pub use Rattle.std.specs.List.Sorted.{IsStrictlySortedBy}
pub use Rattle.std.specs.Map.{keys_of, lookup, remove_entry, set_value, values_of}
pub use Rattle.std.specs.Option.{option_and_then, option_map, option_map_or}
pub use Rattle.std.specs.Ordering.{is_eq, is_le, match_ordering, nat_cmp, ordering_reverse, ordering_then}
pub use Rattle.std.specs.Prelude.{Err, filter, IfNone, IfSome, is_some, nat_le, nat_lt, Ok, OnOk, Result, slice_get, unwrap_or, ◌==◌, ◌⊎◌}
pub use Rattle.std.specs.declared.cmp.Ordering.{Ordering}
pub use Rattle.std.specs.declared.cmp.Ordering.TheVariants.{Equal, Greater, Less}
