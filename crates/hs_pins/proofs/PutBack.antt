-- The pins with what is apart from them put back.
use Rattle.std.proofs.Common.{◌≡◌, subst, Bool, true, false, cond, List, [], ◌∷◌, Some, IsSome, unwrap_or, refl, sym, ap, ◌∙◌}
use Rattle.hs_pins.proofs.Prelude.{is_some, lookup, TriggerId, Buffer, Priority, Groups, pinned, Queues, same_id, with_groups, pinned_in, Remembered, Remembers}
use Rattle.hs_pins.specs.Queues.{has_queue}
use Rattle.hs_pins.specs.PinsLayout.{Pinning}
use Rattle.hs_pins.proofs.Opened.{set_set, lookup_set}
use Rattle.hs_pins.proofs.Remembering.{at_view}

module _ {L : Type 0} where
  pub found_before : (id : TriggerId) (queues : Queues L) (groups : Groups L) → has_queue (with_groups queues id groups) id → has_queue queues id
  found_before id [] groups found = found
  found_before id (x ∷ queues) groups found = at (same_id id x.0) refl found (found_before id queues groups)
    where
      at : (b : Bool) → same_id id x.0 ≡ b → IsSome (lookup (same_id id) (cond b ((x.0, groups) ∷ queues) (x ∷ with_groups queues id groups)))
          → (IsSome (lookup (same_id id) (with_groups queues id groups)) → IsSome (lookup (same_id id) queues)) → IsSome (cond b (Some x.1) (lookup (same_id id) queues))
      at true e found rest = refl
      at false e found rest = rest (sym (ap (λ b. is_some (cond b (Some x.1) (lookup (same_id id) (with_groups queues id groups)))) e) ∙ found)

  -- more became pinned for a group of the id
  pub pinned_back : (id : TriggerId) (queues : Queues L) (groups more : Groups L) (priority : Priority) (chunks : List (Buffer L)) → has_queue (with_groups queues id groups) id → more ≡ pinned groups priority chunks
      → with_groups queues id more ≡ pinned_in (with_groups queues id groups) id priority chunks
  pinned_back id queues groups more priority chunks found e =
      ap (with_groups queues id) e
      ∙ sym (ap (λ o. with_groups (with_groups queues id groups) id (pinned (unwrap_or o []) priority chunks)) (lookup_set (same_id id) queues groups (found_before id queues groups found))
      ∙ set_set (same_id id) queues groups (pinned groups priority chunks))

  -- the queues are those that were put back
  pub put_back : (v now : Pinning L) (memory : Remembered L) (queues : Queues L) → v ≡ now → Remembers now memory → queues ≡ v.queues → Remembers (record v { queues = queues }) memory
  put_back v now memory queues same h e = subst (λ (q : Queues L). Remembers (record v { queues = q }) memory) (sym e) (at_view v now memory same h)
