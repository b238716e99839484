-- A history, event by event from its front.
use Rattle.std.proofs.Common.{◌≡◌, ℕ, zero, suc, ◌+◌, ◌<◌, ◌≤◌, Bool, true, false, cond, ltb, List, [], ◌∷◌, ◌++◌, length, map, drop, get_or, reverse, refl, sym, ap, ◌∙◌, arith}
use Rattle.hs_check_follow.proofs.Prelude.{filter, ◌&&◌, drop_more, append_assoc, append-nil, PoolEvent, StampedEvent, event_of, pool_event, events_below, earlier_with, StampedPoolEvent, may_follow, is_history}
use Rattle.std.proofs.Math.Bool.{and-true}
use Rattle.std.proofs.lemmas.List.{reverse-append}
use Rattle.hs_base.proofs.Bools.{and_assoc}
use Rattle.hs_check_follow.specs.Happening.{may_come}
use Rattle.hs_law_journal.specs.Pooled.{is_history_back}

-- whether these events may come, one after another, behind the earlier ones, of which the last stands first
abbrev pub history_from : ℕ → List PoolEvent → List PoolEvent → Bool
history_from n earlier [] = true
history_from n earlier (event ∷ later) = may_follow n earlier event && history_from n (event ∷ earlier) later

back_is : (n : ℕ) (earlier later : List PoolEvent) → is_history_back n (reverse later ++ earlier) ≡ (is_history_back n earlier && history_from n earlier later)
back_is n earlier [] = sym (and-true (is_history_back n earlier))
back_is n earlier (event ∷ later) =
    ap (λ (l : List PoolEvent). is_history_back n (l ++ earlier)) (reverse-append (event ∷ []) later)
    ∙ ap (is_history_back n) (append_assoc (reverse later) (event ∷ []) earlier)
    ∙ back_is n (event ∷ earlier) later
    ∙ and_assoc (is_history_back n earlier) (may_follow n earlier event) (history_from n (event ∷ earlier) later)

pub history_is : (n : ℕ) (events : List PoolEvent) → history_from n [] events ≡ is_history n events
history_is n events = sym (ap (is_history_back n) (sym (append-nil (reverse events))) ∙ back_is n [] events)

-- ---- events below a bound

module _ (n bound : ℕ) (timed : List StampedEvent) (i : ℕ) (t : StampedEvent) (less : i < length timed) (is : t ≡ get_or timed i t) (earlier : List PoolEvent) where
  next : history_from n earlier (events_below bound (drop i timed)) ≡ (may_come n bound earlier t && history_from n (earlier_with bound t earlier) (events_below bound (drop (i + 1) timed)))
  next =
      ap (λ (l : List StampedEvent). history_from n earlier (events_below bound l)) (drop_more timed i t less ∙ sym (ap (λ (x : StampedEvent). x ∷ drop (i + 1) timed) is))
      ∙ at (ltb t.stamp bound)
    where
      at : (b : Bool) → history_from n earlier (map (λ (x : StampedEvent). event_of x.event) (cond b (t ∷ filter (λ (x : StampedEvent). ltb x.stamp bound) (drop (i + 1) timed)) (filter (λ (x : StampedEvent). ltb x.stamp bound) (drop (i + 1) timed))))
          ≡ (cond b (may_follow n earlier (event_of t.event)) true && history_from n (cond b (event_of t.event ∷ earlier) earlier) (events_below bound (drop (i + 1) timed)))
      at true = refl
      at false = refl

  pub below_more : (whole : Bool) → may_come n bound earlier t ≡ true → history_from n earlier (events_below bound (drop i timed)) ≡ whole → history_from n (earlier_with bound t earlier) (events_below bound (drop (i + 1) timed)) ≡ whole
  below_more whole may e = sym (ap (λ b. b && history_from n (earlier_with bound t earlier) (events_below bound (drop (i + 1) timed))) may) ∙ sym next ∙ e

  pub below_fails : (whole : Bool) → may_come n bound earlier t ≡ false → history_from n earlier (events_below bound (drop i timed)) ≡ whole → false ≡ whole
  below_fails whole may e = sym (ap (λ b. b && history_from n (earlier_with bound t earlier) (events_below bound (drop (i + 1) timed))) may) ∙ sym next ∙ e

  pub one_longer : length (earlier_with bound t earlier) ≤ length earlier + 1
  one_longer = at (ltb t.stamp bound)
    where
      at : (b : Bool) → length (cond b (event_of t.event ∷ earlier) earlier) ≤ length earlier + 1
      at true = omega arith
      at false = omega arith

pub events_of_pool : (timed : List StampedEvent) → map (λ (e : StampedPoolEvent). e.event) (map pool_event timed) ≡ map (λ (t : StampedEvent). event_of t.event) timed
events_of_pool [] = refl
events_of_pool (t ∷ timed) = ap (λ (l : List PoolEvent). event_of t.event ∷ l) (events_of_pool timed)
