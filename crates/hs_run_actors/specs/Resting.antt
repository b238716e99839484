-- What is left of the links of a node's clients, list by list.
use Rattle.std.specs.Prelude.{◌≡◌, ℕ, Bool, true, false, List, [], ◌∷◌, ◌++◌, map, slice_get, slice_set, Option, Some, None, refl}
use Rattle.std.specs.List.{list_all}
use Rattle.hs_link.specs.Contents.{Incoming, Outgoing, Remaining, AreEnds, sent}
use Rattle.hs_run_actors.specs.declared.rests.Rests.{Rests}
use Rattle.hs_run_actors.specs.Intakes.{Intakes, closed}
use Rattle.hs_run_actors.specs.ClosedAgents.{remaining}

module _ {T F : Type 0} where
  -- at each place the ends of one link
  abbrev pub AreEndsOf : List (Outgoing T F) → List (Incoming T F) → Type 0
  AreEndsOf [] [] = Unit {0}
  AreEndsOf [] (r ∷ receivers) = ⊥
  AreEndsOf (s ∷ senders) [] = ⊥
  AreEndsOf (s ∷ senders) (r ∷ receivers) = AreEnds s r × AreEndsOf senders receivers

  -- at each place what is left of the link: with what was received it is what was sent
  abbrev pub AreRests : List (Outgoing T F) → List (Incoming T F) → List (Remaining T F) → Type 0
  AreRests [] [] [] = Unit {0}
  AreRests (s ∷ senders) (r ∷ receivers) (x ∷ rests) = (r.received ++ x.items ≡ sent s) × (x.key ≡ r.key) × AreRests senders receivers rests
  AreRests _ _ _ = ⊥

  abbrev pub is_given : Remaining T F → Bool
  is_given r = elim r.items [ [] ↦ true | _ ∷ _ ↦ false ]

  -- whether nothing is left of any
  abbrev pub are_given : List (Remaining T F) → Bool
  are_given rests = list_all is_given rests

  -- The next item of the link at this place was given, or there was none.
  abbrev pub GivesAt : ℕ → List (Remaining T F) → Option T → List (Remaining T F) → Type 0
  GivesAt place rests (Some item) rests' =
      (r : Remaining T F) × (q : Remaining T F) × (slice_get rests place ≡ Some r) × (rests' ≡ slice_set rests place q) × (q.key ≡ r.key) × (r.items ≡ item ∷ q.items)
  GivesAt place rests None rests' = (r : Remaining T F) × (slice_get rests place ≡ Some r) × (rests' ≡ rests) × (r.items ≡ [])

-- as an agent takes from them
abbrev pub intakes_left : Rests → Intakes
intakes_left s =
    record {
      giver = s.giver;
      chunks = map (λ r. closed r) (map remaining s.chunks.items);
      crumbs = map (λ r. closed r) s.crumbs.items;
      triggers = map (λ r. closed r) s.triggers.items;
    }

-- ---- examples

all_is_given : (are_given {T = ℕ} {F = ℕ} (record { key = 1; items = [] } ∷ []) ≡ true) × (are_given {T = ℕ} {F = ℕ} (record { key = 1; items = 5 ∷ [] } ∷ []) ≡ false)
all_is_given = (refl, refl)
