-- What a giver's turns tell of the events of its agent.
use Rattle.std.proofs.Common.{◌≡◌, ◌⊎◌, inl, inr, ℕ, ◌+◌, true, List, [], ◌∷◌, ◌++◌, reverse, refl, sym, ap, subst, ◌∙◌, Option, Some, None, arith, map, filter, slice_get, append-nil}
use Rattle.hs_law_run.proofs.Prelude.{AllByRecursion, filter_map, cons_option, map-append, filter-append, filter_map-append, reverse_cons, all_append, noted_as, EventsAddThis, AgentState, GivenPlace, start, Chunk, Crumbed, Triggered, Asked, Answered, Missed, Unread, AgentEvent, Took, Gave, step_of_answer, after, after_from, after_event, PlainSettings, Answer, GiverTurn, answered, unread, met, answers_in, is_any_given, is_missed, step_stamp, log_stamps, steps_of, miss_in, Lent, AreTurns}
use Rattle.hs_law_agent.specs.Stepping.{Turn as Turned, Input, step_of, give_back, Given}
use Rattle.hs_words.specs.PoolHistory as pool
use Rattle.hs_law_journal.specs.Turns.{IsOffered, Begins, Takes, Offers, Meets}
use Rattle.hs_law_run.proofs.Lists.{filter_map_last, last_or_earlier, StandsEarlier}

pub after_last : (settings : PlainSettings) (node : ℕ) (events : List AgentEvent) (event : AgentEvent) → after settings node (events ++ event ∷ []) ≡ after_event settings node (after settings node events) event
after_last settings node events event = from (start settings) events
  where
    from : (state : AgentState) (events : List AgentEvent) → after_from settings node state (events ++ event ∷ []) ≡ after_event settings node (after_from settings node state events) event
    from state [] = refl
    from state (e ∷ events) = from (after_event settings node state e) events

pub steps_last : (events : List AgentEvent) (event : AgentEvent) → steps_of (events ++ event ∷ []) ≡ steps_of events ++ noted_as event ∷ []
steps_last events event = map-append noted_as events (event ∷ [])

-- ---- what inputs note

no_stamp : (input : Input) → filter_map step_stamp (step_of input ∷ []) ≡ []
no_stamp (Chunk client sheet) = refl
no_stamp (Crumbed client crumb) = refl
no_stamp (Triggered client trigger) = refl
no_stamp (Asked ask) = refl
no_stamp Turned = refl

no_miss : (input : Input) → filter_map miss_in (step_of input ∷ []) ≡ []
no_miss (Chunk client sheet) = refl
no_miss (Crumbed client crumb) = refl
no_miss (Triggered client trigger) = refl
no_miss (Asked ask) = refl
no_miss Turned = refl

-- ---- what answers note

-- the answer of a turn, if it has one
abbrev pub answer_in : GiverTurn → List Answer
answer_in turn = answers_in (turn ∷ [])

turn_answers : (turn : GiverTurn) (turns : List GiverTurn) → reverse (answers_in (turn ∷ turns)) ≡ reverse (answers_in turns) ++ answer_in turn
turn_answers (answered a) turns = reverse_cons a (answers_in turns)
turn_answers unread turns = sym (append-nil (reverse (answers_in turns)))
turn_answers (met stamps) turns = sym (append-nil (reverse (answers_in turns)))

stamps_noted : (lents : List Lent) (state : AgentState) (answer : Answered) (turn : GiverTurn) → IsOffered lents state answer turn → filter_map step_stamp (step_of_answer answer ∷ []) ≡ map (λ (a : Answer). a.stamp) (answer_in turn)
stamps_noted lents state (Given stamp) turn is = ap (λ t. map (λ (a : Answer). a.stamp) (answer_in t)) (sym is.2)
stamps_noted lents state (Missed stamp) turn is = ap (λ t. map (λ (a : Answer). a.stamp) (answer_in t)) (sym is)
stamps_noted lents state Unread turn is = ap (λ t. map (λ (a : Answer). a.stamp) (answer_in t)) (sym is)

misses_noted : (lents : List Lent) (state : AgentState) (answer : Answered) (turn : GiverTurn) → IsOffered lents state answer turn → filter_map miss_in (step_of_answer answer ∷ []) ≡ filter (λ (a : Answer). is_missed a.event) (answer_in turn)
misses_noted lents state (Given stamp) turn is = ap (λ t. filter (λ (a : Answer). is_missed a.event) (answer_in t)) (sym is.2)
misses_noted lents state (Missed stamp) turn is = ap (λ t. filter (λ (a : Answer). is_missed a.event) (answer_in t)) (sym is)
misses_noted lents state Unread turn is = ap (λ t. filter (λ (a : Answer). is_missed a.event) (answer_in t)) (sym is)

-- ---- as many turns that are no meeting as offers

abbrev pub is_offered : AgentEvent → ℕ
is_offered (Took input) = 0
is_offered (Gave answer) = 1

abbrev pub is_offer_turn : GiverTurn → ℕ
is_offer_turn (answered a) = 1
is_offer_turn unread = 1
is_offer_turn (met stamps) = 0

abbrev pub offers_among : List AgentEvent → ℕ
offers_among [] = 0
offers_among (event ∷ events) = is_offered event + offers_among events

abbrev pub offer_turns : List GiverTurn → ℕ
offer_turns [] = 0
offer_turns (turn ∷ turns) = is_offer_turn turn + offer_turns turns

pub offers_both : (xs ys : List AgentEvent) → offers_among (xs ++ ys) ≡ offers_among xs + offers_among ys
offers_both [] ys = omega arith
offers_both (x ∷ xs) ys = let rest = offers_both xs ys in omega (arith, rest)

pub offer_turns_both : (xs ys : List GiverTurn) → offer_turns (xs ++ ys) ≡ offer_turns xs + offer_turns ys
offer_turns_both [] ys = omega arith
offer_turns_both (x ∷ xs) ys = let rest = offer_turns_both xs ys in omega (arith, rest)

module _ (settings : PlainSettings) (node : ℕ) (lents : List Lent) where
  pub turns_stamps : (events : List AgentEvent) (turns : List GiverTurn) → AreTurns settings node lents events turns → log_stamps (steps_of events) ≡ map (λ (a : Answer). a.stamp) (reverse (answers_in turns))
  turns_stamps _ _ Begins = refl
  turns_stamps _ _ (Takes events turns input t) =
      ap (filter_map step_stamp) (steps_last events (Took input)) ∙ filter_map_last step_stamp (steps_of events) (step_of input) [] (no_stamp input) ∙ append-nil (log_stamps (steps_of events))
      ∙ turns_stamps events turns t
  turns_stamps _ _ (Offers events turns answer turn is t) =
      ap (filter_map step_stamp) (steps_last events (Gave answer))
      ∙ filter_map_last step_stamp (steps_of events) (step_of_answer answer) (map (λ (a : Answer). a.stamp) (answer_in turn)) (stamps_noted lents (after settings node events) answer turn is)
      ∙ ap (λ front. front ++ map (λ (a : Answer). a.stamp) (answer_in turn)) (turns_stamps events turns t)
      ∙ sym (map-append (λ (a : Answer). a.stamp) (reverse (answers_in turns)) (answer_in turn))
      ∙ sym (ap (map (λ (a : Answer). a.stamp)) (turn_answers turn turns))
  turns_stamps _ _ (Meets events turns stamps t) = turns_stamps events turns t

  pub turns_misses : (events : List AgentEvent) (turns : List GiverTurn) → AreTurns settings node lents events turns → filter_map miss_in (steps_of events) ≡ filter (λ (a : Answer). is_missed a.event) (reverse (answers_in turns))
  turns_misses _ _ Begins = refl
  turns_misses _ _ (Takes events turns input t) =
      ap (filter_map miss_in) (steps_last events (Took input)) ∙ filter_map_last miss_in (steps_of events) (step_of input) [] (no_miss input) ∙ append-nil (filter_map miss_in (steps_of events))
      ∙ turns_misses events turns t
  turns_misses _ _ (Offers events turns answer turn is t) =
      ap (filter_map miss_in) (steps_last events (Gave answer))
      ∙ filter_map_last miss_in (steps_of events) (step_of_answer answer) (filter (λ (a : Answer). is_missed a.event) (answer_in turn)) (misses_noted lents (after settings node events) answer turn is)
      ∙ ap (λ front. front ++ filter (λ (a : Answer). is_missed a.event) (answer_in turn)) (turns_misses events turns t)
      ∙ sym (filter-append (λ (a : Answer). is_missed a.event) (reverse (answers_in turns)) (answer_in turn))
      ∙ sym (ap (filter (λ (a : Answer). is_missed a.event)) (turn_answers turn turns))
  turns_misses _ _ (Meets events turns stamps t) = turns_misses events turns t

  abbrev IsGive : Answer → Type 0
  IsGive a = (is_any_given a.event ≡ true) ⊎ (is_missed a.event ≡ true)

  pub turns_kinds : (events : List AgentEvent) (turns : List GiverTurn) → AreTurns settings node lents events turns → AllByRecursion (λ (a : Answer). (is_any_given a.event ≡ true) ⊎ (is_missed a.event ≡ true)) (answers_in turns)
  turns_kinds _ _ Begins = tt
  turns_kinds _ _ (Takes events turns input t) = turns_kinds events turns t
  turns_kinds _ _ (Offers events turns (Given stamp) turn is t) = subst (λ x. AllByRecursion IsGive (answers_in (x ∷ turns))) (sym is.2) (inl refl, turns_kinds events turns t)
  turns_kinds _ _ (Offers events turns (Missed stamp) turn is t) = subst (λ x. AllByRecursion IsGive (answers_in (x ∷ turns))) (sym is) (inr refl, turns_kinds events turns t)
  turns_kinds _ _ (Offers events turns Unread turn is t) = subst (λ x. AllByRecursion IsGive (answers_in (x ∷ turns))) (sym is) (turns_kinds events turns t)
  turns_kinds _ _ (Meets events turns stamps t) = turns_kinds events turns t

  -- ---- what was given

  -- a give is answered as the lease of its chunk says
  abbrev pub IsNamed : (GivenPlace → Option Answer) → Type 0
  IsNamed give = (place : ℕ) (lent : Lent) (stamp : ℕ) → slice_get lents place ≡ Some lent → give (record { place = place; stamp = stamp }) ≡ Some (record { stamp = stamp; event = pool.Given lent.buffer; draw = lent.draw })

  module _ (adds : EventsAddThis) (give : GivenPlace → Option Answer) (named : IsNamed give) where
    given_more : (state : AgentState) (answer : Answered) (turn : GiverTurn) → IsOffered lents state answer turn
        → filter_map give (after_event settings node state (Gave answer)).given ≡ filter_map give state.given ++ filter (λ (a : Answer). is_any_given a.event) (answer_in turn)
    given_more state (Missed stamp) turn is = sym (append-nil (filter_map give state.given)) ∙ ap (λ t. filter_map give state.given ++ filter (λ (a : Answer). is_any_given a.event) (answer_in t)) (sym is)
    given_more state Unread turn is = sym (append-nil (filter_map give state.given)) ∙ ap (λ t. filter_map give state.given ++ filter (λ (a : Answer). is_any_given a.event) (answer_in t)) (sym is)
    given_more state (Given stamp) turn (lent, first, is) =
        by_hand state.hand refl ∙ ap (λ t. filter_map give state.given ++ filter (λ (a : Answer). is_any_given a.event) (answer_in t)) (sym is)
      where
        by_hand : (hand : List ℕ) → state.hand ≡ hand
            → filter_map give (after_event settings node state (Gave (Given stamp))).given ≡ filter_map give state.given ++ record { stamp = stamp; event = pool.Given lent.buffer; draw = lent.draw } ∷ []
        by_hand [] none = let no : None ≡ Some first.place = sym (ap (λ hand. slice_get hand 0) none) ∙ first.first in absurd cc
        by_hand (place ∷ hand) some =
            let same : Some place ≡ Some first.place = sym (ap (λ hand. slice_get hand 0) some) ∙ first.first in
            let place_is : place ≡ first.place = cc in
            ap (λ (h : List ℕ). filter_map give (give_back stamp h state).given) some
            ∙ filter_map-append give state.given (record { place = place; stamp = stamp } ∷ [])
            ∙ ap (λ (o : Option Answer). filter_map give state.given ++ cons_option o [])
            (ap (λ p. give (record { place = p; stamp = stamp })) place_is ∙ named first.place lent stamp first.came)

    pub turns_gives : (events : List AgentEvent) (turns : List GiverTurn) → AreTurns settings node lents events turns
        → filter_map give (after settings node events).given ≡ filter (λ (a : Answer). is_any_given a.event) (reverse (answers_in turns))
    turns_gives _ _ Begins = refl
    turns_gives _ _ (Takes events turns input t) =
        ap (λ (state : AgentState). filter_map give state.given) (after_last settings node events (Took input)) ∙ ap (filter_map give) ((adds settings node (after settings node events)).given input) ∙ turns_gives events turns t
    turns_gives _ _ (Offers events turns answer turn is t) =
        ap (λ (state : AgentState). filter_map give state.given) (after_last settings node events (Gave answer))
        ∙ given_more (after settings node events) answer turn is
        ∙ ap (λ front. front ++ filter (λ (a : Answer). is_any_given a.event) (answer_in turn)) (turns_gives events turns t)
        ∙ sym (filter-append (λ (a : Answer). is_any_given a.event) (reverse (answers_in turns)) (answer_in turn))
        ∙ sym (ap (filter (λ (a : Answer). is_any_given a.event)) (turn_answers turn turns))
    turns_gives _ _ (Meets events turns stamps t) = turns_gives events turns t

    known_more : (state : AgentState) (answer : Answered) (turn : GiverTurn) → IsOffered lents state answer turn → AllByRecursion (λ (given : GivenPlace). (a : Answer) × (give given ≡ Some a)) state.given
        → AllByRecursion (λ (given : GivenPlace). (a : Answer) × (give given ≡ Some a)) (after_event settings node state (Gave answer)).given
    known_more state (Missed stamp) turn is all = all
    known_more state Unread turn is all = all
    known_more state (Given stamp) turn (lent, first, is) all = by_hand state.hand refl
      where
        by_hand : (hand : List ℕ) → state.hand ≡ hand → AllByRecursion (λ (given : GivenPlace). (a : Answer) × (give given ≡ Some a)) (after_event settings node state (Gave (Given stamp))).given
        by_hand [] none = let no : None ≡ Some first.place = sym (ap (λ hand. slice_get hand 0) none) ∙ first.first in absurd cc
        by_hand (place ∷ hand) some =
            let same : Some place ≡ Some first.place = sym (ap (λ hand. slice_get hand 0) some) ∙ first.first in
            let place_is : place ≡ first.place = cc in
            subst (λ (h : List ℕ). AllByRecursion (λ (given : GivenPlace). (a : Answer) × (give given ≡ Some a)) (give_back stamp h state).given) (sym some)
            (all_append (λ (given : GivenPlace). (a : Answer) × (give given ≡ Some a)) state.given (record { place = place; stamp = stamp } ∷ []) all
            ((record { stamp = stamp; event = pool.Given lent.buffer; draw = lent.draw }, ap (λ p. give (record { place = p; stamp = stamp })) place_is ∙ named first.place lent stamp first.came), tt))

    pub turns_known : (events : List AgentEvent) (turns : List GiverTurn) → AreTurns settings node lents events turns → AllByRecursion (λ (given : GivenPlace). (a : Answer) × (give given ≡ Some a)) (after settings node events).given
    turns_known _ _ Begins = tt
    turns_known _ _ (Takes events turns input t) =
        subst (λ (state : AgentState). AllByRecursion (λ (given : GivenPlace). (a : Answer) × (give given ≡ Some a)) state.given) (sym (after_last settings node events (Took input)))
        (subst (AllByRecursion (λ (given : GivenPlace). (a : Answer) × (give given ≡ Some a))) (sym ((adds settings node (after settings node events)).given input)) (turns_known events turns t))
    turns_known _ _ (Offers events turns answer turn is t) =
        subst (λ (state : AgentState). AllByRecursion (λ (given : GivenPlace). (a : Answer) × (give given ≡ Some a)) state.given) (sym (after_last settings node events (Gave answer)))
        (known_more (after settings node events) answer turn is (turns_known events turns t))
    turns_known _ _ (Meets events turns stamps t) = turns_known events turns t

  -- ---- the turns before an unread one

  pub record SplitAt (before : List AgentEvent) (turns : List GiverTurn) : Type 0 where
    pub later : List GiverTurn
    pub earlier : List GiverTurn
    pub turns_are : turns ≡ later ++ unread ∷ earlier
    pub are : AreTurns settings node lents before earlier

  split_earlier : (before : List AgentEvent) (turn : GiverTurn) (turns : List GiverTurn) → SplitAt before turns → SplitAt before (turn ∷ turns)
  split_earlier before turn turns s = record { later = turn ∷ s.later; earlier = s.earlier; turns_are = ap (λ rest. turn ∷ rest) s.turns_are; are = s.are }

  pub turns_split : (events : List AgentEvent) (turns : List GiverTurn) → AreTurns settings node lents events turns → (before behind : List AgentEvent) → events ≡ before ++ Gave Unread ∷ behind → SplitAt before turns
  turns_split _ _ Begins before behind is = nothing before is
    where
      nothing : (before : List AgentEvent) → [] ≡ before ++ Gave Unread ∷ behind → SplitAt before []
      nothing [] never = absurd cc
      nothing (b ∷ before) never = absurd cc
  turns_split _ _ (Takes events turns input t) before behind is =
      either (last_or_earlier events before behind (Took input) (Gave Unread) is) (λ rest list. turns_split events turns t before rest list)
    where
      either : ((behind ≡ []) × (events ≡ before) × (Took input ≡ Gave Unread)) ⊎ StandsEarlier events before (Gave Unread) (Took input) behind
          → ((rest : List AgentEvent) → events ≡ before ++ Gave Unread ∷ rest → SplitAt before turns) → SplitAt before turns
      either (inl (none, same, never)) earlier = absurd cc
      either (inr s) earlier = earlier s.rest s.list_is
  turns_split _ _ (Offers events turns answer turn is t) before behind list =
      either (last_or_earlier events before behind (Gave answer) (Gave Unread) list) (λ rest list. turns_split events turns t before rest list)
    where
      either : ((behind ≡ []) × (events ≡ before) × (Gave answer ≡ Gave Unread)) ⊎ StandsEarlier events before (Gave Unread) (Gave answer) behind
          → ((rest : List AgentEvent) → events ≡ before ++ Gave Unread ∷ rest → SplitAt before turns) → SplitAt before (turn ∷ turns)
      either (inl (none, same, last)) earlier =
          let unread_is : answer ≡ Unread = cc in
          let turn_is : turn ≡ unread = subst (λ a. IsOffered lents (after settings node events) a turn) unread_is is in
          record { later = []; earlier = turns; turns_are = ap (λ t. t ∷ turns) turn_is; are = subst (λ (xs : List AgentEvent). AreTurns settings node lents xs turns) same t }
      either (inr s) earlier = split_earlier before turn turns (earlier s.rest s.list_is)
  turns_split _ _ (Meets events turns stamps t) before behind is = split_earlier before (met stamps) turns (turns_split events turns t before behind is)

  one_turn : (state : AgentState) (answer : Answered) (turn : GiverTurn) → IsOffered lents state answer turn → is_offer_turn turn ≡ 1
  one_turn state (Given stamp) turn is = ap is_offer_turn is.2
  one_turn state (Missed stamp) turn is = ap is_offer_turn is
  one_turn state Unread turn is = ap is_offer_turn is

  pub turns_count : (events : List AgentEvent) (turns : List GiverTurn) → AreTurns settings node lents events turns → offer_turns turns ≡ offers_among events
  turns_count _ _ Begins = refl
  turns_count _ _ (Takes events turns input t) = let rest = turns_count events turns t in let both = offers_both events (Took input ∷ []) in omega (arith, rest, both)
  turns_count _ _ (Offers events turns answer turn is t) =
      let rest = turns_count events turns t in let both = offers_both events (Gave answer ∷ []) in let one = one_turn (after settings node events) answer turn is in omega (arith, rest, both, one)
  turns_count _ _ (Meets events turns stamps t) = let rest = turns_count events turns t in omega (arith, rest)
