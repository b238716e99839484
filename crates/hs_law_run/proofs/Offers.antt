-- A pass that offers until its hand is empty, or until an offer is unread, makes all its offers.
use Rattle.std.proofs.Common.{◌≡◌, ◌⊎◌, inl, inr, ℕ, zero, suc, ◌+◌, ◌-◌, true, false, ◌||◌, ◌==◌, not, List, [], ◌∷◌, ◌++◌, length, take, drop, refl, sym, ap, subst, ◌∙◌, arith, map, zip, append_assoc, eq-eqb, slice_get, Some}
use Rattle.hs_law_run.proofs.Prelude.{AllByRecursion, range_with_len, list_all, list_any, and_from, length-append, map-append, all_append, Step, PlainJournal, EventsAddThis, AgentState, Answered, Missed, Unread, AgentEvent, step_of_answer, PlainWorkload, NodeRun, Run, queues_of, is_unread, steps_in, state_behind, NodeDoings, steps_of, state_after, journal_of, node_at_end, IsPass, EndsPass, DoingsAreFollowed, EndsPasses, all_by_place, all_each}
use Rattle.hs_law_agent.specs.Stepping.{Given}
use Rattle.std.proofs.lemmas.Bool.{or_right}
use Rattle.hs_records.specs.declared.journal.Step.TheVariants as steps
use Rattle.hs_law_journal.specs.Passes.{is_offer, but_last, last_of, pass_ends, offers_end}
use Rattle.hs_law_journal.proofs.Logs.{IsTake}
use Rattle.hs_law_journal.specs.LoopPasses.{IsStamped}
use Rattle.hs_law_run.specs.Playing.{MakeTheirOffers}
use Rattle.hs_law_run.proofs.Behind.{log_passes, state_there}
use Rattle.hs_law_run.proofs.Clauses.{mapped_true}
use Rattle.hs_law_journal.proofs.Passes.{items, offers_of, all_takes}

-- ---- none is unread

abbrev NoUnread : List Step → Type 0
NoUnread log = AllByRecursion (λ s. is_unread s ≡ false) log

none_any : (log : List Step) → NoUnread log → list_any is_unread log ≡ false
none_any [] all = refl
none_any (step ∷ log) all = ap (λ b. b || list_any is_unread log) all.0 ∙ none_any log all.1

none_taken : (k : ℕ) (log : List Step) → NoUnread log → NoUnread (take k log)
none_taken zero log all = tt
none_taken (suc k) [] all = tt
none_taken (suc k) (step ∷ log) all = (all.0, none_taken k log all.1)

no_take : (log : List Step) → AllByRecursion IsTake log → NoUnread log
no_take [] all = tt
no_take (step ∷ log) all = (no_offer step all.0.offer, no_take log all.1)
  where
    no_offer : (step : Step) → is_offer step ≡ false → is_unread step ≡ false
    no_offer (steps.Chunk c) h = refl
    no_offer (steps.Crumb c) h = refl
    no_offer (steps.Trigger c) h = refl
    no_offer steps.Ask h = refl
    no_offer steps.Turn h = refl
    no_offer (steps.Given stamp) h = refl
    no_offer (steps.Missed stamp) h = refl
    no_offer steps.Unread h = h

no_stamped : (offers : List Answered) → AllByRecursion IsStamped offers → NoUnread (offers_of offers)
no_stamped [] all = tt
no_stamped (Given stamp ∷ offers) all = (refl, no_stamped offers all.1)
no_stamped (Missed stamp ∷ offers) all = (refl, no_stamped offers all.1)
no_stamped (Unread ∷ offers) all = absurd all.0

-- ---- the last step

but_last_is : (log : List Step) (last : Step) → but_last (log ++ last ∷ []) ≡ log
but_last_is log last = let long = length-append log (last ∷ []) in let less : length (log ++ last ∷ []) - 1 ≡ length log = omega (arith, long) in ap (λ k. take k (log ++ last ∷ [])) less ∙ front log
  where
    front : (log : List Step) → take (length log) (log ++ last ∷ []) ≡ log
    front [] = refl
    front (step ∷ log) = ap (λ rest. step ∷ rest) (front log)

last_is : (log : List Step) (last : Step) → last_of (log ++ last ∷ []) ≡ last ∷ []
last_is log last = let long = length-append log (last ∷ []) in let less : length (log ++ last ∷ []) - 1 ≡ length log = omega (arith, long) in ap (λ k. drop k (log ++ last ∷ [])) less ∙ back log
  where
    back : (log : List Step) → drop (length log) (log ++ last ∷ []) ≡ last ∷ []
    back [] = refl
    back (step ∷ log) = back log

module _ (adds : EventsAddThis) (W : PlainWorkload) (J : PlainJournal) (n : NodeDoings) where
  module _ (all : EndsPasses W n) where
    all_passes : AllByRecursion (IsPass W) n.passes
    all_passes = all_by_place (IsPass W) n.passes (λ k pass h. (all k pass h).is_pass)

    abbrev run : NodeRun
    run = node_at_end W J n

    abbrev cut : List (List Step)
    cut = map steps_of n.passes

    ends_at : (place : ℕ) (pass : List AgentEvent) → EndsPass W (state_after W.settings n (suc place)) pass → pass_ends W.settings run cut (suc place) (steps_of pass) ≡ true
    ends_at place pass e = either e.ends
      where
        quiet : NoUnread (items W pass e.is_pass)
        quiet = no_take (items W pass e.is_pass) (all_takes e.is_pass.counts (queues_of W))

        front : NoUnread (items W pass e.is_pass ++ steps.Turn ∷ offers_of e.before)
        front = all_append (λ s. is_unread s ≡ false) (items W pass e.is_pass) (steps.Turn ∷ offers_of e.before) quiet (refl, no_stamped e.before e.stamped)

        either : ((e.is_pass.offers ≡ e.before) × ((state_after W.settings n (suc place)).hand ≡ [])) ⊎ (e.is_pass.offers ≡ e.before ++ Unread ∷ []) → pass_ends W.settings run cut (suc place) (steps_of pass) ≡ true
        either (inl both) =
            let is : steps_of pass ≡ items W pass e.is_pass ++ steps.Turn ∷ offers_of e.before = e.is_pass.steps_are ∙ ap (λ offers. items W pass e.is_pass ++ steps.Turn ∷ offers_of offers) both.0 in
            let none : NoUnread (steps_of pass) = subst NoUnread (sym is) front in
            let hand : length (state_behind W.settings run (steps_in cut (suc place))).hand ≡ 0 = ap (λ (s : AgentState). length s.hand) (state_there adds W J n all_passes (suc place)) ∙ ap length both.1 in
            and_from (not (list_any is_unread (but_last (steps_of pass)))) _
            (ap not (none_any (but_last (steps_of pass)) (none_taken (length (steps_of pass) - 1) (steps_of pass) none)))
            (or_right (list_any is_unread (last_of (steps_of pass))) _ (eq-eqb (length (state_behind W.settings run (steps_in cut (suc place))).hand) 0 hand))
        either (inr unread) =
            let log = items W pass e.is_pass ++ steps.Turn ∷ offers_of e.before in
            let is : steps_of pass ≡ log ++ steps.Unread ∷ [] =
            e.is_pass.steps_are
            ∙ ap (λ offers. items W pass e.is_pass ++ steps.Turn ∷ offers_of offers) unread
            ∙ ap (λ offers. items W pass e.is_pass ++ steps.Turn ∷ offers) (map-append step_of_answer e.before (Unread ∷ []))
            ∙ sym (append_assoc (items W pass e.is_pass) (steps.Turn ∷ offers_of e.before) (steps.Unread ∷ []))
            in
            and_from (not (list_any is_unread (but_last (steps_of pass)))) _
            (ap (λ log. not (list_any is_unread (but_last log))) is ∙ ap (λ log. not (list_any is_unread log)) (but_last_is log steps.Unread) ∙ ap not (none_any log front))
            (ap (λ found. found || (length (state_behind W.settings run (steps_in cut (suc place))).hand == 0)) (ap (λ log. list_any is_unread (last_of log)) is ∙ ap (list_any is_unread) (last_is log steps.Unread)))

    ends_from : (place : ℕ) (passes : List (List AgentEvent)) → ((i : ℕ) (pass : List AgentEvent) → slice_get passes i ≡ Some pass → EndsPass W (state_after W.settings n (suc (place + i))) pass)
        → list_all (λ (pass : ℕ × List Step). pass_ends W.settings run cut pass.0 pass.1) (zip (range_with_len (suc place) (length (map steps_of passes))) (map steps_of passes)) ≡ true
    ends_from place [] each = refl
    ends_from place (pass ∷ passes) each =
        let more : suc place + 1 ≡ suc (suc place) = omega arith in
        let zeroth : place + 0 ≡ place = omega arith in
        and_from (pass_ends W.settings run cut (suc place) (steps_of pass)) (list_all (λ (pass : ℕ × List Step). pass_ends W.settings run cut pass.0 pass.1) (zip (range_with_len (suc place + 1) (length (map steps_of passes))) (map steps_of passes)))
        (ends_at place pass (subst (λ m. EndsPass W (state_after W.settings n (suc m)) pass) zeroth (each 0 pass refl)))
        (ap (λ start. list_all (λ (pass : ℕ × List Step). pass_ends W.settings run cut pass.0 pass.1) (zip (range_with_len start (length (map steps_of passes))) (map steps_of passes))) more
        ∙ ends_from (suc place) passes (λ i p h. let next : place + suc i ≡ suc place + i = omega arith in subst (λ m. EndsPass W (state_after W.settings n (suc m)) p) next (each (suc i) p h)))

    offers_made : offers_end W.settings run ≡ true
    offers_made =
        ap (λ passes. list_all (λ (pass : ℕ × List Step). pass_ends W.settings run passes pass.0 pass.1) (zip (range_with_len 1 (length passes)) passes)) (log_passes adds W J n all_passes)
        ∙ ends_from 0 n.passes (λ k pass h. let zeroth : k ≡ 0 + k = omega arith in subst (λ m. EndsPass W (state_after W.settings n (suc m)) pass) zeroth (all k pass h))

  pub made : EndsPasses W n → offers_end W.settings (node_at_end W J n) ≡ true
  made all = offers_made all

pub make_their_offers : DoingsAreFollowed → EventsAddThis → MakeTheirOffers
make_their_offers follows adds W d facts offers =
    ap (λ (run : Run). list_all (offers_end W.settings) run.nodes) (follows W d facts)
    ∙ mapped_true (offers_end W.settings) (node_at_end W (journal_of W d)) d.nodes
    (all_each (EndsPasses W) (λ (n : NodeDoings). offers_end W.settings (node_at_end W (journal_of W d) n) ≡ true) d.nodes (λ n all. made adds W (journal_of W d) n all) offers)
