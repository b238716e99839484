-- What the agents give, step by step: from the front of the hand, each chunk with the buffer of its page and with the next stamp.
use Rattle.std.proofs.Common.{◌≡◌, ℕ, zero, suc, ◌+◌, ◌<◌, ◌≤◌, ◌^◌, List, [], ◌∷◌, ◌++◌, length, refl, sym, ap, subst, ◌∙◌, Some, arith, map, option_map, drop, take, reverse, slice_get, append-nil}
use Rattle.hs_law_run.proofs.Prelude.{range_with_len, option_and_then, map-append, length-reverse, reverse-append, length-range_with_len, same_Some, all_at, Messages, Step, Gave, PlainSettings, PlainWorkload, PoolEvent, Given, IsHistoryBack, MayFollow, NodeRun, event_of, perform, followed, StampedPoolEvent, by_stamp, pool_events, pool_history, Known, Machine, give_steps, agents_give, node_at, heard_in, after_steps, IsReached}
use Rattle.std.proofs.lemmas.List.{length-drop}
use Rattle.hs_records.specs.declared.journal.Step.TheVariants as steps
use Rattle.hs_law_agent.specs.Stepping as model
use Rattle.hs_law_run.specs.Parts.{GivesNext, AgentGives}
use Rattle.hs_law_run.proofs.Followed.{left_is, give_there, StepsThere}
use Rattle.hs_law_run.proofs.Growing.{events_back, history_of, IsBelow, comes_last}
use Rattle.hs_law_run.proofs.Held.{node_events, IsHeld, HeldUpTo, pool_is, buffer_given, buffer_there, give_held, give_events}
use Rattle.hs_law_run.proofs.Holding.{given_as}
use Rattle.hs_law_run.proofs.Performed.{first_step, first_of_steps}
use Rattle.hs_law_run.proofs.Standing.{held_at}
use Rattle.hs_law_journal.proofs.StepByStep.{steps_on}
use Rattle.hs_law_run.proofs.Taking.{history_is, before, done, behind, CameBy, all_came, comes_to}
use Rattle.hs_law_run.proofs.Walks.{IsEmptied, gives_walk}

-- ---- histories

-- as many events as happened
pub history_long : (settings : PlainSettings) (run : NodeRun) → IsHeld settings run → length (pool_history run) ≡ length (node_events run)
history_long settings run h = ap length (history_is settings run h) ∙ sym (length-reverse (history_of (node_events run))) ∙ h.holds.pooled.count

-- an event with the next stamp is the last of the history
history_more : (es : List StampedPoolEvent) (buffer : ℕ) → IsBelow (length es) es → history_of (es ++ given_as (length es) buffer ∷ []) ≡ history_of es ++ Given buffer ∷ []
history_more es buffer low =
    let none = append-nil es in
    let below : IsBelow (length (es ++ [])) (es ++ []) = subst (λ (es : List StampedPoolEvent). IsBelow (length es) es) (sym none) low in
    ap (λ (all : List StampedPoolEvent). history_of (es ++ given_as (length all) buffer ∷ [])) (sym none)
    ∙ ap (map (λ (e : StampedPoolEvent). e.event)) (comes_last es [] (Given buffer) below)
    ∙ map-append (λ (e : StampedPoolEvent). e.event) (by_stamp (λ (e : StampedPoolEvent). e.stamp) (length (es ++ [])) (es ++ [])) (given_as (length (es ++ [])) buffer ∷ [])
    ∙ ap (λ (all : List StampedPoolEvent). history_of all ++ Given buffer ∷ []) none

-- ---- gives from a stamp on

abbrev gives_from : ℕ → ℕ → List Step
gives_from stamp count = map (λ (stamp : ℕ). steps.Given stamp) (range_with_len stamp count)

-- the first of them
first_gives : (given count stamp : ℕ) → given ≤ count → take given (gives_from stamp count) ≡ gives_from stamp given
first_gives zero count stamp low = refl
first_gives (suc given) zero stamp low = absurd (omega (arith, low))
first_gives (suc given) (suc count) stamp low = ap (λ (rest : List Step). steps.Given stamp ∷ rest) (first_gives given count (stamp + 1) (omega (arith, low)))

gives_last : (given stamp : ℕ) → gives_from stamp (given + 1) ≡ gives_from stamp given ++ steps.Given (stamp + given) ∷ []
gives_last zero stamp = let here : stamp ≡ stamp + 0 = omega arith in ap (λ (n : ℕ). steps.Given n ∷ []) here
gives_last (suc given) stamp =
    let there : stamp + 1 + given ≡ stamp + suc given = omega arith in
    let one : suc given + 1 ≡ suc (given + 1) = omega arith in
    ap (gives_from stamp) one
    ∙ ap (λ (rest : List Step). steps.Given stamp ∷ rest) (gives_last given (stamp + 1) ∙ ap (λ (n : ℕ). gives_from (stamp + 1) given ++ steps.Given n ∷ []) there)

-- a node that gave so many of its hand
record Gives (settings : PlainSettings) (stamp given : ℕ) (run later : NodeRun) (k : Known) : Type 0 where
  held : HeldUpTo k.adds k.go_on k.places settings (stamp + given) later
  hand : later.state.hand ≡ drop given run.state.hand
  sends : later.sends ≡ run.sends

module _ (k : Known) (settings : PlainSettings) (heard : Messages) where
  abbrev UpTo : ℕ → NodeRun → Type 0
  UpTo stamp run = HeldUpTo k.adds k.go_on k.places settings stamp run

  -- a give with the next stamp is ready while the hand has a chunk
  give_event : (stamp place : ℕ) (hand : List ℕ) (run : NodeRun) → run.state.hand ≡ place ∷ hand → event_of run heard (steps.Given stamp) ≡ Some (Gave (model.Given stamp))
  give_event stamp place hand run e = ap (λ (hand : List ℕ). option_map (λ _. Gave (model.Given stamp)) (slice_get hand 0)) e

  give_hand : (stamp place : ℕ) (hand : List ℕ) (run : NodeRun) → run.state.hand ≡ place ∷ hand → (perform settings [] run (Gave (model.Given stamp))).state.hand ≡ hand
  give_hand stamp place hand run e = ap (λ (hand : List ℕ). (model.give_back stamp hand run.state).hand) e

  gives_hold : (given stamp : ℕ) (run later : NodeRun) → given ≤ length run.state.hand → UpTo stamp run → after_steps settings heard (gives_from stamp given) run ≡ Some later → Gives settings stamp given run later k
  gives_hold zero stamp run later low h e =
      let same = same_Some run later e in
      let here : stamp ≡ stamp + 0 = omega arith in
      record { held = subst (λ (n : ℕ). UpTo n later) here (subst (UpTo stamp) same h); hand = ap (λ (n : NodeRun). n.state.hand) (sym same); sends = ap (λ (n : NodeRun). n.sends) (sym same) }
  gives_hold (suc given) stamp run later low h e = go (gives_hold given (stamp + 1)) run.state.hand refl
    where
      go : ((run later : NodeRun) → given ≤ length run.state.hand → UpTo (stamp + 1) run → after_steps settings heard (gives_from (stamp + 1) given) run ≡ Some later → Gives settings (stamp + 1) given run later k)
          → (hand : List ℕ) → run.state.hand ≡ hand → Gives settings stamp (suc given) run later k
      go others [] is = let none = ap length is in absurd (omega (arith, low, none))
      go others (place ∷ hand) is =
          let f = first_of_steps settings heard (steps.Given stamp) (gives_from (stamp + 1) given) run later e in
          let event : Gave (model.Given stamp) ≡ f.event = same_Some (Gave (model.Given stamp)) f.event (sym (give_event stamp place hand run is) ∙ f.met) in
          let next = perform settings [] run (Gave (model.Given stamp)) in
          let on : after_steps settings heard (gives_from (stamp + 1) given) next ≡ Some later = ap (λ event. after_steps settings heard (gives_from (stamp + 1) given) (perform settings [] run event)) event ∙ f.on in
          let left = give_hand stamp place hand run is in
          let long = ap length is in
          let rest = ap length left in
          let g = others next later (omega (arith, low, long, rest)) (give_held k.adds k.go_on k.places settings stamp place hand run [] is h) on in
          let there : stamp + 1 + given ≡ stamp + suc given = omega arith in
          record {
            held = subst (λ (n : ℕ). UpTo n later) there g.held;
            hand = g.hand ∙ ap (drop given) left ∙ ap (drop (suc given)) (sym is);
            sends = g.sends;
          }

  -- ---- the next give

  record NextGive (stamp : ℕ) (run : NodeRun) (buffer : ℕ) : Type 0 where
    next : NodeRun
    gives : after_steps settings heard (steps.Given stamp ∷ []) run ≡ Some next
    history : pool_history next ≡ pool_history run ++ Given buffer ∷ []
    may : MayFollow settings.buffers (reverse (pool_history run)) (Given buffer)

  next_give : (stamp place : ℕ) (hand : List ℕ) (run : NodeRun) (is : run.state.hand ≡ place ∷ hand) (h : UpTo stamp run) → NextGive stamp run (buffer_given k.adds k.go_on k.places settings place hand run is h.held)
  next_give stamp place hand run is h =
      let buffer = buffer_given k.adds k.go_on k.places settings place hand run is h.held in
      let next = perform settings [] run (Gave (model.Given stamp)) in
      let later = give_held k.adds k.go_on k.places settings stamp place hand run [] is h in
      let more : history_of (node_events next) ≡ history_of (node_events run) ++ Given buffer ∷ [] =
      ap history_of (give_events k.adds k.go_on k.places settings stamp place hand run [] is h) ∙ history_more (node_events run) buffer h.held.holds.pooled.low
      in
      let back : events_back (node_events next) ≡ Given buffer ∷ reverse (pool_history run) =
      ap reverse more ∙ reverse-append (history_of (node_events run)) (Given buffer ∷ []) ∙ ap (λ (es : List PoolEvent). Given buffer ∷ reverse es) (sym (history_is settings run h.held))
      in
      record {
        next = next;
        gives = first_step settings heard (steps.Given stamp) [] run (Gave (model.Given stamp)) (give_event stamp place hand run is);
        history = history_is settings next later.held ∙ more ∙ ap (λ (es : List PoolEvent). es ++ Given buffer ∷ []) (sym (history_is settings run h.held));
        may = (subst (IsHistoryBack settings.buffers) back later.held.holds.pooled.history).1;
      }

-- ---- they give

module _ (k : Known) (W : PlainWorkload) (m : Machine) (r : IsReached W m) where
  pub gives_there : StepsThere k W m give_steps (done k W m r) (CameBy k W m r give_steps)
  gives_there =
      all_came k W m r give_steps
      (λ i node stands.
      let long = length-range_with_len (length (pool_events node)) (length node.state.hand) in
      let w =
      gives_walk k.noted W.settings (before k W m r).heard (range_with_len (length (pool_events node)) (length node.state.hand)) (behind k W m r give_steps node)
      (left_is k W m give_steps (done k W m r) i node stands) (sym long)
      in
      record { last = w.last; walks = w.walks; ends = w.ends.through })

  module _ (few : (i : ℕ) (run later : NodeRun) → node_at W m.journal i ≡ Some run → later.sends ≡ run.sends → IsHeld W.settings later → length (node_events later) < 2 ^ 32) (i : ℕ) (run : NodeRun) (stands : node_at W m.journal i ≡ Some run) where
    held_here : IsHeld W.settings run
    held_here = held_at k W m r i run stands

    count_is : length (pool_events run) ≡ length (node_events run)
    count_is = ap length (pool_is run held_here.holds.missed)

    up_to : UpTo k W.settings (heard_in W m.journal) (length (pool_events run)) run
    up_to = record { held = held_here; events = sym count_is }

    give_each : (given : ℕ) (at : NodeRun) → given < length run.state.hand → after_steps W.settings (heard_in W m.journal) (take given (give_steps run)) run ≡ Some at → GivesNext W m run at given
    give_each given at low e = go at.state.hand refl
      where
        first : take given (give_steps run) ≡ gives_from (length (pool_events run)) given
        first = first_gives given (length run.state.hand) (length (pool_events run)) (omega (arith, low))

        g : Gives W.settings (length (pool_events run)) given run at k
        g =
            gives_hold k W.settings (heard_in W m.journal) given (length (pool_events run)) run at (omega (arith, low)) up_to
            (ap (λ (steps : List Step). after_steps W.settings (heard_in W m.journal) steps run) (sym first) ∙ e)

        steps_are : take (given + 1) (give_steps run) ≡ gives_from (length (pool_events run)) given ++ steps.Given (length (pool_events run) + given) ∷ []
        steps_are = first_gives (given + 1) (length run.state.hand) (length (pool_events run)) (omega (arith, low)) ∙ gives_last given (length (pool_events run))

        came : after_steps W.settings (heard_in W m.journal) (gives_from (length (pool_events run)) given) run ≡ Some at
        came = ap (λ (steps : List Step). after_steps W.settings (heard_in W m.journal) steps run) (sym first) ∙ e

        go : (hand : List ℕ) → at.state.hand ≡ hand → GivesNext W m run at given
        go [] is =
            let none : length (drop given run.state.hand) ≡ 0 = ap length (sym g.hand ∙ is) in
            let long = length-drop given run.state.hand in
            absurd (omega (arith, low, none, long))
        go (place ∷ hand) is =
            let h = g.held in
            let n = next_give k W.settings (heard_in W m.journal) (length (pool_events run) + given) place hand at is h in
            let long = history_long W.settings at h.held in
            let most = few i run at stands g.sends h.held in
            record {
              hand = g.hand;
              stamp = long ∙ h.events;
              few = omega (arith, long, most);
              place = place;
              first = ap (λ (hand : List ℕ). slice_get hand 0) is;
              buffer = buffer_given k.adds k.go_on k.places W.settings place hand at is h.held;
              is = buffer_there k.adds k.go_on k.places W.settings place hand at is h.held;
              may = n.may;
              next = n.next;
              gives =
                  ap (λ (steps : List Step). after_steps W.settings (heard_in W m.journal) steps run) steps_are
                  ∙ steps_on W.settings (heard_in W m.journal) (gives_from (length (pool_events run)) given) (steps.Given (length (pool_events run) + given) ∷ []) run
                  ∙ ap (option_and_then (after_steps W.settings (heard_in W m.journal) (steps.Given (length (pool_events run) + given) ∷ []))) came
                  ∙ n.gives;
              history = n.history;
            }

    pub agent_gives : AgentGives W m (agents_give W m) i run
    agent_gives =
        let c = comes_to k W m r give_steps gives_there i run stands in
        record {
          later = c.later;
          node = c.there;
          gives = c.came;
          each = give_each;
          emptied =
              (all_at (IsEmptied k.noted W.settings (heard_in W m.journal)) (followed W (agents_give W m).journal).nodes i c.later
              (give_there k W m (done k W m r)).each c.there).hand;
          heard = gives_there.heard;
        }
