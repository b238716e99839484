-- Two steps that are ready at once can be performed one after the other, in either order, and come to the same run. So all orders
-- that lead to rest come to one run; and each step leaves one step less.
use Rattle.std.proofs.Common.{◌≡◌, ◌≢◌, ◌⊎◌, inl, inr, ℕ, zero, suc, ◌+◌, ◌≤◌, true, List, [], ◌∷◌, ◌++◌, length, set, drop, refl, sym, ap, subst, ◌∙◌, Option, Some, None, arith, map, option_map, slice_get, unwrap_or, sum_by, eqb, eqb-true, get_or}
use Rattle.hs_law_journal.proofs.Prelude.{list_all, range_with_len, and_parts, cases_eq, nil_from_length, sum_by-cons, slice_get_within, same_Some, NodeId, Message, Messages, message, Step, PlainJournal, StepsSayWhatTheyTell, PlainSettings, PlainWorkload, NodeRun, Run, is_from, node_start, run_start, step_of, step_node, step_lowest, message_of, hear, step_run, follow, step_count, Performs, Leads, Stays, Goes, FollowingPlaysOut, option_and_then, count_by, get_set, get_other, mapped_from}
use Rattle.std.proofs.lemmas.List.Sums.{sum_by-set}
use Rattle.std.proofs.lemmas.Option.{get_or_from_slice_get}
use Rattle.hs_law_journal.specs.Orders.{with_node, StepsNode, Hears, IsAtRest, OrdersAgree, DoneIsAtRest}
use Rattle.hs_law_journal.proofs.Steps.{step_from, step_stays, said_stays, heard_from, heard_to}

-- ---- places

module _ {X : Type 0} where
  set_apart : (xs : List X) (i j : ℕ) (a b : X) → i ≢ j → set (set xs i a) j b ≡ set (set xs j b) i a
  set_apart [] i j a b ne = refl
  set_apart (z ∷ xs) zero zero a b ne = absurd (ne refl)
  set_apart (z ∷ xs) zero (suc j) a b ne = refl
  set_apart (z ∷ xs) (suc i) zero a b ne = refl
  set_apart (z ∷ xs) (suc i) (suc j) a b ne = ap (λ rest. z ∷ rest) (set_apart xs i j a b (λ e. ne (ap suc e)))

-- ---- two steps at once

module _ (says : StepsSayWhatTheyTell) (settings : PlainSettings) where
  -- both steps lead on to one run
  record Joins (b c : Run) : Type 0 where
    run : Run
    left : Performs settings b run
    right : Performs settings c run

  abbrev Meets : Run → Run → Type 0
  Meets b c = (b ≡ c) ⊎ Joins b c

  other_node : (run b c d : Run) (h : StepsNode settings run b) → b ≡ with_node run h.place h.stepped → (k : StepsNode settings run c) → h.place ≢ k.place → d ≡ with_node b k.place k.stepped → StepsNode settings b d
  other_node run b c d h e k ne is =
      record {
        place = k.place;
        node = k.node;
        stepped = k.stepped;
        stands = ap (λ (r : Run). slice_get r.nodes k.place) e ∙ get_other run.nodes h.place k.place h.stepped ne ∙ k.stands;
        ready = ap (λ (r : Run). step_node settings r.heard k.node) e ∙ k.ready;
        result = is;
      }

  nodes_meet : (run b c : Run) → StepsNode settings run b → StepsNode settings run c → Meets b c
  nodes_meet run b c h k =
      elim (cases_eq h.place k.place) as (λ _. Meets b c) [
        | inl e ↦
            let node : h.node ≡ k.node = same_Some h.node k.node (sym h.stands ∙ ap (slice_get run.nodes) e ∙ k.stands) in
            let stepped : h.stepped ≡ k.stepped = same_Some h.stepped k.stepped (sym h.ready ∙ ap (step_node settings run.heard) node ∙ k.ready) in
            inl (h.result ∙ ap (λ place. with_node run place h.stepped) e ∙ ap (with_node run k.place) stepped ∙ sym k.result)
        | inr ne ↦
            inr (record {
              run = with_node (with_node run h.place h.stepped) k.place k.stepped;
              left =
                  inl (other_node run b c (with_node (with_node run h.place h.stepped) k.place k.stepped) h h.result k ne (ap (λ (r : Run). with_node r k.place k.stepped) (sym h.result)));
              right =
                  inl (other_node run c b (with_node (with_node run h.place h.stepped) k.place k.stepped) k k.result h (λ e. ne (sym e))
                  (ap (λ (nodes : List NodeRun). record run { nodes = nodes }) (set_apart run.nodes h.place k.place h.stepped k.stepped ne)
                  ∙ ap (λ (r : Run). with_node r h.place h.stepped) (sym k.result)));
            })
      ]

  -- what a node is to tell stays told behind a step of another, or of its own
  abbrev told_by_node : Messages → NodeId → NodeRun → Option Message
  told_by_node heard from run = option_map (message from) (slice_get run.state.said (count_by (is_from from) heard))

  told_case : (runs : List NodeRun) (heard : Messages) (from : NodeId) (m : Message) (place : ℕ) (node stepped : NodeRun) → slice_get runs place ≡ Some node → step_node settings heard node ≡ Some stepped
      → (from.0 ≡ place) ⊎ (from.0 ≢ place) → message_of runs heard from ≡ Some m → message_of (set runs place stepped) heard from ≡ Some m
  told_case runs heard from m place node stepped stands ready (inl e) h =
      let own : told_by_node heard from node ≡ Some m = sym (ap (option_and_then (told_by_node heard from)) (ap (slice_get runs) e ∙ stands)) ∙ h in
      let told = mapped_from (message from) (slice_get node.state.said (count_by (is_from from) heard)) m own in
      ap (option_and_then (told_by_node heard from)) (ap (slice_get (set runs place stepped)) e ∙ get_set runs place node stepped stands)
      ∙ ap (option_map (message from)) (said_stays settings says heard node stepped (count_by (is_from from) heard) told.item ready told.there)
      ∙ ap Some (sym told.is)
  told_case runs heard from m place node stepped stands ready (inr ne) h =
      ap (option_and_then (told_by_node heard from)) (get_other runs place from.0 stepped (λ e. ne (sym e))) ∙ h

  node_meets_coordinator : (run b c : Run) → StepsNode settings run b → Hears run c → Joins b c
  node_meets_coordinator run b c h k =
      let s = heard_from run c k in
      record {
        run = with_node c h.place h.stepped;
        left =
            inr (heard_to b (with_node c h.place h.stepped)
            (record {
              node = s.node;
              rest = s.rest;
              heard = s.heard;
              left = ap (λ (r : Run). r.left) h.result ∙ s.left;
              told =
                  ap (λ (r : Run). message_of r.nodes r.heard s.node) h.result
                  ∙ told_case run.nodes run.heard s.node s.heard h.place h.node h.stepped h.stands h.ready (cases_eq s.node.0 h.place) s.told;
              is =
                  ap (λ (r : Run). with_node r h.place h.stepped) s.is
                  ∙ ap (λ (r : Run). record r { left = s.rest; heard = r.heard ++ s.heard ∷ [] }) (sym h.result);
            }));
        right =
            inl (record {
              place = h.place;
              node = h.node;
              stepped = h.stepped;
              stands = ap (λ (r : Run). slice_get r.nodes h.place) s.is ∙ h.stands;
              ready = ap (λ (r : Run). step_node settings r.heard h.node) s.is ∙ step_stays settings run.heard (s.heard ∷ []) h.node h.stepped h.ready;
              result = refl;
            });
      }

  swapped : (b c : Run) → Joins b c → Meets c b
  swapped b c j = inr (record { run = j.run; left = j.right; right = j.left })

  meet : (run b c : Run) → Performs settings run b → Performs settings run c → Meets b c
  meet run b c (inl h) (inl k) = nodes_meet run b c h k
  meet run b c (inl h) (inr k) = inr (node_meets_coordinator run b c h k)
  meet run b c (inr h) (inl k) = swapped c b (node_meets_coordinator run c b k h)
  meet run b c (inr h) (inr k) = inl (same_Some b c (sym h ∙ k))

  -- behind any first step the rest can still be reached
  still_leads : (run next last : Run) → Performs settings run next → Leads settings run last → IsAtRest settings last → Leads settings next last
  still_leads run next last p (Stays r) rests = absurd (rests next p)
  still_leads run next last p (Goes r first l q leads) rests =
      elim (meet run next first p q) as (λ _. Leads settings next last) [
        | inl e ↦ subst (λ (x : Run). Leads settings x last) (sym e) leads
        | inr j ↦ Goes next j.run last j.left (still_leads first j.run last j.right leads rests)
      ]

-- ---- the lowest node first

module _ (settings : PlainSettings) where
  record IsLowest (heard : Messages) (runs nodes : List NodeRun) : Type 0 where
    place : ℕ
    node : NodeRun
    stepped : NodeRun
    stands : slice_get runs place ≡ Some node
    ready : step_node settings heard node ≡ Some stepped
    is : nodes ≡ set runs place stepped

  lowest_case : (heard : Messages) (run : NodeRun) (runs nodes : List NodeRun) → ((later : List NodeRun) → step_lowest settings heard runs ≡ Some later → IsLowest heard runs later)
      → (o : Option NodeRun) → step_node settings heard run ≡ o
      → elim o [ Some stepped ↦ Some (stepped ∷ runs) | None ↦ option_map (λ later. run ∷ later) (step_lowest settings heard runs) ] ≡ Some nodes → IsLowest heard (run ∷ runs) nodes
  lowest_case heard run runs nodes rest (Some stepped) e h =
      record {
        place = zero;
        node = run;
        stepped = stepped;
        stands = refl;
        ready = e;
        is = sym (same_Some (stepped ∷ runs) nodes h);
      }
  lowest_case heard run runs nodes rest None e h =
      let m = mapped_from (λ later. run ∷ later) (step_lowest settings heard runs) nodes h in
      let l = rest m.item m.there in
      record {
        place = suc l.place;
        node = l.node;
        stepped = l.stepped;
        stands = l.stands;
        ready = l.ready;
        is = m.is ∙ ap (λ later. run ∷ later) l.is;
      }

  lowest_from : (heard : Messages) (runs nodes : List NodeRun) → step_lowest settings heard runs ≡ Some nodes → IsLowest heard runs nodes
  lowest_from heard [] nodes h = let no : None ≡ Some nodes = h in absurd cc
  lowest_from heard (run ∷ runs) nodes h = lowest_case heard run runs nodes (lowest_from heard runs) (step_node settings heard run) refl h

  -- no node is ready where there is no lowest
  none_case : (heard : Messages) (run : NodeRun) (runs : List NodeRun) → (step_lowest settings heard runs ≡ None → (place : ℕ) (node : NodeRun) → slice_get runs place ≡ Some node → step_node settings heard node ≡ None)
      → (o : Option NodeRun) → step_node settings heard run ≡ o
      → elim o as (λ _. Option (List NodeRun)) [ Some stepped ↦ Some (stepped ∷ runs) | None ↦ option_map (λ later. run ∷ later) (step_lowest settings heard runs) ] ≡ None
      → (place : ℕ) (node : NodeRun) → slice_get (run ∷ runs) place ≡ Some node → step_node settings heard node ≡ None
  none_case heard run runs rest (Some stepped) e h place node stands = let no : Some (stepped ∷ runs) ≡ None = h in absurd cc
  none_case heard run runs rest None e h zero node stands = ap (step_node settings heard) (sym (same_Some run node stands)) ∙ e
  none_case heard run runs rest None e h (suc place) node stands = rest (unmapped (step_lowest settings heard runs) h) place node stands
    where
      unmapped : (o : Option (List NodeRun)) → option_map (λ later. run ∷ later) o ≡ None → o ≡ None
      unmapped None h = refl
      unmapped (Some later) h = let no : Some (run ∷ later) ≡ None = h in absurd cc

  none_from : (heard : Messages) (runs : List NodeRun) → step_lowest settings heard runs ≡ None → (place : ℕ) (node : NodeRun) → slice_get runs place ≡ Some node → step_node settings heard node ≡ None
  none_from heard [] h place node stands = let no : None ≡ Some node = stands in absurd cc
  none_from heard (run ∷ runs) h place node stands = none_case heard run runs (none_from heard runs) (step_node settings heard run) refl h place node stands

  run_case : (run next : Run) (o : Option (List NodeRun)) → step_lowest settings run.heard run.nodes ≡ o
      → elim o [ Some nodes ↦ Some (record run { nodes = nodes }) | None ↦ hear run run.left ] ≡ Some next → Performs settings run next
  run_case run next (Some nodes) e h =
      let l = lowest_from run.heard run.nodes nodes e in
      inl (record {
        place = l.place;
        node = l.node;
        stepped = l.stepped;
        stands = l.stands;
        ready = l.ready;
        result = sym (same_Some (record run { nodes = nodes }) next h) ∙ ap (λ (nodes : List NodeRun). record run { nodes = nodes }) l.is;
      })
  run_case run next None e h = inr h

  run_performs : (run next : Run) → step_run settings run ≡ Some next → Performs settings run next
  run_performs run next h = run_case run next (step_lowest settings run.heard run.nodes) refl h

  rest_case : (run : Run) (o : Option (List NodeRun)) → step_lowest settings run.heard run.nodes ≡ o
      → elim o as (λ _. Option Run) [ Some nodes ↦ Some (record run { nodes = nodes }) | None ↦ hear run run.left ] ≡ None → IsAtRest settings run
  rest_case run (Some nodes) e h next p = let no : Some (record run { nodes = nodes }) ≡ None = h in absurd cc
  rest_case run None e h next (inl s) =
      let none : step_node settings run.heard s.node ≡ None = none_from run.heard run.nodes e s.place s.node s.stands in
      let no : None ≡ Some s.stepped = sym none ∙ s.ready in absurd cc
  rest_case run None e h next (inr k) = let no : None ≡ Some next = sym h ∙ k in absurd cc

  run_rests : (run : Run) → step_run settings run ≡ None → IsAtRest settings run
  run_rests run h = rest_case run (step_lowest settings run.heard run.nodes) refl h

-- ---- how many steps are left

abbrev left_in : NodeRun → ℕ
left_in node = length node.left

abbrev left_count : Run → ℕ
left_count run = sum_by left_in run.nodes + length run.left

module _ (settings : PlainSettings) where
  performs_one : (run next : Run) → Performs settings run next → suc (left_count next) ≡ left_count run
  performs_one run next (inl s) =
      let step = step_from settings run.heard s.node s.stepped s.ready in
      let within = slice_get_within run.nodes s.place s.node s.stands in
      let all : sum_by left_in (set run.nodes s.place s.stepped) + left_in (get_or run.nodes s.place s.node) ≡ sum_by left_in run.nodes + left_in s.stepped = sum_by-set left_in run.nodes s.place s.stepped s.node within in
      let was : left_in (get_or run.nodes s.place s.node) ≡ suc (length step.rest) = ap left_in (get_or_from_slice_get run.nodes s.place s.node s.node s.stands) ∙ ap length step.left in
      let now : left_in s.stepped ≡ length step.rest = ap left_in step.is in
      let counted : left_count next ≡ sum_by left_in (set run.nodes s.place s.stepped) + length run.left = ap left_count s.result in
      omega (arith, all, was, now, counted)
  performs_one run next (inr k) =
      let s = heard_from run next k in
      let was : length run.left ≡ suc (length s.rest) = ap length s.left in
      let counted : left_count next ≡ sum_by left_in run.nodes + length s.rest = ap left_count s.is in
      omega (arith, was, counted)

module _ (says : StepsSayWhatTheyTell) (settings : PlainSettings) where
  -- where no step is left, only staying leads on
  none_left : (run last : Run) → left_count run ≤ 0 → Leads settings run last → last ≡ run
  none_left run last few (Stays r) = refl
  none_left run last few (Goes r next l p leads) = let one = performs_one settings run next p in absurd (omega (arith, one, few))

  rests_here : (run last : Run) → IsAtRest settings run → Leads settings run last → last ≡ run
  rests_here run last rests (Stays r) = refl
  rests_here run last rests (Goes r next l p leads) = absurd (rests next p)

  fewer : (n : ℕ) (run next : Run) → Performs settings run next → left_count run ≤ suc n → left_count next ≤ n
  fewer n run next p few = let one = performs_one settings run next p in omega (arith, one, few)

  there_case : (n : ℕ) (run last : Run) → ((next : Run) → Leads settings next last → left_count next ≤ n → last ≡ follow n settings next)
      → (o : Option Run) → step_run settings run ≡ o → Leads settings run last → IsAtRest settings last → left_count run ≤ suc n
      → last ≡ elim o as (λ _. Run) [ Some next ↦ follow n settings next | None ↦ run ]
  there_case n run last on (Some next) e leads rests few =
      let p = run_performs settings run next e in on next (still_leads says settings run next last p leads rests) (fewer n run next p few)
  there_case n run last on None e leads rests few = rests_here run last (run_rests settings run e) leads

  there : (n : ℕ) (run last : Run) → Leads settings run last → IsAtRest settings last → left_count run ≤ n → last ≡ follow n settings run
  there zero run last leads rests few = none_left run last few leads
  there (suc n) run last leads rests few = there_case n run last (λ next l f. there n next last l rests f) (step_run settings run) refl leads rests few

  record PlaysOut (run last : Run) : Type 0 where
    leads : Leads settings run last
    rests : IsAtRest settings last

  plays_case : (n : ℕ) (run : Run) → ((next : Run) → left_count next ≤ n → PlaysOut next (follow n settings next)) → (o : Option Run) → step_run settings run ≡ o → left_count run ≤ suc n
      → PlaysOut run (elim o as (λ _. Run) [ Some next ↦ follow n settings next | None ↦ run ])
  plays_case n run on (Some next) e few =
      let p = run_performs settings run next e in
      let l = on next (fewer n run next p few) in
      record { leads = Goes run next (follow n settings next) p l.leads; rests = l.rests }
  plays_case n run on None e few = record { leads = Stays run; rests = run_rests settings run e }

  plays_out : (n : ℕ) (run : Run) → left_count run ≤ n → PlaysOut run (follow n settings run)
  plays_out zero run few = record { leads = Stays run; rests = λ next p. let one = performs_one settings run next p in absurd (omega (arith, one, few)) }
  plays_out (suc n) run few = plays_case n run (plays_out n) (step_run settings run) refl few

-- ---- a journal's steps are enough

one_dropped : (logs : List (List Step)) (start : ℕ) → length (unwrap_or (slice_get logs start) []) + sum_by length (drop (suc start) logs) ≤ sum_by length (drop start logs)
one_dropped [] zero = omega arith
one_dropped [] (suc start) = omega arith
one_dropped (log ∷ logs) zero = let first = sum_by-cons length log logs in omega (arith, first)
one_dropped (log ∷ logs) (suc start) = one_dropped logs start

logs_within : (W : PlainWorkload) (J : PlainJournal) (start count : ℕ) → sum_by left_in (map (node_start W J) (range_with_len start count)) ≤ sum_by length (drop start J.logs)
logs_within W J start zero = omega arith
logs_within W J start (suc count) =
    let first = sum_by-cons left_in (node_start W J start) (map (node_start W J) (range_with_len (start + 1) count)) in
    let later : sum_by left_in (map (node_start W J) (range_with_len (start + 1) count)) ≤ sum_by length (drop (start + 1) J.logs) = logs_within W J (start + 1) count in
    let more : start + 1 ≡ suc start = omega arith in
    let next : drop (start + 1) J.logs ≡ drop (suc start) J.logs = ap (λ (n : ℕ). drop n J.logs) more in
    let one = one_dropped J.logs start in
    let same = ap (sum_by length) next in
    omega (arith, first, later, one, same)

starts_within : (W : PlainWorkload) (J : PlainJournal) → left_count (run_start W J) ≤ step_count J
starts_within W J = let logs = logs_within W J 0 W.settings.nodes in omega (arith, logs)

-- ---- the laws

pub following_plays_out : StepsSayWhatTheyTell → FollowingPlaysOut
following_plays_out says W J =
    let l = plays_out says W.settings (step_count J) (run_start W J) (starts_within W J) in record { leads = l.leads; rests = l.rests }

pub orders_agree : StepsSayWhatTheyTell → OrdersAgree
orders_agree says W J last p = there says W.settings (step_count J) (run_start W J) last p.leads p.rests (starts_within W J)

none_of : {X : Type 0} (left : List X) → eqb (length left) 0 ≡ true → left ≡ []
none_of left h = nil_from_length left (eqb-true (length left) 0 h)

each_done : (runs : List NodeRun) → list_all (λ (node : NodeRun). eqb (length node.left) 0) runs ≡ true → (place : ℕ) (node : NodeRun) → slice_get runs place ≡ Some node → node.left ≡ []
each_done [] all place node stands = let no : None ≡ Some node = stands in absurd cc
each_done (run ∷ runs) all zero node stands =
    let both = and_parts (eqb (length run.left) 0) (list_all (λ (node : NodeRun). eqb (length node.left) 0) runs) all in
    ap (λ (n : NodeRun). n.left) (sym (same_Some run node stands)) ∙ none_of run.left both.0
each_done (run ∷ runs) all (suc place) node stands =
    let both = and_parts (eqb (length run.left) 0) (list_all (λ (node : NodeRun). eqb (length node.left) 0) runs) all in
    each_done runs both.1 place node stands

pub done_is_at_rest : DoneIsAtRest
done_is_at_rest settings run done next (inl s) =
    let both = and_parts (list_all (λ (node : NodeRun). eqb (length node.left) 0) run.nodes) (eqb (length run.left) 0) done in
    let none = each_done run.nodes both.0 s.place s.node s.stands in
    let no : None ≡ Some s.stepped = sym (ap (step_of settings run.heard s.node) none) ∙ s.ready in absurd cc
done_is_at_rest settings run done next (inr k) =
    let both = and_parts (list_all (λ (node : NodeRun). eqb (length node.left) 0) run.nodes) (eqb (length run.left) 0) done in
    let no : None ≡ Some next = sym (ap (hear run) (none_of run.left both.1)) ∙ k in absurd cc
