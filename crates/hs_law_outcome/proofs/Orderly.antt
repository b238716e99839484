-- So each message that is heard comes from a known sender, since the first of its group comes from the node that admitted it. And
-- each node of which an `Answer` is heard has an ask.
use Rattle.std.proofs.Common.{◌≡◌, ◌⊎◌, inl, inr, ℕ, ◌<◌, Bool, true, false, not, ◌||◌, ◌&&◌, List, [], ◌∷◌, ◌++◌, set, Option, Some, None, find, option_map, count_by, refl, sym, ap, subst, ◌∙◌, ⊎_elim, arith, slice_get, eqb, eqb-true, eq-eqb, true≢false}
use Rattle.hs_law_outcome.proofs.Prelude.{or-false, list_any, range_with_len, option_and_then, option_map_or, and_parts, or_cases, or_left, or_right, length-range_with_len, list_any-append, slice_get-map, slice_get_within, same_Some, all_at, mapped_from, GroupId, NodeId, Told, Message, Messages, message, is_asked, is_first_sender, has_crumb, has_ask, is_answer, first_bit, PlainJournal, EventsAddFew, StepsSayWhatTheyTell, PlainSettings, PlainWorkload, NodeRun, Run, is_from, node_start, run_start, Performs, Leads, Stays, Goes, step_from}
use Rattle.std.proofs.lemmas.Bool.{false_from_ne_true, cases_eq}
use Rattle.std.proofs.lemmas.List.FromFn.{get_or-range_with_len}
use Rattle.std.proofs.lemmas.Option.{get_or_from_slice_get}
use Rattle.hs_base.proofs.Places.{get_set, get_other}
use Rattle.hs_coord.specs.Following.{is_of, is_answer_from, is_answered_after, is_answered}
use Rattle.hs_coord.specs.Orderly.{IsOrderly, is_known_sender}
use Rattle.hs_coord.proofs.FollowingLemmas.{first_now, first_of_other}
use Rattle.hs_law_journal.specs.Orders.{StepsNode}
use Rattle.hs_law_journal.proofs.Steps.{heard_from}
use Rattle.hs_law_outcome.specs.Speaking.{MessagesAreOrderly, AnswersComeFromAsked}
use Rattle.hs_law_outcome.proofs.Asked.{nobody_asked, asked_stays, ask_stays}
use Rattle.hs_law_outcome.proofs.Speaking.{MaySay, KeepsToIt, keeps_more, step_keeps}

-- ---- one message more

-- an item within a list with one more at its end is that one, or within the list
module _ {X : Type 0} (last : X) where
  record IsLast (xs before : List X) (x : X) : Type 0 where
    front : before ≡ xs
    same : x ≡ last

  record IsWithin (xs before : List X) (x : X) : Type 0 where
    later : List X
    is : xs ≡ before ++ x ∷ later

  split_more : (xs before later : List X) (x : X) → xs ++ last ∷ [] ≡ before ++ x ∷ later → IsLast xs before x ⊎ IsWithin xs before x
  split_more [] [] later x e = inl (record { front = refl; same = cc })
  split_more [] (y ∷ []) later x e = let none : [] ≡ x ∷ later = cc in absurd cc
  split_more [] (y ∷ z ∷ before) later x e = let none : [] ≡ z ∷ (before ++ x ∷ later) = cc in absurd cc
  split_more (y ∷ xs) [] later x e = let same : y ≡ x = cc in inr (record { later = xs; is = ap (λ (z : X). z ∷ xs) same })
  split_more (y ∷ xs) (z ∷ before) later x e =
      let same : y ≡ z = cc in
      let rest : xs ++ last ∷ [] ≡ before ++ x ∷ later = cc in
      ⊎_elim (λ (l : IsLast xs before x). inl (record { front = ap (λ (front : List X). z ∷ front) l.front ∙ ap (λ (w : X). w ∷ xs) (sym same); same = l.same }))
      (λ (w : IsWithin xs before x). inr (record { later = w.later; is = ap (λ (v : X). v ∷ xs) same ∙ ap (λ (rest : List X). z ∷ rest) w.is })) (split_more xs before later x rest)

module _ (group : GroupId) where
  orderly_more : (messages : Messages) (m : Message) → IsOrderly group messages → (is_of group m ≡ true → is_known_sender group messages m ≡ true) → IsOrderly group (messages ++ m ∷ [])
  orderly_more messages m orderly known before later x split own = by (split_more m messages before later x split)
    where
      by : IsLast m messages before x ⊎ IsWithin m messages before x → is_known_sender group before x ≡ true
      by (inl l) =
          subst (λ (front : Messages). is_known_sender group front x ≡ true) (sym l.front)
          (subst (λ (y : Message). is_known_sender group messages y ≡ true) (sym l.same) (known (subst (λ (y : Message). is_of group y ≡ true) l.same own)))
      by (inr w) = orderly before w.later x w.is own

  -- where something was heard of the group, the node that admitted it is in its asked set
  abbrev HasAdmitting : Messages → Type 0
  HasAdmitting messages = (first : Message) → find (is_of group) messages ≡ Some first → is_asked group messages group.node ≡ true

  admitting_more : (messages : Messages) (m : Message) → HasAdmitting messages → (is_of group m ≡ true → is_known_sender group messages m ≡ true) → HasAdmitting (messages ++ m ∷ [])
  admitting_more messages m admitting known first there = by (find (is_of group) messages) refl (is_of group m) refl
    where
      by : (o : Option Message) → find (is_of group) messages ≡ o → (b : Bool) → is_of group m ≡ b → is_asked group (messages ++ m ∷ []) group.node ≡ true
      by (Some x) is b e = asked_stays group messages m group.node (admitting x is)
      by None none false e = let no : None ≡ Some first = sym (first_of_other group messages m e ∙ none) ∙ there in absurd cc
      by None none true e =
          let sender : eqb m.node.0 group.node ≡ true = sym (ap (λ o. option_map_or (λ (x : Message). is_asked group messages m.node.0) o (eqb m.node.0 group.node)) none) ∙ known e in
          or_left (is_first_sender group (messages ++ m ∷ []) group.node) (has_crumb group (messages ++ m ∷ []) group.node)
          (first_bit group (messages ++ m ∷ []) m (first_now group messages m none e) group.node ∙ eq-eqb group.node m.node.0 (sym (eqb-true m.node.0 group.node sender)))

  -- a node that may speak of the group is known as a sender of its messages
  known_if : (messages : Messages) (from : NodeId) (told : Told) → HasAdmitting messages → MaySay group messages from.0 told → is_of group (message from told) ≡ true → is_known_sender group messages (message from told) ≡ true
  known_if messages from told admitting may own = by (find (is_of group) messages) refl (or_cases (eqb group.node from.0) (is_asked group messages from.0) either)
    where
      either : (eqb group.node from.0 || is_asked group messages from.0) ≡ true
      either = sym (ap (λ b. not b || (eqb group.node from.0 || is_asked group messages from.0)) own) ∙ may.speaks

      by : (o : Option Message) → find (is_of group) messages ≡ o → (eqb group.node from.0 ≡ true) ⊎ (is_asked group messages from.0 ≡ true)
          → option_map_or (λ (first : Message). is_asked group messages from.0) o (eqb from.0 group.node) ≡ true
      by None none (inl e) = eq-eqb from.0 group.node (sym (eqb-true group.node from.0 e))
      by None none (inr e) = absurd (nobody_asked group messages from.0 none e)
      by (Some x) is (inl e) = ap (is_asked group messages) (sym (eqb-true group.node from.0 e)) ∙ admitting x is
      by (Some x) is (inr e) = e

  -- the nodes that told an `Answer` of the group have an ask
  abbrev AnswersAreAsked : Messages → Type 0
  AnswersAreAsked messages = (node : ℕ) → list_any (is_answer_from group node) messages ≡ true → has_ask group messages node ≡ true

  answers_more : (messages : Messages) (from : NodeId) (told : Told) → AnswersAreAsked messages → MaySay group messages from.0 told → AnswersAreAsked (messages ++ message from told ∷ [])
  answers_more messages from told answers may node e =
      ask_stays group messages (message from told) node
      (⊎_elim (answers node) now (or_cases (list_any (is_answer_from group node) messages) (is_answer_from group node (message from told)) last))
    where
      last : (list_any (is_answer_from group node) messages || is_answer_from group node (message from told)) ≡ true
      last =
          sym (list_any-append (is_answer_from group node) messages (message from told ∷ [])
          ∙ ap (λ b. list_any (is_answer_from group node) messages || b) (or-false (is_answer_from group node (message from told))))
          ∙ e

      now : is_answer_from group node (message from told) ≡ true → has_ask group messages node ≡ true
      now answer =
          let outer = and_parts (is_of group (message from told) && eqb node from.0) (is_answer told.why) answer in
          let inner = and_parts (is_of group (message from told)) (eqb node from.0) outer.0 in
          ap (has_ask group messages) (eqb-true node from.0 inner.1) ∙ may.answers inner.0 outer.1

  -- ---- all steps

  -- a node has the number of its place, and keeps to what it may say
  record IsAtPlace (heard : Messages) (place : ℕ) (run : NodeRun) : Type 0 where
    number : run.node ≡ place
    keeps : KeepsToIt group heard run

  record Stands (run : Run) : Type 0 where
    nodes : (place : ℕ) (node : NodeRun) → slice_get run.nodes place ≡ Some node → IsAtPlace run.heard place node
    orderly : IsOrderly group run.heard
    admitting : HasAdmitting run.heard
    answers : AnswersAreAsked run.heard

  -- what the next message is
  record IsSaid (nodes : List NodeRun) (from : NodeId) (m : Message) : Type 0 where
    run : NodeRun
    stands : slice_get nodes from.0 ≡ Some run
    place : ℕ
    told : Told
    there : slice_get run.state.said place ≡ Some told
    is : m ≡ message from told

  said_from : (nodes : List NodeRun) (heard : Messages) (from : NodeId) (m : Message) (o : Option NodeRun) → slice_get nodes from.0 ≡ o
      → option_and_then (λ (run : NodeRun). option_map (message from) (slice_get run.state.said (count_by (is_from from) heard))) o ≡ Some m → IsSaid nodes from m
  said_from nodes heard from m None e h = let no : None ≡ Some m = h in absurd cc
  said_from nodes heard from m (Some run) e h =
      let t = mapped_from (message from) (slice_get run.state.said (count_by (is_from from) heard)) m h in
      record { run = run; stands = e; place = count_by (is_from from) heard; told = t.item; there = t.there; is = t.is }

  module _ (says : StepsSayWhatTheyTell) (few : EventsAddFew) (settings : PlainSettings) where
    node_stands : (run next : Run) → Stands run → (s : StepsNode settings run next) → (place : ℕ) (node : NodeRun) → slice_get (set run.nodes s.place s.stepped) place ≡ Some node → IsAtPlace run.heard place node
    node_stands run next st s place node stands = by (cases_eq s.place place)
      where
        by : (s.place ≡ place) ⊎ (s.place ≡ place → ⊥) → IsAtPlace run.heard place node
        by (inl e) =
            let step = step_from settings run.heard s.node s.stepped s.ready in
            let was = st.nodes s.place s.node s.stands in
            let is : s.stepped ≡ node = same_Some s.stepped node (sym (get_set run.nodes s.place s.node s.stepped s.stands) ∙ ap (slice_get (set run.nodes s.place s.stepped)) e ∙ stands) in
            subst (IsAtPlace run.heard place) is
            (record { number = ap (λ (r : NodeRun). r.node) step.is ∙ was.number ∙ e; keeps = step_keeps group settings run.heard s.node was.keeps says few s.stepped s.ready })
        by (inr ne) = st.nodes place node (sym (get_other run.nodes s.place place s.stepped ne) ∙ stands)

    performs_stands : (run next : Run) → Stands run → Performs settings run next → Stands next
    performs_stands run next st (inl s) =
        subst Stands (sym s.result) (record { nodes = node_stands run next st s; orderly = st.orderly; admitting = st.admitting; answers = st.answers })
    performs_stands run next st (inr k) =
        let s = heard_from run next k in
        let said = said_from run.nodes run.heard s.node s.heard (slice_get run.nodes s.node.0) refl s.told in
        let at = st.nodes s.node.0 said.run said.stands in
        let may : MaySay group run.heard s.node.0 said.told =
        subst (λ (node : ℕ). MaySay group run.heard node said.told) at.number (all_at (MaySay group run.heard said.run.node) said.run.state.said said.place said.told at.keeps.said said.there)
        in
        let known : is_of group s.heard ≡ true → is_known_sender group run.heard s.heard ≡ true =
        subst (λ (m : Message). is_of group m ≡ true → is_known_sender group run.heard m ≡ true) (sym said.is) (known_if run.heard s.node said.told st.admitting may)
        in
        subst Stands (sym s.is)
        (record {
          nodes = λ place node stands. let was = st.nodes place node stands in record { number = was.number; keeps = keeps_more group run.heard s.heard node was.keeps };
          orderly = orderly_more run.heard s.heard st.orderly known;
          admitting = admitting_more run.heard s.heard st.admitting known;
          answers = subst (λ (m : Message). AnswersAreAsked (run.heard ++ m ∷ [])) (sym said.is) (answers_more run.heard s.node said.told st.answers may);
        })

    leads_stands : (run last : Run) → Stands run → Leads settings run last → Stands last
    leads_stands run last st (Stays r) = st
    leads_stands run last st (Goes r next l p leads) = leads_stands next last (performs_stands run next st p) leads

  starts_stand : (W : PlainWorkload) (J : PlainJournal) → Stands (run_start W J)
  starts_stand W J =
      record {
        nodes = λ place node stands.
            let m = mapped_from (node_start W J) (slice_get (range_with_len 0 W.settings.nodes) place) node (sym (slice_get-map (node_start W J) (range_with_len 0 W.settings.nodes) place) ∙ stands) in
            let within = slice_get_within (range_with_len 0 W.settings.nodes) place m.item m.there in
            let many = length-range_with_len 0 W.settings.nodes in
            let low : place < W.settings.nodes = omega (arith, within, many) in
            let is = get_or_from_slice_get (range_with_len 0 W.settings.nodes) place m.item 0 m.there in
            let same = get_or-range_with_len 0 W.settings.nodes place 0 low in
            let number : m.item ≡ place = omega (arith, is, same) in
            subst (IsAtPlace [] place) (sym m.is) (record { number = number; keeps = record { claims = tt; said = tt } });
        orderly = nothing_heard;
        admitting = λ first there. let no : None ≡ Some first = there in absurd cc;
        answers = λ node e. absurd (true≢false (sym e));
      }
    where
      nothing_heard : IsOrderly group []
      nothing_heard [] later x split own = let no : [] ≡ x ∷ later = split in absurd cc
      nothing_heard (y ∷ before) later x split own = let no : [] ≡ y ∷ (before ++ x ∷ later) = split in absurd cc

-- ---- answered asks

-- what answers an ask is an `Answer`
module _ (group : GroupId) (node : ℕ) where
  answered_by_some : (before later : Messages) → is_answered_after group node before later ≡ true → list_any (is_answer_from group node) later ≡ true
  answered_by_some before [] e = e
  answered_by_some before (m ∷ later) e =
      ⊎_elim
      (λ (now : (has_ask group before node && is_answer_from group node m) ≡ true).
      or_left (is_answer_from group node m) (list_any (is_answer_from group node) later) (and_parts (has_ask group before node) (is_answer_from group node m) now).1)
      (λ (then : is_answered_after group node (before ++ m ∷ []) later ≡ true).
      or_right (is_answer_from group node m) (list_any (is_answer_from group node) later) (answered_by_some (before ++ m ∷ []) later then))
      (or_cases (has_ask group before node && is_answer_from group node m) (is_answered_after group node (before ++ m ∷ []) later) e)

  -- so the two agree, where they do for a node with an ask, and where each `Answer` comes from one
  pub answered_as_told : (messages : Messages) → (has_ask group messages node ≡ true → is_answered group messages node ≡ list_any (is_answer_from group node) messages)
      → (list_any (is_answer_from group node) messages ≡ true → has_ask group messages node ≡ true) → is_answered group messages node ≡ list_any (is_answer_from group node) messages
  answered_as_told messages exactly asked = by (has_ask group messages node) refl
    where
      by : (b : Bool) → has_ask group messages node ≡ b → is_answered group messages node ≡ list_any (is_answer_from group node) messages
      by true ask = exactly ask
      by false none =
          let silent : list_any (is_answer_from group node) messages ≡ false = false_from_ne_true (list_any (is_answer_from group node) messages) (λ answer. true≢false (sym (asked answer) ∙ none)) in
          false_from_ne_true (is_answered group messages node) (λ answered. true≢false (sym (answered_by_some [] messages answered) ∙ silent)) ∙ sym silent

-- ---- the laws

module _ (says : StepsSayWhatTheyTell) (few : EventsAddFew) where
  stands_all : (group : GroupId) (W : PlainWorkload) (J : PlainJournal) (run : Run) → Leads W.settings (run_start W J) run → Stands group run
  stands_all group W J run leads = leads_stands group says few W.settings (run_start W J) run (starts_stand group W J) leads

  pub messages_are_orderly : MessagesAreOrderly
  messages_are_orderly W J run leads group = (stands_all group W J run leads).orderly

  pub answers_come_from_asked : AnswersComeFromAsked
  answers_come_from_asked W J group node run leads = (stands_all group W J run leads).answers node
