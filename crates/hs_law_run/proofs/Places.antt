-- Where an unread offer stands: in a pass, behind the turn of that pass.
use Rattle.std.proofs.Common.{◌≡◌, ◌⊎◌, inl, inr, ℕ, zero, suc, ◌<◌, ◌≤◌, true, false, List, [], ◌∷◌, ◌++◌, length, refl, sym, ap, ◌∙◌, Some, arith, map, slice_get, take, replicate, count_by, append_assoc}
use Rattle.hs_law_run.proofs.Prelude.{AllByRecursion, flat_map, map-append, all_append, Step, noted_as, Answered, Unread, AgentEvent, Gave, step_of_answer, PlainWorkload, Queue, Chunks, Crumbs, Triggers, Asks, is_turn, is_unread, queues_of, joined, steps_of, IsPass}
use Rattle.hs_base.proofs.Counts.{one_if, count_cons, count_append}
use Rattle.hs_records.specs.declared.journal.Step.TheVariants as steps
use Rattle.hs_law_journal.specs.LoopPasses.{step_from}
use Rattle.hs_law_journal.proofs.Passes.{is_no_turn}

-- ---- lists

pub record InFirst {X : Type 0} (xs before behind : List X) (y : X) : Type 0 where
  pub rest : List X
  pub list_is : xs ≡ before ++ y ∷ rest

pub record InSecond {X : Type 0} (xs ys before behind : List X) (y : X) : Type 0 where
  pub further : List X
  pub before_is : before ≡ xs ++ further
  pub list_is : ys ≡ further ++ y ∷ behind

pub first_or_second : {X : Type 0} (xs ys before behind : List X) (y : X) → xs ++ ys ≡ before ++ y ∷ behind → InFirst xs before behind y ⊎ InSecond xs ys before behind y
first_or_second [] ys before behind y h = inr (record { further = before; before_is = refl; list_is = h })
first_or_second (x ∷ xs) ys [] behind y h = inl (record { rest = xs; list_is = ap (λ z. z ∷ xs) (head_of h) })
  where
    head_of : x ∷ xs ++ ys ≡ y ∷ behind → x ≡ y
    head_of e = cc
first_or_second (x ∷ xs) ys (b ∷ before) behind y h = either (first_or_second xs ys before behind y (tail_of h))
  where
    head_of : x ∷ xs ++ ys ≡ b ∷ before ++ y ∷ behind → x ≡ b
    head_of e = cc

    tail_of : x ∷ xs ++ ys ≡ b ∷ before ++ y ∷ behind → xs ++ ys ≡ before ++ y ∷ behind
    tail_of e = cc

    either : InFirst xs before behind y ⊎ InSecond xs ys before behind y → InFirst (x ∷ xs) (b ∷ before) behind y ⊎ InSecond (x ∷ xs) ys (b ∷ before) behind y
    either (inl s) = inl (record { rest = s.rest; list_is = ap (λ z. z ∷ xs) (head_of h) ∙ ap (λ list. b ∷ list) s.list_is })
    either (inr s) = inr (record { further = s.further; before_is = ap (λ list. b ∷ list) s.before_is ∙ ap (λ z. z ∷ xs ++ s.further) (sym (head_of h)); list_is = s.list_is })

-- ---- the pass of an unread offer

pub record InPass (passes : List (List AgentEvent)) (before : List AgentEvent) : Type 0 where
  pub place : ℕ
  pub pass : List AgentEvent
  pub there : slice_get passes place ≡ Some pass
  pub front : List AgentEvent
  pub rest : List AgentEvent
  pub pass_is : pass ≡ front ++ Gave Unread ∷ rest
  pub before_is : before ≡ joined (take place passes) ++ front

pub in_pass : (passes : List (List AgentEvent)) (before behind : List AgentEvent) → joined passes ≡ before ++ Gave Unread ∷ behind → InPass passes before
in_pass [] before behind h = nothing before h
  where
    nothing : (before : List AgentEvent) → [] ≡ before ++ Gave Unread ∷ behind → InPass [] before
    nothing [] never = absurd cc
    nothing (b ∷ before) never = absurd cc
in_pass (pass ∷ passes) before behind h = either (first_or_second pass (joined passes) before behind (Gave Unread) h) (λ further is. in_pass passes further behind is)
  where
    either : InFirst pass before behind (Gave Unread) ⊎ InSecond pass (joined passes) before behind (Gave Unread) → ((further : List AgentEvent) → joined passes ≡ further ++ Gave Unread ∷ behind → InPass passes further)
        → InPass (pass ∷ passes) before
    either (inl s) later = record { place = 0; pass = pass; there = refl; front = before; rest = s.rest; pass_is = s.list_is; before_is = refl }
    either (inr s) later =
        let l = later s.further s.list_is in
        record {
          place = suc l.place;
          pass = l.pass;
          there = l.there;
          front = l.front;
          rest = l.rest;
          pass_is = l.pass_is;
          before_is = s.before_is ∙ ap (λ list. pass ++ list) l.before_is ∙ sym (append_assoc pass (joined (take l.place passes)) l.front);
        }

-- ---- turns

-- what a pass takes is no turn and no unread offer
abbrev IsTaking : Step → Type 0
IsTaking step = (is_turn step ≡ false) × (is_unread step ≡ false)

takes_from : (queue : Queue) → IsTaking (step_from queue)
takes_from (Chunks client) = (refl, refl)
takes_from (Crumbs client) = (refl, refl)
takes_from (Triggers client) = (refl, refl)
takes_from Asks = (refl, refl)

all_same : (P : Step → Type 0) (step : Step) → P step → (count : ℕ) → AllByRecursion P (replicate count step)
all_same P step h zero = tt
all_same P step h (suc count) = (h, all_same P step h count)

all_taking : (counts : Queue → ℕ) (queues : List Queue) → AllByRecursion IsTaking (flat_map (λ queue. replicate (counts queue) (step_from queue)) queues)
all_taking counts [] = tt
all_taking counts (queue ∷ queues) =
    all_append IsTaking (replicate (counts queue) (step_from queue)) (flat_map (λ queue. replicate (counts queue) (step_from queue)) queues) (all_same IsTaking (step_from queue) (takes_from queue) (counts queue))
    (all_taking counts queues)

no_turn : (step : Step) (list : List Step) → is_turn step ≡ false → count_by is_turn (step ∷ list) ≡ count_by is_turn list
no_turn step list h = let first = count_cons is_turn step list in let none = ap one_if h in omega (arith, first, none)

taking_turns : (list : List Step) → AllByRecursion IsTaking list → count_by is_turn list ≡ 0
taking_turns [] all = refl
taking_turns (step ∷ list) all = no_turn step list all.0.0 ∙ taking_turns list all.1

offered_turns : (offers : List Answered) → count_by is_turn (map step_of_answer offers) ≡ 0
offered_turns [] = refl
offered_turns (offer ∷ offers) = no_turn (step_of_answer offer) (map step_of_answer offers) (is_no_turn offer) ∙ offered_turns offers

pub pass_turns : (W : PlainWorkload) (pass : List AgentEvent) → IsPass W pass → count_by is_turn (steps_of pass) ≡ 1
pass_turns W pass is =
    let takes = flat_map (λ queue. replicate (is.counts queue) (step_from queue)) (queues_of W) in
    let all = ap (count_by is_turn) is.steps_are in
    let both = count_append is_turn takes (steps.Turn ∷ map step_of_answer is.offers) in
    let none = taking_turns takes (all_taking is.counts (queues_of W)) in
    let turn = count_cons is_turn steps.Turn (map step_of_answer is.offers) in
    let last = offered_turns is.offers in
    let first : one_if (is_turn steps.Turn) ≡ 1 = refl in
    omega (arith, all, both, none, turn, last, first)

-- the steps of a pass before an unread one have its turn
front_turns : (takes : List Step) (offers : List Answered) (front rest : List Step) → AllByRecursion IsTaking takes → takes ++ steps.Turn ∷ map step_of_answer offers ≡ front ++ steps.Unread ∷ rest → count_by is_turn front ≡ 1
front_turns [] offers [] rest all h = let no : steps.Turn ≡ steps.Unread = head_of h in absurd cc
  where
    head_of : steps.Turn ∷ map step_of_answer offers ≡ steps.Unread ∷ rest → steps.Turn ≡ steps.Unread
    head_of e = cc
front_turns [] offers (f ∷ front) rest all h =
    let first = count_cons is_turn f front in
    let turn = ap (λ s. one_if (is_turn s)) (sym (head_of h)) in
    let both = ap (count_by is_turn) (tail_of h) ∙ count_append is_turn front (steps.Unread ∷ rest) in
    let none = offered_turns offers in
    let is : one_if (is_turn steps.Turn) ≡ 1 = refl in
    omega (arith, first, turn, both, none, is)
  where
    head_of : steps.Turn ∷ map step_of_answer offers ≡ f ∷ front ++ steps.Unread ∷ rest → steps.Turn ≡ f
    head_of e = cc

    tail_of : steps.Turn ∷ map step_of_answer offers ≡ f ∷ front ++ steps.Unread ∷ rest → map step_of_answer offers ≡ front ++ steps.Unread ∷ rest
    tail_of e = cc
front_turns (t ∷ takes) offers [] rest all h = let no : false ≡ true = sym all.0.1 ∙ ap is_unread (head_of h) in absurd cc
  where
    head_of : t ∷ takes ++ steps.Turn ∷ map step_of_answer offers ≡ steps.Unread ∷ rest → t ≡ steps.Unread
    head_of e = cc
front_turns (t ∷ takes) offers (f ∷ front) rest all h = no_turn f front (ap is_turn (sym (head_of h)) ∙ all.0.0) ∙ front_turns takes offers front rest all.1 (tail_of h)
  where
    head_of : t ∷ takes ++ steps.Turn ∷ map step_of_answer offers ≡ f ∷ front ++ steps.Unread ∷ rest → t ≡ f
    head_of e = cc

    tail_of : t ∷ takes ++ steps.Turn ∷ map step_of_answer offers ≡ f ∷ front ++ steps.Unread ∷ rest → takes ++ steps.Turn ∷ map step_of_answer offers ≡ front ++ steps.Unread ∷ rest
    tail_of e = cc

passes_turns : (W : PlainWorkload) (passes : List (List AgentEvent)) (k : ℕ) → AllByRecursion (IsPass W) passes → k ≤ length passes → count_by is_turn (steps_of (joined (take k passes))) ≡ k
passes_turns W passes zero all low = refl
passes_turns W [] (suc k) all low = absurd (omega (arith, low))
passes_turns W (pass ∷ passes) (suc k) all low =
    let both = ap (count_by is_turn) (map-append noted_as pass (joined (take k passes))) ∙ count_append is_turn (steps_of pass) (steps_of (joined (take k passes))) in
    let first = pass_turns W pass all.0 in
    let rest = passes_turns W passes k all.1 (omega (arith, low)) in
    omega (arith, both, first, rest)

pub turns_before : (W : PlainWorkload) (passes : List (List AgentEvent)) (before : List AgentEvent) (s : InPass passes before) → AllByRecursion (IsPass W) passes → s.place < length passes → IsPass W s.pass → count_by is_turn (steps_of before) ≡ suc s.place
turns_before W passes before s all low is =
    let both = ap (λ events. count_by is_turn (steps_of events)) s.before_is ∙ ap (count_by is_turn) (map-append noted_as (joined (take s.place passes)) s.front)
    ∙ count_append is_turn (steps_of (joined (take s.place passes))) (steps_of s.front) in
    let earlier = passes_turns W passes s.place all (omega (arith, low)) in
    let steps_are = sym is.steps_are ∙ ap steps_of s.pass_is ∙ map-append noted_as s.front (Gave Unread ∷ s.rest) in
    let here = front_turns (flat_map (λ queue. replicate (is.counts queue) (step_from queue)) (queues_of W)) is.offers (steps_of s.front) (steps_of s.rest) (all_taking is.counts (queues_of W)) steps_are in
    omega (arith, both, earlier, here)
