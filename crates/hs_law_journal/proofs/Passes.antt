-- A pass of the loop is a whole pass: of each queue it takes what stands for that queue, in order. And a log of such passes is cut where
-- they end.
use Rattle.std.proofs.Common.{◌≡◌, ℕ, zero, suc, ◌+◌, ◌<◌, ◌≤◌, Bool, true, false, ◌&&◌, ◌||◌, not, cond, List, [], ◌∷◌, ◌++◌, length, replicate, refl, sym, ap, subst, ◌∙◌, arith, map, filter, count_by, eq-eqb, nat_eq, nat_le, le-leb, append-nil, append_assoc}
use Rattle.hs_law_journal.proofs.Prelude.{AllByRecursion, flat_map, range_with_len, list_all, and_from, map-append, filter-append, sum_by-cons, sum_by-append, all_each, all_append, one_if, Step, noted_as, Answered, Given, Missed, Unread, AgentEvent, step_of_answer, PlainWorkload, Queue, Chunks, Crumbs, Triggers, Asks, takes, taken, is_turn, is_offer, same_steps}
use Rattle.std.proofs.Math.Bool.{and-false}
use Rattle.std.proofs.lemmas.Bool.Decides.{nat_tests}
use Rattle.std.proofs.lemmas.List.{length-replicate}
use Rattle.std.proofs.lemmas.List.Sums.{length-filter}
use Rattle.hs_base.proofs.Tests.{list_all_from}
use Rattle.hs_base.proofs.Alls.{all_replicate}
use Rattle.hs_base.proofs.Filters.{filter_all, filter_none}
use Rattle.hs_base.proofs.Numbers.{nat_eq_below}
use Rattle.hs_base.specs.declared.limits.TheConstants.{MAX_TAKEN}
use Rattle.hs_records.specs.declared.journal.Step.TheVariants as steps
use Rattle.hs_law_journal.specs.Passes.{ends_between, put_step, passes_of, client_queues, queues_of, arranged, is_whole_pass}
use Rattle.hs_law_journal.proofs.Logs.{same_steps_refl, IsTake}
use Rattle.hs_law_journal.specs.Doings.{joined, steps_of}
use Rattle.hs_law_journal.specs.LoopPasses.{step_from, IsPass}

-- ---- tests

-- how many turns
abbrev pub turns : List Step → ℕ
turns log = count_by is_turn log

-- ---- filters

module _ (p : Step → Bool) where
  keeps_some : (n : ℕ) (x : Step) → p x ≡ true → filter p (replicate n x) ≡ replicate n x
  keeps_some n x h = filter_all p (replicate n x) (all_replicate (λ y. p y ≡ true) n x h)

  keeps_no_one : (n : ℕ) (x : Step) → p x ≡ false → filter p (replicate n x) ≡ []
  keeps_no_one n x h = filter_none p (replicate n x) (all_replicate (λ y. p y ≡ false) n x h)

-- ---- queues are apart

own_step : (queue : Queue) → takes queue (step_from queue) ≡ true
own_step (Chunks client) = eq-eqb client client refl
own_step (Crumbs client) = eq-eqb client client refl
own_step (Triggers client) = eq-eqb client client refl
own_step Asks = refl

record AreApart (a b : Queue) : Type 0 where
  first : takes a (step_from b) ≡ false
  second : takes b (step_from a) ≡ false

abbrev AllApart : List Queue → Type 0
AllApart [] = Unit {0}
AllApart (queue ∷ queues) = AllByRecursion (AreApart queue) queues × AllApart queues

-- a queue of a client from this number on, or the asks
abbrev IsFrom : ℕ → Queue → Type 0
IsFrom least (Chunks client) = least ≤ client
IsFrom least (Crumbs client) = least ≤ client
IsFrom least (Triggers client) = least ≤ client
IsFrom least Asks = Unit {0}

exceeds : (a b : ℕ) → a < b → nat_eq b a ≡ false
exceeds a b less = grind (arith, nat_tests)

chunks_apart : (client : ℕ) (q : Queue) → IsFrom (client + 1) q → AreApart (Chunks client) q
chunks_apart client (Chunks other) low = record { first = exceeds client other (omega (arith, low)); second = nat_eq_below client other (omega (arith, low)) }
chunks_apart client (Crumbs other) low = record { first = refl; second = refl }
chunks_apart client (Triggers other) low = record { first = refl; second = refl }
chunks_apart client Asks low = record { first = refl; second = refl }

crumbs_apart : (client : ℕ) (q : Queue) → IsFrom (client + 1) q → AreApart (Crumbs client) q
crumbs_apart client (Chunks other) low = record { first = refl; second = refl }
crumbs_apart client (Crumbs other) low = record { first = exceeds client other (omega (arith, low)); second = nat_eq_below client other (omega (arith, low)) }
crumbs_apart client (Triggers other) low = record { first = refl; second = refl }
crumbs_apart client Asks low = record { first = refl; second = refl }

triggers_apart : (client : ℕ) (q : Queue) → IsFrom (client + 1) q → AreApart (Triggers client) q
triggers_apart client (Chunks other) low = record { first = refl; second = refl }
triggers_apart client (Crumbs other) low = record { first = refl; second = refl }
triggers_apart client (Triggers other) low = record { first = exceeds client other (omega (arith, low)); second = nat_eq_below client other (omega (arith, low)) }
triggers_apart client Asks low = record { first = refl; second = refl }

lower : (least other : ℕ) (q : Queue) → least ≤ other → IsFrom other q → IsFrom least q
lower least other (Chunks client) low h = omega (arith, low, h)
lower least other (Crumbs client) low h = omega (arith, low, h)
lower least other (Triggers client) low h = omega (arith, low, h)
lower least other Asks low h = tt

abbrev queues_from : ℕ → ℕ → List Queue
queues_from start count = flat_map client_queues (range_with_len start count) ++ Asks ∷ []

from_on : (start count : ℕ) → AllByRecursion (IsFrom start) (queues_from start count)
from_on start zero = (tt, tt)
from_on start (suc count) =
    let here : start ≤ start = omega arith in
    (here, (here, (here, all_each (IsFrom (start + 1)) (IsFrom start) (queues_from (start + 1) count) (λ q h. lower start (start + 1) q (omega arith) h) (from_on (start + 1) count))))

all_apart : (start count : ℕ) → AllApart (queues_from start count)
all_apart start zero = (tt, tt)
all_apart start (suc count) =
    let rest = queues_from (start + 1) count in
    let later = from_on (start + 1) count in (
      (record { first = refl; second = refl }, (record { first = refl; second = refl }, all_each (IsFrom (start + 1)) (AreApart (Chunks start)) rest (chunks_apart start) later)),
      (
        (record { first = refl; second = refl }, all_each (IsFrom (start + 1)) (AreApart (Crumbs start)) rest (crumbs_apart start) later),
        (all_each (IsFrom (start + 1)) (AreApart (Triggers start)) rest (triggers_apart start) later, all_apart (start + 1) count),
      ),
    )

-- ---- what a pass takes of each queue

module _ (counts : Queue → ℕ) where
  abbrev block : Queue → List Step
  block queue = replicate (counts queue) (step_from queue)

  abbrev blocks : List Queue → List Step
  blocks queues = flat_map block queues

  none_kept : (queue : Queue) (queues : List Queue) → AllByRecursion (AreApart queue) queues → filter (takes queue) (blocks queues) ≡ []
  none_kept queue [] apart = refl
  none_kept queue (other ∷ queues) apart =
      filter-append (takes queue) (block other) (blocks queues)
      ∙ ap (λ front. front ++ filter (takes queue) (blocks queues)) (keeps_no_one (takes queue) (counts other) (step_from other) apart.0.first)
      ∙ none_kept queue queues apart.1

  none_back : (before : List Step) (queue : Queue) (queues : List Queue) → AllByRecursion (λ q. filter (takes q) before ≡ []) queues → AllByRecursion (AreApart queue) queues
      → AllByRecursion (λ q. filter (takes q) (before ++ block queue) ≡ []) queues
  none_back before queue [] none apart = tt
  none_back before queue (q ∷ queues) none apart = (
    filter-append (takes q) before (block queue) ∙ ap (λ front. front ++ filter (takes q) (block queue)) none.0 ∙ keeps_no_one (takes q) (counts queue) (step_from queue) apart.0.second,
    none_back before queue queues none.1 apart.1,
  )

  kept : (before behind : List Step) (queues : List Queue) → AllApart queues → AllByRecursion (λ q. filter (takes q) before ≡ []) queues → AllByRecursion (λ q. filter (takes q) behind ≡ []) queues
      → AllByRecursion (λ q. filter (takes q) (before ++ (blocks queues ++ behind)) ≡ block q) queues
  kept before behind [] apart none after = tt
  kept before behind (queue ∷ queues) apart none after = (
    filter-append (takes queue) before (blocks (queue ∷ queues) ++ behind)
        ∙ ap (λ front. front ++ filter (takes queue) (blocks (queue ∷ queues) ++ behind)) none.0
        ∙ filter-append (takes queue) (block queue ++ blocks queues) behind
        ∙ ap (λ back. filter (takes queue) (block queue ++ blocks queues) ++ back) after.0
        ∙ append-nil (filter (takes queue) (block queue ++ blocks queues))
        ∙ filter-append (takes queue) (block queue) (blocks queues)
        ∙ ap (λ back. filter (takes queue) (block queue) ++ back) (none_kept queue queues apart.0)
        ∙ append-nil (filter (takes queue) (block queue))
        ∙ keeps_some (takes queue) (counts queue) (step_from queue) (own_step queue),
    subst (λ all. AllByRecursion (λ q. filter (takes q) all ≡ block q) queues)
        (append_assoc before (block queue) (blocks queues ++ behind) ∙ ap (λ rest. before ++ rest) (sym (append_assoc (block queue) (blocks queues) behind)))
        (kept (before ++ block queue) behind queues apart.1 (none_back before queue queues none.1 apart.0) after.1),
  )

  same_blocks : (pass : List Step) (queues : List Queue) → AllByRecursion (λ q. filter (takes q) pass ≡ block q) queues → flat_map (λ q. filter (takes q) pass) queues ≡ blocks queues
  same_blocks pass [] all = refl
  same_blocks pass (q ∷ queues) all = ap (λ front. front ++ flat_map (λ q. filter (takes q) pass) queues) all.0 ∙ ap (λ rest. block q ++ rest) (same_blocks pass queues all.1)

-- ---- a turn and offers

pub no_offer : (queue : Queue) (answer : Answered) → takes queue (step_of_answer answer) ≡ false
no_offer (Chunks c) (Given stamp) = refl
no_offer (Chunks c) (Missed stamp) = refl
no_offer (Chunks c) Unread = refl
no_offer (Crumbs c) (Given stamp) = refl
no_offer (Crumbs c) (Missed stamp) = refl
no_offer (Crumbs c) Unread = refl
no_offer (Triggers c) (Given stamp) = refl
no_offer (Triggers c) (Missed stamp) = refl
no_offer (Triggers c) Unread = refl
no_offer Asks (Given stamp) = refl
no_offer Asks (Missed stamp) = refl
no_offer Asks Unread = refl

no_turn : (queue : Queue) → takes queue steps.Turn ≡ false
no_turn (Chunks c) = refl
no_turn (Crumbs c) = refl
no_turn (Triggers c) = refl
no_turn Asks = refl

pub is_an_offer : (answer : Answered) → is_offer (step_of_answer answer) ≡ true
is_an_offer (Given stamp) = refl
is_an_offer (Missed stamp) = refl
is_an_offer Unread = refl

pub is_no_turn : (answer : Answered) → is_turn (step_of_answer answer) ≡ false
is_no_turn (Given stamp) = refl
is_no_turn (Missed stamp) = refl
is_no_turn Unread = refl

pub take_from : (queue : Queue) → IsTake (step_from queue)
take_from (Chunks c) = record { turn = refl; offer = refl }
take_from (Crumbs c) = record { turn = refl; offer = refl }
take_from (Triggers c) = record { turn = refl; offer = refl }
take_from Asks = record { turn = refl; offer = refl }

abbrev pub offers_of : List Answered → List Step
offers_of offers = map step_of_answer offers

pub each_answer : (P : Step → Type 0) (offers : List Answered) → ((answer : Answered) → P (step_of_answer answer)) → AllByRecursion P (offers_of offers)
each_answer P [] each = tt
each_answer P (answer ∷ offers) each = (each answer, each_answer P offers each)

pub all_takes : (counts : Queue → ℕ) (queues : List Queue) → AllByRecursion IsTake (blocks counts queues)
all_takes counts [] = tt
all_takes counts (queue ∷ queues) = all_append IsTake (block counts queue) (blocks counts queues) (all_replicate IsTake (counts queue) (step_from queue) (take_from queue)) (all_takes counts queues)

module _ (W : PlainWorkload) (pass : List AgentEvent) (p : IsPass W pass) where
  abbrev pub items : List Step
  items = blocks p.counts (queues_of W)

  abbrev pub turn_on : List Step
  turn_on = steps.Turn ∷ offers_of p.offers

  none_after : (queues : List Queue) → AllByRecursion (λ q. filter (takes q) turn_on ≡ []) queues
  none_after [] = tt
  none_after (queue ∷ queues) = (filter_none (takes queue) turn_on (no_turn queue, each_answer (λ s. takes queue s ≡ false) p.offers (no_offer queue)), none_after queues)

  nothing_before : (queues : List Queue) → AllByRecursion (λ q. filter (takes q) [] ≡ []) queues
  nothing_before [] = tt
  nothing_before (queue ∷ queues) = (refl, nothing_before queues)

  queue_kept : AllByRecursion (λ q. filter (takes q) (steps_of pass) ≡ block p.counts q) (queues_of W)
  queue_kept =
      subst (λ steps. AllByRecursion (λ q. filter (takes q) steps ≡ block p.counts q) (queues_of W)) (sym p.steps_are)
      (kept p.counts [] turn_on (queues_of W) (all_apart 0 W.settings.clients) (nothing_before (queues_of W)) (none_after (queues_of W)))

  offers_kept : filter is_offer (steps_of pass) ≡ offers_of p.offers
  offers_kept =
      ap (filter is_offer) p.steps_are
      ∙ filter-append is_offer items turn_on
      ∙ ap (λ front. front ++ filter is_offer turn_on) (filter_none is_offer items (all_each IsTake (λ s. is_offer s ≡ false) items (λ s t. t.offer) (all_takes p.counts (queues_of W))))
      ∙ filter_all is_offer (offers_of p.offers) (each_answer (λ s. is_offer s ≡ true) p.offers is_an_offer)

  is_arranged : steps_of pass ≡ arranged (queues_of W) (steps_of pass)
  is_arranged =
      p.steps_are
      ∙ ap (λ front. front ++ turn_on) (sym (same_blocks p.counts (steps_of pass) (queues_of W) queue_kept))
      ∙ ap (λ back. flat_map (λ q. filter (takes q) (steps_of pass)) (queues_of W) ++ steps.Turn ∷ back) (sym offers_kept)

  few : (queues : List Queue) → AllByRecursion (λ q. filter (takes q) (steps_of pass) ≡ block p.counts q) queues → AllByRecursion (λ q. nat_le (taken q (steps_of pass)) MAX_TAKEN ≡ true) queues
  few [] all = tt
  few (queue ∷ queues) all =
      let count = length-filter (takes queue) (steps_of pass) in
      let long = ap length all.0 in
      let size = length-replicate (p.counts queue) (step_from queue) in
      let most = p.few queue in
      (le-leb (taken queue (steps_of pass)) MAX_TAKEN (omega (arith, count, long, size, most)), few queues all.1)

  pub is_whole : is_whole_pass (queues_of W) (steps_of pass) ≡ true
  is_whole =
      and_from (same_steps (steps_of pass) (arranged (queues_of W) (steps_of pass))) (list_all (λ queue. nat_le (taken queue (steps_of pass)) MAX_TAKEN) (queues_of W))
      (ap (same_steps (steps_of pass)) (sym is_arranged) ∙ same_steps_refl (steps_of pass)) (list_all_from (λ queue. nat_le (taken queue (steps_of pass)) MAX_TAKEN) (queues_of W) (few (queues_of W) queue_kept))

  -- it has one turn
  pub one_turn : turns (steps_of pass) ≡ 1
  one_turn =
      let all = ap (count_by is_turn) p.steps_are in
      let parts = sum_by-append (λ (s : Step). cond (is_turn s) 1 0) items turn_on in
      let front = none_counted items (all_each IsTake (λ s. is_turn s ≡ false) items (λ s t. t.turn) (all_takes p.counts (queues_of W))) in
      let back = sum_by-cons (λ (s : Step). cond (is_turn s) 1 0) steps.Turn (offers_of p.offers) in
      let rest = none_counted (offers_of p.offers) (each_answer (λ s. is_turn s ≡ false) p.offers is_no_turn) in
      omega (arith, all, parts, front, back, rest)
    where
      none_counted : (steps : List Step) → AllByRecursion (λ s. is_turn s ≡ false) steps → turns steps ≡ 0
      none_counted [] all = refl
      none_counted (s ∷ steps) all =
          let first = sum_by-cons (λ (s : Step). cond (is_turn s) 1 0) s steps in
          let none : one_if (is_turn s) ≡ 0 = ap one_if all.0 in
          let rest = none_counted steps all.1 in
          omega (arith, first, none, rest)

-- ---- where passes end

-- the steps do not begin with an offer
abbrev Begins : List Step → Type 0
Begins [] = Unit {0}
Begins (step ∷ log) = is_offer step ≡ false

-- the first pass begins with the first step
record HasHead (step : Step) (passes : List (List Step)) : Type 0 where
  pass : List Step
  rest : List (List Step)
  is : passes ≡ (step ∷ pass) ∷ rest

head_is : (step : Step) (passes : List (List Step)) → HasHead step (put_step step passes)
head_is step [] = record { pass = []; rest = []; is = refl }
head_is step ([] ∷ passes) = record { pass = []; rest = passes; is = refl }
head_is step ((next ∷ pass) ∷ passes) = either (ends_between step next)
  where
    either : (b : Bool) → HasHead step (cond b ((step ∷ []) ∷ (next ∷ pass) ∷ passes) ((step ∷ next ∷ pass) ∷ passes))
    either true = record { pass = []; rest = (next ∷ pass) ∷ passes; is = refl }
    either false = record { pass = next ∷ pass; rest = passes; is = refl }

put_joined : (step next : Step) (pass : List Step) (passes : List (List Step)) → ends_between step next ≡ false → put_step step ((next ∷ pass) ∷ passes) ≡ (step ∷ next ∷ pass) ∷ passes
put_joined step next pass passes e = ap (λ b. cond b ((step ∷ []) ∷ (next ∷ pass) ∷ passes) ((step ∷ next ∷ pass) ∷ passes)) e

put_apart : (step : Step) (rest : List Step) → (is_turn step || is_offer step) ≡ true → Begins rest → put_step step (passes_of rest) ≡ (step ∷ []) ∷ passes_of rest
put_apart step [] ends begins = refl
put_apart step (next ∷ rest) ends begins =
    let h = head_is next (passes_of rest) in
    let between : ends_between step next ≡ true = and_from (is_turn step || is_offer step) (not (is_offer next)) ends (ap not begins) in
    ap (put_step step) h.is
    ∙ ap (λ b. cond b ((step ∷ []) ∷ (next ∷ h.pass) ∷ h.rest) ((step ∷ next ∷ h.pass) ∷ h.rest)) between
    ∙ ap (λ passes. (step ∷ []) ∷ passes) (sym h.is)

ending : (step : Step) (offers : List Answered) (rest : List Step) → (is_turn step || is_offer step) ≡ true → Begins rest → passes_of ((step ∷ offers_of offers) ++ rest) ≡ (step ∷ offers_of offers) ∷ passes_of rest
ending step [] rest ends begins = put_apart step rest ends begins
ending step (answer ∷ offers) rest ends begins =
    let offer = is_an_offer answer in
    let here : (is_turn (step_of_answer answer) || is_offer (step_of_answer answer)) ≡ true = ap (λ b. is_turn (step_of_answer answer) || b) offer ∙ or_yes (is_turn (step_of_answer answer)) in
    let between : ends_between step (step_of_answer answer) ≡ false = ap (λ b. (is_turn step || is_offer step) && not b) offer ∙ and-false (is_turn step || is_offer step) in
    ap (put_step step) (ending (step_of_answer answer) offers rest here begins) ∙ put_joined step (step_of_answer answer) (offers_of offers) (passes_of rest) between
  where
    or_yes : (b : Bool) → (b || true) ≡ true
    or_yes true = refl
    or_yes false = refl

between_take : (step next : Step) → IsTake step → ends_between step next ≡ false
between_take step next t = ap (λ b. (b || is_offer step) && not (is_offer next)) t.turn ∙ ap (λ b. b && not (is_offer next)) t.offer

put_on : (step : Step) (items : List Step) (offers : List Answered) (passes : List (List Step)) → IsTake step
    → put_step step ((items ++ steps.Turn ∷ offers_of offers) ∷ passes) ≡ (step ∷ items ++ steps.Turn ∷ offers_of offers) ∷ passes
put_on step [] offers passes t = put_joined step steps.Turn (offers_of offers) passes (between_take step steps.Turn t)
put_on step (item ∷ items) offers passes t = put_joined step item (items ++ steps.Turn ∷ offers_of offers) passes (between_take step item t)

taking : (items : List Step) (offers : List Answered) (rest : List Step) → AllByRecursion IsTake items → Begins rest
    → passes_of ((items ++ steps.Turn ∷ offers_of offers) ++ rest) ≡ (items ++ steps.Turn ∷ offers_of offers) ∷ passes_of rest
taking [] offers rest all begins = ending steps.Turn offers rest refl begins
taking (item ∷ items) offers rest all begins = ap (put_step item) (taking items offers rest all.1 begins) ∙ put_on item items offers (passes_of rest) all.0

begins_on : (items : List Step) (offers : List Answered) (rest : List Step) → AllByRecursion IsTake items → Begins ((items ++ steps.Turn ∷ offers_of offers) ++ rest)
begins_on [] offers rest all = refl
begins_on (item ∷ later) offers rest all = all.0.offer

record IsCut (passes : List (List AgentEvent)) : Type 0 where
  begins : Begins (steps_of (joined passes))
  is : passes_of (steps_of (joined passes)) ≡ map steps_of passes

cut_all : (W : PlainWorkload) (passes : List (List AgentEvent)) → AllByRecursion (IsPass W) passes → IsCut passes
cut_all W [] all = record { begins = tt; is = refl }
cut_all W (pass ∷ passes) all =
    let p = all.0 in
    let rest = cut_all W passes all.1 in
    let takes = all_takes p.counts (queues_of W) in
    let more = steps_of (joined passes) in
    let steps_is : steps_of (joined (pass ∷ passes)) ≡ (items W pass p ++ turn_on W pass p) ++ more = map-append noted_as pass (joined passes) ∙ ap (λ front. front ++ more) p.steps_are in
    record {
      begins = subst Begins (sym steps_is) (begins_on (items W pass p) p.offers more takes);
      is = ap passes_of steps_is
          ∙ taking (items W pass p) p.offers more takes rest.begins
          ∙ ap (λ front. front ∷ passes_of more) (sym p.steps_are)
          ∙ ap (λ back. steps_of pass ∷ back) rest.is;
    }

-- a log of such passes has these passes
pub passes_are : (W : PlainWorkload) (passes : List (List AgentEvent)) → AllByRecursion (IsPass W) passes → passes_of (steps_of (joined passes)) ≡ map steps_of passes
passes_are W passes all = (cut_all W passes all).is

pub turns_are : (W : PlainWorkload) (passes : List (List AgentEvent)) → AllByRecursion (IsPass W) passes → turns (steps_of (joined passes)) ≡ length passes
turns_are W [] all = refl
turns_are W (pass ∷ passes) all =
    let parts = ap turns (map-append noted_as pass (joined passes)) ∙ sum_by-append (λ (s : Step). cond (is_turn s) 1 0) (steps_of pass) (steps_of (joined passes)) in
    let first = one_turn W pass all.0 in
    let rest = turns_are W passes all.1 in
    omega (arith, parts, first, rest)
