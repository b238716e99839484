-- The pages of what leaves a node's hand are those of the first of its model's reports.
use Rattle.std.proofs.Common.{◌≡◌, ℕ, suc, ◌+◌, ◌<◌, ◌≤◌, ◌==◌, Bool, true, false, cond, List, [], ◌∷◌, ◌++◌, length, length-append, take, drop, map, Option, Some, None, refl, sym, ap, subst, ◌∙◌, arith, append_assoc, append-nil, slice_get}
use Rattle.std.specs.Prelude.{filter, filter_map, slice_set, option_map}
use Rattle.std.specs.List.{cons_option}
use Rattle.std.specs.Option.{option_to_list, option_and_then, option_map_or}
use Rattle.std.proofs.lemmas.Bool.{eq-eqb, eqb-true, eqb-false, true≢false}
use Rattle.std.proofs.lemmas.List.{length-map}
use Rattle.std.proofs.lemmas.List.Elements.{filter_map-append}
use Rattle.std.proofs.lemmas.List.Sums.{fold-append}
use Rattle.hs_base.proofs.Places.{get_front_same, get_there}
use Rattle.hs_base.proofs.Parts.{map_append}
use Rattle.hs_base.specs.declared.told.Group.{Group}
use Rattle.hs_base.specs.declared.told.Trigger.{Trigger}
use Rattle.hs_records.specs.Plain.{PlainSettings}
use Rattle.hs_records.specs.declared.journal.Step.TheVariants as journal
use Rattle.hs_words.specs.Buffers.{Buffer}
use Rattle.hs_words.specs.Pages.{Sheet}
use Rattle.hs_ring.specs.Parts.{Leased}
use Rattle.hs_wire.specs.Messages.{PlainReported}
use Rattle.hs_law_agent.specs.Standings.{ChunkStanding, Indexed, Pinned, Reported, Evicted, Abandoned, Taken, is_reported, is_let_go, stands}
use Rattle.hs_law_agent.specs.State.{AgentState, GivenPlace, start}
use Rattle.hs_law_agent.specs.Stepping.{AgentEvent, Took, Gave, Input, Answered, Given, Missed, Unread, step_of, after_event}
use Rattle.hs_law_agent.specs.Stepping as steps
use Rattle.hs_law_agent.specs.Laws.{EventsAddThis, PlacesMatch, given_places, count_of, sheets_of, brought_by}
use Rattle.hs_law_agent.specs.Lives.{EventsLeadOn, forget_group}
use Rattle.hs_law_agent.proofs.Counts.{count-append}
use Rattle.hs_law_agent.proofs.Placed.{match_start}
use Rattle.hs_law_agent.proofs.Unevicted.{passed_within}
use Rattle.hs_agent.specs.Leaving.{came_back, back_after}
use Rattle.hs_agent.specs.Points.{sheet_in}
use Rattle.hs_agent.specs.Runs.{AgentRun, bare_run, state_of, offered_next}
use Rattle.hs_agent.specs.Tries.{after_trigger}
use Rattle.hs_intake.specs.Handing.{page_of, page_if, was_offered, first_taken, first_page}
use Rattle.hs_intake.specs.Intakes.{IntakeAct, TakesChunk, TakesCrumb, TakesTrigger, TakesAsk, Turns, LetsGo, Forgets, after_act, life, has_left}
use Rattle.hs_intake.proofs.Lines.{get_set, length_set}
use Rattle.hs_node.specs.Nodes.{Part, part_of, part_at, parts_in}
use Rattle.hs_law_life.specs.Reports.{back_of, offered_of, waiting_of, reported_among, report_in, AreFirst, ComesBack, IsBackAt, AreBack}
use Rattle.hs_law_life.specs.NodeLives.{run_by}
use Rattle.hs_law_life.proofs.Counts.{set_other}
use Rattle.hs_law_life.proofs.Reporting.{Step, From, out, filter_append, filter_same, let_go_out, same_by, event_from}

-- ---- lists

cancel : {A : Type 0} (xs ys zs : List A) → xs ++ ys ≡ xs ++ zs → ys ≡ zs
cancel [] ys zs same = same
cancel (x ∷ xs) ys zs same = cancel xs ys zs (ap (drop 1) same)

module _ (f g : ℕ → Option PlainReported) where
  counted_first : (x : ℕ) (xs : List ℕ) → 1 ≤ count_of (x ∷ xs) x
  counted_first x xs = rw (eq-eqb x x refl) (omega arith)

  counted_later : (x : ℕ) (xs : List ℕ) (p : ℕ) → 1 ≤ count_of xs p → 1 ≤ count_of (x ∷ xs) p
  counted_later x xs p low = go (x == p)
    where
      go : (b : Bool) → 1 ≤ cond b 1 0 + count_of xs p
      go true = omega arith
      go false = omega (arith, low)

  pages_same : (xs : List ℕ) → ((p : ℕ) → 1 ≤ count_of xs p → f p ≡ g p) → filter_map f xs ≡ filter_map g xs
  pages_same [] same = refl
  pages_same (x ∷ xs) same =
      ap (λ (o : Option PlainReported). cons_option o (filter_map f xs)) (same x (counted_first x xs))
      ∙ ap (λ (l : List PlainReported). cons_option (g x) l) (pages_same xs (λ p low. same p (counted_later x xs p low)))

one_page : (f : ℕ → Option PlainReported) (p : ℕ) → filter_map f (p ∷ []) ≡ option_to_list (f p)
one_page f p = go (f p)
  where
    go : (o : Option PlainReported) → cons_option o [] ≡ option_to_list o
    go None = refl
    go (Some page) = refl

-- ---- what is out, and what of it was offered

out_parts : (s : AgentState) → out s ≡ offered_of s ++ waiting_of s
out_parts s = go (came_back s.log) s.hand
  where
    go : (b : Bool) (hand : List ℕ) → given_places s ++ hand ≡ (given_places s ++ cond b (take 1 hand) []) ++ cond b (drop 1 hand) hand
    go true [] = sym (ap (λ (l : List ℕ). l ++ []) (append-nil (given_places s)))
    go true (place ∷ hand) = sym (append_assoc (given_places s) (place ∷ []) hand)
    go false hand = ap (λ (l : List ℕ). l ++ hand) (sym (append-nil (given_places s)))

offered_let_go : (s : AgentState) → PlacesMatch s → (p : ℕ) → 1 ≤ count_of (offered_of s) p → stands is_let_go s.taken p ≡ true
offered_let_go s m p low =
    let parts : count_of (out s) p ≡ count_of (offered_of s) p + count_of (waiting_of s) p = ap (λ (l : List ℕ). count_of l p) (out_parts s) ∙ count-append (offered_of s) (waiting_of s) p in
    let_go_out s m p (omega (arith, low, parts))

abbrev Ordered : AgentState → Type 0
Ordered s = reported_among s (out s) ≡ s.reported

order_on : (old new : AgentState) → PlacesMatch old → Step old new → Ordered old → Ordered new
order_on old new m step order =
    ap (reported_among new) step.out_is ∙ filter_append (stands is_reported new.taken) (out old) step.more
    ∙ ap (λ (l : List ℕ). l ++ reported_among new step.more)
    (filter_same (stands is_reported new.taken) (stands is_reported old.taken) (out old) (λ p low. same_by is_reported old.taken new.taken p (step.stays p (let_go_out old m p low))) ∙ order)
    ∙ sym step.reported_is

-- ---- where an agent stands, when these parts have left

abbrev pages_in : List Part → List PlainReported
pages_in parts = filter_map (λ (part : Part). part.page) parts

record At (s : AgentState) (buffers : List (Buffer Leased)) (parts : List Part) : Type 0 where
  pub places : PlacesMatch s
  pub order : Ordered s
  pub firm : came_back s.log ≡ true → 1 ≤ length s.hand
  pub many : length buffers ≡ length s.taken
  pub pages : pages_in parts ≡ filter_map (report_in s.taken buffers) (offered_of s)

back_same : (b : Bool) (hand more : List ℕ) → (b ≡ true → 1 ≤ length hand) → cond b (take 1 (hand ++ more)) [] ≡ cond b (take 1 hand) []
back_same true [] more firm = let none = firm refl in absurd (omega (arith, none))
back_same true (place ∷ hand) more firm = refl
back_same false hand more firm = refl

input_back : (b : Bool) (input : Input) → back_after b (step_of input) ≡ b
input_back b (steps.Chunk client sheet) = refl
input_back b (steps.Crumbed client crumb) = refl
input_back b (steps.Triggered client trigger) = refl
input_back b (steps.Asked ask) = refl
input_back b steps.Turn = refl

length_mapped : (taken : List Taken) → length (sheets_of taken) ≡ length taken
length_mapped taken = length-map taken (λ (chunk : Taken). chunk.sheet)

input_at : EventsAddThis → (settings : PlainSettings) (node : ℕ) (s : AgentState) (buffers more : List (Buffer Leased)) (parts : List Part) (input : Input) → length more ≡ length (brought_by (Took input)) → At s buffers parts
    → At (after_event settings node s (Took input)) (buffers ++ more) parts
input_at add settings node s buffers more parts input brought at =
    let new = after_event settings node s (Took input) in
    let from = event_from settings node s (Took input) at.places in
    let step = from.step in
    let adds = add settings node s in
    let given_same : given_places new ≡ given_places s = ap (map (λ (g : GivenPlace). g.place)) (adds.given input) in
    let hand : new.hand ≡ s.hand ++ step.more =
    cancel (given_places s) new.hand (s.hand ++ step.more) (ap (λ (l : List ℕ). l ++ new.hand) (sym given_same) ∙ step.out_is ∙ append_assoc (given_places s) s.hand step.more) in
    let log : came_back new.log ≡ came_back s.log =
    ap came_back (adds.log (Took input)) ∙ fold-append back_after false s.log (step_of input ∷ []) ∙ input_back (came_back s.log) input in
    let backs : back_of new ≡ back_of s =
    ap (λ (l : List ℕ). cond (came_back new.log) (take 1 l) []) hand ∙ ap (λ (b : Bool). cond b (take 1 (s.hand ++ step.more)) []) log ∙ back_same (came_back s.log) s.hand step.more at.firm in
    let offered : offered_of new ≡ offered_of s = ap (λ (l : List ℕ). l ++ back_of new) given_same ∙ ap (λ (l : List ℕ). given_places s ++ l) backs in
    let sheets = ap length (adds.chunks (Took input)) ∙ length-append (sheets_of s.taken) (brought_by (Took input)) in
    let count_new = length_mapped new.taken in
    let count_old = length_mapped s.taken in
    let joined = length-append buffers more in
    let many_old = at.many in
    let kept : (p : ℕ) → 1 ≤ count_of (offered_of s) p → report_in s.taken buffers p ≡ report_in new.taken (buffers ++ more) p =
    λ p low.
    let gone = offered_let_go s at.places p low in
    let within : p < length s.taken = passed_within _ s.taken p gone in
    sym (ap (λ (o : Option Taken). option_and_then (λ (chunk : Taken). option_and_then (λ (buffer : Buffer Leased). page_if chunk.standing buffer.lease.mark chunk.sheet) (slice_get (buffers ++ more) p)) o) (step.stays p gone)
    ∙ ap (λ (o : Option (Buffer Leased)). option_and_then (λ (chunk : Taken). option_and_then (λ (buffer : Buffer Leased). page_if chunk.standing buffer.lease.mark chunk.sheet) o) (slice_get s.taken p))
    (get_front_same buffers more p (omega (arith, within, many_old)))) in
    record {
      places = from.places;
      order = order_on s new at.places step at.order;
      firm = λ back. let old = at.firm (sym log ∙ back) in let longer = ap length hand ∙ length-append s.hand step.more in omega (arith, old, longer);
      many = omega (arith, sheets, count_new, count_old, joined, many_old, brought);
      pages = at.pages ∙ pages_same (report_in s.taken buffers) (report_in new.taken (buffers ++ more)) (offered_of s) kept ∙ ap (filter_map (report_in new.taken (buffers ++ more))) (sym offered);
    }

-- ---- an offer

record Offered (s : AgentState) (buffers : List (Buffer Leased)) : Type 0 where
  pub place : ℕ
  pub rest : List ℕ
  pub hand : s.hand ≡ place ∷ rest
  pub buffer : Buffer Leased
  pub there : slice_get buffers place ≡ Some buffer

offered_first : (s : AgentState) (buffers : List (Buffer Leased)) (buffer : Buffer Leased) (hand : List ℕ) → s.hand ≡ hand → option_and_then (λ place. slice_get buffers place) (slice_get hand 0) ≡ Some buffer → Offered s buffers
offered_first s buffers buffer [] is there = let none : None ≡ Some buffer = there in absurd cc
offered_first s buffers buffer (place ∷ rest) is there = record { place = place; rest = rest; hand = is; buffer = buffer; there = there }

-- what the offer adds to the pages: the first one's page, if it was not offered before
abbrev page_more : Bool → Option PlainReported → List PlainReported
page_more offered page = cond offered [] (option_to_list page)

joined_pages : (f : ℕ → Option PlainReported) (given : List ℕ) (place : ℕ) (b : Bool) → filter_map f (given ++ cond b (place ∷ []) []) ++ page_more b (f place) ≡ filter_map f (given ++ place ∷ [])
joined_pages f given place true = append-nil (filter_map f (given ++ place ∷ []))
joined_pages f given place false =
    ap (λ (l : List ℕ). filter_map f l ++ option_to_list (f place)) (append-nil given) ∙ ap (λ (l : List PlainReported). filter_map f given ++ l) (sym (one_page f place))
    ∙ sym (filter_map-append f given (place ∷ []))

-- the buffer that came back has its lease
set_report : (taken : List Taken) (buffers : List (Buffer Leased)) (place : ℕ) (buffer later : Buffer Leased) → slice_get buffers place ≡ Some buffer → later.lease ≡ buffer.lease → (p : ℕ)
    → report_in taken buffers p ≡ report_in taken (slice_set buffers place later) p
set_report taken buffers place buffer later there same p = go (place == p) refl
  where
    by : Option (Buffer Leased) → Option PlainReported
    by o = option_and_then (λ (chunk : Taken). option_and_then (λ (buffer : Buffer Leased). page_if chunk.standing buffer.lease.mark chunk.sheet) o) (slice_get taken p)

    go : (b : Bool) → (place == p) ≡ b → by (slice_get buffers p) ≡ by (slice_get (slice_set buffers place later) p)
    go true is =
        let at : place ≡ p = eqb-true place p is in
        subst (λ (q : ℕ). by (slice_get buffers q) ≡ by (slice_get (slice_set buffers place later) q)) at
        (ap by there
        ∙ ap (λ (lease : Leased). option_and_then (λ (chunk : Taken). page_if chunk.standing lease.mark chunk.sheet) (slice_get taken p)) (sym same)
        ∙ ap by (sym (get_set buffers place buffer later there)))
    go false is = ap by (sym (set_other buffers place p later (eqb-false place p is)))

module _ (settings : PlainSettings) (node : ℕ) (s : AgentState) (buffers : List (Buffer Leased)) (parts : List Part) (at : At s buffers parts) (first : Offered s buffers) where
  offered_now : offered_of s ≡ given_places s ++ cond (came_back s.log) (first.place ∷ []) []
  offered_now = ap (λ (l : List ℕ). given_places s ++ cond (came_back s.log) (take 1 l) []) first.hand

  -- the pages with that of the first
  pages_now : (new : List Part) → pages_in new ≡ page_more (came_back s.log) (report_in s.taken buffers first.place)
      → pages_in (parts ++ new) ≡ filter_map (report_in s.taken buffers) (given_places s ++ first.place ∷ [])
  pages_now new is =
      filter_map-append (λ (part : Part). part.page) parts new ∙ ap (λ (l : List PlainReported). l ++ pages_in new) (at.pages ∙ ap (filter_map (report_in s.taken buffers)) offered_now)
      ∙ ap (λ (l : List PlainReported). filter_map (report_in s.taken buffers) (given_places s ++ cond (came_back s.log) (first.place ∷ []) []) ++ l) is
      ∙ joined_pages (report_in s.taken buffers) (given_places s) first.place (came_back s.log)

  -- it stays first in the hand
  stays_first : (new : AgentState) → From s new → new.taken ≡ s.taken → new.given ≡ s.given → new.hand ≡ s.hand → came_back new.log ≡ true → (later : Buffer Leased) → later.lease ≡ first.buffer.lease → (more : List Part)
      → pages_in more ≡ page_more (came_back s.log) (report_in s.taken buffers first.place) → At new (slice_set buffers first.place later) (parts ++ more)
  stays_first new from taken given hand back later lease more is =
      let held : length new.hand ≡ suc (length first.rest) = ap length (hand ∙ first.hand) in
      let offered : offered_of new ≡ given_places s ++ first.place ∷ [] =
      ap (λ (l : List GivenPlace). map (λ (g : GivenPlace). g.place) l ++ back_of new) given ∙ ap (λ (b : Bool). given_places s ++ cond b (take 1 new.hand) []) back
      ∙ ap (λ (l : List ℕ). given_places s ++ take 1 l) (hand ∙ first.hand) in
      record {
        places = from.places;
        order = order_on s new at.places from.step at.order;
        firm = λ was. omega (arith, held);
        many = length_set buffers first.place later ∙ at.many ∙ ap length (sym taken);
        pages =
            pages_now more is
            ∙ pages_same (report_in s.taken buffers) (report_in s.taken (slice_set buffers first.place later)) (given_places s ++ first.place ∷ []) (λ p low. set_report s.taken buffers first.place first.buffer later first.there lease p)
            ∙ ap (λ (l : List Taken). filter_map (report_in l (slice_set buffers first.place later)) (given_places s ++ first.place ∷ [])) (sym taken)
            ∙ ap (filter_map (report_in new.taken (slice_set buffers first.place later))) (sym offered);
      }

  -- the pool took it
  leaves : (new : AgentState) → From s new → new.taken ≡ s.taken → given_places new ≡ given_places s ++ first.place ∷ [] → came_back new.log ≡ false → (more : List Part)
      → pages_in more ≡ page_more (came_back s.log) (report_in s.taken buffers first.place) → At new buffers (parts ++ more)
  leaves new from taken given back more is =
      let offered : offered_of new ≡ given_places s ++ first.place ∷ [] =
      ap (λ (b : Bool). given_places new ++ cond b (take 1 new.hand) []) back ∙ append-nil (given_places new) ∙ given in
      record {
        places = from.places;
        order = order_on s new at.places from.step at.order;
        firm = λ was. absurd (true≢false (sym was ∙ back));
        many = at.many ∙ ap length (sym taken);
        pages =
            pages_now more is ∙ ap (λ (l : List Taken). filter_map (report_in l buffers) (given_places s ++ first.place ∷ [])) (sym taken)
            ∙ ap (filter_map (report_in new.taken buffers)) (sym offered);
      }

-- ---- acts

-- the page of the part that leaves at an offer
part_page : (run : AgentRun Leased) (b : Bool) (o : Option Taken) → first_taken run ≡ o → pages_in (option_to_list (cond b None (option_map (part_of run) o))) ≡ page_more b (first_page run)
part_page run true o is = refl
part_page run false None is =
    sym (ap (λ (t : Option Taken). option_to_list (option_and_then (λ (taken : Taken). option_and_then (λ (buffer : Buffer Leased). page_if taken.standing buffer.lease.mark taken.sheet) (offered_next run)) t)) is)
part_page run false (Some taken) is = go (first_page run)
  where
    go : (o : Option PlainReported) → cons_option o [] ≡ option_to_list o
    go None = refl
    go (Some page) = refl

first_report : (run : AgentRun Leased) (place : ℕ) (rest : List ℕ) → (state_of run).hand ≡ place ∷ rest → first_page run ≡ report_in (state_of run).taken run.buffers place
first_report run place rest is =
    ap (λ (hand : List ℕ).
    option_and_then (λ (taken : Taken). option_and_then (λ (buffer : Buffer Leased). page_if taken.standing buffer.lease.mark taken.sheet) (option_and_then (λ p. slice_get run.buffers p) (slice_get hand 0)))
    (option_and_then (λ p. slice_get (state_of run).taken p) (slice_get hand 0)))
    is

given_taken : (stamp : ℕ) (hand : List ℕ) (s : AgentState) → (steps.give_back stamp hand s).taken ≡ s.taken
given_taken stamp [] s = refl
given_taken stamp (place ∷ hand) s = refl

given_one : (stamp place : ℕ) (rest : List ℕ) (s : AgentState) → s.hand ≡ place ∷ rest → given_places (steps.give_back stamp s.hand s) ≡ given_places s ++ place ∷ []
given_one stamp place rest s is =
    ap (λ (hand : List ℕ). given_places (steps.give_back stamp hand s)) is ∙ map_append (λ (g : GivenPlace). g.place) s.given (record { place = place; stamp = stamp } ∷ [])

module _ (on : EventsLeadOn) (add : EventsAddThis) where
  input_act : (run run' : AgentRun Leased) (parts : List Part) (input : Input) (more : List (Buffer Leased)) → state_of run' ≡ after_event run.settings run.node (state_of run) (Took input) → run'.buffers ≡ run.buffers ++ more
      → length more ≡ length (brought_by (Took input)) → At (state_of run) run.buffers parts → At (state_of run') run'.buffers (parts ++ [])
  input_act run run' parts input more state buffers brought at =
      subst (λ (l : List Part). At (state_of run') run'.buffers l) (sym (append-nil parts))
      (subst (λ (l : List (Buffer Leased)). At (state_of run') l parts) (sym buffers)
      (subst (λ (s : AgentState). At s (run.buffers ++ more) parts) (sym state) (input_at add run.settings run.node (state_of run) run.buffers more parts input brought at)))

  took : (run : AgentRun Leased) (input : Input) → steps.after_from run.settings run.node run.start (run.events ++ Took input ∷ []) ≡ after_event run.settings run.node (state_of run) (Took input)
  took run input = on run.settings run.node run.start run.events (Took input ∷ [])

  trigger_act : (run : AgentRun Leased) (client : ℕ) (trigger : Trigger) (parts : List Part) (b : Bool) → At (state_of run) run.buffers parts
      → At (state_of (cond b (after_trigger run client trigger) run)) (cond b (after_trigger run client trigger) run).buffers (parts ++ [])
  trigger_act run client trigger parts true at = input_act run (after_trigger run client trigger) parts (steps.Triggered client trigger) [] (took run (steps.Triggered client trigger)) (sym (append-nil run.buffers)) refl at
  trigger_act run client trigger parts false at = subst (λ (l : List Part). At (state_of run) run.buffers l) (sym (append-nil parts)) at

  forget_act : (s : AgentState) (group : Group) (buffers : List (Buffer Leased)) (parts : List Part) → At s buffers parts → At (forget_group group s) buffers parts
  forget_act s group buffers parts at = record { places = at.places; order = at.order; firm = at.firm; many = at.many; pages = at.pages }

  offer_act : (run : AgentRun Leased) (answer : Answered) (back : Option (Buffer Leased)) (parts : List Part) (buffer : Buffer Leased) → offered_next run ≡ Some buffer → ComesBack buffer answer back → At (state_of run) run.buffers parts
      → At (after_event run.settings run.node (state_of run) (Gave answer)) (after_act run (LetsGo answer back)).buffers (parts ++ option_to_list (part_at run (LetsGo answer back)))
  offer_act run answer back parts buffer next comes at = go answer back comes
    where
      s : AgentState
      s = state_of run

      first : Offered s run.buffers
      first = offered_first s run.buffers buffer s.hand refl next

      same_buffer : buffer ≡ first.buffer
      same_buffer =
          let is : Some buffer ≡ Some first.buffer = sym next ∙ ap (λ (hand : List ℕ). option_and_then (λ p. slice_get run.buffers p) (slice_get hand 0)) first.hand ∙ first.there in cc

      page_is : (answer : Answered) (back : Option (Buffer Leased)) → pages_in (option_to_list (part_at run (LetsGo answer back))) ≡ page_more (came_back s.log) (report_in s.taken run.buffers first.place)
      page_is answer back = part_page run (was_offered run) (first_taken run) refl ∙ ap (page_more (came_back s.log)) (first_report run first.place first.rest first.hand)

      set_back : (later : Buffer Leased) → (after_act run (LetsGo answer (Some later))).buffers ≡ slice_set run.buffers first.place later
      set_back later = ap (λ (hand : List ℕ). option_map_or (λ place. slice_set run.buffers place later) (slice_get hand 0) run.buffers) first.hand

      go : (answer : Answered) (back : Option (Buffer Leased)) → ComesBack buffer answer back
          → At (after_event run.settings run.node s (Gave answer)) (after_act run (LetsGo answer back)).buffers (parts ++ option_to_list (part_at run (LetsGo answer back)))
      go (Given stamp) None none =
          leaves run.settings run.node s run.buffers parts at first (after_event run.settings run.node s (Gave (Given stamp))) (event_from run.settings run.node s (Gave (Given stamp)) at.places)
          (given_taken stamp s.hand s) (given_one stamp first.place first.rest s first.hand) (fold-append back_after false (steps.give_back stamp s.hand s).log (journal.Given stamp ∷ [])) (option_to_list (part_at run (LetsGo (Given stamp) None))) (page_is (Given stamp) None)
      go (Given stamp) (Some later) none = let never : Some later ≡ None = none in absurd cc
      go (Missed stamp) back (later, is, lease) =
          subst (λ (o : Option (Buffer Leased)). At (after_event run.settings run.node s (Gave (Missed stamp))) (after_act run (LetsGo (Missed stamp) o)).buffers (parts ++ option_to_list (part_at run (LetsGo (Missed stamp) o)))) (sym is)
          (subst (λ (l : List (Buffer Leased)). At (after_event run.settings run.node s (Gave (Missed stamp))) l (parts ++ option_to_list (part_at run (LetsGo (Missed stamp) (Some later))))) (sym (set_back later))
          (stays_first run.settings run.node s run.buffers parts at first (after_event run.settings run.node s (Gave (Missed stamp))) (event_from run.settings run.node s (Gave (Missed stamp)) at.places) refl refl refl
          (fold-append back_after false s.log (journal.Missed stamp ∷ [])) later (lease ∙ ap (λ (b : Buffer Leased). b.lease) same_buffer) (option_to_list (part_at run (LetsGo (Missed stamp) (Some later)))) (page_is (Missed stamp) (Some later))))
      go Unread back (later, is, lease) =
          subst (λ (o : Option (Buffer Leased)). At (after_event run.settings run.node s (Gave Unread)) (after_act run (LetsGo Unread o)).buffers (parts ++ option_to_list (part_at run (LetsGo Unread o)))) (sym is)
          (subst (λ (l : List (Buffer Leased)). At (after_event run.settings run.node s (Gave Unread)) l (parts ++ option_to_list (part_at run (LetsGo Unread (Some later))))) (sym (set_back later))
          (stays_first run.settings run.node s run.buffers parts at first (after_event run.settings run.node s (Gave Unread)) (event_from run.settings run.node s (Gave Unread) at.places) refl refl refl
          (fold-append back_after false s.log (journal.Unread ∷ [])) later (lease ∙ ap (λ (b : Buffer Leased). b.lease) same_buffer) (option_to_list (part_at run (LetsGo Unread (Some later)))) (page_is Unread (Some later))))

  act_at : (run : AgentRun Leased) (act : IntakeAct) (parts : List Part) → IsBackAt run act → At (state_of run) run.buffers parts
      → At (state_of (after_act run act)) (after_act run act).buffers (parts ++ option_to_list (part_at run act))
  act_at run (TakesChunk client buffer) parts back at =
      input_act run (after_act run (TakesChunk client buffer)) parts (steps.Chunk client (sheet_in buffer)) (buffer ∷ []) (took run (steps.Chunk client (sheet_in buffer))) refl refl at
  act_at run (TakesCrumb client crumb) parts back at =
      input_act run (after_act run (TakesCrumb client crumb)) parts (steps.Crumbed client crumb) [] (took run (steps.Crumbed client crumb)) (sym (append-nil run.buffers)) refl at
  act_at run (TakesTrigger client trigger) parts back at = trigger_act run client trigger parts (has_left run) at
  act_at run (TakesAsk ask) parts back at = input_act run (after_act run (TakesAsk ask)) parts (steps.Asked ask) [] (took run (steps.Asked ask)) (sym (append-nil run.buffers)) refl at
  act_at run Turns parts back at = input_act run (after_act run Turns) parts steps.Turn [] (took run steps.Turn) (sym (append-nil run.buffers)) refl at
  act_at run (LetsGo answer back) parts (buffer, next, comes) at =
      subst (λ (s : AgentState). At s (after_act run (LetsGo answer back)).buffers (parts ++ option_to_list (part_at run (LetsGo answer back)))) (sym (on run.settings run.node run.start run.events (Gave answer ∷ [])))
      (offer_act run answer back parts buffer next comes at)
  act_at run (Forgets group) parts back at =
      subst (λ (l : List Part). At (forget_group group (state_of run)) run.buffers l) (sym (append-nil parts)) (forget_act (state_of run) group run.buffers parts at)

  acts_at : (acts : List IntakeAct) (run : AgentRun Leased) (parts : List Part) → AreBack run acts → At (state_of run) run.buffers parts
      → At (state_of (life run acts)) (life run acts).buffers (parts ++ parts_in run acts)
  acts_at [] run parts back at = subst (λ (l : List Part). At (state_of run) run.buffers l) (sym (append-nil parts)) at
  acts_at (act ∷ acts) run parts (back, others) at =
      subst (λ (l : List Part). At (state_of (life run (act ∷ acts))) (life run (act ∷ acts)).buffers l) (append_assoc parts (option_to_list (part_at run act)) (parts_in (after_act run act) acts))
      (acts_at acts (after_act run act) (parts ++ option_to_list (part_at run act)) others (act_at run act parts back at))

-- ---- the first of the reports

no_page : (standing : ChunkStanding) (mark : ℕ) (sheet : Sheet) → is_reported standing ≡ false → page_if standing mark sheet ≡ None
no_page Indexed mark sheet is = refl
no_page (Pinned group) mark sheet is = refl
no_page (Reported group) mark sheet is = let never : true ≡ false = is in absurd cc
no_page (Evicted chunks traces) mark sheet is = refl
no_page (Abandoned group) mark sheet is = refl

no_report : (buffer : Option (Buffer Leased)) (chunk : Option Taken) → option_map_or (λ (c : Taken). is_reported c.standing) chunk false ≡ false
    → option_and_then (λ (c : Taken). option_and_then (λ (b : Buffer Leased). page_if c.standing b.lease.mark c.sheet) buffer) chunk ≡ None
no_report buffer None is = refl
no_report None (Some chunk) is = refl
no_report (Some buffer) (Some chunk) is = no_page chunk.standing buffer.lease.mark chunk.sheet is

reported_only : (taken : List Taken) (buffers : List (Buffer Leased)) (xs : List ℕ) → filter_map (report_in taken buffers) xs ≡ filter_map (report_in taken buffers) (filter (stands is_reported taken) xs)
reported_only taken buffers [] = refl
reported_only taken buffers (x ∷ xs) = go (stands is_reported taken x) refl (reported_only taken buffers xs)
  where
    go : (b : Bool) → stands is_reported taken x ≡ b → filter_map (report_in taken buffers) xs ≡ filter_map (report_in taken buffers) (filter (stands is_reported taken) xs)
        → cons_option (report_in taken buffers x) (filter_map (report_in taken buffers) xs) ≡ filter_map (report_in taken buffers) (cond b (x ∷ filter (stands is_reported taken) xs) (filter (stands is_reported taken) xs))
    go true is rest = ap (λ (l : List PlainReported). cons_option (report_in taken buffers x) l) rest
    go false is rest =
        ap (λ (o : Option PlainReported). cons_option o (filter_map (report_in taken buffers) xs)) (no_report (slice_get buffers x) (slice_get taken x) is) ∙ rest

-- a reported chunk has its page
some_page : (standing : ChunkStanding) (mark : ℕ) (sheet : Sheet) → is_reported standing ≡ true → (page : PlainReported) × (page_if standing mark sheet ≡ Some page)
some_page Indexed mark sheet is = absurd cc
some_page (Pinned group) mark sheet is = absurd cc
some_page (Reported group) mark sheet is = (page_of group mark sheet, refl)
some_page (Evicted chunks traces) mark sheet is = absurd cc
some_page (Abandoned group) mark sheet is = absurd cc

some_report : (taken : List Taken) (buffers : List (Buffer Leased)) → length buffers ≡ length taken → (p : ℕ) → stands is_reported taken p ≡ true → (page : PlainReported) × (report_in taken buffers p ≡ Some page)
some_report taken buffers many p is =
    let within : p < length taken = passed_within _ taken p is in
    let chunk = get_there taken p within in
    let buffer = get_there buffers p (omega (arith, many, within)) in
    let stood : is_reported chunk.0.standing ≡ true = sym (ap (λ (o : Option Taken). option_map_or (λ (c : Taken). is_reported c.standing) o false) chunk.1) ∙ is in
    let page = some_page chunk.0.standing buffer.0.lease.mark chunk.0.sheet stood in (
      page.0,
      ap (λ (o : Option Taken). option_and_then (λ (c : Taken). option_and_then (λ (b : Buffer Leased). page_if c.standing b.lease.mark c.sheet) (slice_get buffers p)) o) chunk.1
          ∙ ap (λ (o : Option (Buffer Leased)). option_and_then (λ (b : Buffer Leased). page_if chunk.0.standing b.lease.mark chunk.0.sheet) o) buffer.1 ∙ page.1,
    )

each_page : (taken : List Taken) (buffers : List (Buffer Leased)) → length buffers ≡ length taken → (xs : List ℕ)
    → map Some (filter_map (report_in taken buffers) (filter (stands is_reported taken) xs)) ≡ map (report_in taken buffers) (filter (stands is_reported taken) xs)
each_page taken buffers many [] = refl
each_page taken buffers many (x ∷ xs) = go (stands is_reported taken x) refl (each_page taken buffers many xs)
  where
    go : (b : Bool) → stands is_reported taken x ≡ b
        → map Some (filter_map (report_in taken buffers) (filter (stands is_reported taken) xs)) ≡ map (report_in taken buffers) (filter (stands is_reported taken) xs)
        → map Some (filter_map (report_in taken buffers) (cond b (x ∷ filter (stands is_reported taken) xs) (filter (stands is_reported taken) xs)))
        ≡ map (report_in taken buffers) (cond b (x ∷ filter (stands is_reported taken) xs) (filter (stands is_reported taken) xs))
    go true is rest =
        let page = some_report taken buffers many x is in
        ap (λ (o : Option PlainReported). map Some (cons_option o (filter_map (report_in taken buffers) (filter (stands is_reported taken) xs)))) page.1
        ∙ ap (λ (l : List (Option PlainReported)). Some page.0 ∷ l) rest
        ∙ ap (λ (o : Option PlainReported). o ∷ map (report_in taken buffers) (filter (stands is_reported taken) xs)) (sym page.1)
    go false is rest = rest

pub first_reports : EventsLeadOn → EventsAddThis → (settings : PlainSettings) (node : ℕ) (acts : List IntakeAct) → AreBack (bare_run settings node) acts
    → AreFirst (run_by settings node acts) (pages_in (parts_in (bare_run settings node) acts))
first_reports on add settings node acts backs =
    let run = run_by settings node acts in
    let s = state_of run in
    let begins : At (start settings) [] [] = record { places = match_start settings; order = refl; firm = λ was. absurd (true≢false (sym was)); many = refl; pages = refl } in
    let at = acts_at on add acts (bare_run settings node) [] backs begins in
    record {
      reports = sym at.order ∙ ap (reported_among s) (out_parts s) ∙ filter_append (stands is_reported s.taken) (offered_of s) (waiting_of s);
      pages_are = ap (map Some) (at.pages ∙ reported_only s.taken run.buffers (offered_of s)) ∙ each_page s.taken run.buffers at.many (offered_of s);
    }
