-- Items by the operations that send them: those of the first operations are the items that these send by themselves.
use Rattle.std.proofs.Common.{◌≡◌, ℕ, suc, ◌+◌, ◌<◌, ◌≤◌, false, ltb, List, [], ◌∷◌, ◌++◌, length, refl, sym, ap, ap₂, ◌∙◌, Option, None, arith, map, length-append, append-nil}
use Rattle.hs_client.proofs.Prelude.{AllByRecursion, flat_map, lt-ltb, le-ltb, filter-append, all_append, ClientId, TraceId, AutoRule, Trigger, sheet_for, Draw, Got, Empty, pages_of, Operation, NumberedOperation, numbered_from, open_behind, Sheet, drawn_from, IsTimely, TimedPagesAreTimely, Sent, sent_chunks, sent_crumbs, sent_triggers, crumb_in, trigger_in, triggers_behind, has_open_page, FirstChunksAreSent, TimedPage, timed_pages}
use Rattle.hs_base.proofs.Alls.{all_each}
use Rattle.hs_base.specs.declared.told.Crumb.{Crumb}
use Rattle.hs_client.specs.Sending.{sent_within}
use Rattle.hs_client.specs.SoFar.{FirstCrumbsAreSent, FirstTriggersAreSent, AllChunksAreSent, AllCrumbsAreSent, AllTriggersAreSent}
use Rattle.hs_client.proofs.Cutting.{Early, Open, Late, sent_are}
use Rattle.hs_client.proofs.FirstOperations.{AllCarry, first_cut}

-- ---- items of one operation

module _ {A : Type 0} (n : ℕ) where
  abbrev kept : List (Sent A) → List (Sent A)
  kept items = sent_within n items

  abbrev sent_by_one : ℕ → List A → List (Sent A)
  sent_by_one number items = map (λ item. record { number = number; item = item }) items

  low_kept : (number : ℕ) (items : List A) → number < n → kept (sent_by_one number items) ≡ sent_by_one number items
  low_kept number [] low = refl
  low_kept number (item ∷ items) low =
      rw (lt-ltb number n low) (ap (λ (items : List (Sent A)). let first : Sent A = record { number = number; item = item } in first ∷ items) (low_kept number items low))

  high_left : (number : ℕ) (items : List A) → n ≤ number → kept (sent_by_one number items) ≡ []
  high_left number [] high = refl
  high_left number (item ∷ items) high = rw (le-ltb number n high) (high_left number items high)

  low_more : (number : ℕ) (items : List A) (more same : List (Sent A)) → number < n → kept more ≡ same → kept (sent_by_one number items ++ more) ≡ sent_by_one number items ++ same
  low_more number items more same low is = filter-append (λ (item : Sent A). ltb item.number n) (sent_by_one number items) more ∙ ap₂ (λ a b. a ++ b) (low_kept number items low) is

  high_more : (number : ℕ) (items : List A) (more : List (Sent A)) → n ≤ number → kept more ≡ [] → kept (sent_by_one number items ++ more) ≡ []
  high_more number items more high is = filter-append (λ (item : Sent A). ltb item.number n) (sent_by_one number items) more ∙ ap₂ (λ a b. a ++ b) (high_left number items high) is

-- ---- crumbs

abbrev crumbs_from : ℕ → Option TraceId → List Operation → List (Sent Crumb)
crumbs_from number trace ops = flat_map (λ (op : NumberedOperation). map (λ crumb. record { number = op.number; item = crumb }) (crumb_in op.trace op.operation)) (numbered_from number trace ops)

later_crumbs : (n number : ℕ) (trace : Option TraceId) (ops : List Operation) → n ≤ number → sent_within n (crumbs_from number trace ops) ≡ []
later_crumbs n number trace [] high = refl
later_crumbs n number trace (op ∷ ops) high =
    high_more n number (crumb_in trace op) (crumbs_from (number + 1) (open_behind trace op) ops) high (later_crumbs n (number + 1) (open_behind trace op) ops (omega (arith, high)))

crumbs_within : (n number : ℕ) (trace : Option TraceId) (front rest : List Operation) → number + length front ≡ n → sent_within n (crumbs_from number trace (front ++ rest)) ≡ crumbs_from number trace front
crumbs_within n number trace [] rest is = later_crumbs n number trace rest (omega (arith, is))
crumbs_within n number trace (op ∷ front) rest is =
    low_more n number (crumb_in trace op) (crumbs_from (number + 1) (open_behind trace op) (front ++ rest)) (crumbs_from (number + 1) (open_behind trace op) front) (omega (arith, is))
    (crumbs_within n (number + 1) (open_behind trace op) front rest (omega (arith, is)))

pub first_crumbs : FirstCrumbsAreSent
first_crumbs front rest = crumbs_within (length front) 0 None front rest (omega arith)

-- ---- triggers

module _ (autos : List AutoRule) (n : ℕ) where
  abbrev triggers_from : List NumberedOperation → ℕ → Option TraceId → List Operation → List (Sent Trigger)
  triggers_from earlier number trace ops = triggers_behind autos earlier (numbered_from number trace ops)

  abbrev operation_at : ℕ → Option TraceId → Operation → NumberedOperation
  operation_at number trace op = record { number = number; trace = trace; operation = op }

  later_triggers : (earlier : List NumberedOperation) (number : ℕ) (trace : Option TraceId) (ops : List Operation) → n ≤ number → sent_within n (triggers_from earlier number trace ops) ≡ []
  later_triggers earlier number trace [] high = refl
  later_triggers earlier number trace (op ∷ ops) high =
      high_more n number (trigger_in autos earlier trace op) (triggers_from (operation_at number trace op ∷ earlier) (number + 1) (open_behind trace op) ops) high
      (later_triggers (operation_at number trace op ∷ earlier) (number + 1) (open_behind trace op) ops (omega (arith, high)))

  triggers_within : (earlier : List NumberedOperation) (number : ℕ) (trace : Option TraceId) (front rest : List Operation) → number + length front ≡ n
      → sent_within n (triggers_from earlier number trace (front ++ rest)) ≡ triggers_from earlier number trace front
  triggers_within earlier number trace [] rest is = later_triggers earlier number trace rest (omega (arith, is))
  triggers_within earlier number trace (op ∷ front) rest is =
      let behind = operation_at number trace op ∷ earlier in
      low_more n number (trigger_in autos earlier trace op) (triggers_from behind (number + 1) (open_behind trace op) (front ++ rest)) (triggers_from behind (number + 1) (open_behind trace op) front) (omega (arith, is))
      (triggers_within behind (number + 1) (open_behind trace op) front rest (omega (arith, is)))

pub first_triggers : FirstTriggersAreSent
first_triggers autos front rest = triggers_within autos (length front) [] 0 None front rest (omega arith)

-- ---- chunks

module _ (n : ℕ) (client : ClientId) where
  abbrev item_of : ℕ → TimedPage → Sent Sheet
  item_of number page = record { number = page.sent; item = sheet_for client number page.page }

  -- pages that are sent later send nothing before
  later_chunks : (number : ℕ) (pages : List TimedPage) (draws : List Draw) → AllByRecursion (λ (p : TimedPage). n ≤ p.sent) pages → sent_within n (sent_chunks (drawn_from client number pages draws)) ≡ []
  later_chunks number [] draws all = refl
  later_chunks number (page ∷ pages) [] all = refl
  later_chunks number (page ∷ pages) (Got buffer stamp ∷ draws) all = rw (le-ltb page.sent n all.0) (later_chunks (number + 1) pages draws all.1)
  later_chunks number (page ∷ pages) (Empty stamp ∷ draws) all = later_chunks (number + 1) pages draws all.1

  chunks_within : (number : ℕ) (pages later : List TimedPage) (draws more : List Draw) → AllByRecursion (λ (p : TimedPage). p.sent < n) pages → AllByRecursion (λ (p : TimedPage). n ≤ p.sent) later → length pages ≤ length draws
      → sent_within n (sent_chunks (drawn_from client number (pages ++ later) (draws ++ more))) ≡ sent_chunks (drawn_from client number pages draws)
  chunks_within number [] later draws more early late few = later_chunks number later (draws ++ more) late
  chunks_within number (page ∷ pages) later [] more early late few = absurd (omega (arith, few))
  chunks_within number (page ∷ pages) later (Got buffer stamp ∷ draws) more early late few =
      rw (lt-ltb page.sent n early.0) (ap (λ (items : List (Sent Sheet)). item_of number page ∷ items) (chunks_within (number + 1) pages later draws more early.1 late (omega (arith, few))))
  chunks_within number (page ∷ pages) later (Empty stamp ∷ draws) more early late few = chunks_within (number + 1) pages later draws more early.1 late (omega (arith, few))

  all_within : (number : ℕ) (pages : List TimedPage) (draws : List Draw) → AllByRecursion (λ (p : TimedPage). p.sent < n) pages
      → sent_within n (sent_chunks (drawn_from client number pages draws)) ≡ sent_chunks (drawn_from client number pages draws)
  all_within number [] draws early = refl
  all_within number (page ∷ pages) [] early = refl
  all_within number (page ∷ pages) (Got buffer stamp ∷ draws) early = rw (lt-ltb page.sent n early.0) (ap (λ (items : List (Sent Sheet)). item_of number page ∷ items) (all_within (number + 1) pages draws early.1))
  all_within number (page ∷ pages) (Empty stamp ∷ draws) early = all_within (number + 1) pages draws early.1

pub first_chunks : AllCarry → FirstChunksAreSent
first_chunks carry size client front rest draws more least h count =
    let n = length front in
    let pages = timed_pages size (front ++ rest) in
    let is_open = has_open_page false front in
    let cut = first_cut carry size front rest least h in
    let early = all_each (Early n) (λ (p : TimedPage). p.sent < n) cut.sent (λ p is. is.1) cut.early in
    let late = all_append (λ (p : TimedPage). n ≤ p.sent) cut.kept cut.later (all_each (Open n) (λ (p : TimedPage). n ≤ p.sent) cut.kept (λ p is. is.1) cut.opens)
    (all_each (Late n) (λ (p : TimedPage). n ≤ p.sent) cut.later (λ p is. is.1) cut.late)
    in
    let a = ap length cut.front_is in
    let b = length-append (map (λ (p : TimedPage). p.page) cut.sent) cut.fronts in
    let c = mapped_length cut.sent in
    let few : length cut.sent ≤ length draws = omega (arith, a, b, c, count) in
    ap (λ (pages : List TimedPage). sent_within n (sent_chunks (drawn_from client 0 pages (draws ++ more)))) cut.whole
    ∙ chunks_within n client 0 cut.sent (cut.kept ++ cut.later) draws more early late few
    ∙ ap (λ (pages : List TimedPage). sent_chunks (drawn_from client 0 pages draws)) (sym (sent_are n is_open pages (pages_of size front) cut))
  where
    mapped_length : (pages : List TimedPage) → length (map (λ (p : TimedPage). p.page) pages) ≡ length pages
    mapped_length [] = refl
    mapped_length (p ∷ pages) = ap suc (mapped_length pages)

pub all_chunks : TimedPagesAreTimely → AllChunksAreSent
all_chunks timely size client ops draws least h = all_within (length ops) client 0 (timed_pages size ops) draws (before (length ops) 0 (timed_pages size ops) (timely size ops least h))
  where
    before : (n from : ℕ) (pages : List TimedPage) → IsTimely from n pages → AllByRecursion (λ (p : TimedPage). p.sent < n) pages
    before n from [] h = tt
    before n from (page ∷ pages) h = (h.2, before n page.sent pages h.3)

pub all_crumbs : AllCrumbsAreSent
all_crumbs ops = ap (λ (whole : List Operation). sent_within (length ops) (sent_crumbs whole)) (sym (append-nil ops)) ∙ first_crumbs ops []

pub all_triggers : AllTriggersAreSent
all_triggers autos ops = ap (λ (whole : List Operation). sent_within (length ops) (sent_triggers autos whole)) (sym (append-nil ops)) ∙ first_triggers autos ops []
