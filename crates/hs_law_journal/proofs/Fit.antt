-- What an agent takes on its way may be taken: chunks are their clients' own, and crumbs, triggers and asks name nodes and trigger ids of
-- the workload.
use Rattle.std.proofs.Common.{◌≡◌, ℕ, zero, suc, ◌+◌, ◌<◌, ◌^◌, Bool, true, false, cond, List, [], ◌∷◌, refl, sym, ap, subst, ◌∙◌, Option, Some, None, arith, map, filter, option_map, slice_get, unwrap_or}
use Rattle.hs_law_journal.proofs.Prelude.{AllByRecursion, flat_map, range_with_len, option_and_then, option_map_or, same_Some, option_unmap, all_append, all_at, sampled, Sampled, is_declared, ClientId, TraceId, AutoRule, Ask, Crumb, Trigger, Messages, Draw, PlainJournal, Step, AgentState, AgentEvent, Took, Gave, Answered, Given, Missed, Unread, Chunk, Crumbed, Triggered, Asked, Turn, Operation, PlainSettings, PlainWorkload, NumberedOperation, numbered_from, open_behind, DrawnPage, has_buffer, drawn_from, Sent, ClientSends, sheet_of, sent_chunks, crumb_in, samples_of, trigger_of, trigger_in, triggers_behind, client_sends, node_sends, draws_at, operations_at, place_of, TimedPage, timed_pages, Sheet, IsValid, Queue, Chunks, Crumbs, Triggers, Asks, taken, asks_to, NodeRun, next_of, event_of}
use Rattle.std.proofs.lemmas.List.Elements.{recursion_from_All}
use Rattle.hs_auto.specs.declared.sampled.Sampled.TheVariants as answers
use Rattle.hs_base.specs.Rules.{fired_by}
use Rattle.hs_records.specs.declared.journal.Step.TheVariants as steps
use Rattle.hs_records.specs.Plain as plain
use Rattle.hs_records.specs.Validity.{IsOperation, IsClient}
use Rattle.hs_law_journal.specs.Fitting.{MayTake}

-- ---- what clients send

chunks_own : (client : ClientId) (number : ℕ) (pages : List TimedPage) (draws : List Draw) → AllByRecursion (λ (item : Sent Sheet). item.item.header.client ≡ client) (sent_chunks (drawn_from client number pages draws))
chunks_own client number [] draws = tt
chunks_own client number (page ∷ pages) [] = tt
chunks_own client number (page ∷ pages) (draw ∷ draws) =
    let d : DrawnPage = record { client = client; number = number; page = page.page; started = page.started; sent = page.sent; draw = draw } in
    kept d (has_buffer draw) refl (chunks_own client (number + 1) pages draws)
  where
    kept : (d : DrawnPage) (b : Bool) → d.client ≡ client → AllByRecursion (λ (item : Sent Sheet). item.item.header.client ≡ client) (sent_chunks (drawn_from client (number + 1) pages draws))
        → AllByRecursion (λ (item : Sent Sheet). item.item.header.client ≡ client) (map (λ (d : DrawnPage). record { number = d.sent; item = sheet_of d }) (cond b (d ∷ filter (λ (d : DrawnPage). has_buffer d.draw) (drawn_from client (number + 1) pages draws)) (filter (λ (d : DrawnPage). has_buffer d.draw) (drawn_from client (number + 1) pages draws))))
    kept d true same rest = (same, rest)
    kept d false same rest = rest

module _ (version : ℕ) (settings : PlainSettings) where
  abbrev IsOp : Operation → Type 0
  IsOp op = IsOperation version settings op

  abbrev CrumbFits : Sent Crumb → Type 0
  CrumbFits item = item.item.node.0 < settings.nodes

  crumb_fits : (number : ℕ) (trace : Option TraceId) (op : Operation) → IsOp op → AllByRecursion CrumbFits (map (λ crumb. record { number = number; item = crumb }) (crumb_in trace op))
  crumb_fits number None op is = tt
  crumb_fits number (Some trace) (plain.Crumb node) is = (is, tt)
  crumb_fits number (Some trace) (plain.Begin t) is = tt
  crumb_fits number (Some trace) (plain.Point moment payload) is = tt
  crumb_fits number (Some trace) plain.End is = tt
  crumb_fits number (Some trace) (plain.Fire trigger) is = tt
  crumb_fits number (Some trace) (plain.Sample moment auto value) is = tt

  crumbs_fit : (number : ℕ) (trace : Option TraceId) (ops : List Operation) → AllByRecursion IsOp ops
      → AllByRecursion CrumbFits (flat_map (λ (op : NumberedOperation). map (λ crumb. record { number = op.number; item = crumb }) (crumb_in op.trace op.operation)) (numbered_from number trace ops))
  crumbs_fit number trace [] all = tt
  crumbs_fit number trace (op ∷ ops) all =
      all_append CrumbFits (map (λ crumb. record { number = number; item = crumb }) (crumb_in trace op)) _ (crumb_fits number trace op all.0) (crumbs_fit (number + 1) (open_behind trace op) ops all.1)

  abbrev IsDeclared : Trigger → Type 0
  IsDeclared trigger = is_declared settings.triggers trigger.trigger ≡ true

  abbrev TriggerFits : Sent Trigger → Type 0
  TriggerFits item = IsDeclared item.item

  module _ (autos : List AutoRule) (declared : AllByRecursion (λ (auto : AutoRule). is_declared settings.triggers (fired_by auto) ≡ true) autos) where
    fired_fits : (moment : ℕ) (rule : AutoRule) (trace : TraceId) (answer : Sampled) → is_declared settings.triggers (fired_by rule) ≡ true → AllByRecursion IsDeclared (trigger_of moment rule trace answer)
    fired_fits moment rule trace answers.Quiet is = tt
    fired_fits moment rule trace (answers.Fired laterals) is = (is, tt)

    trigger_fits : (earlier : List NumberedOperation) (trace : Option TraceId) (op : Operation) → IsOp op → AllByRecursion IsDeclared (trigger_in autos earlier trace op)
    trigger_fits earlier None (plain.Fire trigger) is = (is.1, tt)
    trigger_fits earlier (Some trace) (plain.Fire trigger) is = (is.1, tt)
    trigger_fits earlier None (plain.Crumb node) is = tt
    trigger_fits earlier None (plain.Begin t) is = tt
    trigger_fits earlier None (plain.Point moment payload) is = tt
    trigger_fits earlier None plain.End is = tt
    trigger_fits earlier None (plain.Sample moment auto value) is = tt
    trigger_fits earlier (Some trace) (plain.Crumb node) is = tt
    trigger_fits earlier (Some trace) (plain.Begin t) is = tt
    trigger_fits earlier (Some trace) (plain.Point moment payload) is = tt
    trigger_fits earlier (Some trace) plain.End is = tt
    trigger_fits earlier (Some trace) (plain.Sample moment auto value) is = rule_case (slice_get autos auto) refl
      where
        rule_case : (o : Option AutoRule) → slice_get autos auto ≡ o
            → AllByRecursion IsDeclared (option_map_or (λ rule. trigger_of moment rule trace (sampled rule (samples_of auto earlier) (record { value = value; trace = trace }))) o [])
        rule_case None e = tt
        rule_case (Some rule) e =
            fired_fits moment rule trace (sampled rule (samples_of auto earlier) (record { value = value; trace = trace }))
            (all_at (λ (auto : AutoRule). is_declared settings.triggers (fired_by auto) ≡ true) autos auto rule declared e)

    sent_fit : (number : ℕ) (triggers : List Trigger) → AllByRecursion IsDeclared triggers → AllByRecursion TriggerFits (map (λ trigger. record { number = number; item = trigger }) triggers)
    sent_fit number [] all = tt
    sent_fit number (trigger ∷ triggers) all = (all.0, sent_fit number triggers all.1)

    triggers_fit : (earlier : List NumberedOperation) (number : ℕ) (trace : Option TraceId) (ops : List Operation) → AllByRecursion IsOp ops → AllByRecursion TriggerFits (triggers_behind autos earlier (numbered_from number trace ops))
    triggers_fit earlier number trace [] all = tt
    triggers_fit earlier number trace (op ∷ ops) all =
        let first : NumberedOperation = record { number = number; trace = trace; operation = op } in
        all_append TriggerFits (map (λ trigger. record { number = number; item = trigger }) (trigger_in autos earlier trace op)) (triggers_behind autos (first ∷ earlier) (numbered_from (number + 1) (open_behind trace op) ops))
        (sent_fit number (trigger_in autos earlier trace op) (trigger_fits earlier trace op all.0))
        (triggers_fit (first ∷ earlier) (number + 1) (open_behind trace op) ops all.1)

-- ---- what an agent takes

module _ (settings : PlainSettings) (i : ℕ) where
  pub record SendsFit (number : ℕ) (s : ClientSends) : Type 0 where
    pub chunks : AllByRecursion (λ (item : Sent Sheet). item.item.header.client ≡ record { node = i; number = number }) s.chunks
    pub crumbs : AllByRecursion (λ (item : Sent Crumb). item.item.node.0 < settings.nodes) s.crumbs
    pub triggers : AllByRecursion (λ (item : Sent Trigger). is_declared settings.triggers item.item.trigger ≡ true) s.triggers

  module _ (state : AgentState) (few : state.admitted + 1 < 2 ^ 32) where
    -- an event that takes takes what may be taken
    abbrev pub Fits : AgentEvent → Type 0
    Fits (Took input) = MayTake settings i state input
    Fits (Gave answer) = Unit {0}

    item_fits : {A : Type 0} (f : A → AgentEvent) (P : A → Type 0) (queue : Queue) (items : List (Sent A)) (event : AgentEvent) → ((x : A) → P x → Fits (f x)) → AllByRecursion (λ (item : Sent A). P item.item) items → option_map f (next_of queue state items) ≡ Some event → Fits event
    item_fits {A = A} f P queue items event each all h =
        let t = option_unmap f (next_of queue state items) event h in
        let u = option_unmap (λ (item : Sent A). item.item) (slice_get items (taken queue state.log)) t.0 t.1 in
        let p = all_at (λ (item : Sent A). P item.item) items (taken queue state.log) u.0 all u.1 in
        subst Fits t.2 (each t.0 (subst P u.2 p))

    client_fits : {A : Type 0} (f : A → AgentEvent) (P : A → Type 0) (queue : Queue) (pick : ClientSends → List (Sent A)) (sends : List ClientSends) (client : ℕ) (event : AgentEvent) → ((x : A) → P x → Fits (f x))
        → ((s : ClientSends) → slice_get sends client ≡ Some s → AllByRecursion (λ (item : Sent A). P item.item) (pick s))
        → option_and_then (λ (s : ClientSends). option_map f (next_of queue state (pick s))) (slice_get sends client) ≡ Some event → Fits event
    client_fits {A = A} f P queue pick sends client event each all h = go (slice_get sends client) refl h
      where
        go : (o : Option ClientSends) → slice_get sends client ≡ o → option_and_then (λ (s : ClientSends). option_map f (next_of queue state (pick s))) o ≡ Some event → Fits event
        go None e h = let never : None ≡ Some event = h in absurd cc
        go (Some s) e h = item_fits f P queue (pick s) event each (all s e) h

    offer_fits : (answer : Answered) (o : Option ℕ) (event : AgentEvent) → option_map (λ (_ : ℕ). Gave answer) o ≡ Some event → Fits event
    offer_fits answer o event h = let t = option_unmap (λ (_ : ℕ). Gave answer) o event h in subst Fits t.2 tt

    pub event_fits : (run : NodeRun) (heard : Messages) (step : Step) (event : AgentEvent) → run.state ≡ state → run.node ≡ i → ((number : ℕ) (s : ClientSends) → slice_get run.sends number ≡ Some s → SendsFit number s)
        → AllByRecursion (λ (ask : Ask). is_declared settings.triggers ask.group.trigger ≡ true) (asks_to run.node heard) → event_of run heard step ≡ Some event → Fits event
    event_fits run heard (steps.Chunk client) event same number sends asks h =
        client_fits (λ sheet. Took (Chunk client sheet)) (λ (sheet : Sheet). sheet.header.client ≡ record { node = i; number = client }) (Chunks client) (λ (s : ClientSends). s.chunks) run.sends client event (λ x p. p)
        (λ s at. (sends client s at).chunks)
        (ap (λ (state : AgentState). option_and_then (λ (s : ClientSends). option_map (λ sheet. Took (Chunk client sheet)) (next_of (Chunks client) state s.chunks)) (slice_get run.sends client)) (sym same) ∙ h)
    event_fits run heard (steps.Crumb client) event same number sends asks h =
        client_fits (λ crumb. Took (Crumbed client crumb)) (λ (crumb : Crumb). crumb.node.0 < settings.nodes) (Crumbs client) (λ (s : ClientSends). s.crumbs) run.sends client event (λ x p. p) (λ s at. (sends client s at).crumbs)
        (ap (λ (state : AgentState). option_and_then (λ (s : ClientSends). option_map (λ crumb. Took (Crumbed client crumb)) (next_of (Crumbs client) state s.crumbs)) (slice_get run.sends client)) (sym same) ∙ h)
    event_fits run heard (steps.Trigger client) event same number sends asks h =
        client_fits (λ trigger. Took (Triggered client trigger)) (λ (trigger : Trigger). is_declared settings.triggers trigger.trigger ≡ true) (Triggers client) (λ (s : ClientSends). s.triggers) run.sends client event (λ x p. (p, few))
        (λ s at. (sends client s at).triggers)
        (ap (λ (state : AgentState). option_and_then (λ (s : ClientSends). option_map (λ trigger. Took (Triggered client trigger)) (next_of (Triggers client) state s.triggers)) (slice_get run.sends client)) (sym same) ∙ h)
    event_fits run heard steps.Ask event same number sends asks h =
        let t = option_unmap (λ ask. Took (Asked ask)) (slice_get (asks_to run.node heard) (taken Asks run.state.log)) event h in
        subst Fits t.2 (all_at (λ (ask : Ask). is_declared settings.triggers ask.group.trigger ≡ true) (asks_to run.node heard) (taken Asks run.state.log) t.0 asks t.1)
    event_fits run heard steps.Turn event same number sends asks h = subst Fits (same_Some (Took Turn) event h) tt
    event_fits run heard (steps.Given stamp) event same number sends asks h = offer_fits (Given stamp) (slice_get run.state.hand 0) event h
    event_fits run heard (steps.Missed stamp) event same number sends asks h = offer_fits (Missed stamp) (slice_get run.state.hand 0) event h
    event_fits run heard steps.Unread event same number sends asks h = offer_fits Unread (slice_get run.state.hand 0) event h

-- ---- the machine

client_valid : (version : ℕ) (settings : PlainSettings) (clients : List (List Operation)) (place : ℕ) → AllByRecursion (IsClient version settings) clients → AllByRecursion (IsOperation version settings) (unwrap_or (slice_get clients place) [])
client_valid version settings [] place all = tt
client_valid version settings (ops ∷ clients) zero all = all.0.words
client_valid version settings (ops ∷ clients) (suc place) all = client_valid version settings clients place all.1

module _ (W : PlainWorkload) (valid : IsValid W) where
  client_sends_fit : (J : PlainJournal) (i number : ℕ) → SendsFit W.settings i number (client_sends W J i number)
  client_sends_fit J i number =
      let place = place_of W.settings.clients i number in
      let ops = operations_at W place in
      let words = client_valid W.version W.settings W.clients place valid.each in
      record {
        chunks = chunks_own (record { node = i; number = number }) 0 (timed_pages W.settings.size ops) (draws_at J place);
        crumbs = crumbs_fit W.version W.settings 0 None ops words;
        triggers = triggers_fit W.version W.settings W.settings.autos (recursion_from_All (λ auto. is_declared W.settings.triggers (fired_by auto) ≡ true) W.settings.autos valid.autos.declared) [] 0 None ops words;
      }

  sends_fit : (J : PlainJournal) (i : ℕ) (start count : ℕ) (number : ℕ) (s : ClientSends) → slice_get (map (client_sends W J i) (range_with_len start count)) number ≡ Some s → SendsFit W.settings i (start + number) s
  sends_fit J i start zero number s h = let never : None ≡ Some s = h in absurd cc
  sends_fit J i start (suc count) zero s h =
      let here : start ≡ start + 0 = omega arith in
      subst (λ (n : ℕ). SendsFit W.settings i n s) here (subst (SendsFit W.settings i start) (same_Some (client_sends W J i start) s h) (client_sends_fit J i start))
  sends_fit J i start (suc count) (suc number) s h =
      let there : start + 1 + number ≡ start + suc number = omega arith in
      subst (λ (n : ℕ). SendsFit W.settings i n s) there (sends_fit J i (start + 1) count number s h)

  pub node_sends_fit : (J : PlainJournal) (i number : ℕ) (s : ClientSends) → slice_get (node_sends W J i) number ≡ Some s → SendsFit W.settings i number s
  node_sends_fit J i number s h =
      let zeroth : 0 + number ≡ number = omega arith in subst (λ (n : ℕ). SendsFit W.settings i n s) zeroth (sends_fit J i 0 W.settings.clients number s h)
