-- The agent takes the items of a line one after another.
use Rattle.std.proofs.Common.{◌≡◌, ℕ, ◌+◌, ◌<◌, true, List, [], ◌∷◌, ◌++◌, length, map, Option, Some, None, refl, sym, ap, subst, ◌∙◌, arith, append_assoc, length-append}
use Rattle.hs_run_actors.proofs.Prelude.{map-append, same_Some, AllByRecursion, option_map, all_mid, MAX_TAKEN, Ask, Crumb, Trigger, is_declared, asks_in, Key, AgentEvent, Asked, PlainWorkload, Leased, Buffer, Sheet, PoolName, AgentWorks, IsAskable, Intake, Intakes, AreIntakes, AreIntakesFor, HandsAt, IsIntakeAt, key_of, PlainWorkingAgent, WorkingAgentStands, AgentCanTake, TakesChunks, TakesCrumbs, TakesTriggers, TakesAsks, NodeWork, with_events, chunk_event, crumb_event, trigger_event, ask_event, triggered}
use Rattle.hs_live.specs.Keys.{IsChunkOf, IsCrumbOf, IsTriggerOf}
use Rattle.hs_words.specs.Chunks.{header_of}
use Rattle.hs_words.specs.declared.page.Header.{Header}
use Rattle.hs_run_actors.specs.Agents.{IsPageOf}
use Rattle.hs_run_actors.proofs.Handing.{HandsSoFar, none_so_far, more_so_far, all_out, full_out, lines_at}
use Rattle.hs_run_actors.proofs.Stages.{with_none, with_more, triggered_more, stands_more}

-- ---- work

-- an event more of one kind
one_event : {T : Type 0} (event : T → AgentEvent) (items : List T) (item : T) (came more : List (Buffer Leased)) (work : NodeWork)
    → with_events (event item ∷ []) more (with_events (map event items) came work) ≡ with_events (map event (items ++ item ∷ [])) (came ++ more) work
one_event event items item came more work =
    with_more work (map event items) (event item ∷ []) came more ∙ ap (λ (e : List AgentEvent). with_events e (came ++ more) work) (sym (map-append event items (item ∷ [])))

-- ---- what came is the client's

page_there : (o : Option Sheet) (header : Header) → option_map header_of o ≡ Some header → (sheet : Sheet) × (o ≡ Some sheet) × (sheet.header ≡ header)
page_there None header e = let none : None ≡ Some header = e in absurd cc
page_there (Some sheet) header e = (sheet, refl, same_Some sheet.header header e)

module _ (W : PlainWorkload) (node : ℕ) (pool : PoolName) (client : ℕ) (low : client < W.settings.clients) where
  pub chunk_came : (lines : List (Intake (Buffer Leased))) (buffer : Buffer Leased) → AreIntakesFor W node pool lines → (l : Intake (Buffer Leased)) × IsIntakeAt client lines l × IsChunkOf (key_of l) buffer → IsPageOf W node pool client buffer
  chunk_came lines buffer are (l, at, is) =
      let key = are.keys client l at in
      let (sheet, page, header) = page_there buffer.chunk.page is.header is.started in
      record {
        sheet = sheet;
        page = page;
        owner = ap (λ (h : Header). h.client) header ∙ is.owner ∙ ap (λ (k : Key). k.client) key;
        low = low;
        size = is.size ∙ ap (λ (k : Key). k.size) key;
        pool_is = is.pool ∙ ap (λ (k : Key). k.pool) key;
      }

  pub crumb_came : (lines : List (Intake Crumb)) (crumb : Crumb) → AreIntakesFor W node pool lines → (l : Intake Crumb) × IsIntakeAt client lines l × IsCrumbOf (key_of l) crumb → (client < W.settings.clients) × (crumb.node.0 < W.settings.nodes)
  crumb_came lines crumb are (l, at, is) = (low, subst (λ (k : Key). crumb.node.0 < k.nodes) (are.keys client l at) is)

  pub trigger_came : (lines : List (Intake Trigger)) (trigger : Trigger) → AreIntakesFor W node pool lines → (l : Intake Trigger) × IsIntakeAt client lines l × IsTriggerOf (key_of l) trigger
      → (client < W.settings.clients) × (is_declared W.settings.triggers trigger.trigger ≡ true)
  trigger_came lines trigger are (l, at, is) = (low, subst (λ (k : Key). is_declared k.rules trigger.trigger ≡ true) (are.keys client l at) is)

-- ---- chunks

module _ (W : PlainWorkload) (work : NodeWork) (client : ℕ) (old : Intakes) where
  -- so many chunks were taken
  pub record ChunksSoFar (count : ℕ) (lines : Intakes) (desk : PlainWorkingAgent) : Type 0 where
    pub items : List (Buffer Leased)
    pub number : length items ≡ count
    pub out : HandsSoFar client items old.chunks lines.chunks
    pub only : lines ≡ record old { chunks = lines.chunks }
    pub stands : WorkingAgentStands W (with_events (map (chunk_event client) items) items work) desk lines

  pub no_chunks : (desk : PlainWorkingAgent) → AgentCanTake W work client desk old → ChunksSoFar 0 old desk
  no_chunks desk can =
      let count = can.stands.lines_are.chunks.count in
      let low = can.low in
      record {
        items = [];
        number = refl;
        out = none_so_far client old.chunks (omega (arith, count, low));
        only = refl;
        stands = subst (λ (w : NodeWork). WorkingAgentStands W w desk old) (sym (with_none work)) can.stands;
      }

  abbrev pub chunks_work : (count : ℕ) (lines : Intakes) (desk : PlainWorkingAgent) → ChunksSoFar count lines desk → NodeWork
  chunks_work count lines desk so_far = with_events (map (chunk_event client) so_far.items) so_far.items work

  module _ (count : ℕ) (lines lines' : Intakes) (desk : PlainWorkingAgent) (so_far : ChunksSoFar count lines desk) (only : lines' ≡ record lines { chunks = lines'.chunks }) where
    chunk_lines : (item : Option (Buffer Leased)) → HandsAt client lines.chunks item lines'.chunks → AreIntakes W work.node work.pool lines'
    chunk_lines item hands =
        subst (λ (l : Intakes). AreIntakes W work.node work.pool l) (sym only)
        (record {
          pool_is = so_far.stands.lines_are.pool_is;
          size = so_far.stands.lines_are.size;
          chunks = lines_at W work.node work.pool client item lines.chunks lines'.chunks hands so_far.stands.lines_are.chunks;
          crumbs = so_far.stands.lines_are.crumbs;
          triggers = so_far.stands.lines_are.triggers;
        })

    pub chunk_more : (buffer : Buffer Leased) (new : PlainWorkingAgent) → HandsAt client lines.chunks (Some buffer) lines'.chunks → AgentWorks W (with_events (chunk_event client buffer ∷ []) (buffer ∷ []) (chunks_work count lines desk so_far)) new.agent new.said
        → new.asks ≡ desk.asks → ChunksSoFar (count + 1) lines' new
    chunk_more buffer new hands works asks =
        let number = so_far.number in
        record {
          items = so_far.items ++ buffer ∷ [];
          number = length-append so_far.items (buffer ∷ []) ∙ ap (λ n. n + 1) number;
          out = more_so_far client so_far.items old.chunks lines.chunks lines'.chunks so_far.out buffer hands;
          only = only ∙ ap (λ (l : Intakes). record l { chunks = lines'.chunks }) so_far.only;
          stands =
              subst (λ (w : NodeWork). WorkingAgentStands W w new lines') (one_event (chunk_event client) so_far.items buffer so_far.items (buffer ∷ []) work)
              (stands_more W (chunks_work count lines desk so_far) _ (buffer ∷ []) desk new lines lines' so_far.stands works asks (ap (λ (l : Intakes). l.giver) only) (chunk_lines (Some buffer) hands));
        }

    pub chunks_out : count < MAX_TAKEN → HandsAt client lines.chunks None lines'.chunks → TakesChunks W work client old lines' desk
    chunks_out few hands =
        let number = so_far.number in
        let same : lines' ≡ lines = only ∙ ap (λ (c : List (Intake (Buffer Leased))). record lines { chunks = c }) hands.2 in
        record {
          items = so_far.items;
          out = all_out client so_far.items old.chunks lines.chunks lines'.chunks so_far.out (omega (arith, number, few)) hands;
          only = only ∙ ap (λ (l : Intakes). record l { chunks = lines'.chunks }) so_far.only;
          stands = subst (λ (l : Intakes). WorkingAgentStands W (chunks_work count lines desk so_far) desk l) (sym same) so_far.stands;
        }

  pub chunks_full : (count : ℕ) (lines : Intakes) (desk : PlainWorkingAgent) → ChunksSoFar count lines desk → count ≡ MAX_TAKEN → TakesChunks W work client old lines desk
  chunks_full count lines desk so_far full =
      record {
        items = so_far.items;
        out = full_out client so_far.items old.chunks lines.chunks lines.chunks so_far.out (so_far.number ∙ full);
        only = so_far.only;
        stands = so_far.stands;
      }

-- ---- crumbs

module _ (W : PlainWorkload) (work : NodeWork) (client : ℕ) (old : Intakes) where
  -- so many crumbs were taken
  pub record CrumbsSoFar (count : ℕ) (lines : Intakes) (desk : PlainWorkingAgent) : Type 0 where
    pub items : List Crumb
    pub number : length items ≡ count
    pub out : HandsSoFar client items old.crumbs lines.crumbs
    pub only : lines ≡ record old { crumbs = lines.crumbs }
    pub stands : WorkingAgentStands W (with_events (map (crumb_event client) items) [] work) desk lines

  pub no_crumbs : (desk : PlainWorkingAgent) → AgentCanTake W work client desk old → CrumbsSoFar 0 old desk
  no_crumbs desk can =
      let count = can.stands.lines_are.crumbs.count in
      let low = can.low in
      record {
        items = [];
        number = refl;
        out = none_so_far client old.crumbs (omega (arith, count, low));
        only = refl;
        stands = subst (λ (w : NodeWork). WorkingAgentStands W w desk old) (sym (with_none work)) can.stands;
      }

  abbrev pub crumbs_work : (count : ℕ) (lines : Intakes) (desk : PlainWorkingAgent) → CrumbsSoFar count lines desk → NodeWork
  crumbs_work count lines desk so_far = with_events (map (crumb_event client) so_far.items) [] work

  module _ (count : ℕ) (lines lines' : Intakes) (desk : PlainWorkingAgent) (so_far : CrumbsSoFar count lines desk) (only : lines' ≡ record lines { crumbs = lines'.crumbs }) where
    crumb_lines : (item : Option Crumb) → HandsAt client lines.crumbs item lines'.crumbs → AreIntakes W work.node work.pool lines'
    crumb_lines item hands =
        subst (λ (l : Intakes). AreIntakes W work.node work.pool l) (sym only)
        (record {
          pool_is = so_far.stands.lines_are.pool_is;
          size = so_far.stands.lines_are.size;
          chunks = so_far.stands.lines_are.chunks;
          crumbs = lines_at W work.node work.pool client item lines.crumbs lines'.crumbs hands so_far.stands.lines_are.crumbs;
          triggers = so_far.stands.lines_are.triggers;
        })

    pub crumb_more : (item : Crumb) (new : PlainWorkingAgent) → HandsAt client lines.crumbs (Some item) lines'.crumbs → AgentWorks W (with_events (crumb_event client item ∷ []) [] (crumbs_work count lines desk so_far)) new.agent new.said
        → new.asks ≡ desk.asks → CrumbsSoFar (count + 1) lines' new
    crumb_more item new hands works asks =
        let number = so_far.number in
        record {
          items = so_far.items ++ item ∷ [];
          number = length-append so_far.items (item ∷ []) ∙ ap (λ n. n + 1) number;
          out = more_so_far client so_far.items old.crumbs lines.crumbs lines'.crumbs so_far.out item hands;
          only = only ∙ ap (λ (l : Intakes). record l { crumbs = lines'.crumbs }) so_far.only;
          stands =
              subst (λ (w : NodeWork). WorkingAgentStands W w new lines') (one_event (crumb_event client) so_far.items item [] [] work)
              (stands_more W (crumbs_work count lines desk so_far) _ [] desk new lines lines' so_far.stands works asks (ap (λ (l : Intakes). l.giver) only) (crumb_lines (Some item) hands));
        }

    pub crumbs_out : count < MAX_TAKEN → HandsAt client lines.crumbs None lines'.crumbs → TakesCrumbs W work client old lines' desk
    crumbs_out few hands =
        let number = so_far.number in
        let same : lines' ≡ lines = only ∙ ap (λ (c : List (Intake Crumb)). record lines { crumbs = c }) hands.2 in
        record {
          items = so_far.items;
          out = all_out client so_far.items old.crumbs lines.crumbs lines'.crumbs so_far.out (omega (arith, number, few)) hands;
          only = only ∙ ap (λ (l : Intakes). record l { crumbs = lines'.crumbs }) so_far.only;
          stands = subst (λ (l : Intakes). WorkingAgentStands W (crumbs_work count lines desk so_far) desk l) (sym same) so_far.stands;
        }

  pub crumbs_full : (count : ℕ) (lines : Intakes) (desk : PlainWorkingAgent) → CrumbsSoFar count lines desk → count ≡ MAX_TAKEN → TakesCrumbs W work client old lines desk
  crumbs_full count lines desk so_far full =
      record {
        items = so_far.items;
        out = full_out client so_far.items old.crumbs lines.crumbs lines.crumbs so_far.out (so_far.number ∙ full);
        only = so_far.only;
        stands = so_far.stands;
      }

-- ---- triggers

module _ (W : PlainWorkload) (work : NodeWork) (client : ℕ) (old : Intakes) where
  -- so many triggers were taken
  pub record TriggersSoFar (count : ℕ) (lines : Intakes) (desk : PlainWorkingAgent) : Type 0 where
    pub items : List Trigger
    pub number : length items ≡ count
    pub out : HandsSoFar client items old.triggers lines.triggers
    pub only : lines ≡ record old { triggers = lines.triggers }
    pub stands : WorkingAgentStands W (with_events (map (trigger_event client) items) [] work) desk lines

  pub no_triggers : (desk : PlainWorkingAgent) → AgentCanTake W work client desk old → TriggersSoFar 0 old desk
  no_triggers desk can =
      let count = can.stands.lines_are.triggers.count in
      let low = can.low in
      record {
        items = [];
        number = refl;
        out = none_so_far client old.triggers (omega (arith, count, low));
        only = refl;
        stands = subst (λ (w : NodeWork). WorkingAgentStands W w desk old) (sym (with_none work)) can.stands;
      }

  abbrev pub triggers_work : (count : ℕ) (lines : Intakes) (desk : PlainWorkingAgent) → TriggersSoFar count lines desk → NodeWork
  triggers_work count lines desk so_far = with_events (map (trigger_event client) so_far.items) [] work

  module _ (count : ℕ) (lines lines' : Intakes) (desk : PlainWorkingAgent) (so_far : TriggersSoFar count lines desk) (only : lines' ≡ record lines { triggers = lines'.triggers }) where
    trigger_lines : (item : Option Trigger) → HandsAt client lines.triggers item lines'.triggers → AreIntakes W work.node work.pool lines'
    trigger_lines item hands =
        subst (λ (l : Intakes). AreIntakes W work.node work.pool l) (sym only)
        (record {
          pool_is = so_far.stands.lines_are.pool_is;
          size = so_far.stands.lines_are.size;
          chunks = so_far.stands.lines_are.chunks;
          crumbs = so_far.stands.lines_are.crumbs;
          triggers = lines_at W work.node work.pool client item lines.triggers lines'.triggers hands so_far.stands.lines_are.triggers;
        })

    pub trigger_more : (item : Trigger) (new : PlainWorkingAgent) → HandsAt client lines.triggers (Some item) lines'.triggers → AgentWorks W (with_events (trigger_event client item ∷ []) [] (triggers_work count lines desk so_far)) new.agent new.said
        → new.asks ≡ desk.asks → TriggersSoFar (count + 1) lines' new
    trigger_more item new hands works asks =
        let number = so_far.number in
        record {
          items = so_far.items ++ item ∷ [];
          number = length-append so_far.items (item ∷ []) ∙ ap (λ n. n + 1) number;
          out = more_so_far client so_far.items old.triggers lines.triggers lines'.triggers so_far.out item hands;
          only = only ∙ ap (λ (l : Intakes). record l { triggers = lines'.triggers }) so_far.only;
          stands =
              subst (λ (w : NodeWork). WorkingAgentStands W w new lines') (one_event (trigger_event client) so_far.items item [] [] work)
              (stands_more W (triggers_work count lines desk so_far) _ [] desk new lines lines' so_far.stands works asks (ap (λ (l : Intakes). l.giver) only) (trigger_lines (Some item) hands));
        }

    pub triggers_out : count < MAX_TAKEN → HandsAt client lines.triggers None lines'.triggers → TakesTriggers W work client old lines' desk
    triggers_out few hands =
        let number = so_far.number in
        let same : lines' ≡ lines = only ∙ ap (λ (c : List (Intake Trigger)). record lines { triggers = c }) hands.2 in
        record {
          items = so_far.items;
          out = all_out client so_far.items old.triggers lines.triggers lines'.triggers so_far.out (omega (arith, number, few)) hands;
          only = only ∙ ap (λ (l : Intakes). record l { triggers = lines'.triggers }) so_far.only;
          stands = subst (λ (l : Intakes). WorkingAgentStands W (triggers_work count lines desk so_far) desk l) (sym same) so_far.stands;
        }

  pub triggers_full : (count : ℕ) (lines : Intakes) (desk : PlainWorkingAgent) → TriggersSoFar count lines desk → count ≡ MAX_TAKEN → TakesTriggers W work client old lines desk
  triggers_full count lines desk so_far full =
      record {
        items = so_far.items;
        out = full_out client so_far.items old.triggers lines.triggers lines.triggers so_far.out (so_far.number ∙ full);
        only = so_far.only;
        stands = so_far.stands;
      }

  -- how many were taken with these
  pub triggers_taken : (items : List Trigger) → triggered (work.events ++ map (trigger_event client) items) ≡ triggered work.events + length items
  triggers_taken items = triggered_more work.events (map (trigger_event client) items) ∙ ap (λ n. triggered work.events + n) (each items)
    where
      each : (items : List Trigger) → triggered (map (trigger_event client) items) ≡ length items
      each [] = refl
      each (item ∷ items) = let rest = each items in let both = triggered_more (trigger_event client item ∷ []) (map (trigger_event client) items) in omega (arith, rest, both)

-- ---- asks

module _ (W : PlainWorkload) (work : NodeWork) (old : PlainWorkingAgent) (lines : Intakes) where
  -- so many asks were taken
  pub record AsksSoFar (count : ℕ) (desk : PlainWorkingAgent) : Type 0 where
    pub items : List Ask
    pub number : length items ≡ count
    pub left : old.asks ≡ items ++ desk.asks
    pub stands : WorkingAgentStands W (with_events (map ask_event items) [] work) desk lines

  pub no_asks : WorkingAgentStands W work old lines → AsksSoFar 0 old
  no_asks stands =
      record {
        items = [];
        number = refl;
        left = refl;
        stands = subst (λ (w : NodeWork). WorkingAgentStands W w old lines) (sym (with_none work)) stands;
      }

  module _ (count : ℕ) (desk : PlainWorkingAgent) (so_far : AsksSoFar count desk) where
    abbrev pub asks_work : NodeWork
    asks_work = with_events (map ask_event so_far.items) [] work

    pub may_ask : (ask : Ask) (rest : List Ask) → desk.asks ≡ ask ∷ rest → IsAskable W ask
    may_ask ask rest e =
        let all = so_far.stands.askable in
        let whole : asks_in asks_work.events ++ ask ∷ rest ≡ work.asked = ap (λ (l : List Ask). asks_in asks_work.events ++ l) (sym e) ∙ so_far.stands.asks_are in
        all_mid (IsAskable W) (asks_in asks_work.events) rest ask (subst (λ (l : List Ask). AllByRecursion (IsAskable W) l) (sym whole) all)

    pub ask_more : (ask : Ask) (new : PlainWorkingAgent) → desk.asks ≡ ask ∷ new.asks → AgentWorks W (with_events (ask_event ask ∷ []) [] asks_work) new.agent new.said → AsksSoFar (count + 1) new
    ask_more ask new e works =
        record {
          items = so_far.items ++ ask ∷ [];
          number = length-append so_far.items (ask ∷ []) ∙ ap (λ n. n + 1) so_far.number;
          left = so_far.left ∙ ap (λ (l : List Ask). so_far.items ++ l) e ∙ sym (append_assoc so_far.items (ask ∷ []) new.asks);
          stands =
              subst (λ (w : NodeWork). WorkingAgentStands W w new lines) (one_event ask_event so_far.items ask [] [] work)
              (stands_more W asks_work (Asked ask) [] desk new lines lines so_far.stands works (sym e) refl so_far.stands.lines_are);
        }

    pub asks_out : count < MAX_TAKEN → (new : PlainWorkingAgent) → new ≡ desk → length desk.asks ≡ 0 → TakesAsks W work old lines new
    asks_out few new same zero_left =
        let all = ap length so_far.left ∙ length-append so_far.items desk.asks in
        let number = so_far.number in
        record {
          items = so_far.items;
          few = omega (arith, number, few);
          all = omega (arith, all, zero_left);
          stands = subst (λ (d : PlainWorkingAgent). WorkingAgentStands W asks_work d lines) (sym same) so_far.stands;
        }

    pub asks_full : count ≡ MAX_TAKEN → TakesAsks W work old lines desk
    asks_full full =
        let number = so_far.number in
        record {
          items = so_far.items;
          few = omega (arith, number, full);
          all = omega (arith, number, full);
          stands = so_far.stands;
        }
