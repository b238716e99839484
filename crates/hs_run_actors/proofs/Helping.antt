-- The agent takes from the lines of one client after another.
use Rattle.std.proofs.Common.{◌≡◌, ℕ, suc, ◌+◌, ◌*◌, ◌<◌, ◌≤◌, List, [], ◌∷◌, ◌++◌, length, map, Some, None, refl, sym, ap, ap₂, subst, ◌∙◌, arith, append_assoc, append-nil, length-append}
use Rattle.hs_run_actors.proofs.Prelude.{map-append, length-map, same_Some, slice_set, AllByRecursion, MAX_TAKEN, Crumb, Trigger, AgentEvent, PlainWorkload, Leased, Buffer, Intake, Intakes, HandsOut, HandsOutAt, HandOutFirst, CanPass, PlainWorkingAgent, WorkingAgentStands, AgentCanTake, TakesChunks, TakesCrumbs, TakesTriggers, TakesFirst, Helping, events_of, events_from, chunks_of, NodeWork, with_events, chunk_event, crumb_event, trigger_event, triggered}
use Rattle.hs_run_actors.specs.Stages.{TakesHelping}
use Rattle.hs_run_actors.proofs.Stages.{with_none, with_more, triggered_more}

-- ---- events without triggers

chunks_untriggered : (client : ℕ) (items : List (Buffer Leased)) → triggered (map (chunk_event client) items) ≡ 0
chunks_untriggered client [] = refl
chunks_untriggered client (item ∷ items) = let rest = chunks_untriggered client items in let both = triggered_more (chunk_event client item ∷ []) (map (chunk_event client) items) in omega (arith, rest, both)

crumbs_untriggered : (client : ℕ) (items : List Crumb) → triggered (map (crumb_event client) items) ≡ 0
crumbs_untriggered client [] = refl
crumbs_untriggered client (item ∷ items) = let rest = crumbs_untriggered client items in let both = triggered_more (crumb_event client item ∷ []) (map (crumb_event client) items) in omega (arith, rest, both)

triggers_counted : (client : ℕ) (items : List Trigger) → triggered (map (trigger_event client) items) ≡ length items
triggers_counted client [] = refl
triggers_counted client (item ∷ items) = let rest = triggers_counted client items in let both = triggered_more (trigger_event client item ∷ []) (map (trigger_event client) items) in omega (arith, rest, both)

helping_counted : (client : ℕ) (h : Helping) → triggered (events_of client h) ≡ length h.triggers
helping_counted client h =
    let a = chunks_untriggered client h.chunks in
    let b = crumbs_untriggered client h.crumbs in
    let c = triggers_counted client h.triggers in
    let two = triggered_more (map (chunk_event client) h.chunks) (map (crumb_event client) h.crumbs) in
    let three = triggered_more (map (chunk_event client) h.chunks ++ map (crumb_event client) h.crumbs) (map (trigger_event client) h.triggers) in
    omega (arith, a, b, c, two, three)

few_triggers : (client : ℕ) (helpings : List Helping) → AllByRecursion (λ (items : List Trigger). length items ≤ MAX_TAKEN) (map (λ (h : Helping). h.triggers) helpings) → triggered (events_from client helpings) ≤ MAX_TAKEN * length helpings
few_triggers client [] few = omega arith
few_triggers client (h ∷ helpings) few =
    let here = helping_counted client h in
    let rest = few_triggers (suc client) helpings few.1 in
    let both = triggered_more (events_of client h) (events_from (suc client) helpings) in
    let low = few.0 in
    omega (arith, here, rest, both, low)

-- ---- one client

module _ (W : PlainWorkload) (work : NodeWork) (client : ℕ) (old : Intakes) where
  pub can_take_crumbs : (desk0 desk : PlainWorkingAgent) (lines : Intakes) → AgentCanTake W work client desk0 old → (t : TakesChunks W work client old lines desk) → AgentCanTake W (with_events (map (chunk_event client) t.items) t.items work) client desk lines
  can_take_crumbs desk0 desk lines can t =
      let none = chunks_untriggered client t.items in
      let both = triggered_more work.events (map (chunk_event client) t.items) in
      let few = can.few in
      record { low = can.low; few = omega (arith, none, both, few); stands = t.stands }

  pub can_take_triggers : (desk0 desk : PlainWorkingAgent) (lines : Intakes) → AgentCanTake W work client desk0 old → (t : TakesCrumbs W work client old lines desk) → AgentCanTake W (with_events (map (crumb_event client) t.items) [] work) client desk lines
  can_take_triggers desk0 desk lines can t =
      let none = crumbs_untriggered client t.items in
      let both = triggered_more work.events (map (crumb_event client) t.items) in
      let few = can.few in
      record { low = can.low; few = omega (arith, none, both, few); stands = t.stands }

pub helped : (W : PlainWorkload) (work : NodeWork) (client : ℕ) (a b c d : Intakes) (desk1 desk2 desk3 : PlainWorkingAgent) (t : TakesChunks W work client a b desk1) (u : TakesCrumbs W (with_events (map (chunk_event client) t.items) t.items work) client b c desk2)
    → TakesTriggers W (with_events (map (crumb_event client) u.items) [] (with_events (map (chunk_event client) t.items) t.items work)) client c d desk3 → TakesHelping W work client a d desk3
helped W work client a b c d desk1 desk2 desk3 t u v =
    let h : Helping = record { chunks = t.items; crumbs = u.items; triggers = v.items } in
    let crumbs_b : b.crumbs ≡ a.crumbs = ap (λ (l : Intakes). l.crumbs) t.only in
    let triggers_b : b.triggers ≡ a.triggers = ap (λ (l : Intakes). l.triggers) t.only in
    let chunks_c : c.chunks ≡ b.chunks = ap (λ (l : Intakes). l.chunks) u.only in
    let triggers_c : c.triggers ≡ b.triggers = ap (λ (l : Intakes). l.triggers) u.only in
    let chunks_d : d.chunks ≡ c.chunks = ap (λ (l : Intakes). l.chunks) v.only in
    let crumbs_d : d.crumbs ≡ c.crumbs = ap (λ (l : Intakes). l.crumbs) v.only in
    let first = with_more work (map (chunk_event client) t.items) (map (crumb_event client) u.items) t.items [] in
    let second = with_more work (map (chunk_event client) t.items ++ map (crumb_event client) u.items) (map (trigger_event client) v.items) (t.items ++ []) [] in
    let came : (t.items ++ []) ++ [] ≡ t.items = append-nil (t.items ++ []) ∙ append-nil t.items in
    let all = ap (λ (w : NodeWork). with_events (map (trigger_event client) v.items) [] w) first ∙ second ∙ ap (λ (l : List (Buffer Leased)). with_events (events_of client h) l work) came in
    record {
      helping = h;
      chunks = subst (λ (l : List (Intake (Buffer Leased))). HandsOutAt client t.items a.chunks l) (sym (chunks_d ∙ chunks_c)) t.out;
      crumbs = subst (λ (l : List (Intake Crumb)). HandsOutAt client u.items l d.crumbs) crumbs_b (subst (λ (l : List (Intake Crumb)). HandsOutAt client u.items b.crumbs l) (sym crumbs_d) u.out);
      triggers = subst (λ (l : List (Intake Trigger)). HandsOutAt client v.items l d.triggers) (triggers_c ∙ triggers_b) v.out;
      giver = ap (λ (l : Intakes). l.giver) v.only ∙ ap (λ (l : Intakes). l.giver) u.only ∙ ap (λ (l : Intakes). l.giver) t.only;
      stands = subst (λ (w : NodeWork). WorkingAgentStands W w desk3 d) all v.stands;
    }

-- ---- one client after another

module _ {T : Type 0} where
  pub first_more : (lists : List (List T)) (items : List T) (old mid new : List (Intake T)) → HandOutFirst lists old mid → HandsOutAt (length lists) items mid new → HandOutFirst (lists ++ items ∷ []) old new
  first_more [] items old [] new same at = let none : None ≡ Some at.before = at.at in absurd cc
  first_more [] items [] (l ∷ mid) new same at = absurd cc
  first_more [] items (k ∷ old) (l ∷ mid) [] same at = absurd cc
  first_more [] items (k ∷ old) (l ∷ mid) (n ∷ new) same at =
      let is : l ≡ at.before = same_Some l at.before at.at in
      let first : l ≡ k = cc in
      let rest : mid ≡ old = cc in
      let set_first : n ≡ at.after = cc in
      let set_rest : new ≡ mid = cc in
      (subst (λ (x : Intake T). HandsOut items x n) (sym is ∙ first) (subst (λ (x : Intake T). HandsOut items at.before x) (sym set_first) at.out), set_rest ∙ rest)
  first_more (other ∷ lists) items [] mid new first at = absurd first
  first_more (other ∷ lists) items (k ∷ old) [] new first at = absurd first
  first_more (other ∷ lists) items (k ∷ old) (l ∷ mid) [] first at = absurd cc
  first_more (other ∷ lists) items (k ∷ old) (l ∷ mid) (n ∷ new) first at =
      let same : n ≡ l = cc in
      let rest : new ≡ slice_set mid (length lists) at.after = cc in (
        subst (λ (x : Intake T). HandsOut other k x) (sym same) first.0,
        first_more lists items old mid new first.1 (record { before = at.before; after = at.after; at = at.at; set = rest; out = at.out }),
      )

  pub first_few : (lists : List (List T)) (old new : List (Intake T)) → HandOutFirst lists old new → AllByRecursion (λ (items : List T). length items ≤ MAX_TAKEN) lists
  first_few [] old new first = tt
  first_few (items ∷ lists) [] new first = absurd first
  first_few (items ∷ lists) (l ∷ old) [] first = absurd first
  first_few (items ∷ lists) (l ∷ old) (k ∷ new) first = (first.0.few, first_few lists old new first.1)

events_more : (client : ℕ) (helpings : List Helping) (h : Helping) → events_from client (helpings ++ h ∷ []) ≡ events_from client helpings ++ events_of (client + length helpings) h
events_more client [] h = let same : client ≡ client + 0 = omega arith in append-nil (events_of client h) ∙ ap (λ c. events_of c h) same
events_more client (other ∷ helpings) h =
    let same : suc client + length helpings ≡ client + suc (length helpings) = omega arith in
    ap (λ (l : List AgentEvent). events_of client other ++ l) (events_more (suc client) helpings h)
    ∙ sym (append_assoc (events_of client other) (events_from (suc client) helpings) (events_of (suc client + length helpings) h))
    ∙ ap (λ c. (events_of client other ++ events_from (suc client) helpings) ++ events_of c h) same

chunks_more : (helpings : List Helping) (h : Helping) → chunks_of (helpings ++ h ∷ []) ≡ chunks_of helpings ++ h.chunks
chunks_more [] h = append-nil h.chunks
chunks_more (other ∷ helpings) h = ap (λ (l : List (Buffer Leased)). other.chunks ++ l) (chunks_more helpings h) ∙ sym (append_assoc other.chunks (chunks_of helpings) h.chunks)

out_more : {T : Type 0} (client : ℕ) (helpings : List Helping) (h : Helping) → length helpings ≡ client → (f : Helping → List T) (a b c : List (Intake T)) → HandOutFirst (map f helpings) a b → HandsOutAt client (f h) b c
    → HandOutFirst (map f (helpings ++ h ∷ [])) a c
out_more {T} client helpings h number f a b c outs at =
    let count : length (map f helpings) ≡ client = length-map helpings f ∙ number in
    subst (λ (l : List (List T)). HandOutFirst l a c) (sym (map-append f helpings (h ∷ []))) (first_more (map f helpings) (f h) a b c outs (subst (λ n. HandsOutAt n (f h) b c) (sym count) at))

module _ (W : PlainWorkload) (work : NodeWork) (old : Intakes) where
  pub first_none : (desk : PlainWorkingAgent) → WorkingAgentStands W work desk old → TakesFirst W work 0 old old desk
  first_none desk stands =
      record {
        helpings = [];
        number = refl;
        chunks = refl;
        crumbs = refl;
        triggers = refl;
        giver = refl;
        stands = subst (λ (w : NodeWork). WorkingAgentStands W w desk old) (sym (with_none work)) stands;
      }

  module _ (client : ℕ) (lines : Intakes) (desk : PlainWorkingAgent) (first : TakesFirst W work client old lines desk) where
    abbrev pub first_work : NodeWork
    first_work = with_events (events_from 0 first.helpings) (chunks_of first.helpings) work

    pub can_help : (desk0 : PlainWorkingAgent) (clients : ℕ) → CanPass W work clients desk0 old → client < clients → AgentCanTake W first_work client desk lines
    can_help desk0 clients can below =
        let taken = few_triggers 0 first.helpings (first_few (map (λ (h : Helping). h.triggers) first.helpings) old.triggers lines.triggers first.triggers) in
        let both = triggered_more work.events (events_from 0 first.helpings) in
        let number = first.number in
        let are = can.clients_are in
        let few = can.few.triggers in
        let few_clients = can.few.clients in
        let low : client < W.settings.clients = omega (arith, below, are) in
        record { low = low; few = omega (arith, taken, both, number, few, few_clients, low); stands = first.stands }

    pub help_more : (lines' : Intakes) (desk' : PlainWorkingAgent) → TakesHelping W first_work client lines lines' desk' → TakesFirst W work (client + 1) old lines' desk'
    help_more lines' desk' t =
        let number = first.number in
        let h = t.helping in
        let events : events_from 0 first.helpings ++ events_of client h ≡ events_from 0 (first.helpings ++ h ∷ []) =
        (let same : client ≡ 0 + length first.helpings = omega (arith, number) in ap (λ c. events_from 0 first.helpings ++ events_of c h) same ∙ sym (events_more 0 first.helpings h)) in
        record {
          helpings = first.helpings ++ h ∷ [];
          number = length-append first.helpings (h ∷ []) ∙ ap (λ n. n + 1) number;
          chunks = out_more client first.helpings h number (λ (x : Helping). x.chunks) old.chunks lines.chunks lines'.chunks first.chunks t.chunks;
          crumbs = out_more client first.helpings h number (λ (x : Helping). x.crumbs) old.crumbs lines.crumbs lines'.crumbs first.crumbs t.crumbs;
          triggers = out_more client first.helpings h number (λ (x : Helping). x.triggers) old.triggers lines.triggers lines'.triggers first.triggers t.triggers;
          giver = t.giver ∙ first.giver;
          stands =
              subst (λ (w : NodeWork). WorkingAgentStands W w desk' lines')
              (with_more work (events_from 0 first.helpings) (events_of client h) (chunks_of first.helpings) h.chunks
              ∙ ap₂ (λ (e : List AgentEvent) (c : List (Buffer Leased)). with_events e c work) events (sym (chunks_more first.helpings h))) t.stands;
        }
