-- A page that a hub said it holds is held, with the message that brought it, until it is saved.
use Rattle.std.proofs.Common.{◌≡◌, ℕ, ◌⊎◌, inl, inr, Bool, true, false, not, cond, ◌&&◌, ◌||◌, List, [], ◌∷◌, ◌++◌, length, drop, filter, zero, suc, eqb, nat_le, Option, Some, None, is_some, is_none, unwrap_or, refl, sym, ap, subst, ◌∙◌}
use Rattle.std.specs.Prelude.{fold}
use Rattle.std.specs.List.{AllByRecursion, list_any}
use Rattle.std.specs.Map.{lookup, remove_entry}
use Rattle.std.specs.BTreeMap.{insert_entry}
use Rattle.std.specs.Ordering.{match_ordering, is_eq}
use Rattle.std.specs.declared.cmp.Ordering.{Ordering}
use Rattle.std.specs.declared.cmp.Ordering.TheVariants.{Less, Equal, Greater}
use Rattle.std.proofs.lemmas.Bool.{and_from, and_parts, both_ways, or_cases, or_left}
use Rattle.std.proofs.lemmas.Map.{lookup-remove_entry}
use Rattle.hs_base.proofs.Alls.{all_append, all_each, all_map, all_push}
use Rattle.hs_base.specs.declared.ids.NodeId.{NodeId}
use Rattle.hs_base.specs.declared.ids.TraceId.{TraceId}
use Rattle.hs_base.specs.declared.told.Ask.{Ask}
use Rattle.hs_base.specs.declared.told.Told.{Told}
use Rattle.hs_base.specs.Ids.{same_trace}
use Rattle.hs_wire.specs.declared.message.Standing.{Standing}
use Rattle.hs_groups.specs.declared.answers.ToldOutcome as group_answers
use Rattle.hs_groups.specs.declared.answers.ToldOutcome.TheVariants as of_group
use Rattle.hs_groups.specs.Groups as groups
use Rattle.hs_standings.specs.declared.answers.StandingOutcome as standing_answers
use Rattle.hs_standings.specs.declared.answers.StandingOutcome.TheVariants as of_standing
use Rattle.hs_standings.specs.Standing as standings
use Rattle.hs_traces.specs.declared.answers.Added as page_answers
use Rattle.hs_traces.specs.declared.answers.Added.TheVariants as of_page
use Rattle.hs_traces.specs.declared.key.PageKey.{PageKey}
use Rattle.hs_traces.specs.Keys.{key_cmp, same_key}
use Rattle.hs_traces.specs.Parts.{Pages, has_key, with_page}
use Rattle.hs_traces.specs.Traces as traces
use Rattle.hs_traces.specs.Traces.{Parts, PlainTraces, part_of, has_page, has_page_in, is_full, with_page_in, with_page_of, offered}
use Rattle.hs_traces.proofs.Order.{key_laws, same_trace-true, same_trace-refl, same_trace_laws}
use Rattle.hs_receipts.specs.declared.answers.MessageId.{MessageId}
use Rattle.hs_receipts.specs.declared.answers.Waiting.{Waiting}
use Rattle.hs_receipts.specs.Receipts as receipts
use Rattle.hs_receipts.specs.Receipts.{PlainReceipts, kept, is_message, is_for, waits_for, is_noted, is_known, messages_for, after_wait, after_join, after_offer}
use Rattle.hs_hub.specs.declared.answers.Delivered.TheVariants.{Held, Refused, Full}
use Rattle.hs_hub.specs.declared.answers.OutReason.{OutReason}
use Rattle.hs_hub.specs.declared.answers.HubLimits.{HubLimits}
use Rattle.hs_hub.specs.Hub.{PlainHub, no_hub, room, node_of, life_of, waits_at, noted, all_noted, after_answer_to_told, delivered_of_page, answer_to_page, repeated, after_added, after_page, after_noted, after_ask, may_go, given, after_given, after_saved_of}
use Rattle.hs_hub.specs.Life.{HubAct, Hears, Tells, Reports, Says, Asks, Passes, Gives, LetsGo, Names, after, life}
use Rattle.hs_hub.specs.Kept.{Waits, Served}
use Rattle.hs_hub.specs.Fate.{SaysThis, SayThis, IsHeldBy, WasSaved}
use Rattle.hs_hub.proofs.Kept as kept_proofs
use Rattle.hs_hub.proofs.Kept.{AreApart, More, IsShelf, Keeps, Holds, AreAmong, is_one, joined_part, any_second, no_more, more_if, waits_more, joins_more, noted_more, all_noted_more, repeats_more, waits_itself, for_any, still_waits, given_out, given_is, has_room, at_start}

-- ---- a page is found again where another joins, or a trace goes

insert_has : (q key : PageKey) (new : List ℕ) (pages : Pages) → has_key pages q ≡ true → has_key (insert_entry key_cmp pages key new) q ≡ true
insert_has q key new [] e = let never : false ≡ true = e in absurd cc
insert_has q key new (x ∷ pages) e = at (key_cmp key x.0) e (insert_has q key new pages)
  where
    skipped : (b : Bool) (o : Option (List ℕ)) → is_some o ≡ true → is_some (cond b (Some new) o) ≡ true
    skipped true o e = refl
    skipped false o e = e

    instead : (b : Bool) (o : Option (List ℕ)) → is_some (cond b (Some x.1) o) ≡ true → is_some (cond b (Some new) o) ≡ true
    instead true o e = refl
    instead false o e = e

    later : (b : Bool) (o p : Option (List ℕ)) → is_some (cond b (Some x.1) o) ≡ true → (is_some o ≡ true → is_some p ≡ true) → is_some (cond b (Some x.1) p) ≡ true
    later true o p e rest = refl
    later false o p e rest = rest e

    at : (o : Ordering) → has_key (x ∷ pages) q ≡ true → (has_key pages q ≡ true → has_key (insert_entry key_cmp pages key new) q ≡ true)
        → has_key (match_ordering o ((key, new) ∷ x ∷ pages) ((x.0, new) ∷ pages) (x ∷ insert_entry key_cmp pages key new)) q ≡ true
    at Less e rest = skipped (same_key q key) (lookup (same_key q) (x ∷ pages)) e
    at Equal e rest = instead (same_key q x.0) (lookup (same_key q) pages) e
    at Greater e rest = later (same_key q x.0) (lookup (same_key q) pages) (lookup (same_key q) (insert_entry key_cmp pages key new)) e rest

insert_own : (key : PageKey) (new : List ℕ) (pages : Pages) → has_key (insert_entry key_cmp pages key new) key ≡ true
insert_own key new [] = ap (λ (b : Bool). is_some (cond b (Some new) None)) (key_laws.refl key)
insert_own key new (x ∷ pages) = at (key_cmp key x.0) refl (insert_own key new pages)
  where
    later : (b : Bool) (o : Option (List ℕ)) → is_some o ≡ true → is_some (cond b (Some x.1) o) ≡ true
    later true o e = refl
    later false o e = e

    at : (o : Ordering) → key_cmp key x.0 ≡ o → has_key (insert_entry key_cmp pages key new) key ≡ true
        → has_key (match_ordering o ((key, new) ∷ x ∷ pages) ((x.0, new) ∷ pages) (x ∷ insert_entry key_cmp pages key new)) key ≡ true
    at Less is rest = ap (λ (b : Bool). is_some (cond b (Some new) (lookup (same_key key) (x ∷ pages)))) (key_laws.refl key)
    at Equal is rest = ap (λ (o : Ordering). is_some (cond (is_eq o) (Some new) (lookup (same_key key) pages))) is
    at Greater is rest = later (same_key key x.0) (lookup (same_key key) (insert_entry key_cmp pages key new)) rest

joined_has : (parts : Parts) (trace other : TraceId) (key q : PageKey) (new : List ℕ) → has_page_in parts other q ≡ true → has_page_in (with_page_in parts trace key new (part_of parts trace)) other q ≡ true
joined_has parts trace other key q new e =
    ap (λ (o : Option Pages). has_key (unwrap_or o []) q) (joined_part parts trace other key new (part_of parts trace) refl) ∙ by (same_trace trace other) refl
  where
    by : (b : Bool) → same_trace trace other ≡ b → has_key (unwrap_or (cond b (Some (with_page (unwrap_or (part_of parts trace) []) key new)) (part_of parts other)) []) q ≡ true
    by true y = insert_has q key new (unwrap_or (part_of parts trace) []) (subst (λ (x : TraceId). has_page_in parts x q ≡ true) (sym (same_trace-true trace other y)) e)
    by false n = e

joined_own : (parts : Parts) (trace : TraceId) (key : PageKey) (new : List ℕ) → has_page_in (with_page_in parts trace key new (part_of parts trace)) trace key ≡ true
joined_own parts trace key new =
    ap (λ (o : Option Pages). has_key (unwrap_or o []) key) (joined_part parts trace trace key new (part_of parts trace) refl)
    ∙ ap (λ (b : Bool). has_key (unwrap_or (cond b (Some (with_page (unwrap_or (part_of parts trace) []) key new)) (part_of parts trace)) []) key) (same_trace-refl trace)
    ∙ insert_own key new (unwrap_or (part_of parts trace) [])

-- a page of another trace waits on where a trace is given out
stays : (s : PlainTraces) (trace other : TraceId) (q : PageKey) → s.out ≡ [] → s.limits.outs ≡ 1 → AreApart s.waiting → same_trace trace other ≡ false → has_page_in s.waiting other q ≡ true
    → has_page_in (given s trace).waiting other q ≡ true
stays s trace other q none outs apart n e = subst (λ (after : PlainTraces). has_page_in after.waiting other q ≡ true) (sym (given_is s trace none outs)) (by (not (traces.is_waiting s trace)))
  where
    removed : has_page_in (remove_entry (same_trace trace) s.waiting) other q ≡ true
    removed =
        ap (λ (o : Option Pages). has_key (unwrap_or o []) q) (lookup-remove_entry same_trace_laws (same_trace trace) (is_one trace) other s.waiting apart)
        ∙ ap (λ (b : Bool). has_key (unwrap_or (cond b None (part_of s.waiting other)) []) q) n
        ∙ e

    by : (b : Bool) → has_page_in (cond b s (offered s trace)).waiting other q ≡ true
    by true = e
    by false = removed

-- and one of the trace itself is out
goes_out : (s : PlainTraces) (trace : TraceId) (q : PageKey) → s.out ≡ [] → s.limits.outs ≡ 1 → has_page_in s.waiting trace q ≡ true → has_page_in (given s trace).out trace q ≡ true
goes_out s trace q none outs e =
    subst (λ (after : PlainTraces). has_page_in after.out trace q ≡ true) (sym (given_is s trace none outs ∙ ap (λ (b : Bool). cond (not b) s (offered s trace)) (waits (part_of s.waiting trace) e))) is_out
  where
    waits : (o : Option Pages) → has_key (unwrap_or o []) q ≡ true → is_some o ≡ true
    waits None e = e
    waits (Some pages) e = refl

    pages : Pages
    pages = unwrap_or (part_of s.waiting trace) []

    is_out : has_page_in (s.out ++ (trace, pages) ∷ []) trace q ≡ true
    is_out =
        ap (λ (parts : Parts). has_page_in (parts ++ (trace, pages) ∷ []) trace q) none ∙ ap (λ (b : Bool). has_key (unwrap_or (cond b (Some pages) None) []) q) (same_trace-refl trace) ∙ e

-- ---- what is said of all that a filter keeps

all_filtered : {X : Type 0} (P Q : X → Type 0) (test : X → Bool) → ((x : X) → test x ≡ true → P x → Q x) → (xs : List X) → AllByRecursion P xs → AllByRecursion Q (filter test xs)
all_filtered P Q test step [] all = tt
all_filtered {X} P Q test step (x ∷ xs) all = at (test x) refl (all_filtered P Q test step xs all.1)
  where
    at : (b : Bool) → test x ≡ b → AllByRecursion Q (filter test xs) → AllByRecursion Q (cond b (x ∷ filter test xs) (filter test xs))
    at true y rest = (step x y all.0, rest)
    at false n rest = rest

any_all : {X : Type 0} {Q : Type 0} (test : X → Bool) (P : X → Type 0) → ((x : X) → test x ≡ true → P x → Q) → (xs : List X) → AllByRecursion P xs → list_any test xs ≡ true → Q
any_all test P step [] all e = let never : false ≡ true = e in absurd cc
any_all {X} {Q} test P step (x ∷ xs) all e = at (test x) refl e (any_all test P step xs all.1)
  where
    at : (b : Bool) → test x ≡ b → (b || list_any test xs) ≡ true → (list_any test xs ≡ true → Q) → Q
    at true y e rest = step x y all.0
    at false n e rest = rest e

-- ---- a message that says this page alone is kept for it alone

module _ (message : MessageId) (trace : TraceId) (key : PageKey) where
  abbrev pub TiedWaiting : PlainTraces → Waiting → Type 0
  TiedWaiting s waits = is_message message waits.message ≡ true → (same_trace trace waits.trace ≡ true) × (has_page_in s.waiting trace key ≡ true)

  abbrev pub TiedServed : PlainTraces → Option TraceId → MessageId → Type 0
  TiedServed s out x = is_message message x ≡ true → (out ≡ Some trace) × (has_page_in s.out trace key ≡ true)

  pub record IsTied (s : PlainTraces) (r : PlainReceipts) : Type 0 where
    pub waiting : AllByRecursion (TiedWaiting s) r.waiting
    pub served : AllByRecursion (TiedServed s r.out) r.served

  tied_if : (s : PlainTraces) (b : Bool) (r then : PlainReceipts) → IsTied s r → IsTied s then → IsTied s (cond b r then)
  tied_if s true r then tied more = tied
  tied_if s false r then tied more = more

  tied_waits : (s : PlainTraces) (r : PlainReceipts) (waits : Waiting) → IsTied s r → TiedWaiting s waits → IsTied s (after_wait r waits)
  tied_waits s r waits tied new =
      tied_if s (nat_le r.most (kept r)) r (record r { waiting = r.waiting ++ waits ∷ [] }) tied (record { waiting = all_push (TiedWaiting s) r.waiting waits tied.waiting new; served = tied.served })

  tied_joins : (s : PlainTraces) (r : PlainReceipts) (x : MessageId) → IsTied s r → TiedServed s r.out x → IsTied s (after_join r x)
  tied_joins s r x tied new =
      tied_if s (is_none r.out || nat_le r.most (kept r)) r (record r { served = r.served ++ x ∷ [] }) tied (record { waiting = tied.waiting; served = all_push (TiedServed s r.out) r.served x tied.served new })

  other_waits : (s : PlainTraces) (now : ℕ) (x : MessageId) (t : TraceId) → is_message message x ≡ false → TiedWaiting s (waits_at now x t)
  other_waits s now x t n y = absurd (both_ways (is_message message x) n y)

  tied_noted : (s : PlainTraces) (now : ℕ) (x : MessageId) (r : PlainReceipts) (t : TraceId) → is_message message x ≡ false → IsTied s r → IsTied s (noted now x r t)
  tied_noted s now x r t n tied = tied_if s (is_noted r t x) r (after_wait r (waits_at now x t)) tied (tied_waits s r (waits_at now x t) tied (other_waits s now x t n))

  each_tied : (s : PlainTraces) (now : ℕ) (x : MessageId) (r : PlainReceipts) (ts : List TraceId) → is_message message x ≡ false → IsTied s r → IsTied s (fold (noted now x) r ts)
  each_tied s now x r [] n tied = tied
  each_tied s now x r (t ∷ ts) n tied = each_tied s now x (noted now x r t) ts n (tied_noted s now x r t n tied)

  all_tied : (s : PlainTraces) (now : ℕ) (x : MessageId) (r : PlainReceipts) (told : Told) → is_message message x ≡ false → IsTied s r → IsTied s (all_noted now x r told)
  all_tied s now x r told n tied = tied_if s (is_known r x) r (fold (noted now x) (noted now x r told.group.lead) told.laterals) tied (each_tied s now x r (told.group.lead ∷ told.laterals) n tied)

  -- ---- what holds of the page

  abbrev pub IsWith : PlainTraces → PlainReceipts → Type 0
  IsWith s r = ((has_page_in s.waiting trace key ≡ true) × Waits r trace message) ⊎ ((has_page_in s.out trace key ≡ true) × Served r trace message)

  kept_more : (s : PlainTraces) (r then : PlainReceipts) → More r then → IsWith s r → IsWith s then
  kept_more s r then more (inl (page, waits)) = inl (page, more.waiting (waits_for trace message) waits)
  kept_more s r then more (inr (page, served)) = inr (page, (more.out ∙ served.0, more.served (is_message message) served.1))

  kept_grown : (s : PlainTraces) (r : PlainReceipts) (t : TraceId) (k : PageKey) (bytes : List ℕ) → IsWith s r → IsWith (with_page_of s t k bytes) r
  kept_grown s r t k bytes (inl (page, waits)) = inl (joined_has s.waiting t trace k key bytes page, waits)
  kept_grown s r t k bytes (inr is) = inr is

  tied_grown : (s : PlainTraces) (r : PlainReceipts) (t : TraceId) (k : PageKey) (bytes : List ℕ) → IsTied s r → IsTied (with_page_of s t k bytes) r
  tied_grown s r t k bytes tied = record {
    waiting = all_each (TiedWaiting s) (TiedWaiting (with_page_of s t k bytes)) r.waiting (λ waits was is. let old = was is in (old.0, joined_has s.waiting t trace k key bytes old.1)) tied.waiting;
    served = tied.served;
  }

  -- ---- a page comes

  abbrev IsThis : MessageId → TraceId → PageKey → Type 0
  IsThis x t k = is_message message x ≡ true → (t ≡ trace) × (k ≡ key)

  tied_added : (s : PlainTraces) (r : PlainReceipts) (now : ℕ) (x : MessageId) (t : TraceId) (k : PageKey) (bytes : List ℕ) → IsThis x t k → IsTied s r
      → IsTied (with_page_of s t k bytes) (after_wait r (waits_at now x t))
  tied_added s r now x t k bytes this tied = tied_waits (with_page_of s t k bytes) r (waits_at now x t) (tied_grown s r t k bytes tied) (λ is. own (this is))
    where
      own : (t ≡ trace) × (k ≡ key) → (same_trace trace t ≡ true) × (has_page_in (with_page_of s t k bytes).waiting trace key ≡ true)
      own (same, alike) = (
        ap (λ (u : TraceId). same_trace trace u) same ∙ same_trace-refl trace,
        ap (λ (u : TraceId). has_page_in (with_page_of s t k bytes).waiting u key) (sym same) ∙ ap (λ (q : PageKey). has_page_in (with_page_of s t k bytes).waiting t q) (sym alike) ∙ joined_own s.waiting t k bytes,
      )

  -- what is out is of the trace that is out
  out_is : (out : Option TraceId) (parts : Parts) → IsShelf out parts → has_page_in parts trace key ≡ true → out ≡ Some trace
  out_is None parts none e = let never : false ≡ true = sym (ap (λ (parts : Parts). has_page_in parts trace key) none) ∙ e in absurd cc
  out_is (Some t) parts (inl none) e = let never : false ≡ true = sym (ap (λ (parts : Parts). has_page_in parts trace key) none) ∙ e in absurd cc
  out_is (Some t) parts (inr (pages, one)) e = by (same_trace trace t) refl (sym (ap (λ (parts : Parts). has_page_in parts trace key) one) ∙ e)
    where
      by : (b : Bool) → same_trace trace t ≡ b → has_key (unwrap_or (cond b (Some pages) None) []) key ≡ true → Some t ≡ Some trace
      by true y e = ap Some (sym (same_trace-true trace t y))
      by false n e = let never : false ≡ true = e in absurd cc

  was_waiting : (a b : Bool) → (a || b) ≡ true → b ≡ false → a ≡ true
  was_waiting true b e n = refl
  was_waiting false b e n = absurd (both_ways b n e)

  tied_repeated : (h : PlainHub) (x : MessageId) (t : TraceId) (k : PageKey) → IsShelf h.receipts.out h.traces.out → IsThis x t k → has_page h.traces t k ≡ true → IsTied h.traces h.receipts
      → IsTied h.traces (repeated h x t k)
  tied_repeated h x t k shelf this has tied =
      tied_if s (is_noted r t x) r (cond (has_page_in s.out t k) (after_join r x) (after_wait r (waits_at h.passes x t))) tied (by (has_page_in s.out t k) refl)
    where
      s : PlainTraces
      s = h.traces

      r : PlainReceipts
      r = h.receipts

      at_this : (parts : Parts) → (t ≡ trace) × (k ≡ key) → has_page_in parts t k ≡ true → has_page_in parts trace key ≡ true
      at_this parts (same, alike) e = ap (λ (u : TraceId). has_page_in parts u key) (sym same) ∙ ap (λ (q : PageKey). has_page_in parts t q) (sym alike) ∙ e

      by : (b : Bool) → has_page_in s.out t k ≡ b → IsTied s (cond b (after_join r x) (after_wait r (waits_at h.passes x t)))
      by true y = tied_joins s r x tied (λ is. let page = at_this s.out (this is) y in (out_is r.out s.out shelf page, page))
      by false n =
          tied_waits s r (waits_at h.passes x t) tied
          (λ is. (ap (λ (u : TraceId). same_trace trace u) (this is).0 ∙ same_trace-refl trace, at_this s.waiting (this is) (was_waiting (has_page_in s.waiting t k) (has_page_in s.out t k) has n)))

  -- ---- a trace is given out

  tied_given : (s : PlainTraces) (r : PlainReceipts) (t : TraceId) → s.out ≡ [] → s.limits.outs ≡ 1 → AreApart s.waiting → r.out ≡ None → IsTied s r → IsTied (given s t) (given_out r t)
  tied_given s r t none outs apart is_in tied = record {
    waiting = all_filtered (TiedWaiting s) (TiedWaiting (given s t)) (λ (waits : Waiting). not (is_for t waits)) waiting r.waiting tied.waiting;
    served = all_append (TiedServed (given s t) (Some t)) r.served (messages_for t r.waiting)
        (all_each (TiedServed s r.out) (TiedServed (given s t) (Some t)) r.served was_none tied.served)
        (all_map (TiedServed (given s t) (Some t)) (λ (waits : Waiting). waits.message) (filter (is_for t) r.waiting)
        (all_filtered (TiedWaiting s) (λ waits. TiedServed (given s t) (Some t) waits.message) (is_for t) serves r.waiting tied.waiting));
  }
    where
      waiting : (waits : Waiting) → not (is_for t waits) ≡ true → TiedWaiting s waits → TiedWaiting (given s t) waits
      waiting waits stays_in was is = (old.0, by (same_trace t trace) refl)
        where
          old : (same_trace trace waits.trace ≡ true) × (has_page_in s.waiting trace key ≡ true)
          old = was is

          for_it : same_trace t trace ≡ true → is_for t waits ≡ true
          for_it y = ap (λ (u : TraceId). same_trace u waits.trace) (same_trace-true t trace y) ∙ old.0

          by : (b : Bool) → same_trace t trace ≡ b → has_page_in (given s t).waiting trace key ≡ true
          by true y = let never : false ≡ true = sym (ap not (for_it y)) ∙ stays_in in absurd cc
          by false n = stays s t trace key none outs apart n old.1

      was_none : (x : MessageId) → TiedServed s r.out x → TiedServed (given s t) (Some t) x
      was_none x was is = let never : None ≡ Some trace = sym is_in ∙ (was is).0 in absurd cc

      serves : (waits : Waiting) → is_for t waits ≡ true → TiedWaiting s waits → TiedServed (given s t) (Some t) waits.message
      serves waits for_t was is =
          let old = was is in
          let same : t ≡ trace = same_trace-true t waits.trace for_t ∙ sym (same_trace-true trace waits.trace old.0) in
          (ap Some same, subst (λ (u : TraceId). has_page_in (given s u).out trace key ≡ true) (sym same) (goes_out s trace key none outs old.1))

  kept_given : (s : PlainTraces) (r : PlainReceipts) (t : TraceId) → s.out ≡ [] → s.limits.outs ≡ 1 → AreApart s.waiting → r.out ≡ None → IsWith s r → IsWith (given s t) (given_out r t)
  kept_given s r t none outs apart is_in (inr (page, served)) = let never : None ≡ Some trace = sym is_in ∙ served.0 in absurd cc
  kept_given s r t none outs apart is_in (inl (page, waits)) = by (same_trace t trace) refl
    where
      at_it : IsWith (given s trace) (given_out r trace)
      at_it = inr (goes_out s trace key none outs page, (refl, any_second (is_message message) r.served (messages_for trace r.waiting) (for_any trace message r.waiting waits)))

      by : (b : Bool) → same_trace t trace ≡ b → IsWith (given s t) (given_out r t)
      by true y = subst (λ (u : TraceId). IsWith (given s u) (given_out r u)) (sym (same_trace-true t trace y)) at_it
      by false n = inl (stays s t trace key none outs apart n page, still_waits t trace message r.waiting n waits)

  -- ---- one call

  abbrev pub Ties : PlainHub → Type 0
  Ties h = IsTied h.traces h.receipts

  ties_if : (b : Bool) (h new : PlainHub) → Ties h → Ties new → Ties (cond b h new)
  ties_if true h new ties then = ties
  ties_if false h new ties then = then

  tells : (h : PlainHub) (x : MessageId) (told : Told) (a : group_answers.ToldOutcome) → is_message message x ≡ false → Ties h → Ties (after_answer_to_told h x told a)
  tells h x told (of_group.Taken heard) n ties = all_tied h.traces h.passes x h.receipts told n ties
  tells h x told of_group.Refused n ties = ties
  tells h x told of_group.Full n ties = ties

  was_there : (has full : Bool) → cond has of_page.Repeated (cond full of_page.Full of_page.Added) ≡ of_page.Repeated → has ≡ true
  was_there true full e = refl
  was_there false true e = let never : of_page.Full ≡ of_page.Repeated = e in absurd cc
  was_there false false e = let never : of_page.Added ≡ of_page.Repeated = e in absurd cc

  reports : (h : PlainHub) (x : MessageId) (t : TraceId) (k : PageKey) (bytes : List ℕ) (a : page_answers.Added) → traces.answer_to h.traces t k (length bytes) ≡ a → IsShelf h.receipts.out h.traces.out → IsThis x t k → Ties h
      → Ties (after_added h x t k bytes a)
  reports h x t k bytes of_page.Added is shelf this ties = tied_added h.traces h.receipts h.passes x t k bytes this ties
  reports h x t k bytes of_page.Repeated is shelf this ties = tied_repeated h x t k shelf this (was_there (has_page h.traces t k) (is_full h.traces t (length bytes)) is) ties
  reports h x t k bytes of_page.NoPage is shelf this ties = ties
  reports h x t k bytes of_page.Foreign is shelf this ties = ties
  reports h x t k bytes of_page.Full is shelf this ties = ties

  says : (h : PlainHub) (x : MessageId) (standing : Standing) (a : standing_answers.StandingOutcome) → is_message message x ≡ false → Ties h → Ties (after_noted h x standing a)
  says h x standing of_standing.Noted n ties = tied_noted h.traces h.passes x h.receipts standing.trace n ties
  says h x standing of_standing.Older n ties = tied_noted h.traces h.passes x h.receipts standing.trace n ties
  says h x standing of_standing.Full n ties = ties

  asks : (h : PlainHub) (ask : Option (NodeId × Ask)) → Ties h → Ties (after_ask h ask)
  asks h None ties = ties
  asks h (Some ask) ties = ties

  now_out : (r : PlainReceipts) (t : TraceId) → r.out ≡ None → after_offer r t ≡ given_out r t
  now_out r t is = ap (λ (o : Option TraceId). cond (is_none o) (given_out r t) r) is

  gives : (h : PlainHub) (out : Option TraceId) (go : Option (TraceId × OutReason)) → h.receipts.out ≡ out → h.traces.limits.outs ≡ 1 → AreApart h.traces.waiting → IsShelf h.receipts.out h.traces.out → Ties h
      → Ties (after_given h (cond (is_some out) None go))
  gives h (Some t) go is outs apart shelf ties = ties
  gives h None None is outs apart shelf ties = ties
  gives h None (Some (t, why)) is outs apart shelf ties =
      subst (λ (r : PlainReceipts). IsTied (given h.traces t) r) (sym (now_out h.receipts t is))
      (tied_given h.traces h.receipts t (subst (λ (o : Option TraceId). IsShelf o h.traces.out) is shelf) outs apart is ties)

  lets_go : (h : PlainHub) (out : Option TraceId) → Ties h → Ties (after_saved_of h out)
  lets_go h None ties = record { waiting = ties.waiting; served = tt }
  lets_go h (Some t) ties = record { waiting = ties.waiting; served = tt }

  ties_on : (all : List HubAct) (h : PlainHub) (act : HubAct) → SaysThis message trace key act → Holds all h → Ties h → Ties (after h act)
  ties_on all h (Hears node epoch) this holds ties = ties
  ties_on all h (Tells x told) this holds ties =
      let answer = groups.answer_to h.groups (node_of x) x.epoch told in
      ties_if (nat_le (room h) (length told.laterals)) h (after_answer_to_told h x told answer) ties (tells h x told answer this ties)
  ties_on all h (Reports x t k bytes) this holds ties =
      let answer = traces.answer_to h.traces t k (length bytes) in
      let new = after_added h x t k bytes answer in
      ties_if (nat_le h.limits.nodes x.node) h (cond (eqb (room h) 0) h new) ties (ties_if (eqb (room h) 0) h new ties (reports h x t k bytes answer refl holds.shelf this ties))
  ties_on all h (Says x standing) this holds ties =
      let answer = standings.answer_to h.standings standing.trace (life_of x) x.number in
      let new = after_noted h x standing answer in
      ties_if (nat_le h.limits.nodes x.node) h (cond (eqb (room h) 0) h new) ties (ties_if (eqb (room h) 0) h new ties (says h x standing answer this ties))
  ties_on all h Asks this holds ties = asks h (groups.next_ask h.groups) ties
  ties_on all h Passes this holds ties = ties
  ties_on all h Gives this holds ties = gives h h.receipts.out (may_go h) refl holds.outs holds.apart holds.shelf ties
  ties_on all h LetsGo this holds ties = lets_go h h.receipts.out ties
  ties_on all h Names this holds ties = record { waiting = ties.waiting; served = ties.served }

  -- the page stays with its message, or is saved by this call
  abbrev pub IsIn : PlainHub → Type 0
  IsIn h = IsWith h.traces h.receipts

  abbrev pub IsSavedBy : PlainHub → HubAct → Type 0
  IsSavedBy h act = (act ≡ LetsGo) × (h.receipts.out ≡ Some trace) × (has_page_in h.traces.out trace key ≡ true)

  in_if : (b : Bool) (h new : PlainHub) → IsIn h → IsIn new → IsIn (cond b h new)
  in_if true h new is then = is
  in_if false h new is then = then

  in_tells : (h : PlainHub) (x : MessageId) (told : Told) (a : group_answers.ToldOutcome) → IsIn h → IsIn (after_answer_to_told h x told a)
  in_tells h x told (of_group.Taken heard) is = kept_more h.traces h.receipts (all_noted h.passes x h.receipts told) (all_noted_more h.passes x h.receipts told) is
  in_tells h x told of_group.Refused is = is
  in_tells h x told of_group.Full is = is

  in_reports : (h : PlainHub) (x : MessageId) (t : TraceId) (k : PageKey) (bytes : List ℕ) (a : page_answers.Added) → IsIn h → IsIn (after_added h x t k bytes a)
  in_reports h x t k bytes of_page.Added is =
      let then = after_wait h.receipts (waits_at h.passes x t) in
      kept_grown h.traces then t k bytes (kept_more h.traces h.receipts then (waits_more h.receipts (waits_at h.passes x t)) is)
  in_reports h x t k bytes of_page.Repeated is = kept_more h.traces h.receipts (repeated h x t k) (repeats_more h x t k) is
  in_reports h x t k bytes of_page.NoPage is = is
  in_reports h x t k bytes of_page.Foreign is = is
  in_reports h x t k bytes of_page.Full is = is

  in_says : (h : PlainHub) (x : MessageId) (standing : Standing) (a : standing_answers.StandingOutcome) → IsIn h → IsIn (after_noted h x standing a)
  in_says h x standing of_standing.Noted is = kept_more h.traces h.receipts (noted h.passes x h.receipts standing.trace) (noted_more h.passes x h.receipts standing.trace) is
  in_says h x standing of_standing.Older is = kept_more h.traces h.receipts (noted h.passes x h.receipts standing.trace) (noted_more h.passes x h.receipts standing.trace) is
  in_says h x standing of_standing.Full is = is

  in_asks : (h : PlainHub) (ask : Option (NodeId × Ask)) → IsIn h → IsIn (after_ask h ask)
  in_asks h None is = is
  in_asks h (Some ask) is = is

  in_gives : (h : PlainHub) (out : Option TraceId) (go : Option (TraceId × OutReason)) → h.receipts.out ≡ out → h.traces.limits.outs ≡ 1 → AreApart h.traces.waiting → IsShelf h.receipts.out h.traces.out → IsIn h
      → IsIn (after_given h (cond (is_some out) None go))
  in_gives h (Some t) go is outs apart shelf within = within
  in_gives h None None is outs apart shelf within = within
  in_gives h None (Some (t, why)) is outs apart shelf within =
      subst (λ (r : PlainReceipts). IsWith (given h.traces t) r) (sym (now_out h.receipts t is))
      (kept_given h.traces h.receipts t (subst (λ (o : Option TraceId). IsShelf o h.traces.out) is shelf) outs apart is within)

  pub waits_on : (h : PlainHub) (out : Option TraceId) → (has_page_in h.traces.waiting trace key ≡ true) × Waits h.receipts trace message → IsIn (after_saved_of h out)
  waits_on h None is = inl is
  waits_on h (Some t) is = inl is

  in_lets_go : (h : PlainHub) → IsIn h → IsIn (after h LetsGo) ⊎ IsSavedBy h LetsGo
  in_lets_go h (inl is) = inl (waits_on h h.receipts.out is)
  in_lets_go h (inr (page, served)) = inr (refl, served.0, page)

  pub in_on : (all : List HubAct) (h : PlainHub) (act : HubAct) → Holds all h → IsIn h → IsIn (after h act) ⊎ IsSavedBy h act
  in_on all h (Hears node epoch) holds is = inl is
  in_on all h (Tells x told) holds is =
      let answer = groups.answer_to h.groups (node_of x) x.epoch told in
      inl (in_if (nat_le (room h) (length told.laterals)) h (after_answer_to_told h x told answer) is (in_tells h x told answer is))
  in_on all h (Reports x t k bytes) holds is =
      let answer = traces.answer_to h.traces t k (length bytes) in
      let new = after_added h x t k bytes answer in
      inl (in_if (nat_le h.limits.nodes x.node) h (cond (eqb (room h) 0) h new) is (in_if (eqb (room h) 0) h new is (in_reports h x t k bytes answer is)))
  in_on all h (Says x standing) holds is =
      let answer = standings.answer_to h.standings standing.trace (life_of x) x.number in
      let new = after_noted h x standing answer in
      inl (in_if (nat_le h.limits.nodes x.node) h (cond (eqb (room h) 0) h new) is (in_if (eqb (room h) 0) h new is (in_says h x standing answer is)))
  in_on all h Asks holds is = inl (in_asks h (groups.next_ask h.groups) is)
  in_on all h Passes holds is = inl is
  in_on all h Gives holds is = inl (in_gives h h.receipts.out (may_go h) refl holds.outs holds.apart holds.shelf is)
  in_on all h LetsGo holds is = in_lets_go h is
  in_on all h Names holds is = inl (kept_more h.traces h.receipts (record h.receipts { done = drop 1 h.receipts.done }) (record { out = refl; waiting = λ test e. e; served = λ test e. e }) is)

  -- ---- it is held from its report on

  abbrev ByAnswer : PlainHub → List ℕ → page_answers.Added → Type 0
  ByAnswer h bytes a = IsWith (after_added h message trace key bytes a).traces (after_added h message trace key bytes a).receipts

  begins_repeated : (h : PlainHub) → eqb (room h) 0 ≡ false → IsShelf h.receipts.out h.traces.out → has_page h.traces trace key ≡ true → Ties h → IsWith h.traces (repeated h message trace key)
  begins_repeated h free shelf has ties = noted_or (is_noted r trace message) refl
    where
      s : PlainTraces
      s = h.traces

      r : PlainReceipts
      r = h.receipts

      full : nat_le r.most (kept r) ≡ false
      full = has_room r.most (kept r) free

      known : (list_any (waits_for trace message) r.waiting ≡ true) ⊎ ((receipts.is_out r trace && list_any (is_message message) r.served) ≡ true) → IsWith s r
      known (inl waits) =
          inl (any_all (waits_for trace message) (TiedWaiting s) (λ w here tied. (tied (and_parts (is_for trace w) (is_message message w.message) here).1).1) r.waiting ties.waiting waits, waits)
      known (inr serves) =
          let here = (and_parts (receipts.is_out r trace) (list_any (is_message message) r.served) serves).1 in
          let tied = any_all (is_message message) (TiedServed s r.out) (λ x here tied. tied here) r.served ties.served here in
          inr (tied.1, (tied.0, here))

      joined_now : has_page_in s.out trace key ≡ true → IsWith s (after_join r message)
      joined_now page =
          let out = out_is r.out s.out shelf page in
          let then = record r { served = r.served ++ message ∷ [] } in
          let test : (is_none r.out || nat_le r.most (kept r)) ≡ false = ap (λ (o : Option TraceId). is_none o || nat_le r.most (kept r)) out ∙ full in
          subst (λ (b : Bool). IsWith s (cond b r then)) (sym test) (inr (page, (out, any_second (is_message message) r.served (message ∷ []) (or_left (is_message message message) false own))))
        where
          same : (n : ℕ) → eqb n n ≡ true
          same n = same_trace-refl (record { 0 = n })

          own : is_message message message ≡ true
          own =
              and_from (eqb message.node message.node) (eqb message.epoch message.epoch && eqb message.number message.number) (same message.node)
              (and_from (eqb message.epoch message.epoch) (eqb message.number message.number) (same message.epoch) (same message.number))

      either : (b : Bool) → has_page_in s.out trace key ≡ b → IsWith s (cond b (after_join r message) (after_wait r (waits_at h.passes message trace)))
      either true page = joined_now page
      either false n = inl (was_waiting (has_page_in s.waiting trace key) (has_page_in s.out trace key) has n, waits_itself r h.passes message trace full)

      noted_or : (b : Bool) → is_noted r trace message ≡ b → IsWith s (cond b r (cond (has_page_in s.out trace key) (after_join r message) (after_wait r (waits_at h.passes message trace))))
      noted_or true y = known (or_cases (list_any (waits_for trace message) r.waiting) (receipts.is_out r trace && list_any (is_message message) r.served) y)
      noted_or false n = either (has_page_in s.out trace key) refl

  begins : (h : PlainHub) (bytes : List ℕ) (a : page_answers.Added) → traces.answer_to h.traces trace key (length bytes) ≡ a → eqb (room h) 0 ≡ false → delivered_of_page a ≡ Held → IsShelf h.receipts.out h.traces.out → Ties h
      → ByAnswer h bytes a
  begins h bytes of_page.Added is free held shelf ties = inl (joined_own h.traces.waiting trace key bytes, waits_itself h.receipts h.passes message trace (has_room h.receipts.most (kept h.receipts) free))
  begins h bytes of_page.Repeated is free held shelf ties = begins_repeated h free shelf (was_there (has_page h.traces trace key) (is_full h.traces trace (length bytes)) is) ties
  begins h bytes of_page.NoPage is free held shelf ties = let never : Refused ≡ Held = held in absurd cc
  begins h bytes of_page.Foreign is free held shelf ties = let never : Refused ≡ Held = held in absurd cc
  begins h bytes of_page.Full is free held shelf ties = let never : Full ≡ Held = held in absurd cc

  pub is_held : (h : PlainHub) (bytes : List ℕ) → answer_to_page h message trace key bytes ≡ Held → IsShelf h.receipts.out h.traces.out → Ties h → IsIn (after_page h message trace key bytes)
  is_held h bytes held shelf ties = by (nat_le h.limits.nodes message.node) (eqb (room h) 0) refl held
    where
      answer : page_answers.Added
      answer = traces.answer_to h.traces trace key (length bytes)

      by : (unknown full : Bool) → eqb (room h) 0 ≡ full → cond unknown Refused (cond full Full (delivered_of_page answer)) ≡ Held → IsIn (cond unknown h (cond full h (after_added h message trace key bytes answer)))
      by true full is held = let never : Refused ≡ Held = held in absurd cc
      by false true is held = let never : Full ≡ Held = held in absurd cc
      by false false is held = begins h bytes answer refl is held shelf ties

  -- ---- all calls

  pub record Stands (all : List HubAct) (h : PlainHub) : Type 0 where
    pub holds : Holds all h
    pub ties : Ties h

  pub stand_on : (all : List HubAct) (h : PlainHub) (acts : List HubAct) → AreAmong acts all → SayThis message trace key acts → Stands all h → Stands all (life h acts)
  stand_on all h [] among this stands = stands
  stand_on all h (act ∷ acts) among this stands =
      let there = among 0 act refl in
      stand_on all (after h act) acts (λ place other e. among (suc place) other e) this.1
      (record { holds = kept_proofs.one_call all h act there.0 there.1 stands.holds; ties = ties_on all h act this.0 stands.holds stands.ties })

  in_or_saved : (all : List HubAct) (h : PlainHub) (acts : List HubAct) → AreAmong acts all → Holds all h → IsIn h → IsHeldBy (life h acts) message trace key ⊎ WasSaved h acts trace key
  in_or_saved all h [] among holds is = inl is
  in_or_saved all h (act ∷ acts) among holds is =
      let there = among 0 act refl in
      by (in_on all h act holds is) (in_or_saved all (after h act) acts (λ place other e. among (suc place) other e) (kept_proofs.one_call all h act there.0 there.1 holds))
    where
      later : IsHeldBy (life (after h act) acts) message trace key ⊎ WasSaved (after h act) acts trace key → IsHeldBy (life (after h act) acts) message trace key ⊎ WasSaved h (act ∷ acts) trace key
      later (inl held) = inl held
      later (inr saved) =
          inr (record { before = act ∷ saved.before; later = saved.later; split = ap (λ (xs : List HubAct). act ∷ xs) saved.split; is_out = saved.is_out; has_page = saved.has_page })

      by : IsIn (after h act) ⊎ IsSavedBy h act → (IsIn (after h act) → IsHeldBy (life (after h act) acts) message trace key ⊎ WasSaved (after h act) acts trace key)
          → IsHeldBy (life (after h act) acts) message trace key ⊎ WasSaved h (act ∷ acts) trace key
      by (inl still) rest = later (rest still)
      by (inr (same, out, page)) rest = inr (record { before = []; later = acts; split = ap (λ (x : HubAct). x ∷ acts) same; is_out = out; has_page = page })

-- ---- calls among more

pub among_first : (xs ys : List HubAct) → AreAmong xs (xs ++ ys)
among_first [] ys place act e = let never : None ≡ Some act = e in absurd cc
among_first (x ∷ xs) ys zero act e = (0, e)
among_first (x ∷ xs) ys (suc place) act e = let there = among_first xs ys place act e in (suc there.0, there.1)

pub among_second : (xs ys : List HubAct) → AreAmong ys (xs ++ ys)
among_second [] ys place act e = (place, e)
among_second (x ∷ xs) ys place act e = let there = among_second xs ys place act e in (suc there.0, there.1)

pub starts : (message : MessageId) (trace : TraceId) (key : PageKey) (all : List HubAct) (epoch : ℕ) (is_fresh : Bool) (limits : HubLimits) → Stands message trace key all (no_hub epoch is_fresh limits)
starts message trace key all epoch is_fresh limits = record { holds = at_start all epoch is_fresh limits; ties = record { waiting = tt; served = tt } }

pub held_or_saved : (epoch : ℕ) (is_fresh : Bool) (limits : HubLimits) (before later : List HubAct) (message : MessageId) (trace : TraceId) (key : PageKey) (bytes : List ℕ)
    → SayThis message trace key before → answer_to_page (life (no_hub epoch is_fresh limits) before) message trace key bytes ≡ Held
    → IsHeldBy (life (after_page (life (no_hub epoch is_fresh limits) before) message trace key bytes) later) message trace key ⊎ WasSaved (after_page (life (no_hub epoch is_fresh limits) before) message trace key bytes) later trace key
held_or_saved epoch is_fresh limits before later message trace key bytes this held =
    let report = Reports message trace key bytes in
    let all = before ++ report ∷ later in
    let stands = stand_on message trace key all (no_hub epoch is_fresh limits) before (among_first before (report ∷ later)) this (starts message trace key all epoch is_fresh limits) in
    let h = life (no_hub epoch is_fresh limits) before in
    let there = among_second before (report ∷ later) 0 report refl in
    in_or_saved message trace key all (after_page h message trace key bytes) later (λ place act e. among_second before (report ∷ later) (suc place) act e)
    (kept_proofs.one_call all h report there.0 there.1 stands.holds) (is_held message trace key h bytes held stands.holds.shelf stands.ties)
