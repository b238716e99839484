-- Whatever calls a hub has had, a message is kept for each page that it holds.
use Rattle.std.proofs.Common.{◌≡◌, ℕ, ◌<◌, ◌≤◌, ◌⊎◌, inl, inr, Bool, true, false, not, cond, ◌&&◌, ◌||◌, List, [], ◌∷◌, ◌++◌, length, drop, map, filter, suc, eqb, nat_le, Option, Some, None, is_some, is_none, unwrap_or, refl, sym, ap, subst, ◌∙◌, arith}
use Rattle.std.specs.Prelude.{fold, slice_get, ◌-◌}
use Rattle.std.specs.List.{AllByRecursion, IsDistinct, list_any}
use Rattle.std.specs.Map.{lookup, keys_of, remove_entry}
use Rattle.std.specs.BTreeMap.{insert_entry}
use Rattle.std.specs.Ordering.{match_ordering}
use Rattle.std.specs.declared.cmp.Ordering.{Ordering}
use Rattle.std.specs.declared.cmp.Ordering.TheVariants.{Less, Equal, Greater}
use Rattle.std.proofs.lemmas.Bool.{and_from, and_parts, cases_lt, eqb-false, lt-leb, or_left, or_right, not_from_false}
use Rattle.std.proofs.lemmas.List.Folds.{list_any-append}
use Rattle.std.proofs.lemmas.Map.{none_passes_from_lookup, lookup-set_value, lookup-remove_entry, keys-set_value}
use Rattle.std.proofs.lemmas.Map.Keys.{IsDistinct-head, IsDistinct-tail, IsDistinct-cons}
use Rattle.std.proofs.lemmas.Map.Views.{any-filter_same}
use Rattle.std.proofs.lemmas.Option.{same_Some}
use Rattle.hs_base.proofs.Alls.{all_map}
use Rattle.hs_base.specs.declared.ids.NodeId.{NodeId}
use Rattle.hs_base.specs.declared.ids.TraceId.{TraceId}
use Rattle.hs_base.specs.declared.told.Ask.{Ask}
use Rattle.hs_base.specs.declared.told.Told.{Told}
use Rattle.hs_base.specs.Ids.{same_trace}
use Rattle.hs_wire.specs.declared.message.Standing.{Standing}
use Rattle.hs_groups.specs.declared.answers.ToldOutcome as group_answers
use Rattle.hs_groups.specs.declared.answers.ToldOutcome.TheVariants as of_group
use Rattle.hs_groups.specs.Groups as groups
use Rattle.hs_standings.specs.declared.answers.StandingOutcome as standing_answers
use Rattle.hs_standings.specs.declared.answers.StandingOutcome.TheVariants as of_standing
use Rattle.hs_standings.specs.Standing as standings
use Rattle.hs_traces.specs.declared.answers.Added as page_answers
use Rattle.hs_traces.specs.declared.answers.Added.TheVariants as of_page
use Rattle.hs_traces.specs.declared.key.PageKey.{PageKey}
use Rattle.hs_traces.specs.Keys.{key_cmp, same_key}
use Rattle.hs_traces.specs.Parts.{Pages, page_with, with_page}
use Rattle.hs_traces.specs.Traces as traces
use Rattle.hs_traces.specs.Traces.{Parts, PlainTraces, part_of, with_page_in, with_page_of, offered}
use Rattle.hs_traces.proofs.Order.{key_exact, same_key-true, same_trace-true, same_trace-refl, same_trace_laws}
use Rattle.hs_receipts.specs.declared.answers.MessageId.{MessageId}
use Rattle.hs_receipts.specs.declared.answers.Waiting.{Waiting}
use Rattle.hs_receipts.specs.Receipts as receipts
use Rattle.hs_receipts.specs.Receipts.{PlainReceipts, kept, is_message, is_for, waits_for, is_noted, is_known, messages_for, after_wait, after_join, after_offer}
use Rattle.hs_hub.specs.declared.answers.OutReason.{OutReason}
use Rattle.hs_hub.specs.declared.answers.HubLimits.{HubLimits}
use Rattle.hs_hub.specs.Hub.{PlainHub, no_hub, room, node_of, life_of, waits_at, noted, all_noted, after_answer_to_told, repeated, after_added, after_noted, after_ask, may_go, given, after_given, after_saved_of}
use Rattle.hs_hub.specs.Life.{HubAct, Hears, Tells, Reports, Says, Asks, Passes, Gives, LetsGo, Names, after, life}
use Rattle.hs_hub.specs.Kept.{IsReportedIn, page_in, Waits, Served, AreKept}

-- ---- a page joins its part

-- what is found among these pages with one more is that one, or was there
insert_found : (q key : PageKey) (bytes new : List ℕ) (pages : Pages) → lookup (same_key q) (insert_entry key_cmp pages key new) ≡ Some bytes
    → ((q ≡ key) × (new ≡ bytes)) ⊎ (lookup (same_key q) pages ≡ Some bytes)
insert_found q key bytes new [] e = one (same_key q key) refl e
  where
    one : (b : Bool) → same_key q key ≡ b → cond b (Some new) None ≡ Some bytes → ((q ≡ key) × (new ≡ bytes)) ⊎ (None ≡ Some bytes)
    one true y e = inl (same_key-true q key y, same_Some new bytes e)
    one false n e = inr e
insert_found q key bytes new (x ∷ pages) e = at (key_cmp key x.0) refl e (insert_found q key bytes new pages)
  where
    Found : Option (List ℕ) → Type 0
    Found o = ((q ≡ key) × (new ≡ bytes)) ⊎ (o ≡ Some bytes)

    first : (b : Bool) (o : Option (List ℕ)) → same_key q key ≡ b → cond b (Some new) o ≡ Some bytes → Found o
    first true o y e = inl (same_key-true q key y, same_Some new bytes e)
    first false o n e = inr e

    instead : (b : Bool) → key ≡ x.0 → same_key q x.0 ≡ b → cond b (Some new) (lookup (same_key q) pages) ≡ Some bytes → Found (cond b (Some x.1) (lookup (same_key q) pages))
    instead true same y e = inl (same_key-true q x.0 y ∙ sym same, same_Some new bytes e)
    instead false same n e = inr e

    later : (b : Bool) → cond b (Some x.1) (lookup (same_key q) (insert_entry key_cmp pages key new)) ≡ Some bytes
        → (lookup (same_key q) (insert_entry key_cmp pages key new) ≡ Some bytes → Found (lookup (same_key q) pages)) → Found (cond b (Some x.1) (lookup (same_key q) pages))
    later true e rest = inr e
    later false e rest = rest e

    at : (o : Ordering) → key_cmp key x.0 ≡ o → lookup (same_key q) (match_ordering o ((key, new) ∷ x ∷ pages) ((x.0, new) ∷ pages) (x ∷ insert_entry key_cmp pages key new)) ≡ Some bytes
        → (lookup (same_key q) (insert_entry key_cmp pages key new) ≡ Some bytes → Found (lookup (same_key q) pages)) → Found (lookup (same_key q) (x ∷ pages))
    at Less is e rest = first (same_key q key) (lookup (same_key q) (x ∷ pages)) refl e
    at Equal is e rest = instead (same_key q x.0) (key_exact key x.0 is) refl e
    at Greater is e rest = later (same_key q x.0) e rest

pub is_one : (trace x y : TraceId) → same_trace trace x ≡ true → same_trace trace y ≡ same_trace x y
is_one trace x y here = ap (λ (z : TraceId). same_trace z y) (same_trace-true trace x here)

pub joined_part : (parts : Parts) (trace other : TraceId) (key : PageKey) (bytes : List ℕ) (o : Option Pages) → part_of parts trace ≡ o
    → part_of (with_page_in parts trace key bytes o) other ≡ cond (same_trace trace other) (Some (with_page (unwrap_or o []) key bytes)) (part_of parts other)
joined_part parts trace other key bytes None is = ap (λ b. cond b (Some ((key, bytes) ∷ [])) (part_of parts other)) (same_trace_laws.symm other trace)
joined_part parts trace other key bytes (Some pages) is =
    lookup-set_value same_trace_laws (same_trace trace) (is_one trace) other (with_page pages key bytes) parts (ap is_some is)

-- what is held with one page more is that one, or was held
joined_found : (parts : Parts) (trace other : TraceId) (key q : PageKey) (new bytes : List ℕ) → page_in (with_page_in parts trace key new (part_of parts trace)) other q ≡ Some bytes
    → ((trace ≡ other) × (q ≡ key) × (new ≡ bytes)) ⊎ (page_in parts other q ≡ Some bytes)
joined_found parts trace other key q new bytes e =
    by (same_trace trace other) refl (sym (ap (λ (o : Option Pages). page_with (unwrap_or o []) q) (joined_part parts trace other key new (part_of parts trace) refl)) ∙ e)
  where
    here : trace ≡ other → ((q ≡ key) × (new ≡ bytes)) ⊎ (page_in parts trace q ≡ Some bytes) → ((trace ≡ other) × (q ≡ key) × (new ≡ bytes)) ⊎ (page_in parts other q ≡ Some bytes)
    here same (inl new) = inl (same, new.0, new.1)
    here same (inr old) = inr (subst (λ (x : TraceId). page_in parts x q ≡ Some bytes) same old)

    by : (b : Bool) → same_trace trace other ≡ b → page_with (unwrap_or (cond b (Some (with_page (unwrap_or (part_of parts trace) []) key new)) (part_of parts other)) []) q ≡ Some bytes
        → ((trace ≡ other) × (q ≡ key) × (new ≡ bytes)) ⊎ (page_in parts other q ≡ Some bytes)
    by true y e = here (same_trace-true trace other y) (insert_found q key bytes new (unwrap_or (part_of parts trace) []) e)
    by false n e = inr e

-- ---- each trace has one part

abbrev pub AreApart : Parts → Type 0
AreApart parts = IsDistinct same_trace (keys_of parts)

joined_apart : (parts : Parts) (trace : TraceId) (key : PageKey) (bytes : List ℕ) (o : Option Pages) → part_of parts trace ≡ o → AreApart parts → AreApart (with_page_in parts trace key bytes o)
joined_apart parts trace key bytes None is apart =
    IsDistinct-cons same_trace trace (keys_of parts) (all_map (λ x. same_trace trace x ≡ false) (λ (part : TraceId × Pages). part.0) parts (none_passes_from_lookup (same_trace trace) parts is)) apart
joined_apart parts trace key bytes (Some pages) is apart =
    subst (λ (keys : List TraceId). IsDistinct same_trace keys) (sym (keys-set_value (same_trace trace) parts (with_page pages key bytes))) apart

removed_all : (P : TraceId → Type 0) (test : TraceId → Bool) (parts : Parts) → AllByRecursion P (keys_of parts) → AllByRecursion P (keys_of (remove_entry test parts))
removed_all P test [] all = tt
removed_all P test (x ∷ parts) all = at (test x.0) (removed_all P test parts all.1)
  where
    at : (b : Bool) → AllByRecursion P (keys_of (remove_entry test parts)) → AllByRecursion P (keys_of (cond b parts (x ∷ remove_entry test parts)))
    at true rest = all.1
    at false rest = (all.0, rest)

removed_apart : (test : TraceId → Bool) (parts : Parts) → AreApart parts → AreApart (remove_entry test parts)
removed_apart test [] apart = apart
removed_apart test (x ∷ parts) apart = at (test x.0) (removed_apart test parts (IsDistinct-tail same_trace x.0 (keys_of parts) apart))
  where
    at : (b : Bool) → AreApart (remove_entry test parts) → AreApart (cond b parts (x ∷ remove_entry test parts))
    at true rest = IsDistinct-tail same_trace x.0 (keys_of parts) apart
    at false rest = IsDistinct-cons same_trace x.0 (keys_of (remove_entry test parts)) (removed_all (λ other. same_trace x.0 other ≡ false) test parts (IsDistinct-head same_trace x.0 (keys_of parts) apart)) rest

-- what is held without a trace is of another
removed_found : (parts : Parts) (trace other : TraceId) (q : PageKey) (bytes : List ℕ) → AreApart parts → page_in (remove_entry (same_trace trace) parts) other q ≡ Some bytes
    → (same_trace trace other ≡ false) × (page_in parts other q ≡ Some bytes)
removed_found parts trace other q bytes apart e =
    by (same_trace trace other) (sym (ap (λ (o : Option Pages). page_with (unwrap_or o []) q) (lookup-remove_entry same_trace_laws (same_trace trace) (is_one trace) other parts apart)) ∙ e)
  where
    by : (b : Bool) → page_with (unwrap_or (cond b None (part_of parts other)) []) q ≡ Some bytes → (b ≡ false) × (page_in parts other q ≡ Some bytes)
    by true e = let never : None ≡ Some bytes = e in absurd cc
    by false e = (refl, e)

-- ---- the messages that are kept

any_first : {X : Type 0} (test : X → Bool) (xs ys : List X) → list_any test xs ≡ true → list_any test (xs ++ ys) ≡ true
any_first test xs ys e = list_any-append test xs ys ∙ or_left (list_any test xs) (list_any test ys) e

pub any_second : {X : Type 0} (test : X → Bool) (xs ys : List X) → list_any test ys ≡ true → list_any test (xs ++ ys) ≡ true
any_second test xs ys e = list_any-append test xs ys ∙ or_right (list_any test xs) (list_any test ys) e

-- messages came, and none went
pub record More (r then : PlainReceipts) : Type 0 where
  pub out : then.out ≡ r.out
  pub waiting : (test : Waiting → Bool) → list_any test r.waiting ≡ true → list_any test then.waiting ≡ true
  pub served : (test : MessageId → Bool) → list_any test r.served ≡ true → list_any test then.served ≡ true

pub no_more : (r : PlainReceipts) → More r r
no_more r = record { out = refl; waiting = λ test e. e; served = λ test e. e }

more_again : (a b c : PlainReceipts) → More a b → More b c → More a c
more_again a b c one other = record { out = other.out ∙ one.out; waiting = λ test e. other.waiting test (one.waiting test e); served = λ test e. other.served test (one.served test e) }

pub more_if : (b : Bool) (r then : PlainReceipts) → More r then → More r (cond b r then)
more_if true r then more = no_more r
more_if false r then more = more

pub waits_more : (r : PlainReceipts) (waits : Waiting) → More r (after_wait r waits)
waits_more r waits =
    more_if (nat_le r.most (kept r)) r (record r { waiting = r.waiting ++ waits ∷ [] }) (record { out = refl; waiting = λ test e. any_first test r.waiting (waits ∷ []) e; served = λ test e. e })

pub joins_more : (r : PlainReceipts) (message : MessageId) → More r (after_join r message)
joins_more r message =
    more_if (is_none r.out || nat_le r.most (kept r)) r (record r { served = r.served ++ message ∷ [] })
    (record { out = refl; waiting = λ test e. e; served = λ test e. any_first test r.served (message ∷ []) e })

pub noted_more : (now : ℕ) (message : MessageId) (r : PlainReceipts) (trace : TraceId) → More r (noted now message r trace)
noted_more now message r trace = more_if (is_noted r trace message) r (after_wait r (waits_at now message trace)) (waits_more r (waits_at now message trace))

each_noted_more : (now : ℕ) (message : MessageId) (r : PlainReceipts) (ts : List TraceId) → More r (fold (noted now message) r ts)
each_noted_more now message r [] = no_more r
each_noted_more now message r (trace ∷ ts) =
    more_again r (noted now message r trace) (fold (noted now message) (noted now message r trace) ts) (noted_more now message r trace) (each_noted_more now message (noted now message r trace) ts)

pub all_noted_more : (now : ℕ) (message : MessageId) (r : PlainReceipts) (told : Told) → More r (all_noted now message r told)
all_noted_more now message r told = more_if (is_known r message) r (fold (noted now message) (noted now message r told.group.lead) told.laterals) (each_noted_more now message r (told.group.lead ∷ told.laterals))

-- ---- what holds of pages and messages over all calls

abbrev pub IsShelf : Option TraceId → Parts → Type 0
IsShelf None parts = parts ≡ []
IsShelf (Some trace) parts = (parts ≡ []) ⊎ ((pages : Pages) × (parts ≡ (trace, pages) ∷ []))

abbrev pub ByWaiting : List HubAct → PlainReceipts → TraceId → PageKey → List ℕ → Type 0
ByWaiting acts r trace key bytes = (message : MessageId) × IsReportedIn acts message trace key bytes × Waits r trace message

abbrev pub ByServed : List HubAct → PlainReceipts → TraceId → PageKey → List ℕ → Type 0
ByServed acts r trace key bytes = (message : MessageId) × IsReportedIn acts message trace key bytes × Served r trace message

pub record Keeps (acts : List HubAct) (s : PlainTraces) (r : PlainReceipts) : Type 0 where
  pub outs : s.limits.outs ≡ 1
  pub apart : AreApart s.waiting
  pub shelf : IsShelf r.out s.out
  pub waiting : (trace : TraceId) (key : PageKey) (bytes : List ℕ) → page_in s.waiting trace key ≡ Some bytes → ByWaiting acts r trace key bytes
  pub out : (trace : TraceId) (key : PageKey) (bytes : List ℕ) → page_in s.out trace key ≡ Some bytes → ByServed acts r trace key bytes

waiting_more : (acts : List HubAct) (r then : PlainReceipts) (trace : TraceId) (key : PageKey) (bytes : List ℕ) → More r then → ByWaiting acts r trace key bytes → ByWaiting acts then trace key bytes
waiting_more acts r then trace key bytes more (message, reported, waits) = (message, reported, more.waiting (waits_for trace message) waits)

out_more : (acts : List HubAct) (r then : PlainReceipts) (trace : TraceId) (key : PageKey) (bytes : List ℕ) → More r then → ByServed acts r trace key bytes → ByServed acts then trace key bytes
out_more acts r then trace key bytes more (message, reported, served) = (message, reported, (more.out ∙ served.0, more.served (is_message message) served.1))

keeps_more : (acts : List HubAct) (s : PlainTraces) (r then : PlainReceipts) → More r then → Keeps acts s r → Keeps acts s then
keeps_more acts s r then more keeps = record {
  outs = keeps.outs;
  apart = keeps.apart;
  shelf = subst (λ (o : Option TraceId). IsShelf o s.out) (sym more.out) keeps.shelf;
  waiting = λ trace key bytes e. waiting_more acts r then trace key bytes more (keeps.waiting trace key bytes e);
  out = λ trace key bytes e. out_more acts r then trace key bytes more (keeps.out trace key bytes e);
}

-- ---- a page comes

pub waits_itself : (r : PlainReceipts) (now : ℕ) (message : MessageId) (trace : TraceId) → nat_le r.most (kept r) ≡ false → Waits (after_wait r (waits_at now message trace)) trace message
waits_itself r now message trace room =
    ap (λ b. list_any (waits_for trace message) (cond b r (record r { waiting = r.waiting ++ waits_at now message trace ∷ [] })).waiting) room
    ∙ any_second (waits_for trace message) r.waiting (waits_at now message trace ∷ []) (or_left (waits_for trace message (waits_at now message trace)) false itself)
  where
    same : (n : ℕ) → eqb n n ≡ true
    same n = same_trace-refl (record { 0 = n })

    itself : waits_for trace message (waits_at now message trace) ≡ true
    itself =
        and_from (same_trace trace trace) (is_message message message) (same_trace-refl trace)
        (and_from (eqb message.node message.node) (eqb message.epoch message.epoch && eqb message.number message.number) (same message.node)
        (and_from (eqb message.epoch message.epoch) (eqb message.number message.number) (same message.epoch) (same message.number)))

page_added : (acts : List HubAct) (s : PlainTraces) (r : PlainReceipts) (now : ℕ) (message : MessageId) (trace : TraceId) (key : PageKey) (bytes : List ℕ)
    → IsReportedIn acts message trace key bytes → nat_le r.most (kept r) ≡ false → Keeps acts s r → Keeps acts (with_page_of s trace key bytes) (after_wait r (waits_at now message trace))
page_added acts s r now message trace key bytes reported room keeps = record {
  outs = keeps.outs;
  apart = joined_apart s.waiting trace key bytes (part_of s.waiting trace) refl keeps.apart;
  shelf = subst (λ (o : Option TraceId). IsShelf o s.out) (sym more.out) keeps.shelf;
  waiting = λ other q b e. at other q b (joined_found s.waiting trace other key q bytes b e);
  out = λ other q b e. out_more acts r then other q b more (keeps.out other q b e);
}
  where
    then : PlainReceipts
    then = after_wait r (waits_at now message trace)

    more : More r then
    more = waits_more r (waits_at now message trace)

    at : (other : TraceId) (q : PageKey) (b : List ℕ) → ((trace ≡ other) × (q ≡ key) × (bytes ≡ b)) ⊎ (page_in s.waiting other q ≡ Some b) → ByWaiting acts then other q b
    at other q b (inl (same, alike, equal)) =
        subst (λ (x : TraceId). ByWaiting acts then x q b) same
        (subst (λ (k : PageKey). ByWaiting acts then trace k b) (sym alike)
        (subst (λ (c : List ℕ). ByWaiting acts then trace key c) equal (message, reported, waits_itself r now message trace room)))
    at other q b (inr old) = waiting_more acts r then other q b more (keeps.waiting other q b old)

-- ---- a trace is given out

-- the messages that wait for a trace are those that it is served by
pub for_any : (trace : TraceId) (message : MessageId) (waiting : List Waiting) → list_any (waits_for trace message) waiting ≡ true → list_any (is_message message) (messages_for trace waiting) ≡ true
for_any trace message [] e = e
for_any trace message (w ∷ ws) e = at (is_for trace w) e (for_any trace message ws)
  where
    either : (b x y : Bool) → (b || x) ≡ true → (x ≡ true → y ≡ true) → (b || y) ≡ true
    either true x y e rest = refl
    either false x y e rest = rest e

    at : (b : Bool) → ((b && is_message message w.message) || list_any (waits_for trace message) ws) ≡ true
        → (list_any (waits_for trace message) ws ≡ true → list_any (is_message message) (messages_for trace ws) ≡ true)
        → list_any (is_message message) (map (λ (waits : Waiting). waits.message) (cond b (w ∷ filter (is_for trace) ws) (filter (is_for trace) ws))) ≡ true
    at true e rest = either (is_message message w.message) (list_any (waits_for trace message) ws) (list_any (is_message message) (messages_for trace ws)) e rest
    at false e rest = rest e

-- a message that waits for another trace waits still
pub still_waits : (trace other : TraceId) (message : MessageId) (waiting : List Waiting) → same_trace trace other ≡ false → list_any (waits_for other message) waiting ≡ true
    → list_any (waits_for other message) (filter (λ (waits : Waiting). not (is_for trace waits)) waiting) ≡ true
still_waits trace other message waiting apart e = any-filter_same (waits_for other message) (λ (waits : Waiting). not (is_for trace waits)) true passes waiting ∙ e
  where
    passes : (w : Waiting) → waits_for other message w ≡ true → not (is_for trace w) ≡ true
    passes w here =
        let same = same_trace-true other w.trace (and_parts (is_for other w) (is_message message w.message) here).0 in
        not_from_false (is_for trace w) (sym (ap (λ (x : TraceId). same_trace trace x) same) ∙ apart)

-- the receipts where a trace is out, and none was
abbrev pub given_out : PlainReceipts → TraceId → PlainReceipts
given_out r trace = record r { waiting = filter (λ (waits : Waiting). not (is_for trace waits)) r.waiting; out = Some trace; served = r.served ++ messages_for trace r.waiting }

-- what waited of the trace is out, or nothing did
part_given : (acts : List HubAct) (s : PlainTraces) (r : PlainReceipts) (trace : TraceId) → s.out ≡ [] → Keeps acts s r → Keeps acts (offered s trace) (given_out r trace)
part_given acts s r trace none keeps = record {
  outs = keeps.outs;
  apart = removed_apart (same_trace trace) s.waiting keeps.apart;
  shelf = inr (pages, shelf_is);
  waiting = λ other q b e. waits other q b (removed_found s.waiting trace other q b keeps.apart e);
  out = λ other q b e. is_out other q b (same_trace other trace) refl (sym (ap (λ (parts : Parts). page_in parts other q) shelf_is) ∙ e);
}
  where
    pages : Pages
    pages = unwrap_or (part_of s.waiting trace) []

    shelf_is : s.out ++ (trace, pages) ∷ [] ≡ (trace, pages) ∷ []
    shelf_is = ap (λ (parts : Parts). parts ++ (trace, pages) ∷ []) none

    still : (other : TraceId) (q : PageKey) (b : List ℕ) → same_trace trace other ≡ false → ByWaiting acts r other q b → ByWaiting acts (given_out r trace) other q b
    still other q b apart (message, reported, here) = (message, reported, still_waits trace other message r.waiting apart here)

    waits : (other : TraceId) (q : PageKey) (b : List ℕ) → (same_trace trace other ≡ false) × (page_in s.waiting other q ≡ Some b) → ByWaiting acts (given_out r trace) other q b
    waits other q b (apart, e) = still other q b apart (keeps.waiting other q b e)

    serves : (q : PageKey) (b : List ℕ) → ByWaiting acts r trace q b → ByServed acts (given_out r trace) trace q b
    serves q b (message, reported, here) = (message, reported, (refl, any_second (is_message message) r.served (messages_for trace r.waiting) (for_any trace message r.waiting here)))

    is_out : (other : TraceId) (q : PageKey) (b : List ℕ) (same : Bool) → same_trace other trace ≡ same → page_with (unwrap_or (cond same (Some pages) None) []) q ≡ Some b → ByServed acts (given_out r trace) other q b
    is_out other q b true y e = subst (λ (x : TraceId). ByServed acts (given_out r trace) x q b) (sym (same_trace-true other trace y)) (serves q b (keeps.waiting trace q b e))
    is_out other q b false n e = let never : None ≡ Some b = e in absurd cc

nothing_given : (acts : List HubAct) (s : PlainTraces) (r : PlainReceipts) (trace : TraceId) → s.out ≡ [] → is_some (part_of s.waiting trace) ≡ false → Keeps acts s r → Keeps acts s (given_out r trace)
nothing_given acts s r trace none waits_not keeps = record {
  outs = keeps.outs;
  apart = keeps.apart;
  shelf = inl none;
  waiting = λ other q b e. at other q b (same_trace trace other) refl e (keeps.waiting other q b e);
  out = λ other q b e. let never : None ≡ Some b = sym (ap (λ (parts : Parts). page_in parts other q) none) ∙ e in absurd cc;
}
  where
    no_page : (o : Option Pages) (q : PageKey) (b : List ℕ) → is_some o ≡ false → page_with (unwrap_or o []) q ≡ Some b → ⊥
    no_page None q b is e = let never : None ≡ Some b = e in absurd cc
    no_page (Some pages) q b is e = let never : true ≡ false = is in absurd cc

    at : (other : TraceId) (q : PageKey) (b : List ℕ) (same : Bool) → same_trace trace other ≡ same → page_in s.waiting other q ≡ Some b → ByWaiting acts r other q b → ByWaiting acts (given_out r trace) other q b
    at other q b true y e was =
        absurd (no_page (part_of s.waiting trace) q b waits_not (subst (λ (x : TraceId). page_in s.waiting x q ≡ Some b) (sym (same_trace-true trace other y)) e))
    at other q b false n e (message, reported, here) = (message, reported, still_waits trace other message r.waiting n here)

pub given_is : (s : PlainTraces) (trace : TraceId) → s.out ≡ [] → s.limits.outs ≡ 1 → given s trace ≡ cond (not (traces.is_waiting s trace)) s (offered s trace)
given_is s trace none outs = ap (λ (b : Bool). cond b s (offered s trace)) test
  where
    test : (traces.is_out s trace || (nat_le s.limits.outs (length s.out) || not (traces.is_waiting s trace))) ≡ not (traces.is_waiting s trace)
    test =
        ap (λ (parts : Parts). is_some (part_of parts trace) || (nat_le s.limits.outs (length parts) || not (traces.is_waiting s trace))) none
        ∙ ap (λ (n : ℕ). nat_le n 0 || not (traces.is_waiting s trace)) outs

gives_one : (acts : List HubAct) (s : PlainTraces) (r : PlainReceipts) (trace : TraceId) → s.out ≡ [] → Keeps acts s r → Keeps acts (given s trace) (given_out r trace)
gives_one acts s r trace none keeps = subst (λ (after : PlainTraces). Keeps acts after (given_out r trace)) (sym (given_is s trace none keeps.outs)) (at (traces.is_waiting s trace) refl)
  where
    at : (b : Bool) → traces.is_waiting s trace ≡ b → Keeps acts (cond (not b) s (offered s trace)) (given_out r trace)
    at true is = part_given acts s r trace none keeps
    at false is = nothing_given acts s r trace none is keeps

-- ---- it is saved

abbrev let_go : PlainReceipts → List MessageId → PlainReceipts
let_go r done = record r { out = None; served = []; done = done }

gone : (acts : List HubAct) (s : PlainTraces) (r : PlainReceipts) (parts : Parts) (done : List MessageId) → parts ≡ [] → Keeps acts s r → Keeps acts (record s { out = parts }) (let_go r done)
gone acts s r parts done none keeps = record {
  outs = keeps.outs;
  apart = keeps.apart;
  shelf = none;
  waiting = keeps.waiting;
  out = λ other q b e. let never : None ≡ Some b = sym (ap (λ (parts : Parts). page_in parts other q) none) ∙ e in absurd cc;
}

emptied : (trace : TraceId) (parts : Parts) → IsShelf (Some trace) parts → remove_entry (same_trace trace) parts ≡ []
emptied trace parts (inl none) = ap (λ (parts : Parts). remove_entry (same_trace trace) parts) none
emptied trace parts (inr (pages, one)) =
    ap (λ (parts : Parts). remove_entry (same_trace trace) parts) one ∙ ap (λ (b : Bool). cond b [] ((trace, pages) ∷ [])) (same_trace-refl trace)

-- ---- one call

abbrev pub Holds : List HubAct → PlainHub → Type 0
Holds acts h = Keeps acts h.traces h.receipts

holds_if : (acts : List HubAct) (b : Bool) (h new : PlainHub) → Holds acts h → (b ≡ false → Holds acts new) → Holds acts (cond b h new)
holds_if acts true h new holds then = holds
holds_if acts false h new holds then = then refl

tells : (acts : List HubAct) (h : PlainHub) (message : MessageId) (told : Told) (a : group_answers.ToldOutcome) → Holds acts h → Holds acts (after_answer_to_told h message told a)
tells acts h message told (of_group.Taken heard) holds = keeps_more acts h.traces h.receipts (all_noted h.passes message h.receipts told) (all_noted_more h.passes message h.receipts told) holds
tells acts h message told of_group.Refused holds = holds
tells acts h message told of_group.Full holds = holds

pub repeats_more : (h : PlainHub) (message : MessageId) (trace : TraceId) (key : PageKey) → More h.receipts (repeated h message trace key)
repeats_more h message trace key =
    more_if (is_noted h.receipts trace message) h.receipts (cond (traces.has_page_in h.traces.out trace key) (after_join h.receipts message) (after_wait h.receipts (waits_at h.passes message trace)))
    (either (traces.has_page_in h.traces.out trace key))
  where
    either : (b : Bool) → More h.receipts (cond b (after_join h.receipts message) (after_wait h.receipts (waits_at h.passes message trace)))
    either true = joins_more h.receipts message
    either false = waits_more h.receipts (waits_at h.passes message trace)

pub has_room : (most kept : ℕ) → eqb (most - kept) 0 ≡ false → nat_le most kept ≡ false
has_room most kept e = lt-leb most kept (within (eqb-false (most - kept) 0 e))
  where
    within : (most - kept ≡ 0 → ⊥) → kept < most
    within not_none = by_cases (cases_lt kept most)
      where
        by_cases : (kept < most) ⊎ (most ≤ kept) → kept < most
        by_cases (inl less) = less
        by_cases (inr not_less) = absurd (not_none (omega (arith, not_less)))

reports : (acts : List HubAct) (h : PlainHub) (message : MessageId) (trace : TraceId) (key : PageKey) (bytes : List ℕ) → IsReportedIn acts message trace key bytes → eqb (room h) 0 ≡ false
    → (a : page_answers.Added) → Holds acts h → Holds acts (after_added h message trace key bytes a)
reports acts h message trace key bytes reported free of_page.Added holds = page_added acts h.traces h.receipts h.passes message trace key bytes reported (has_room h.receipts.most (kept h.receipts) free) holds
reports acts h message trace key bytes reported free of_page.Repeated holds = keeps_more acts h.traces h.receipts (repeated h message trace key) (repeats_more h message trace key) holds
reports acts h message trace key bytes reported free of_page.NoPage holds = holds
reports acts h message trace key bytes reported free of_page.Foreign holds = holds
reports acts h message trace key bytes reported free of_page.Full holds = holds

says : (acts : List HubAct) (h : PlainHub) (message : MessageId) (standing : Standing) (a : standing_answers.StandingOutcome) → Holds acts h → Holds acts (after_noted h message standing a)
says acts h message standing of_standing.Noted holds = keeps_more acts h.traces h.receipts (noted h.passes message h.receipts standing.trace) (noted_more h.passes message h.receipts standing.trace) holds
says acts h message standing of_standing.Older holds = keeps_more acts h.traces h.receipts (noted h.passes message h.receipts standing.trace) (noted_more h.passes message h.receipts standing.trace) holds
says acts h message standing of_standing.Full holds = holds

asks : (acts : List HubAct) (h : PlainHub) (ask : Option (NodeId × Ask)) → Holds acts h → Holds acts (after_ask h ask)
asks acts h None holds = holds
asks acts h (Some ask) holds = holds

-- no other trace is given out while one is out
gives : (acts : List HubAct) (h : PlainHub) (out : Option TraceId) (go : Option (TraceId × OutReason)) → h.receipts.out ≡ out → Holds acts h → Holds acts (after_given h (cond (is_some out) None go))
gives acts h (Some trace) go is holds = holds
gives acts h None None is holds = holds
gives acts h None (Some (trace, why)) is holds =
    subst (λ (r : PlainReceipts). Keeps acts (given h.traces trace) r) (sym now_out)
    (gives_one acts h.traces h.receipts trace (subst (λ (o : Option TraceId). IsShelf o h.traces.out) is holds.shelf) holds)
  where
    now_out : after_offer h.receipts trace ≡ given_out h.receipts trace
    now_out = ap (λ (o : Option TraceId). cond (is_none o) (given_out h.receipts trace) h.receipts) is

lets_go : (acts : List HubAct) (h : PlainHub) (out : Option TraceId) → h.receipts.out ≡ out → Holds acts h → Holds acts (after_saved_of h out)
lets_go acts h None is holds = gone acts h.traces h.receipts h.traces.out (receipts.after_saved h.receipts).done (subst (λ (o : Option TraceId). IsShelf o h.traces.out) is holds.shelf) holds
lets_go acts h (Some trace) is holds =
    gone acts h.traces h.receipts (remove_entry (same_trace trace) h.traces.out) (receipts.after_saved h.receipts).done
    (emptied trace h.traces.out (subst (λ (o : Option TraceId). IsShelf o h.traces.out) is holds.shelf)) holds

pub one_call : (acts : List HubAct) (h : PlainHub) (act : HubAct) (place : ℕ) → slice_get acts place ≡ Some act → Holds acts h → Holds acts (after h act)
one_call acts h (Hears node epoch) place there holds = holds
one_call acts h (Tells message told) place there holds =
    let answer = groups.answer_to h.groups (node_of message) message.epoch told in
    holds_if acts (nat_le (room h) (length told.laterals)) h (after_answer_to_told h message told answer) holds (λ _. tells acts h message told answer holds)
one_call acts h (Reports message trace key bytes) place there holds =
    let answer = traces.answer_to h.traces trace key (length bytes) in
    let new = after_added h message trace key bytes answer in
    holds_if acts (nat_le h.limits.nodes message.node) h (cond (eqb (room h) 0) h new) holds
    (λ _. holds_if acts (eqb (room h) 0) h new holds (λ free. reports acts h message trace key bytes (place, there) free answer holds))
one_call acts h (Says message standing) place there holds =
    let answer = standings.answer_to h.standings standing.trace (life_of message) message.number in
    let new = after_noted h message standing answer in
    holds_if acts (nat_le h.limits.nodes message.node) h (cond (eqb (room h) 0) h new) holds (λ _. holds_if acts (eqb (room h) 0) h new holds (λ _. says acts h message standing answer holds))
one_call acts h Asks place there holds = asks acts h (groups.next_ask h.groups) holds
one_call acts h Passes place there holds = holds
one_call acts h Gives place there holds = gives acts h h.receipts.out (may_go h) refl holds
one_call acts h LetsGo place there holds = lets_go acts h h.receipts.out refl holds
one_call acts h Names place there holds =
    keeps_more acts h.traces h.receipts (record h.receipts { done = drop 1 h.receipts.done }) (record { out = refl; waiting = λ test e. e; served = λ test e. e }) holds

-- ---- all calls

-- these calls are among all of them
abbrev pub AreAmong : List HubAct → List HubAct → Type 0
AreAmong some all = (place : ℕ) (act : HubAct) → slice_get some place ≡ Some act → (there : ℕ) × (slice_get all there ≡ Some act)

pub all_calls : (all : List HubAct) (h : PlainHub) (acts : List HubAct) → AreAmong acts all → Holds all h → Holds all (life h acts)
all_calls all h [] among holds = holds
all_calls all h (act ∷ acts) among holds =
    let first = among 0 act refl in
    all_calls all (after h act) acts (λ place other e. among (suc place) other e) (one_call all h act first.0 first.1 holds)

pub at_start : (acts : List HubAct) (epoch : ℕ) (is_fresh : Bool) (limits : HubLimits) → Holds acts (no_hub epoch is_fresh limits)
unfolding IsDistinct
at_start acts epoch is_fresh limits = record {
  outs = refl;
  apart = tt;
  shelf = refl;
  waiting = λ trace key bytes e. let never : None ≡ Some bytes = e in absurd cc;
  out = λ trace key bytes e. let never : None ≡ Some bytes = e in absurd cc;
}

pub are_kept : (epoch : ℕ) (is_fresh : Bool) (limits : HubLimits) (acts : List HubAct) → AreKept (life (no_hub epoch is_fresh limits) acts) acts
are_kept epoch is_fresh limits acts =
    let holds = all_calls acts (no_hub epoch is_fresh limits) acts (λ place act e. (place, e)) (at_start acts epoch is_fresh limits) in
    record { waiting = holds.waiting; out = holds.out }
