-- Where no message comes again that may be acknowledged, none that is kept was named.
use Rattle.std.proofs.Common.{◌≡◌, ℕ, ◌⊎◌, inl, inr, Bool, true, false, not, cond, ◌&&◌, ◌||◌, List, [], ◌∷◌, ◌++◌, length, take, drop, filter, eqb, nat_le, Option, Some, None, is_none, refl, sym, ap, subst, ◌∙◌, append-nil, append_assoc}
use Rattle.std.specs.Prelude.{fold}
use Rattle.std.specs.List.{list_any}
use Rattle.std.proofs.lemmas.Bool.{and_parts, eqb-true, or_cases, or_from, or_left, or_right, or_parts}
use Rattle.std.proofs.lemmas.List.Folds.{list_any-append}
use Rattle.std.proofs.lemmas.Map.Views.{any-filter_same}
use Rattle.std.specs.Option.{IfSome}
use Rattle.hs_base.proofs.Tests.{list_any_map}
use Rattle.hs_base.specs.declared.ids.NodeId.{NodeId}
use Rattle.hs_base.specs.declared.ids.TraceId.{TraceId}
use Rattle.hs_base.specs.declared.told.Ask.{Ask}
use Rattle.hs_base.specs.declared.told.Told.{Told}
use Rattle.hs_wire.specs.declared.message.Standing.{Standing}
use Rattle.hs_groups.specs.declared.answers.ToldOutcome as group_answers
use Rattle.hs_groups.specs.declared.answers.ToldOutcome.TheVariants as of_group
use Rattle.hs_groups.specs.Groups as groups
use Rattle.hs_standings.specs.declared.answers.StandingOutcome as standing_answers
use Rattle.hs_standings.specs.declared.answers.StandingOutcome.TheVariants as of_standing
use Rattle.hs_standings.specs.Standing as standings
use Rattle.hs_traces.specs.declared.answers.Added as page_answers
use Rattle.hs_traces.specs.declared.answers.Added.TheVariants as of_page
use Rattle.hs_traces.specs.declared.key.PageKey.{PageKey}
use Rattle.hs_traces.specs.Traces as traces
use Rattle.hs_receipts.specs.declared.answers.MessageId.{MessageId}
use Rattle.hs_receipts.specs.declared.answers.Waiting.{Waiting}
use Rattle.hs_receipts.specs.Receipts as receipts
use Rattle.hs_receipts.specs.Receipts.{PlainReceipts, kept, is_message, is_for, waits_elsewhere, is_noted, is_known, messages_for, after_wait, after_join}
use Rattle.hs_hub.specs.declared.answers.OutReason.{OutReason}
use Rattle.hs_hub.specs.declared.answers.HubLimits.{HubLimits}
use Rattle.hs_hub.specs.Hub.{PlainHub, no_hub, room, node_of, life_of, waits_at, noted, all_noted, after_answer_to_told, repeated, after_added, after_noted, after_ask, goes, after_given, after_saved_of}
use Rattle.hs_hub.specs.Life.{HubAct, Hears, Tells, Reports, Says, Asks, Passes, Gives, LetsGo, Names, after, life}
use Rattle.hs_hub.specs.Named.{message_of, named_by, all_named, NoneAgain, AreNotNamed}

same_message : (a b : MessageId) → is_message a b ≡ true → a ≡ b
same_message a b e =
    let node = and_parts (eqb a.node b.node) (eqb a.epoch b.epoch && eqb a.number b.number) e in
    let rest = and_parts (eqb a.epoch b.epoch) (eqb a.number b.number) node.1 in
    let nodes : a.node ≡ b.node = eqb-true a.node b.node node.0 in
    let epochs : a.epoch ≡ b.epoch = eqb-true a.epoch b.epoch rest.0 in
    let numbers : a.number ≡ b.number = eqb-true a.number b.number rest.1 in
    λ i. record { node = nodes i; epoch = epochs i; number = numbers i }

-- ---- a message comes

-- what is kept then was kept, or is the message that came
pub record Comes (message : MessageId) (r then : PlainReceipts) : Type 0 where
  pub done : then.done ≡ r.done
  pub known : (x : MessageId) → is_known then x ≡ true → (is_known r x ≡ true) ⊎ (is_message x message ≡ true)

nothing_comes : (message : MessageId) (r : PlainReceipts) → Comes message r r
nothing_comes message r = record { done = refl; known = λ x e. inl e }

comes_again : (message : MessageId) (a b c : PlainReceipts) → Comes message a b → Comes message b c → Comes message a c
comes_again message a b c one other = record { done = other.done ∙ one.done; known = λ x e. at x (other.known x e) }
  where
    at : (x : MessageId) → (is_known b x ≡ true) ⊎ (is_message x message ≡ true) → (is_known a x ≡ true) ⊎ (is_message x message ≡ true)
    at x (inl was) = one.known x was
    at x (inr is) = inr is

comes_if : (message : MessageId) (b : Bool) (r then : PlainReceipts) → Comes message r then → Comes message r (cond b r then)
comes_if message true r then comes = nothing_comes message r
comes_if message false r then comes = comes

-- one more at the end of a list
one_more : {X : Type 0} (test : X → Bool) (xs : List X) (y : X) → list_any test (xs ++ y ∷ []) ≡ true → (list_any test xs ≡ true) ⊎ (test y ≡ true)
one_more test xs y e = at (or_cases (list_any test xs) (list_any test (y ∷ [])) (sym (list_any-append test xs (y ∷ [])) ∙ e))
  where
    last : (b : Bool) → (b || false) ≡ true → b ≡ true
    last true e = refl
    last false e = e

    at : (list_any test xs ≡ true) ⊎ ((test y || false) ≡ true) → (list_any test xs ≡ true) ⊎ (test y ≡ true)
    at (inl was) = inl was
    at (inr is) = inr (last (test y) is)

pub waits_come : (r : PlainReceipts) (now : ℕ) (message : MessageId) (trace : TraceId) → Comes message r (after_wait r (waits_at now message trace))
waits_come r now message trace =
    comes_if message (nat_le r.most (kept r)) r (record r { waiting = r.waiting ++ waits_at now message trace ∷ [] }) (record { done = refl; known = known })
  where
    served : MessageId → Bool
    served x = list_any (is_message x) r.served

    waiting : (x : MessageId) → (waits_elsewhere r.waiting x ≡ true) ⊎ (is_message x message ≡ true) → (is_known r x ≡ true) ⊎ (is_message x message ≡ true)
    waiting x (inl was) = inl (or_left (waits_elsewhere r.waiting x) (served x) was)
    waiting x (inr is) = inr is

    at : (x : MessageId) → (waits_elsewhere (r.waiting ++ waits_at now message trace ∷ []) x ≡ true) ⊎ (served x ≡ true) → (is_known r x ≡ true) ⊎ (is_message x message ≡ true)
    at x (inl e) = waiting x (one_more (λ (waits : Waiting). is_message x waits.message) r.waiting (waits_at now message trace) e)
    at x (inr e) = inl (or_right (waits_elsewhere r.waiting x) (served x) e)

    known : (x : MessageId) → (waits_elsewhere (r.waiting ++ waits_at now message trace ∷ []) x || served x) ≡ true → (is_known r x ≡ true) ⊎ (is_message x message ≡ true)
    known x e = at x (or_cases (waits_elsewhere (r.waiting ++ waits_at now message trace ∷ []) x) (served x) e)

joins_come : (r : PlainReceipts) (message : MessageId) → Comes message r (after_join r message)
joins_come r message = comes_if message (is_none r.out || nat_le r.most (kept r)) r (record r { served = r.served ++ message ∷ [] }) (record { done = refl; known = known })
  where
    serving : (x : MessageId) → (list_any (is_message x) r.served ≡ true) ⊎ (is_message x message ≡ true) → (is_known r x ≡ true) ⊎ (is_message x message ≡ true)
    serving x (inl was) = inl (or_right (waits_elsewhere r.waiting x) (list_any (is_message x) r.served) was)
    serving x (inr is) = inr is

    at : (x : MessageId) → (waits_elsewhere r.waiting x ≡ true) ⊎ (list_any (is_message x) (r.served ++ message ∷ []) ≡ true) → (is_known r x ≡ true) ⊎ (is_message x message ≡ true)
    at x (inl e) = inl (or_left (waits_elsewhere r.waiting x) (list_any (is_message x) r.served) e)
    at x (inr e) = serving x (one_more (is_message x) r.served message e)

    known : (x : MessageId) → (waits_elsewhere r.waiting x || list_any (is_message x) (r.served ++ message ∷ [])) ≡ true → (is_known r x ≡ true) ⊎ (is_message x message ≡ true)
    known x e = at x (or_cases (waits_elsewhere r.waiting x) (list_any (is_message x) (r.served ++ message ∷ [])) e)

pub noted_comes : (now : ℕ) (message : MessageId) (r : PlainReceipts) (trace : TraceId) → Comes message r (noted now message r trace)
noted_comes now message r trace = comes_if message (is_noted r trace message) r (after_wait r (waits_at now message trace)) (waits_come r now message trace)

each_noted_comes : (now : ℕ) (message : MessageId) (r : PlainReceipts) (ts : List TraceId) → Comes message r (fold (noted now message) r ts)
each_noted_comes now message r [] = nothing_comes message r
each_noted_comes now message r (trace ∷ ts) =
    comes_again message r (noted now message r trace) (fold (noted now message) (noted now message r trace) ts) (noted_comes now message r trace) (each_noted_comes now message (noted now message r trace) ts)

pub all_noted_comes : (now : ℕ) (message : MessageId) (r : PlainReceipts) (told : Told) → Comes message r (all_noted now message r told)
all_noted_comes now message r told =
    comes_if message (is_known r message) r (fold (noted now message) (noted now message r told.group.lead) told.laterals) (each_noted_comes now message r (told.group.lead ∷ told.laterals))

pub repeat_comes : (h : PlainHub) (message : MessageId) (trace : TraceId) (key : PageKey) → Comes message h.receipts (repeated h message trace key)
repeat_comes h message trace key =
    comes_if message (is_noted h.receipts trace message) h.receipts (cond (traces.has_page_in h.traces.out trace key) (after_join h.receipts message) (after_wait h.receipts (waits_at h.passes message trace)))
    (either (traces.has_page_in h.traces.out trace key))
  where
    either : (b : Bool) → Comes message h.receipts (cond b (after_join h.receipts message) (after_wait h.receipts (waits_at h.passes message trace)))
    either true = joins_come h.receipts message
    either false = waits_come h.receipts h.passes message trace

-- ---- none that is kept was named, or may be

abbrev AreFree : List MessageId → PlainReceipts → Type 0
AreFree named r = (x : MessageId) → is_known r x ≡ true → list_any (is_message x) (named ++ r.done) ≡ false

free_if_comes : (named : List MessageId) (message : MessageId) (r then : PlainReceipts) → Comes message r then → list_any (is_message message) (named ++ r.done) ≡ false → AreFree named r → AreFree named then
free_if_comes named message r then comes new free x e = ap (λ (done : List MessageId). list_any (is_message x) (named ++ done)) comes.done ∙ at (comes.known x e)
  where
    at : (is_known r x ≡ true) ⊎ (is_message x message ≡ true) → list_any (is_message x) (named ++ r.done) ≡ false
    at (inl was) = free x was
    at (inr is) = ap (λ (y : MessageId). list_any (is_message y) (named ++ r.done)) (same_message x message is) ∙ new

-- ---- a trace is given out

filter_less : {X : Type 0} (test by : X → Bool) (xs : List X) → list_any test (filter by xs) ≡ true → list_any test xs ≡ true
filter_less test by [] e = e
filter_less test by (x ∷ xs) e = at (by x) e (filter_less test by xs)
  where
    later : (b y z : Bool) → (b || y) ≡ true → (y ≡ true → z ≡ true) → (b || z) ≡ true
    later true y z e rest = refl
    later false y z e rest = rest e

    at : (b : Bool) → list_any test (cond b (x ∷ filter by xs) (filter by xs)) ≡ true → (list_any test (filter by xs) ≡ true → list_any test xs ≡ true) → (test x || list_any test xs) ≡ true
    at true e rest = later (test x) (list_any test (filter by xs)) (list_any test xs) e rest
    at false e rest = or_right (test x) (list_any test xs) (rest e)

served_waited : (trace : TraceId) (x : MessageId) (waiting : List Waiting) → list_any (is_message x) (messages_for trace waiting) ≡ true → waits_elsewhere waiting x ≡ true
served_waited trace x waiting e =
    filter_less (λ (waits : Waiting). is_message x waits.message) (is_for trace) waiting (sym (list_any_map (is_message x) (λ (waits : Waiting). waits.message) (filter (is_for trace) waiting)) ∙ e)

offer_keeps : (named : List MessageId) (r : PlainReceipts) (trace : TraceId) → AreFree named r → AreFree named (receipts.after_offer r trace)
offer_keeps named r trace free = at (is_none r.out)
  where
    then : PlainReceipts
    then = record r { waiting = filter (λ (waits : Waiting). not (is_for trace waits)) r.waiting; out = Some trace; served = r.served ++ messages_for trace r.waiting }

    serving : (x : MessageId) → (list_any (is_message x) r.served ≡ true) ⊎ (list_any (is_message x) (messages_for trace r.waiting) ≡ true) → is_known r x ≡ true
    serving x (inl e) = or_right (waits_elsewhere r.waiting x) (list_any (is_message x) r.served) e
    serving x (inr e) = or_left (waits_elsewhere r.waiting x) (list_any (is_message x) r.served) (served_waited trace x r.waiting e)

    was : (x : MessageId) → (waits_elsewhere then.waiting x ≡ true) ⊎ (list_any (is_message x) then.served ≡ true) → is_known r x ≡ true
    was x (inl e) =
        or_left (waits_elsewhere r.waiting x) (list_any (is_message x) r.served)
        (filter_less (λ (waits : Waiting). is_message x waits.message) (λ (waits : Waiting). not (is_for trace waits)) r.waiting e)
    was x (inr e) =
        serving x
        (or_cases (list_any (is_message x) r.served) (list_any (is_message x) (messages_for trace r.waiting)) (sym (list_any-append (is_message x) r.served (messages_for trace r.waiting)) ∙ e))

    at : (b : Bool) → AreFree named (cond b then r)
    at true = λ x e. free x (was x (or_cases (waits_elsewhere then.waiting x) (list_any (is_message x) then.served) e))
    at false = free

-- ---- it is saved

-- a message that waits for another trace is not among those that may be acknowledged now
pub saved_one : (named : List MessageId) (r : PlainReceipts) (x : MessageId) → waits_elsewhere r.waiting x ≡ true → list_any (is_message x) (named ++ r.done) ≡ false → list_any (is_message x) (named ++ (receipts.after_saved r).done) ≡ false
saved_one named r x waits free =
    list_any-append (is_message x) named (r.done ++ gone)
    ∙ or_from (list_any (is_message x) named) (list_any (is_message x) (r.done ++ gone)) before.0
    (list_any-append (is_message x) r.done gone ∙ or_from (list_any (is_message x) r.done) (list_any (is_message x) gone) before.1 none)
  where
    gone : List MessageId
    gone = filter (λ (message : MessageId). not (waits_elsewhere r.waiting message)) r.served

    before : (list_any (is_message x) named ≡ false) × (list_any (is_message x) r.done ≡ false)
    before = or_parts (list_any (is_message x) named) (list_any (is_message x) r.done) (sym (list_any-append (is_message x) named r.done) ∙ free)

    none : list_any (is_message x) gone ≡ false
    none =
        any-filter_same (is_message x) (λ (message : MessageId). not (waits_elsewhere r.waiting message)) false
        (λ y is. ap (λ (z : MessageId). not (waits_elsewhere r.waiting z)) (sym (same_message x y is)) ∙ ap not waits) r.served

saved_keeps : (named : List MessageId) (r : PlainReceipts) → AreFree named r → AreFree named (receipts.after_saved r)
saved_keeps named r free x e = saved_one named r x waits (free x (or_left (waits_elsewhere r.waiting x) (list_any (is_message x) r.served) waits))
  where
    last : (b : Bool) → (b || false) ≡ true → b ≡ true
    last true e = refl
    last false e = e

    waits : waits_elsewhere r.waiting x ≡ true
    waits = last (waits_elsewhere r.waiting x) e

-- ---- one call

abbrev Holds : List MessageId → PlainHub → Type 0
Holds named h = AreFree named h.receipts

holds_if : (named : List MessageId) (b : Bool) (h new : PlainHub) → Holds named h → Holds named new → Holds named (cond b h new)
holds_if named true h new holds then = holds
holds_if named false h new holds then = then

tells : (named : List MessageId) (h : PlainHub) (message : MessageId) (told : Told) (a : group_answers.ToldOutcome) → list_any (is_message message) (named ++ h.receipts.done) ≡ false → Holds named h
    → Holds named (after_answer_to_told h message told a)
tells named h message told (of_group.Taken heard) new holds =
    free_if_comes named message h.receipts (all_noted h.passes message h.receipts told) (all_noted_comes h.passes message h.receipts told) new holds
tells named h message told of_group.Refused new holds = holds
tells named h message told of_group.Full new holds = holds

reports : (named : List MessageId) (h : PlainHub) (message : MessageId) (trace : TraceId) (key : PageKey) (bytes : List ℕ) (a : page_answers.Added)
    → list_any (is_message message) (named ++ h.receipts.done) ≡ false → Holds named h → Holds named (after_added h message trace key bytes a)
reports named h message trace key bytes of_page.Added new holds =
    free_if_comes named message h.receipts (after_wait h.receipts (waits_at h.passes message trace)) (waits_come h.receipts h.passes message trace) new holds
reports named h message trace key bytes of_page.Repeated new holds = free_if_comes named message h.receipts (repeated h message trace key) (repeat_comes h message trace key) new holds
reports named h message trace key bytes of_page.NoPage new holds = holds
reports named h message trace key bytes of_page.Foreign new holds = holds
reports named h message trace key bytes of_page.Full new holds = holds

says : (named : List MessageId) (h : PlainHub) (message : MessageId) (standing : Standing) (a : standing_answers.StandingOutcome) → list_any (is_message message) (named ++ h.receipts.done) ≡ false → Holds named h
    → Holds named (after_noted h message standing a)
says named h message standing of_standing.Noted new holds =
    free_if_comes named message h.receipts (noted h.passes message h.receipts standing.trace) (noted_comes h.passes message h.receipts standing.trace) new holds
says named h message standing of_standing.Older new holds =
    free_if_comes named message h.receipts (noted h.passes message h.receipts standing.trace) (noted_comes h.passes message h.receipts standing.trace) new holds
says named h message standing of_standing.Full new holds = holds

asks : (named : List MessageId) (h : PlainHub) (ask : Option (NodeId × Ask)) → Holds named h → Holds named (after_ask h ask)
asks named h None holds = holds
asks named h (Some ask) holds = holds

gives : (named : List MessageId) (h : PlainHub) (go : Option (TraceId × OutReason)) → Holds named h → Holds named (after_given h go)
gives named h None holds = holds
gives named h (Some (trace, why)) holds = offer_keeps named h.receipts trace holds

lets_go : (named : List MessageId) (h : PlainHub) (out : Option TraceId) → Holds named h → Holds named (after_saved_of h out)
lets_go named h None holds = saved_keeps named h.receipts holds
lets_go named h (Some trace) holds = saved_keeps named h.receipts holds

-- what is named goes from those that may be to those that were
nothing_named : (named : List MessageId) (r : PlainReceipts) → AreFree named r → AreFree (named ++ []) r
nothing_named named r free = subst (λ (names : List MessageId). AreFree names r) (sym (append-nil named)) free

pub names : (named done : List MessageId) → (named ++ take 1 done) ++ drop 1 done ≡ named ++ done
names named [] = append-nil (named ++ [])
names named (x ∷ done) = append_assoc named (x ∷ []) done

one_call : (named : List MessageId) (h : PlainHub) (act : HubAct) → IfSome (message_of act) (λ message. list_any (is_message message) (named ++ h.receipts.done) ≡ false) → Holds named h
    → Holds (named ++ named_by h act) (after h act)
one_call named h (Hears node epoch) new holds = nothing_named named h.receipts holds
one_call named h (Tells message told) new holds =
    let answer = groups.answer_to h.groups (node_of message) message.epoch told in
    let then = after_answer_to_told h message told answer in
    nothing_named named (after h (Tells message told)).receipts (holds_if named (nat_le (room h) (length told.laterals)) h then holds (tells named h message told answer new holds))
one_call named h (Reports message trace key bytes) new holds =
    let answer = traces.answer_to h.traces trace key (length bytes) in
    let then = after_added h message trace key bytes answer in
    nothing_named named (after h (Reports message trace key bytes)).receipts
    (holds_if named (nat_le h.limits.nodes message.node) h (cond (eqb (room h) 0) h then) holds (holds_if named (eqb (room h) 0) h then holds (reports named h message trace key bytes answer new holds)))
one_call named h (Says message standing) new holds =
    let answer = standings.answer_to h.standings standing.trace (life_of message) message.number in
    let then = after_noted h message standing answer in
    nothing_named named (after h (Says message standing)).receipts
    (holds_if named (nat_le h.limits.nodes message.node) h (cond (eqb (room h) 0) h then) holds (holds_if named (eqb (room h) 0) h then holds (says named h message standing answer new holds)))
one_call named h Asks new holds = nothing_named named (after h Asks).receipts (asks named h (groups.next_ask h.groups) holds)
one_call named h Passes new holds = nothing_named named h.receipts holds
one_call named h Gives new holds = nothing_named named (after h Gives).receipts (gives named h (goes h) holds)
one_call named h LetsGo new holds = nothing_named named (after h LetsGo).receipts (lets_go named h h.receipts.out holds)
one_call named h Names new holds = λ x e. ap (list_any (is_message x)) (names named h.receipts.done) ∙ holds x e

-- ---- all calls

all_calls : (named : List MessageId) (h : PlainHub) (acts : List HubAct) → NoneAgain h named acts → Holds named h → Holds (named ++ all_named h acts) (life h acts)
all_calls named h [] none holds = nothing_named named h.receipts holds
all_calls named h (act ∷ acts) none holds =
    subst (λ (names : List MessageId). AreFree names (life (after h act) acts).receipts) (append_assoc named (named_by h act) (all_named (after h act) acts))
    (all_calls (named ++ named_by h act) (after h act) acts none.1 (one_call named h act none.0 holds))

pub are_not_named : (epoch : ℕ) (is_fresh : Bool) (limits : HubLimits) (acts : List HubAct) → NoneAgain (no_hub epoch is_fresh limits) [] acts → AreNotNamed (no_hub epoch is_fresh limits) acts
are_not_named epoch is_fresh limits acts none = all_calls [] (no_hub epoch is_fresh limits) acts none (λ x e. let never : false ≡ true = e in absurd cc)
