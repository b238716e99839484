-- A hub's pages over any calls are the held pages over what these calls mean for them.
use Rattle.hs_hub.specs.declared.answers.OutReason.{OutReason}
use Rattle.std.proofs.Common.{◌≡◌, ℕ, option_map, Bool, true, false, not, cond, ◌||◌, List, [], ◌∷◌, ◌++◌, length, Option, Some, None, nat_le, eqb, refl, sym, ap, ◌∙◌}
use Rattle.hs_base.specs.declared.ids.TraceId.{TraceId}
use Rattle.hs_base.specs.declared.told.Told.{Told}
use Rattle.hs_wire.specs.declared.message.Standing.{Standing}
use Rattle.hs_groups.specs.declared.answers.ToldOutcome as group_answers
use Rattle.hs_groups.specs.declared.answers.ToldOutcome.TheVariants as of_group
use Rattle.hs_groups.specs.Groups as groups
use Rattle.hs_standings.specs.declared.answers.StandingOutcome as standing_answers
use Rattle.hs_standings.specs.declared.answers.StandingOutcome.TheVariants as of_standing
use Rattle.hs_standings.specs.Standing as standings
use Rattle.hs_traces.specs.declared.answers.Added as page_answers
use Rattle.hs_traces.specs.declared.answers.Added.TheVariants as of_page
use Rattle.hs_traces.specs.declared.answers.Offered.TheVariants as of_offer
use Rattle.hs_traces.specs.declared.key.PageKey.{PageKey}
use Rattle.hs_traces.specs.Traces as traces
use Rattle.hs_traces.specs.Traces.{PlainTraces, part_of}
use Rattle.hs_traces.specs.History as history
use Rattle.hs_traces.specs.History.{TraceDeed, Coming, Comes, HoldsNothing, HearsAll, AreSamePages, after_all, after_answer, after_offer, pages_of}
use Rattle.hs_traces.proofs.Deeds.{pages_decide}
use Rattle.hs_receipts.specs.declared.answers.MessageId.{MessageId}
use Rattle.hs_hub.specs.Hub.{PlainHub, room, life_of, node_of, after_answer_to_told, after_added, after_noted, after_ask, after_given, goes, after_saved_of}
use Rattle.hs_hub.specs.Life.{HubAct, Hears, Tells, Reports, Says, Asks, Passes, Gives, LetsGo, Names, after, life, deeds_of, offers, saves, all_deeds}

after_both : (s : PlainTraces) (xs ys : List TraceDeed) → after_all s (xs ++ ys) ≡ after_all (after_all s xs) ys
after_both s [] ys = refl
after_both s (x ∷ xs) ys = after_both (history.after s x) xs ys

-- ---- one call

keeps : (b : Bool) (h new : PlainHub) → new.traces ≡ h.traces → (cond b h new).traces ≡ h.traces
keeps true h new same = refl
keeps false h new same = same

told_keeps : (h : PlainHub) (message : MessageId) (told : Told) (a : group_answers.ToldOutcome) → (after_answer_to_told h message told a).traces ≡ h.traces
told_keeps h message told (of_group.Taken heard) = refl
told_keeps h message told of_group.Refused = refl
told_keeps h message told of_group.Full = refl

noted_keeps : (h : PlainHub) (message : MessageId) (standing : Standing) (a : standing_answers.StandingOutcome) → (after_noted h message standing a).traces ≡ h.traces
noted_keeps h message standing of_standing.Noted = refl
noted_keeps h message standing of_standing.Older = refl
noted_keeps h message standing of_standing.Full = refl

added_adds : (h : PlainHub) (message : MessageId) (trace : TraceId) (key : PageKey) (bytes : List ℕ) (a : page_answers.Added)
    → (after_added h message trace key bytes a).traces ≡ after_answer h.traces (record { trace = trace; key = key; bytes = bytes }) a
added_adds h message trace key bytes of_page.Added = refl
added_adds h message trace key bytes of_page.Repeated = refl
added_adds h message trace key bytes of_page.NoPage = refl
added_adds h message trace key bytes of_page.Foreign = refl
added_adds h message trace key bytes of_page.Full = refl

comes : (unknown full : Bool) (h new : PlainHub) (page : Coming) → new.traces ≡ history.after h.traces (Comes page)
    → (cond unknown h (cond full h new)).traces ≡ after_all h.traces (cond (unknown || full) [] (Comes page ∷ []))
comes true full h new page same = refl
comes false true h new page same = refl
comes false false h new page same = same

asks_keep : (h : PlainHub) (ask : Option _) → (after_ask h ask).traces ≡ h.traces
asks_keep h None = refl
asks_keep h (Some ask) = refl

given_is : (out busy waits : Bool) (s : PlainTraces) (trace : TraceId)
    → cond (out || (busy || not waits)) s (traces.offered s trace) ≡ after_offer s trace (cond out of_offer.Unsaved (cond busy of_offer.Busy (cond waits of_offer.Given of_offer.Unknown)))
given_is true busy waits s trace = refl
given_is false true waits s trace = refl
given_is false false true s trace = refl
given_is false false false s trace = refl

gives : (h : PlainHub) (goes : Option (TraceId × OutReason)) → (after_given h goes).traces ≡ after_all h.traces (offers (option_map (λ (given : TraceId × OutReason). given.0) goes))
gives h None = refl
gives h (Some (trace, why)) = given_is (traces.is_out h.traces trace) (nat_le h.traces.limits.outs (length h.traces.out)) (traces.is_waiting h.traces trace) h.traces trace

lets_go : (h : PlainHub) (trace : Option TraceId) → (after_saved_of h trace).traces ≡ after_all h.traces (saves trace)
lets_go h None = refl
lets_go h (Some trace) = refl

pub one_call : (h : PlainHub) (act : HubAct) → (after h act).traces ≡ after_all h.traces (deeds_of h act)
one_call h (Hears node epoch) = refl
one_call h (Tells message told) =
    keeps (nat_le (room h) (length told.laterals)) h (after_answer_to_told h message told (groups.answer_to h.groups (node_of message) message.epoch told))
    (told_keeps h message told (groups.answer_to h.groups (node_of message) message.epoch told))
one_call h (Reports message trace key bytes) =
    comes (nat_le h.limits.nodes message.node) (eqb (room h) 0) h (after_added h message trace key bytes (traces.answer_to h.traces trace key (length bytes))) (record { trace = trace; key = key; bytes = bytes })
    (added_adds h message trace key bytes (traces.answer_to h.traces trace key (length bytes)))
one_call h (Says message standing) =
    let answer = standings.answer_to h.standings standing.trace (life_of message) message.number in
    keeps (nat_le h.limits.nodes message.node) h (cond (eqb (room h) 0) h (after_noted h message standing answer)) (keeps (eqb (room h) 0) h (after_noted h message standing answer) (noted_keeps h message standing answer))
one_call h Asks = asks_keep h (groups.next_ask h.groups)
one_call h Passes = refl
one_call h Gives = gives h (goes h)
one_call h LetsGo = lets_go h h.receipts.out
one_call h Names = refl

-- ---- and all calls

pub all_calls : (h : PlainHub) (acts : List HubAct) → (life h acts).traces ≡ after_all h.traces (all_deeds h acts)
all_calls h [] = refl
all_calls h (act ∷ acts) =
    all_calls (after h act) acts ∙ ap (λ (s : PlainTraces). after_all s (all_deeds (after h act) acts)) (one_call h act) ∙ sym (after_both h.traces (deeds_of h act) (all_deeds (after h act) acts))

pub messages_decide : (trace : TraceId) (one other : PlainHub) (acts others : List HubAct) → HoldsNothing trace one.traces → HoldsNothing trace other.traces
    → HearsAll trace one.traces (all_deeds one acts) → HearsAll trace other.traces (all_deeds other others)
    → AreSamePages (pages_of trace (all_deeds one acts)) (pages_of trace (all_deeds other others))
    → part_of (life one acts).traces.waiting trace ≡ part_of (life other others).traces.waiting trace
messages_decide trace one other acts others holds holds' heard heard' same =
    ap (λ (s : PlainTraces). part_of s.waiting trace) (all_calls one acts)
    ∙ pages_decide trace one.traces other.traces (all_deeds one acts) (all_deeds other others) holds holds' heard heard' same
    ∙ sym (ap (λ (s : PlainTraces). part_of s.waiting trace) (all_calls other others))
