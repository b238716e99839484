-- A hub: the groups that it follows, what lives say, the pages that it holds, and the messages that wait for their acknowledgement. What
-- each message makes of them, and which trace may be given out.
use Rattle.std.specs.Prelude.{◌≡◌, ℕ, ◌+◌, ◌-◌, ◌%◌, ◌^◌, ◌<◌, min, Bool, true, false, not, ◌||◌, ◌&&◌, ◌==◌, List, ◌++◌, length, fold, drop, nat_lt, nat_le, Option, Some, None, is_some, slice_get, unwrap_or, option_map, [], if◌then◌else◌}
use Rattle.std.specs.List.{list_any}
use Rattle.std.specs.Option.{option_map_or, option_and_then}
use Rattle.hs_base.specs.declared.ids.NodeId.{NodeId}
use Rattle.hs_base.specs.declared.ids.TraceId.{TraceId}
use Rattle.hs_base.specs.declared.told.Ask.{Ask}
use Rattle.hs_base.specs.declared.told.Told.{Told}
use Rattle.hs_base.specs.declared.limits.TheConstants.{MOST_NODES}
use Rattle.hs_words.specs.Pages.{Sheet}
use Rattle.hs_words.specs.Reading.{Spells}
use Rattle.hs_wire.specs.declared.message.Head.{Head}
use Rattle.hs_wire.specs.declared.message.Standing.{Standing}
use Rattle.hs_wire.specs.Messages.{PlainMessage, message_bytes, Said, SaysHello, SaysTold, SaysAsk, SaysReported, SaysStanding}
use Rattle.hs_groups.specs.declared.answers.LifeHeard.{LifeHeard}
use Rattle.hs_groups.specs.declared.answers.LifeHeard.TheVariants as hearing
use Rattle.hs_groups.specs.declared.answers.ToldOutcome as group_answers
use Rattle.hs_groups.specs.declared.answers.ToldOutcome.TheVariants as of_group
use Rattle.hs_groups.specs.declared.followed_group.FollowedGroup.{FollowedGroup}
use Rattle.hs_groups.specs.Groups as groups
use Rattle.hs_groups.specs.Groups.{PlainGroups}
use Rattle.hs_standings.specs.declared.answers.Life.{Life}
use Rattle.hs_standings.specs.declared.answers.StandingOutcome as standing_answers
use Rattle.hs_standings.specs.declared.answers.StandingOutcome.TheVariants as of_standing
use Rattle.hs_standings.specs.Standing as standings
use Rattle.hs_standings.specs.Standing.{PlainStandings, latest_at}
use Rattle.hs_traces.specs.declared.answers.Added as page_answers
use Rattle.hs_traces.specs.declared.answers.Added.TheVariants as of_page
use Rattle.hs_traces.specs.declared.answers.TheConstants.{LEAST_BYTES}
use Rattle.hs_traces.specs.declared.key.PageKey.{PageKey}
use Rattle.hs_traces.specs.declared.key.CoreId.{CoreId}
use Rattle.hs_traces.specs.Keys.{is_own, key_of}
use Rattle.hs_traces.specs.Parts.{Pages}
use Rattle.hs_traces.specs.Traces as traces
use Rattle.hs_traces.specs.Traces.{PlainTraces, held_bytes, keys_in}
use Rattle.hs_receipts.specs.declared.answers.MessageId.{MessageId}
use Rattle.hs_receipts.specs.declared.answers.Waiting.{Waiting}
use Rattle.hs_receipts.specs.Receipts as receipts
use Rattle.hs_receipts.specs.Receipts.{PlainReceipts, kept, is_noted, is_known, is_for, since_of}
use Rattle.hs_cursor.specs.Walking.{PlainCursor, Found, step}
use Rattle.hs_saved.specs.Saved as saved
use Rattle.hs_saved.specs.Saved.{PlainSaved, no_saved, parts_of}
use Rattle.hs_verdict.specs.Verdict.{is_whole, claim_at, life_at}
use Rattle.hs_hub.specs.declared.answers.HubLimits.{HubLimits}
use Rattle.hs_hub.specs.declared.answers.HubCounts.{HubCounts}
use Rattle.hs_hub.specs.declared.answers.OutReason.{OutReason}
use Rattle.hs_hub.specs.declared.answers.OutReason.TheVariants.{Complete, Aged, CutShort}
use Rattle.hs_hub.specs.declared.answers.Delivered.{Delivered}
use Rattle.hs_hub.specs.declared.answers.Delivered.TheVariants.{Held, Done, Refused, Full}
use Rattle.hs_hub.specs.Births.{no_births, with_birth, are_sure}
use Rattle.hs_hub.specs.Ready.{first_ready}

pub record PlainHub : Type 0 where
  pub limits : HubLimits
  -- the life in which the hub speaks, and how many asks it sent
  pub epoch : ℕ
  pub asks : ℕ
  -- passes so far
  pub passes : ℕ
  -- whether no hub was before this one
  pub is_fresh : Bool
  -- of each node from which pass on its latest life is sure
  pub births : List ℕ
  pub groups : PlainGroups
  pub standings : PlainStandings
  pub traces : PlainTraces
  pub receipts : PlainReceipts
  -- of the traces that were saved last, how many parts of each
  pub saved : PlainSaved
  -- why the last trace was given out, and when the first message came that waited for it
  pub why : OutReason
  pub out_since : ℕ

-- whether a limit is out of its range
abbrev pub are_out : HubLimits → Bool
are_out limits = nat_lt MOST_NODES limits.nodes || (limits.groups == 0 || (limits.hold == 0 || nat_lt limits.bytes LEAST_BYTES))

abbrev pub no_hub : ℕ → Bool → HubLimits → PlainHub
no_hub epoch is_fresh limits = record {
  limits = limits;
  epoch = epoch;
  asks = 0;
  passes = 0;
  is_fresh = is_fresh;
  births = no_births limits.nodes is_fresh;
  groups = groups.no_groups (record { nodes = limits.nodes; groups = limits.groups; tries = limits.tries });
  standings = standings.no_standings limits.standings;
  traces = traces.no_traces (record { hold = limits.hold; outs = 1; bytes = limits.bytes });
  receipts = receipts.no_receipts limits.messages;
  saved = no_saved limits.groups;
  why = Complete;
  out_since = 0;
}

-- ---- a message waits for a trace

abbrev pub waits_at : ℕ → MessageId → TraceId → Waiting
waits_at now message trace = record { trace = trace; message = message; since = now }

-- once
abbrev pub noted : ℕ → MessageId → PlainReceipts → TraceId → PlainReceipts
noted now message book trace = if is_noted book trace message then book else receipts.after_wait book (waits_at now message trace)

-- for the lead and each lateral of what it tells; one that waits already is a repeat, and waits for what is left of these
abbrev pub all_noted : ℕ → MessageId → PlainReceipts → Told → PlainReceipts
all_noted now message book told = if is_known book message then book else fold (noted now message) (noted now message book told.group.lead) told.laterals

-- for how many more messages there is room
abbrev pub room : PlainHub → ℕ
room h = h.receipts.most - kept h.receipts

-- ---- a node is heard, and tells of a group

-- from which pass on a life is sure that is heard now: the first that a fresh hub hears of a node from the start, and each other one once
-- as many passes went by as the age says
abbrev pub birth_of : PlainHub → NodeId → ℕ
birth_of h node = if h.is_fresh && groups.latest_of h.groups node == 0 then 0 else min (h.passes + h.limits.age) (2 ^ 64 - 1)

-- the births where a life is heard
abbrev pub births_after : PlainHub → NodeId → ℕ → List ℕ
births_after h node epoch = with_birth (groups.answer_of_hear h.groups node epoch) node (birth_of h node) h.births

abbrev pub delivered_of_heard : LifeHeard → Delivered
delivered_of_heard hearing.Known = Done
delivered_of_heard hearing.Newer = Done
delivered_of_heard hearing.Refused = Refused

abbrev pub answer_to_hear : PlainHub → NodeId → ℕ → Delivered
answer_to_hear h node epoch = delivered_of_heard (groups.answer_of_hear h.groups node epoch)

abbrev pub after_hear : PlainHub → NodeId → ℕ → PlainHub
after_hear h node epoch = record h { groups = groups.heard h.groups node epoch; births = births_after h node epoch }

abbrev pub node_of : MessageId → NodeId
node_of message = record { 0 = message.node }

abbrev pub delivered_of_told : group_answers.ToldOutcome → Delivered
delivered_of_told (of_group.Taken heard) = Held
delivered_of_told of_group.Refused = Refused
delivered_of_told of_group.Full = Full

abbrev pub answer_to_told : PlainHub → MessageId → Told → Delivered
answer_to_told h message told =
    if nat_le (room h) (length told.laterals) then Full else delivered_of_told (groups.answer_to h.groups (node_of message) message.epoch told)

-- the message waits for the lead and each lateral
abbrev pub after_answer_to_told : PlainHub → MessageId → Told → group_answers.ToldOutcome → PlainHub
after_answer_to_told h message told (of_group.Taken heard) = record h {
  groups = groups.after_told h.groups (node_of message) message.epoch told;
  births = with_birth heard (node_of message) (birth_of h (node_of message)) h.births;
  receipts = all_noted h.passes message h.receipts told;
}
after_answer_to_told h message told of_group.Refused = h
after_answer_to_told h message told of_group.Full = h

abbrev pub after_told : PlainHub → MessageId → Told → PlainHub
after_told h message told =
    if nat_le (room h) (length told.laterals) then h else after_answer_to_told h message told (groups.answer_to h.groups (node_of message) message.epoch told)

-- ---- a page comes

-- the message of a page that is held already waits with that page
abbrev pub repeated : PlainHub → MessageId → TraceId → PageKey → PlainReceipts
repeated h message trace key =
    if is_noted h.receipts trace message then h.receipts
    else if traces.has_page_in h.traces.out trace key then receipts.after_join h.receipts message
    else receipts.after_wait h.receipts (waits_at h.passes message trace)

abbrev pub delivered_of_page : page_answers.Added → Delivered
delivered_of_page of_page.Added = Held
delivered_of_page of_page.Repeated = Held
delivered_of_page of_page.NoPage = Refused
delivered_of_page of_page.Foreign = Refused
delivered_of_page of_page.Full = Full

abbrev pub answer_to_page : PlainHub → MessageId → TraceId → PageKey → List ℕ → Delivered
answer_to_page h message trace key bytes =
    if nat_le h.limits.nodes message.node then Refused
    else if room h == 0 then Full
    else delivered_of_page (traces.answer_to h.traces trace key (length bytes))

abbrev pub after_added : PlainHub → MessageId → TraceId → PageKey → List ℕ → page_answers.Added → PlainHub
after_added h message trace key bytes of_page.Added = record h {
  groups = groups.heard h.groups (node_of message) message.epoch;
  births = births_after h (node_of message) message.epoch;
  traces = traces.with_page_of h.traces trace key bytes;
  receipts = receipts.after_wait h.receipts (waits_at h.passes message trace);
}
after_added h message trace key bytes of_page.Repeated = record h {
  groups = groups.heard h.groups (node_of message) message.epoch;
  births = births_after h (node_of message) message.epoch;
  receipts = repeated h message trace key;
}
after_added h message trace key bytes of_page.NoPage = h
after_added h message trace key bytes of_page.Foreign = h
after_added h message trace key bytes of_page.Full = h

abbrev pub after_page : PlainHub → MessageId → TraceId → PageKey → List ℕ → PlainHub
after_page h message trace key bytes =
    if nat_le h.limits.nodes message.node then h
    else if room h == 0 then h
    else after_added h message trace key bytes (traces.answer_to h.traces trace key (length bytes))

abbrev pub sender_of : MessageId → (client core : ℕ) → CoreId
sender_of message client core = record { node = message.node; epoch = message.epoch; client = client; core = core }

-- what becomes of bytes that a client's core wrote: they are a page of its own, or nothing changes
pub record IsReported (h : PlainHub) (message : MessageId) (client core : ℕ) (bytes : List ℕ) (delivered : Delivered) (new : PlainHub) : Type 0 where
  pub own : (sheet : Sheet) → Spells sheet bytes → is_own (sender_of message client core) sheet.header ≡ true
      → (delivered ≡ answer_to_page h message sheet.header.trace (key_of (sender_of message client core) sheet.header) bytes)
      × (new ≡ after_page h message sheet.header.trace (key_of (sender_of message client core) sheet.header) bytes)
  pub foreign : (sheet : Sheet) → Spells sheet bytes → is_own (sender_of message client core) sheet.header ≡ false → (delivered ≡ Refused) × (new ≡ h)
  pub no_page : ((sheet : Sheet) → Spells sheet bytes → ⊥) → (delivered ≡ Refused) × (new ≡ h)

-- ---- a life says how whole its part is

abbrev pub life_of : MessageId → Life
life_of message = record { node = message.node; epoch = message.epoch }

abbrev pub delivered_of_standing : standing_answers.StandingOutcome → Delivered
delivered_of_standing of_standing.Noted = Held
delivered_of_standing of_standing.Older = Held
delivered_of_standing of_standing.Full = Full

abbrev pub answer_to_standing : PlainHub → MessageId → Standing → Delivered
answer_to_standing h message standing =
    if nat_le h.limits.nodes message.node then Refused
    else if room h == 0 then Full
    else delivered_of_standing (standings.answer_to h.standings standing.trace (life_of message) message.number)

abbrev pub after_noted : PlainHub → MessageId → Standing → standing_answers.StandingOutcome → PlainHub
after_noted h message standing of_standing.Noted = record h {
  groups = groups.heard h.groups (node_of message) message.epoch;
  births = births_after h (node_of message) message.epoch;
  standings = standings.with_standing h.standings standing.trace (life_of message) (latest_at message.number standing);
  receipts = noted h.passes message h.receipts standing.trace;
}
after_noted h message standing of_standing.Older = record h {
  groups = groups.heard h.groups (node_of message) message.epoch;
  births = births_after h (node_of message) message.epoch;
  receipts = noted h.passes message h.receipts standing.trace;
}
after_noted h message standing of_standing.Full = h

abbrev pub after_standing : PlainHub → MessageId → Standing → PlainHub
after_standing h message standing =
    if nat_le h.limits.nodes message.node then h
    else if room h == 0 then h
    else after_noted h message standing (standings.answer_to h.standings standing.trace (life_of message) message.number)

-- ---- what becomes of a message

abbrev pub id_of : Head → MessageId
id_of head = record { node = head.node.0; epoch = head.epoch; number = head.number }

abbrev pub IsTaken : PlainHub → Head → Said → Delivered → PlainHub → Type 0
IsTaken h head (SaysHello hello) delivered new = (delivered ≡ answer_to_hear h head.node head.epoch) × (new ≡ after_hear h head.node head.epoch)
IsTaken h head (SaysTold told) delivered new = (delivered ≡ answer_to_told h (id_of head) told) × (new ≡ after_told h (id_of head) told)
IsTaken h head (SaysAsk ask) delivered new = (delivered ≡ Refused) × (new ≡ h)
IsTaken h head (SaysReported reported) delivered new = IsReported h (id_of head) reported.client reported.core reported.page delivered new
IsTaken h head (SaysStanding standing) delivered new = (delivered ≡ answer_to_standing h (id_of head) standing) × (new ≡ after_standing h (id_of head) standing)

abbrev pub IsDelivered : PlainHub → PlainMessage → Delivered → PlainHub → Type 0
IsDelivered h m delivered new = IsTaken h m.head m.said delivered new

-- ---- asks are sent, and passes go by

-- the message in which a node is asked
abbrev pub ask_of : (epoch number : ℕ) → NodeId → Ask → PlainMessage
ask_of epoch number node ask = record { head = record { epoch = epoch; number = number; node = node }; said = SaysAsk ask }

abbrev pub ask_message : PlainHub → NodeId × Ask → PlainMessage
ask_message h ask = ask_of h.epoch h.asks ask.0 ask.1

-- the bytes of the next ask stand at the front, and what stood behind them is still there
abbrev pub IsWritten : PlainHub → Option ℕ → (old new : List ℕ) → Type 0
IsWritten h None old new = (groups.next_ask h.groups ≡ None) × (new ≡ old)
IsWritten h (Some len) old new =
    (ask : NodeId × Ask) × (groups.next_ask h.groups ≡ Some ask) × (len ≡ length (message_bytes (ask_message h ask)))
    × (new ≡ message_bytes (ask_message h ask) ++ drop len old)

-- the next ask takes so many bytes, and there are fewer
abbrev pub IsShort : PlainHub → ℕ → List ℕ → Type 0
IsShort h wanted old =
    (ask : NodeId × Ask) × (groups.next_ask h.groups ≡ Some ask) × (wanted ≡ length (message_bytes (ask_message h ask))) × (length old < wanted)

-- it was sent in this pass
abbrev pub after_ask : PlainHub → Option (NodeId × Ask) → PlainHub
after_ask h None = h
after_ask h (Some ask) = record h { groups = groups.after_sent h.groups ask.0 ask.1.group.id h.passes; asks = (h.asks + 1) % 2 ^ 64 }

abbrev pub after_next : PlainHub → PlainHub
after_next h = after_ask h (groups.next_ask h.groups)

abbrev pub next_pass : PlainHub → ℕ
next_pass h = min (h.passes + 1) (2 ^ 64 - 1)

abbrev pub after_pass : PlainHub → PlainHub
after_pass h = record h { passes = next_pass h; groups = groups.after_pass h.groups (next_pass h) h.limits.wait }

-- ---- a trace is given out

-- whether a limit is reached, so that a message may be Full
abbrev pub is_pressed : PlainHub → Bool
is_pressed h =
    nat_le h.limits.hold (length h.traces.waiting)
    || (nat_lt (h.limits.bytes - held_bytes h.traces) LEAST_BYTES || (nat_le h.limits.standings (standings.count_of h.standings) || nat_le (room h) 32))

-- the trace of the message that waits longest, by age or at a limit
abbrev pub aged_of : PlainHub → Waiting → Option (TraceId × OutReason)
aged_of h waits =
    if nat_le h.limits.age (h.passes - waits.since) then Some (waits.trace, Aged)
    else if is_pressed h then Some (waits.trace, CutShort)
    else None

abbrev pub aged : PlainHub → Option (TraceId × OutReason)
aged h = option_and_then (aged_of h) (slice_get h.receipts.waiting 0)

-- the trace that may be given out, and why
abbrev pub or_aged : PlainHub → Option TraceId → Option (TraceId × OutReason)
or_aged h (Some trace) = Some (trace, Complete)
or_aged h None = aged h

abbrev pub may_go : PlainHub → Option (TraceId × OutReason)
may_go h = or_aged h (first_ready h.groups h.standings h.traces h.groups.groups)

-- none while one is out
abbrev pub goes : PlainHub → Option (TraceId × OutReason)
goes h = if is_some h.receipts.out then None else may_go h

abbrev pub answer_to_take : PlainHub → Option TraceId
answer_to_take h = option_map (λ (given : TraceId × OutReason). given.0) (goes h)

-- what waits of a trace is out, if something does
abbrev pub given : PlainTraces → TraceId → PlainTraces
given s trace = if traces.is_out s trace || (nat_le s.limits.outs (length s.out) || not (traces.is_waiting s trace)) then s else traces.offered s trace

abbrev pub after_given : PlainHub → Option (TraceId × OutReason) → PlainHub
after_given h (Some trace) = record h {
  traces = given h.traces trace.0;
  receipts = receipts.after_offer h.receipts trace.0;
  why = trace.1;
  out_since = unwrap_or (since_of h.receipts trace.0) 0;
}
after_given h None = h

abbrev pub after_take : PlainHub → PlainHub
after_take h = after_given h (goes h)

-- the pages of the trace that is out
abbrev pub page_of_out : PlainHub → Option PageKey → Option (PageKey × List ℕ)
page_of_out h after = option_and_then (λ trace. traces.page_behind h.traces trace after) h.receipts.out

abbrev pub pages_out : PlainHub → Pages
pages_out h = unwrap_or (option_and_then (traces.part_of h.traces.out) h.receipts.out) []

-- their next row behind a cursor
abbrev pub next_row : PlainHub → PlainCursor → Found
next_row h place = step (pages_out h) place

-- why it was given out
abbrev pub why_out : PlainHub → Option OutReason
why_out h = option_map (λ _. h.why) h.receipts.out

-- which part of it is out: how many were saved before
abbrev pub part_out : PlainHub → Option ℕ
part_out h = option_map (parts_of h.saved) h.receipts.out

-- of the groups that claim it, the oldest one first, and of the lives that spoke of it, those at this place
abbrev pub claim_out : PlainHub → ℕ → Option FollowedGroup
claim_out h place = option_and_then (λ trace. claim_at h.groups trace place) h.receipts.out

abbrev pub life_out : PlainHub → ℕ → Option Life
life_out h place = option_and_then (λ trace. life_at h.standings trace place) h.receipts.out

-- it is the first part of the trace, as far as that is known, and each node that it reached was sure when its first message came
abbrev pub is_sure_of : PlainHub → TraceId → Bool
is_sure_of h trace = parts_of h.saved trace == 0 && are_sure h.births h.out_since trace h.groups.groups

abbrev pub is_whole_out : PlainHub → Bool
is_whole_out h = option_map_or (λ trace. is_whole h.groups h.standings trace (keys_in h.traces.out trace) && is_sure_of h trace) h.receipts.out false

-- ---- it is saved

-- its pages go, and what lives say of it, if nothing waits for a later part of it
abbrev pub after_saved_of : PlainHub → Option TraceId → PlainHub
after_saved_of h (Some trace) = record h {
  traces = traces.after_saved h.traces trace;
  receipts = receipts.after_saved h.receipts;
  standings = if list_any (is_for trace) h.receipts.waiting then h.standings else standings.without_trace h.standings trace;
  saved = saved.noted h.saved trace;
}
after_saved_of h None = record h { receipts = receipts.after_saved h.receipts }

abbrev pub after_saved : PlainHub → PlainHub
after_saved h = after_saved_of h h.receipts.out

abbrev pub after_named : PlainHub → PlainHub
after_named h = record h { receipts = record h.receipts { done = drop 1 h.receipts.done } }

abbrev pub counts_of : PlainHub → HubCounts
counts_of h = record {
  passes = h.passes;
  groups = length h.groups.groups;
  traces = length h.traces.waiting;
  bytes = held_bytes h.traces;
  standings = standings.count_of h.standings;
  messages = length h.receipts.waiting;
}
