-- Worked examples of a hub for four nodes: node 0, in life 5, tells of its group 7, whose lead is trace 107, and reports a page of it;
-- node 1, to which a crumb leads, answers and heard nothing.
use Rattle.std.specs.Prelude.{◌≡◌, ℕ, Bool, true, false, List, [], ◌∷◌, length, Some, None, refl}
use Rattle.hs_base.specs.declared.told.Why.TheVariants.{Fired, Answer}
use Rattle.hs_base.specs.NodeSets.{nodes_of}
use Rattle.hs_base.specs.Samples.{t}
use Rattle.hs_wire.specs.declared.message.Standing.{Standing}
use Rattle.hs_wire.specs.declared.message.Wholeness.TheVariants.{UnheardSince}
use Rattle.hs_groups.specs.Following.{told_of, n}
use Rattle.hs_standings.specs.Standing.{whole_at}
use Rattle.hs_traces.specs.Keys.{key_at}
use Rattle.hs_traces.specs.Traces.{held_bytes}
use Rattle.hs_receipts.specs.declared.answers.MessageId.{MessageId}
use Rattle.hs_hub.specs.declared.answers.HubLimits.{HubLimits}
use Rattle.hs_hub.specs.declared.answers.OutReason.TheVariants.{Complete, Aged, CutShort}
use Rattle.hs_hub.specs.declared.answers.Delivered.TheVariants.{Held, Refused, Full}
use Rattle.hs_hub.specs.Hub.{PlainHub, no_hub, after_hear, answer_to_told, after_told, answer_to_page, after_page, after_standing, answer_to_take, after_take, after_saved, after_pass, why_out, part_out, is_whole_out}

abbrev pub few : HubLimits
few = record { nodes = 4; groups = 4; hold = 4; bytes = 100000; standings = 16; messages = 64; wait = 5; tries = 1; age = 1 }

abbrev pub m : (node number : ℕ) → MessageId
m node number = record { node = node; epoch = 5; number = number }

abbrev pub page : List ℕ
page = 1 ∷ 2 ∷ 3 ∷ []

abbrev whole : Standing
whole = record (whole_at 1).standing { trace = t 107 }

abbrev unheard : Standing
unheard = record whole { wholeness = UnheardSince; pages = 0 }

-- these messages come to a hub
abbrev answered_by : PlainHub → PlainHub
answered_by h = after_standing (after_told (after_page (after_told h (m 0 1) (told_of 7 2 Fired)) (m 0 2) (t 107) (key_at 0 5 0 0 0) page) (m 1 1) (told_of 7 0 Answer)) (m 1 2) unheard

abbrev answered : PlainHub
answered = answered_by (no_hub 3 true few)

-- node 0 has not said that all came
not_yet : answer_to_take answered ≡ None
unfolding nodes_of
not_yet = refl

abbrev closed_by : PlainHub → PlainHub
closed_by h = after_standing (answered_by h) (m 0 3) whole

abbrev closed : PlainHub
closed = closed_by (no_hub 3 true few)

-- now it may go, and is whole; nothing may be acknowledged before it is saved, and then all five messages
given_out : (answer_to_take closed ≡ Some (t 107)) × (is_whole_out (after_take closed) ≡ true) × (why_out (after_take closed) ≡ Some Complete) × ((after_take closed).receipts.done ≡ [])
unfolding nodes_of
given_out = (refl, refl, refl, refl)

-- node 1 was in life 4 before: its life 5 is sure after a pass, and a trace whose first message came before is not whole
abbrev is_whole_by : PlainHub → Bool
is_whole_by h = is_whole_out (after_take (closed_by h))

abbrev renewed : PlainHub
renewed = after_hear (no_hub 3 true few) (n 1) 4

young_lives : (is_whole_by renewed ≡ false) × (is_whole_by (after_pass (after_hear renewed (n 1) 5)) ≡ true)
unfolding nodes_of
young_lives = (refl, refl)

-- so it is with each node in a hub that is not fresh
not_fresh : (is_whole_by (no_hub 3 false few) ≡ false) × (is_whole_by (after_pass (after_hear (after_hear (no_hub 3 false few) (n 0) 5) (n 1) 5)) ≡ true)
unfolding nodes_of
not_fresh = (refl, refl)

saved : (length (after_saved (after_take closed)).receipts.done ≡ 5) × (held_bytes (after_saved (after_take closed)).traces ≡ 0)
unfolding nodes_of
saved = (refl, refl)

-- it is the first part, and what comes of it later is the next one
parts : (part_out (after_take closed) ≡ Some 0) × (part_out (after_take (after_pass (after_page (after_saved (after_take closed)) (m 0 4) (t 107) (key_at 0 5 0 0 1) page))) ≡ Some 1)
unfolding nodes_of
parts = (refl, refl)

-- a page that comes again is held and adds nothing
again : (answer_to_page closed (m 0 9) (t 107) (key_at 0 5 0 0 0) page ≡ Held) × (held_bytes (after_page closed (m 0 9) (t 107) (key_at 0 5 0 0 0) page).traces ≡ 3)
again = (refl, refl)

-- after a pass it is old enough to be given out as it is, and is not whole
by_age : (answer_to_take (after_pass answered) ≡ Some (t 107)) × (is_whole_out (after_take (after_pass answered)) ≡ false) × (why_out (after_take (after_pass answered)) ≡ Some Aged)
unfolding nodes_of
by_age = (refl, refl, refl)

-- one message may be kept: a second is too much, and the trace may be given out at once
abbrev one : PlainHub
one = after_page (no_hub 3 true (record few { messages = 1; age = 99 })) (m 0 2) (t 107) (key_at 0 5 0 0 0) page

at_a_limit : (answer_to_page one (m 0 3) (t 107) (key_at 0 5 0 0 1) page ≡ Full) × (after_page one (m 0 3) (t 107) (key_at 0 5 0 0 1) page ≡ one) × (answer_to_take one ≡ Some (t 107)) × (why_out (after_take one) ≡ Some CutShort)
at_a_limit = (refl, refl, refl, refl)

-- there is no node 4
no_such_node : (answer_to_told one (m 4 1) (told_of 7 0 Fired) ≡ Full) × (answer_to_page (no_hub 3 true few) (m 4 1) (t 107) (key_at 4 5 0 0 0) page ≡ Refused)
no_such_node = (refl, refl)
