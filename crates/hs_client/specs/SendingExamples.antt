-- What small clients send: chunks by their draws, crumbs and triggers by the open trace and the rules.
use Rattle.std.specs.Prelude.{◌≡◌, ℕ, List, [], ◌∷◌, map, length, replicate, refl}
use Rattle.hs_base.specs.declared.ids.TraceId.{TraceId}
use Rattle.hs_base.specs.declared.settings.AutoRule.TheVariants.{Exception, Queue}
use Rattle.hs_base.specs.declared.told.Trigger.{Trigger}
use Rattle.hs_base.specs.Samples.{t}
use Rattle.hs_records.specs.declared.journal.Draw.{Draw}
use Rattle.hs_records.specs.declared.journal.Draw.TheVariants.{Got, Empty}
use Rattle.hs_records.specs.Plain.{Operation, End, Sample, Point}
use Rattle.hs_words.specs.Pages.{Sheet}
use Rattle.hs_client.specs.Sending.{Sent, ClientSends, sends_of, sent_within, sent_crumbs, sent_triggers}
use Rattle.hs_client.specs.Samples.{node, settings, begin, crumb, fire}

abbrev numbers : {A : Type 0} → List (Sent A) → List ℕ
numbers items = map (λ item. item.number) items

abbrev sends : List Operation → List Draw → ClientSends
sends ops draws = sends_of (settings 4 4 8 4 16 []) (record { node = 0; number = 0 }) ops draws

abbrev pages : List Operation → List Draw → List ℕ
pages ops draws = map (λ (s : Sent Sheet). s.item.header.page) (sends ops draws).chunks

-- three pages of which the second has no buffer
abbrev three : List Operation
three = begin 1 ∷ Point 6 (replicate 30 0) ∷ Point 7 (replicate 30 0) ∷ Point 8 (replicate 30 0) ∷ End ∷ []

second_goes_nowhere : (pages three (Got 0 0 ∷ Empty 1 ∷ Got 0 3 ∷ []) ≡ 0 ∷ 2 ∷ []) × (numbers (sends three (Got 0 0 ∷ Empty 1 ∷ Got 0 3 ∷ [])).chunks ≡ 2 ∷ 4 ∷ [])
second_goes_nowhere = (refl, refl)

-- as long as a page has no draw, it is not sent
draws_that_are_there : pages three (Got 0 0 ∷ []) ≡ 0 ∷ []
draws_that_are_there = refl

-- three operations send one chunk, four no more, and all of them both
first_operations : (length (sent_within 2 (sends three (Got 0 0 ∷ Got 1 1 ∷ Got 2 2 ∷ [])).chunks) ≡ 0)
    × (length (sent_within 3 (sends three (Got 0 0 ∷ Got 1 1 ∷ Got 2 2 ∷ [])).chunks) ≡ 1)
    × (length (sent_within 4 (sends three (Got 0 0 ∷ Got 1 1 ∷ Got 2 2 ∷ [])).chunks) ≡ 2)
    × (length (sent_within 5 (sends three (Got 0 0 ∷ Got 1 1 ∷ Got 2 2 ∷ [])).chunks) ≡ 3)
first_operations = (refl, refl, refl, refl)

-- a crumb has the trace that is open
crumbs_by_trace : sent_crumbs (begin 1 ∷ crumb 2 ∷ End ∷ begin 5 ∷ crumb 0 ∷ crumb 2 ∷ End ∷ [])
    ≡ record { number = 1; item = record { trace = t 1; node = node 2 } } ∷ record { number = 4; item = record { trace = t 5; node = node 0 } }
    ∷ record { number = 5; item = record { trace = t 5; node = node 2 } } ∷ []
crumbs_by_trace = refl

-- a trigger needs no open trace
trigger_alone : numbers (sent_triggers [] (fire 3 1 1 ∷ begin 1 ∷ fire 4 1 9 ∷ End ∷ [])) ≡ 0 ∷ 2 ∷ []
trigger_alone = refl

abbrev sample : (moment auto value : ℕ) → Operation
sample moment auto value = Sample moment auto value

-- the value 7 fires an exception of trigger id 3, and 0 does not; the lead is the open trace
samples_that_fire : sent_triggers (Exception (record { 0 = 3 }) ∷ []) (begin 4 ∷ sample 10 0 0 ∷ sample 11 0 7 ∷ End ∷ [])
    ≡ record { number = 2; item = record { moment = 11; trigger = record { 0 = 3 }; lead = t 4; laterals = [] } } ∷ []
samples_that_fire = refl

abbrev leads : List Operation → List TraceId
leads ops = map (λ (s : Sent Trigger). s.item.lead) (sent_triggers (Queue (record { 0 = 1 }) 2 5000 2 ∷ Exception (record { 0 = 2 }) ∷ []) ops)

abbrev laterals : List Operation → List (List TraceId)
laterals ops = map (λ (s : Sent Trigger). s.item.laterals) (sent_triggers (Queue (record { 0 = 1 }) 2 5000 2 ∷ Exception (record { 0 = 2 }) ∷ []) ops)

-- each autotrigger sees its own samples alone: with those of the other between, the third and the fourth fire
abbrev queue_and_exception : List Operation
queue_and_exception =
    begin 1 ∷ sample 1 0 1 ∷ sample 2 1 0 ∷ End ∷ begin 2 ∷ sample 3 0 1 ∷ End ∷ begin 3 ∷ sample 4 0 5 ∷ End ∷ begin 2 ∷ sample 5 0 9 ∷ sample 6 1 4 ∷ End ∷ []

samples_of_two_rules : (leads queue_and_exception ≡ t 3 ∷ t 2 ∷ t 2 ∷ []) × (laterals queue_and_exception ≡ (t 2 ∷ t 1 ∷ []) ∷ (t 3 ∷ []) ∷ [] ∷ [])
samples_of_two_rules = (refl, refl)

-- a sample of an autotrigger that is not declared sends nothing
undeclared : sent_triggers [] (begin 1 ∷ sample 1 0 1 ∷ End ∷ []) ≡ []
undeclared = refl
