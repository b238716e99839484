-- Which messages a hub has named, so that they may be acknowledged. A message that is kept is none of them, where no message comes again
-- that may be acknowledged already. So what is kept is what the broker still has.
use Rattle.std.specs.Prelude.{◌≡◌, true, false, List, [], ◌∷◌, ◌++◌, take, Option, Some, None, refl}
use Rattle.std.specs.List.{list_any}
use Rattle.std.specs.Option.{IfSome}
use Rattle.hs_base.specs.NodeSets.{nodes_of}
use Rattle.hs_receipts.specs.declared.answers.MessageId.{MessageId}
use Rattle.hs_receipts.specs.Receipts.{is_message, is_known}
use Rattle.hs_hub.specs.Hub.{PlainHub, no_hub}
use Rattle.hs_hub.specs.Life.{HubAct, Hears, Tells, Reports, Says, Asks, Passes, Gives, LetsGo, Names, after, life}
use Rattle.hs_hub.specs.Examples.{few, m}
use Rattle.hs_hub.specs.Kept.{comes, until_saved}

-- the message in which a call says something that is held
abbrev pub message_of : HubAct → Option MessageId
message_of (Hears node epoch) = None
message_of (Tells message told) = Some message
message_of (Reports message trace key bytes) = Some message
message_of (Says message standing) = Some message
message_of Asks = None
message_of Passes = None
message_of Gives = None
message_of LetsGo = None
message_of Names = None

-- what a call names
abbrev pub named_by : PlainHub → HubAct → List MessageId
named_by h (Hears node epoch) = []
named_by h (Tells message told) = []
named_by h (Reports message trace key bytes) = []
named_by h (Says message standing) = []
named_by h Asks = []
named_by h Passes = []
named_by h Gives = []
named_by h LetsGo = []
named_by h Names = take 1 h.receipts.done

abbrev pub all_named : PlainHub → List HubAct → List MessageId
all_named h [] = []
all_named h (act ∷ acts) = named_by h act ++ all_named (after h act) acts

-- no message comes that was named, before these calls (`named`) or by one of them, or that may be named
abbrev pub NoneAgain : PlainHub → List MessageId → List HubAct → Type 0
NoneAgain h named [] = Unit {0}
NoneAgain h named (act ∷ acts) = IfSome (message_of act) (λ message. list_any (is_message message) (named ++ h.receipts.done) ≡ false) × NoneAgain (after h act) (named ++ named_by h act) acts

-- each message that is kept is none of those that were named, and none that is named next
abbrev pub AreNotNamed : PlainHub → List HubAct → Type 0
AreNotNamed h acts =
    (message : MessageId) → is_known (life h acts).receipts message ≡ true → list_any (is_message message) (all_named h acts ++ (life h acts).receipts.done) ≡ false

-- ---- worked examples: a message whose page is saved is named once, and is kept no more

abbrev hub : PlainHub
hub = no_hub 3 true few

abbrev until_named : List HubAct
until_named = comes ∷ comes ∷ Passes ∷ Gives ∷ LetsGo ∷ Names ∷ Names ∷ []

it_is_named : (all_named hub until_saved ≡ []) × (all_named hub until_named ≡ m 0 2 ∷ []) × (is_known (life hub until_saved).receipts (m 0 2) ≡ false) × NoneAgain hub [] until_named
unfolding nodes_of
it_is_named = (refl, refl, refl, (refl, (refl, (tt, (tt, (tt, (tt, (tt, tt))))))))
