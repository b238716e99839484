-- The life of a hub: calls in any order and number. What becomes of its pages in it is what becomes of held pages over the pages that
-- come, the givings out and the savings: so what waits of a trace depends on which of its pages came, and on nothing else.
use Rattle.std.specs.Prelude.{ℕ, ◌||◌, ◌==◌, List, [], ◌∷◌, ◌++◌, nat_le, Option, Some, None, if◌then◌else◌}
use Rattle.hs_base.specs.declared.ids.NodeId.{NodeId}
use Rattle.hs_base.specs.declared.ids.TraceId.{TraceId}
use Rattle.hs_base.specs.declared.told.Told.{Told}
use Rattle.hs_wire.specs.declared.message.Standing.{Standing}
use Rattle.hs_traces.specs.declared.key.PageKey.{PageKey}
use Rattle.hs_traces.specs.History.{TraceDeed, Comes, Offers, Saves}
use Rattle.hs_receipts.specs.declared.answers.MessageId.{MessageId}
use Rattle.hs_hub.specs.Hub.{PlainHub, room, after_hear, after_told, after_page, after_standing, after_next, after_pass, answer_to_take, after_take, after_saved, after_named}

pub data HubAct : Type 0 where
  Hears : (node : NodeId) (epoch : ℕ) → HubAct
  Tells : (message : MessageId) (told : Told) → HubAct
  Reports : (message : MessageId) (trace : TraceId) (key : PageKey) (bytes : List ℕ) → HubAct
  Says : (message : MessageId) (standing : Standing) → HubAct
  Asks : HubAct
  Passes : HubAct
  Gives : HubAct
  LetsGo : HubAct
  Names : HubAct

abbrev pub after : PlainHub → HubAct → PlainHub
after h (Hears node epoch) = after_hear h node epoch
after h (Tells message told) = after_told h message told
after h (Reports message trace key bytes) = after_page h message trace key bytes
after h (Says message standing) = after_standing h message standing
after h Asks = after_next h
after h Passes = after_pass h
after h Gives = after_take h
after h LetsGo = after_saved h
after h Names = after_named h

abbrev pub life : PlainHub → List HubAct → PlainHub
life h [] = h
life h (act ∷ acts) = life (after h act) acts

-- ---- what a call means for the pages

abbrev pub offers : Option TraceId → List TraceDeed
offers None = []
offers (Some trace) = Offers trace ∷ []

abbrev pub saves : Option TraceId → List TraceDeed
saves None = []
saves (Some trace) = Saves trace ∷ []

-- a page comes where its node is there and its message may be kept
abbrev pub deeds_of : PlainHub → HubAct → List TraceDeed
deeds_of h (Hears node epoch) = []
deeds_of h (Tells message told) = []
deeds_of h (Reports message trace key bytes) = if nat_le h.limits.nodes message.node || room h == 0 then [] else Comes (record { trace = trace; key = key; bytes = bytes }) ∷ []
deeds_of h (Says message standing) = []
deeds_of h Asks = []
deeds_of h Passes = []
deeds_of h Gives = offers (answer_to_take h)
deeds_of h LetsGo = saves h.receipts.out
deeds_of h Names = []

abbrev pub all_deeds : PlainHub → List HubAct → List TraceDeed
all_deeds h [] = []
all_deeds h (act ∷ acts) = deeds_of h act ++ all_deeds (after h act) acts
