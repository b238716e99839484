use Rattle.std.proofs.Common.{Result, Ok, Err, IfOk, sym}
use Rattle.hs_wire.specs.Messages.{plain}
use Rattle.hs_hub.proofs.hub.Hub.deliver.Goals as goal

always : {A E : Type 0} (r : Result A E) (P : A → Type 0) → ((x : A) → P x) → IfOk r P
always (Ok x) P all = all x
always (Err e) P all = tt

-- bytes that were read spell a message
pub returns-in-Some-clause-none : goal.returns-in-Some-clause-none
returns-in-Some-clause-none c = always c.take_message.result _ (λ delivered nothing. absurd (nothing (plain c.in-Some.message) c.in-Some.ensures.some.0 (sym c.in-Some.ensures.some.1)))
