-- What a step does to one node's bits.
use Rattle.std.proofs.Common.{◌≡◌, Bool, true, false, not, ◌||◌, ◌&&◌, refl, true≢false}

-- the node's bit of the asks: it has an ask now, and had none before
pub ask_bit : (first told now : Bool) → (now && not (first || told)) ≡ (((told || now) && not first) && not (told && not first))
ask_bit true true true = refl
ask_bit true true false = refl
ask_bit true false true = refl
ask_bit true false false = refl
ask_bit false true true = refl
ask_bit false true false = refl
ask_bit false false true = refl
ask_bit false false false = refl

-- the node's bit of those that wait: it has an ask that no message answered yet
pub waiting_bit : (first told answered answers now : Bool) → (told ≡ false → answered ≡ false)
    → ((((told && not first) && not answered) && not answers) || (now && not (first || told))) ≡ (((told || now) && not first) && not (answered || ((told && not first) && answers)))
waiting_bit true true true answers true h = refl
waiting_bit true true true answers false h = refl
waiting_bit true true false answers true h = refl
waiting_bit true true false answers false h = refl
waiting_bit true false true answers true h = refl
waiting_bit true false true answers false h = refl
waiting_bit true false false answers true h = refl
waiting_bit true false false answers false h = refl
waiting_bit false true true answers true h = refl
waiting_bit false true true answers false h = refl
waiting_bit false true false true true h = refl
waiting_bit false true false true false h = refl
waiting_bit false true false false true h = refl
waiting_bit false true false false false h = refl
waiting_bit false false true answers now h = absurd (true≢false (h refl))
waiting_bit false false false answers true h = refl
waiting_bit false false false answers false h = refl
