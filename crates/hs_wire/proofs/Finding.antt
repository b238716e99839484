-- What reading all of the bytes answers.
use Rattle.std.proofs.Common.{◌≡◌, ◌≢◌, ℕ, List, Option, Some, None, sym, ◌∙◌}
use Rattle.hs_wire.proofs.Prelude.{IsBytes, PlainMessage, IsMessage, message_bytes, plain, all, message_at}
use Rattle.std.specs.Prelude.{IfSome, IfNone}
use Rattle.hs_wire.specs.declared.message.Message.{Message}
use Rattle.hs_wire.specs.Reading.{Gives}
use Rattle.hs_wire.proofs.Spellings.{what_is_read, what_is_spelled}

pub found : (bytes : List ℕ) (r : Option Message) → IsBytes bytes → Gives plain r (all message_at bytes) → IfSome r (λ m. IsMessage (plain m) × (bytes ≡ message_bytes (plain m)))
found bytes (Some m) fits given = what_is_read bytes (plain m) fits given
found bytes None fits given = tt

pub given_again : (bytes : List ℕ) (r : Option Message) → Gives plain r (all message_at bytes) → (m : PlainMessage) → IsMessage m → bytes ≡ message_bytes m → Gives plain r (Some m)
given_again bytes (Some x) given m fits spelled = sym (what_is_spelled bytes m fits spelled) ∙ given
given_again bytes None given m fits spelled = sym (what_is_spelled bytes m fits spelled) ∙ given

pub nothing : (bytes : List ℕ) (r : Option Message) → Gives plain r (all message_at bytes) → IfNone r ((m : PlainMessage) → IsMessage m → message_bytes m ≢ bytes)
nothing bytes (Some x) given = tt
nothing bytes None given = λ m fits spelled. let e = sym (what_is_spelled bytes m fits (sym spelled)) ∙ given in absurd cc
