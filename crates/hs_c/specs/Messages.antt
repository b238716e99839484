-- What C is told of messages: how one begins, and that bytes spell none.
use Rattle.std.specs.Prelude.{◌≢◌, ℕ, List}
use Rattle.hs_wire.specs.Messages.{PlainMessage, IsMessage, message_bytes, kind_of}
use Rattle.hs_c.specs.declared.messages.HindHead.{HindHead}

-- no message has these bytes
abbrev pub SpellsNone : List ℕ → Type 0
SpellsNone bytes = (m : PlainMessage) → IsMessage m → message_bytes m ≢ bytes

-- the front of a message
abbrev pub head_of : PlainMessage → HindHead
head_of m = record { kind = kind_of m.said; node = m.head.node.0; epoch = m.head.epoch; number = m.head.number }
