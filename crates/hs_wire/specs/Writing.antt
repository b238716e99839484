-- What writing changes, and how much a message takes.
use Rattle.std.specs.Prelude.{◌≡◌, ℕ, ◌+◌, ◌*◌, ◌<◌, ◌≤◌, List, ◌++◌, length, take, drop, [], ◌∷◌, refl}
use Rattle.std.proofs.Common.{lit≤}
use Rattle.hs_base.specs.declared.limits.TheConstants.{MOST_NODES}
use Rattle.hs_wire.specs.declared.message.TheConstants.{MOST_NAME, MOST_PAGE}
use Rattle.hs_wire.specs.Messages.{Said, SaysHello, SaysTold, SaysAsk, SaysReported, SaysStanding, PlainMessage}

-- These bytes stand from one place up to another, and all else stands as it stood.
pub record Puts (old new : List ℕ) (at end : ℕ) (bytes : List ℕ) : Type 0 where
  pub end_is : end ≡ at + length bytes
  pub room : end ≤ length old
  pub new_is : new ≡ take at old ++ (bytes ++ drop end old)

-- The group's node is below 128, and the name or the page is not too long.
abbrev pub IsWithin : Said → Type 0
IsWithin (SaysHello h) = length h.name ≤ MOST_NAME
IsWithin (SaysTold t) = t.group.id.node < MOST_NODES
IsWithin (SaysAsk a) = a.group.id.node < MOST_NODES
IsWithin (SaysReported r) = (r.group.id.node < MOST_NODES) × (length r.page ≤ MOST_PAGE)
IsWithin (SaysStanding s) = s.group.node < MOST_NODES

-- A message of which this holds, and the node of its head is below 128, has a spelling.
abbrev pub HasSpelling : PlainMessage → Type 0
HasSpelling m = (m.head.node.0 < MOST_NODES) × IsWithin m.said

-- how many bytes it takes
abbrev pub said_len : Said → ℕ
said_len (SaysHello h) = 33 + length h.name
said_len (SaysTold t) = 41 + 16 * length t.laterals
said_len (SaysAsk a) = 24 + 16 * length a.laterals
said_len (SaysReported r) = 35 + length r.page
said_len (SaysStanding s) = 131

abbrev pub message_len : PlainMessage → ℕ
message_len m = 20 + said_len m.said

-- ---- examples

-- two bytes are put between the first and the last
two_are_put : Puts (1 ∷ 2 ∷ 3 ∷ 4 ∷ []) (1 ∷ 8 ∷ 9 ∷ 4 ∷ []) 1 3 (8 ∷ 9 ∷ [])
two_are_put = record { end_is = refl; room = lit≤ tt; new_is = refl }
