-- What a point is told of the pool: whether a draw of this point found it empty. Draws are those of the client's core, which a point does not
-- renew.
use Rattle.std.specs.Prelude.{◌≡◌, ◌<◌, ◌≤◌, List, [], ◌∷◌, refl}
use Rattle.std.proofs.Common.{lit≤}
use Rattle.hs_base.specs.declared.ids.ClientId.{ClientId}
use Rattle.hs_client.specs.Core.{Core, bare_core}
use Rattle.hs_records.specs.declared.journal.Draw.{Draw}
use Rattle.hs_records.specs.declared.journal.Draw.TheVariants as draws
use Rattle.hs_ring.specs.Parts.{Leased}
use Rattle.hs_node_client.specs.Clients.{nulls_of}
use Rattle.hs_node_client.specs.declared.answers.CallAnswer.{CallAnswer}
use Rattle.hs_node_client.specs.declared.answers.CallAnswer.TheVariants as called
use Rattle.hs_node_client.specs.declared.answers.PointAnswer.{PointAnswer}
use Rattle.hs_node_client.specs.declared.answers.PointAnswer.TheVariants as pointed

-- the answer where nobody asks whether the pool was empty
abbrev pub called_of : PointAnswer → CallAnswer
called_of pointed.Done = called.Done
called_of pointed.Dry = called.Done
called_of pointed.NoTrace = called.NoTrace
called_of pointed.TooWide = called.TooWide
called_of pointed.Full = called.Full
called_of pointed.Spent = called.Spent

-- Of the draws of a core, more have found the pool empty than before.
abbrev pub FoundDry : Core Leased → Core Leased → Type 0
FoundDry old new = nulls_of old < nulls_of new

-- A point that is done is dry if one of its draws found the pool empty, and only then. One that is not done changes no core.
abbrev pub DriesBy : PointAnswer → Core Leased → Core Leased → Type 0
DriesBy pointed.Done old new = nulls_of new ≤ nulls_of old
DriesBy pointed.Dry old new = FoundDry old new
DriesBy pointed.NoTrace old new = new ≡ old
DriesBy pointed.TooWide old new = new ≡ old
DriesBy pointed.Full old new = new ≡ old
DriesBy pointed.Spent old new = new ≡ old

-- ---- examples

-- a core whose draws these are
abbrev with_draws : ClientId → List Draw → Core Leased
with_draws client drawn = record (bare_core client 64 100) { draws = drawn }

-- The second draw of two finds the pool empty. A point that drew once more and got a buffer is not dry, one that got none is.
abbrev two_draws : ClientId → Core Leased
two_draws client = with_draws client (draws.Got 3 7 ∷ draws.Empty 8 ∷ [])

one_null : (client : ClientId) → nulls_of (two_draws client) ≡ 1
one_null client = refl

is_done : (client : ClientId) → DriesBy pointed.Done (two_draws client) (with_draws client (draws.Got 3 7 ∷ draws.Empty 8 ∷ draws.Got 4 9 ∷ []))
is_done client = lit≤ tt

is_dry : (client : ClientId) → DriesBy pointed.Dry (two_draws client) (with_draws client (draws.Got 3 7 ∷ draws.Empty 8 ∷ draws.Empty 9 ∷ []))
is_dry client = lit≤ tt
