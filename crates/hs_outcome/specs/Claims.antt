-- What agents claimed, by their books.
use Rattle.std.specs.Prelude.{List, map}
use Rattle.std.specs.List.{flat_map}
use Rattle.hs_base.specs.declared.ids.TraceId.{TraceId}
use Rattle.hs_records.specs.declared.books.AgentBook.{AgentBook}
use Rattle.hs_records.specs.declared.books.Claim.{Claim}

abbrev pub claimed_by : AgentBook → List TraceId
claimed_by book = map (λ (claim : Claim). claim.trace) book.claims.items

abbrev pub all_claimed : List AgentBook → List TraceId
all_claimed agents = flat_map claimed_by agents
