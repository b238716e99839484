-- The entries of a ledger that its reports are written from: those of the claimed traces. An entry that says reported stays whatever
-- its trace, so that what stays says of each record whether it was reported.
use Rattle.std.specs.Prelude.{◌≡◌, ◌||◌, Bool, List, [], ◌∷◌, map, filter, refl}
use Rattle.hs_base.specs.declared.ids.TraceId.{TraceId}
use Rattle.hs_base.specs.Ids.{is_among}
use Rattle.hs_ledger.specs.declared.ledger.Entry.{Entry}
use Rattle.hs_ledger.specs.Totals.{is_reported}
use Rattle.hs_outcome.specs.declared.outcome.Outcome.{Outcome}
use Rattle.hs_report.specs.Fates.{two_traces}

-- whether an entry stays, where these traces were claimed
abbrev pub is_kept : List TraceId → Entry → Bool
is_kept claimed entry = is_among claimed entry.trace || is_reported entry.fate

-- what stays of an outcome's entries
abbrev pub kept_of : Outcome → List Entry
kept_of outcome = filter (is_kept outcome.claimed.items) outcome.ledger.entries.items

-- worked example: of two traces the entries of the one that was claimed
kept_of_one : map (λ (entry : Entry). entry.id.number) (filter (is_kept (record { 0 = 9 } ∷ [])) two_traces) ≡ 0 ∷ 2 ∷ []
kept_of_one = refl

none_kept : filter (is_kept []) two_traces ≡ []
none_kept = refl
