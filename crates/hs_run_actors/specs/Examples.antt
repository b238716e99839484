-- A client with two rounds of three operations: what is done behind each, and what the links of an example were given.
use Rattle.std.specs.Prelude.{◌≡◌, ℕ, List, [], ◌∷◌, length, refl}
use Rattle.hs_base.specs.Samples.{owner}
use Rattle.hs_records.specs.declared.journal.Draw.{Draw}
use Rattle.hs_records.specs.declared.journal.Draw.TheVariants.{Got, Empty}
use Rattle.hs_client.specs.Draws.{count_started}
use Rattle.hs_client.specs.Samples.{plain, two_fills}
use Rattle.hs_client.specs.Sending.{sends_of, sent_within}
use Rattle.hs_client.specs.SoFar.{done_behind}
use Rattle.hs_run_actors.specs.Standing.{sheets_in}

-- a stride of three: three operations, then all five, and no more
strides : (done_behind 3 0 two_fills ≡ 3) × (done_behind 3 3 two_fills ≡ 5) × (done_behind 3 5 two_fills ≡ 5)
strides = (refl, refl, refl)

abbrev given : ℕ → List Draw → ℕ
given done draws = length (sheets_in (sent_within done (sends_of plain owner two_fills draws).chunks))

-- behind the first round one page is started and none is sent, whatever is drawn later; behind the second both are
chunks_by_round : (given 3 (Got 5 0 ∷ []) ≡ 0) × (given 3 (Got 5 0 ∷ Got 7 1 ∷ []) ≡ 0) × (given 5 (Got 5 0 ∷ Got 7 1 ∷ []) ≡ 2) × (given 5 (Empty 0 ∷ Got 7 1 ∷ []) ≡ 1)
chunks_by_round = (refl, refl, refl, refl)

draws_by_round : (count_started 64 two_fills 3 ≡ 1) × (count_started 64 two_fills 5 ≡ 2)
draws_by_round = (refl, refl)

crumbs_by_round : (length (sent_within 2 (sends_of plain owner two_fills []).crumbs) ≡ 0) × (length (sent_within 3 (sends_of plain owner two_fills []).crumbs) ≡ 1)
crumbs_by_round = (refl, refl)
