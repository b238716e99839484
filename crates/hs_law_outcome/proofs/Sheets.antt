-- A page that an agent took stands at a place among its chunks.
use Rattle.std.proofs.Common.{◌≡◌, ℕ, suc, Bool, true, false, cond, List, [], ◌∷◌, refl, Some, filter, slice_get}
use Rattle.hs_law_outcome.proofs.Prelude.{AllByRecursion, all_each, Sheet, sheets_of, Taken, taken}

-- ---- what was taken is there

pub record IsTaken (taken : List Taken) (sheet : Sheet) : Type 0 where
  pub place : ℕ
  pub there : slice_get (sheets_of taken) place ≡ Some sheet

taken_case : (chunk : Taken) (taken : List Taken) (kept : List Sheet) (b : Bool) → AllByRecursion (IsTaken taken) kept → AllByRecursion (IsTaken (chunk ∷ taken)) (cond b (chunk.sheet ∷ kept) kept)
taken_case chunk taken kept true all = (record { place = 0; there = refl }, all_each (IsTaken taken) (IsTaken (chunk ∷ taken)) kept (λ sheet t. record { place = suc t.place; there = t.there }) all)
taken_case chunk taken kept false all = all_each (IsTaken taken) (IsTaken (chunk ∷ taken)) kept (λ sheet t. record { place = suc t.place; there = t.there }) all

-- some of the pages
pub filtered_taken : (test : Sheet → Bool) (taken : List Taken) → AllByRecursion (IsTaken taken) (filter test (sheets_of taken))
filtered_taken test [] = tt
filtered_taken test (chunk ∷ taken) = taken_case chunk taken (filter test (sheets_of taken)) (test chunk.sheet) (filtered_taken test taken)
