-- Which records a list of marks chooses, one mark for each, with their traces and bytes.
use Rattle.std.specs.Prelude.{ℕ, Bool, List, [], ◌∷◌, map, sum_by, if◌then◌else◌}
use Rattle.hs_base.specs.declared.ids.TraceId.{TraceId}
use Rattle.hs_compare.specs.declared.coming.Coming.{Coming}

abbrev pub marked : List Bool → List Coming → List Coming
marked (mark ∷ marks) (c ∷ records) = if mark then c ∷ marked marks records else marked marks records
marked _ _ = []

abbrev pub traces_of : List Coming → List TraceId
traces_of records = map (λ (c : Coming). c.trace) records

abbrev pub bytes_in : List Coming → ℕ
bytes_in records = sum_by (λ (c : Coming). c.bytes) records
