-- The traces that were saved last, the last one behind, each with how many parts of it were saved. Of a trace that is not among them it is
-- not known that it was saved.
use Rattle.std.specs.Prelude.{◌≡◌, ℕ, ◌+◌, ◌-◌, ◌^◌, min, Bool, not, List, [], ◌∷◌, ◌++◌, length, drop, filter, find, refl}
use Rattle.std.specs.Option.{option_map_or}
use Rattle.hs_base.specs.declared.ids.TraceId.{TraceId}
use Rattle.hs_base.specs.Ids.{same_trace}
use Rattle.hs_base.specs.Samples.{t}

pub record PlainSaved : Type 0 where
  pub most : ℕ
  pub traces : List (TraceId × ℕ)

abbrev pub no_saved : ℕ → PlainSaved
no_saved most = record { most = most; traces = [] }

-- how many parts of a trace were saved
abbrev pub is_of : TraceId → TraceId × ℕ → Bool
is_of trace entry = same_trace trace entry.0

abbrev pub parts_of : PlainSaved → TraceId → ℕ
parts_of s trace = option_map_or (λ (entry : TraceId × ℕ). entry.1) (find (is_of trace) s.traces) 0

abbrev pub without : TraceId → List (TraceId × ℕ) → List (TraceId × ℕ)
without trace traces = filter (λ entry. not (is_of trace entry)) traces

-- the last ones, at most so many
abbrev pub last_of : ℕ → List (TraceId × ℕ) → List (TraceId × ℕ)
last_of most traces = drop (length traces - most) traces

-- one more part of a trace was saved
abbrev pub noted : PlainSaved → TraceId → PlainSaved
noted s trace = record s { traces = last_of s.most (without trace s.traces ++ (trace, min (parts_of s trace + 1) (2 ^ 32 - 1)) ∷ []) }

-- ---- worked examples: of two traces

abbrev two : PlainSaved
two = noted (noted (noted (no_saved 2) (t 8)) (t 9)) (t 8)

counted : (parts_of two (t 8) ≡ 2) × (parts_of two (t 9) ≡ 1) × (parts_of two (t 7) ≡ 0)
counted = (refl, refl, refl)

-- trace 9 was saved before trace 8 was once more: so it goes
the_first_goes : (parts_of (noted two (t 7)) (t 9) ≡ 0) × (parts_of (noted two (t 7)) (t 8) ≡ 2) × (parts_of (noted (no_saved 0) (t 7)) (t 7) ≡ 0)
the_first_goes = (refl, refl, refl)
