-- What stays while a place is looked for.
use Rattle.std.proofs.Common.{◌≡◌, ℕ, zero, suc, ◌-◌, ◌<◌, Bool, true, false, length, Option, Some, None, is_some, refl, sym, ap, arith, ◌∙◌}
use Rattle.std.specs.Prelude.{if◌then◌else◌}
use Rattle.std.specs.Option.{option_map_or}
use Rattle.lru.specs.LruCache.{promoted, last_entry}
use Rattle.hs_base.specs.declared.ids.TraceId.{TraceId}
use Rattle.hs_base.specs.Ids.{same_trace}
use Rattle.hs_whole.specs.declared.answers.TheConstants.{MOST_LOOKS}
use Rattle.hs_whole.specs.declared.kept.Kept.{Kept}
use Rattle.hs_whole.specs.Notes.{PlainNotes, kept_of, has_place, turned, looked, searched}
use Rattle.hs_whole.proofs.Looking.{found-promoted, length-promoted}

-- another order of the same traces
pub record IsReordered (s s' : PlainNotes) : Type 0 where
  pub limits : s'.limits ≡ s.limits
  pub heard : s'.heard ≡ s.heard
  pub horizon : s'.horizon ≡ s.horizon
  pub tracks : s'.tracks ≡ s.tracks
  pub long : length s'.traces ≡ length s.traces
  pub kept : (trace : TraceId) → kept_of s' trace ≡ kept_of s trace

same_order : (s : PlainNotes) → IsReordered s s
same_order s = record { limits = refl; heard = refl; horizon = refl; tracks = refl; long = refl; kept = λ trace. refl }

reordered_turned : (s : PlainNotes) → IsReordered s (turned s)
reordered_turned s = at (last_entry s.traces)
  where
    at : (o : Option (TraceId × Kept)) → IsReordered s (option_map_or (λ (last : TraceId × Kept). record s { traces = promoted (same_trace last.0) s.traces }) o s)
    at None = same_order s
    at (Some last) = record { limits = refl; heard = refl; horizon = refl; tracks = refl; long = length-promoted last.0 s.traces; kept = λ trace. found-promoted trace last.0 s.traces }

both_orders : (s s' s'' : PlainNotes) → IsReordered s s' → IsReordered s' s'' → IsReordered s s''
both_orders s s' s'' one two = record {
  limits = two.limits ∙ one.limits;
  heard = two.heard ∙ one.heard;
  horizon = two.horizon ∙ one.horizon;
  tracks = two.tracks ∙ one.tracks;
  long = two.long ∙ one.long;
  kept = λ trace. two.kept trace ∙ one.kept trace;
}

pub reordered_looked : (n : ℕ) (s : PlainNotes) → IsReordered s (looked n s)
unfolding looked
reordered_looked zero s = same_order s
reordered_looked (suc n) s = at (has_place s) (both_orders s (turned s) (looked n (turned s)) (reordered_turned s) (reordered_looked n (turned s)))
  where
    at : (b : Bool) → IsReordered s (looked n (turned s)) → IsReordered s (if b then s else looked n (turned s))
    at true rest = same_order s
    at false rest = rest

pub reordered_searched : (s : PlainNotes) (trace : TraceId) → IsReordered s (searched s trace)
reordered_searched s trace = at (is_some (kept_of s trace))
  where
    at : (b : Bool) → IsReordered s (if b then s else looked MOST_LOOKS s)
    at true = same_order s
    at false = reordered_looked MOST_LOOKS s

-- ---- the loop

pub turned_to : (s : PlainNotes) (last : TraceId × Kept) → last_entry s.traces ≡ Some last → record s { traces = promoted (same_trace last.0) s.traces } ≡ turned s
turned_to s last is = ap (λ o. option_map_or (λ (e : TraceId × Kept). record s { traces = promoted (same_trace e.0) s.traces }) o s) (sym is)

pub look_done : (n : ℕ) (s : PlainNotes) → has_place s ≡ true → looked n s ≡ s
unfolding looked
look_done zero s is = refl
look_done (suc n) s is = ap (λ b. if b then s else looked n (turned s)) is

pub look_on : (n : ℕ) (s : PlainNotes) → has_place s ≡ false → 0 < n → looked n s ≡ looked (n - 1) (turned s)
unfolding looked
look_on zero s is some = absurd (omega (arith, some))
look_on (suc n) s is some = ap (λ b. if b then s else looked n (turned s)) is ∙ ap (λ m. looked m (turned s)) (omega arith)

pub look_none : (s : PlainNotes) → looked 0 s ≡ s
unfolding looked
look_none s = refl
