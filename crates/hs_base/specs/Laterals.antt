-- How the laterals lie in their array: from its front, and zeros behind them.
use Rattle.std.specs.Prelude.{◌≡◌, ℕ, ◌-◌, ◌≤◌, List, ◌++◌, length, take, drop, replicate}
use Rattle.std.proofs.Common.{sym, ap, ◌∙◌, arith, take-append-drop}
use Rattle.std.proofs.lemmas.List.{length-take-le}
use Rattle.hs_base.specs.declared.ids.TraceId.{TraceId}
use Rattle.hs_base.specs.declared.limits.TheConstants.{MAX_LATERALS}
use Rattle.hs_base.specs.declared.laterals.Laterals.TheInside.{Inside}

abbrev pub no_trace : TraceId
no_trace = record { 0 = 0 }

abbrev pub ids_of : Inside → List TraceId
ids_of a = take a.len a.ids

-- zeros fill the array behind the laterals
pub record IsPadded (a : Inside) : Type 0 where
  pub few : a.len ≤ MAX_LATERALS
  pub whole : length a.ids ≡ MAX_LATERALS
  pub zeros : drop a.len a.ids ≡ replicate (MAX_LATERALS - a.len) no_trace

abbrev pub padded : List TraceId → Inside
padded xs = record { ids = xs ++ replicate (MAX_LATERALS - length xs) no_trace; len = length xs }

pub padded-ids_of : (a : Inside) → IsPadded a → padded (ids_of a) ≡ a
padded-ids_of a p =
    let n : length (take a.len a.ids) ≡ a.len = length-take-le a.len a.ids (omega (arith, p.few, p.whole)) in
    let xs : take a.len a.ids ++ replicate (MAX_LATERALS - length (take a.len a.ids)) no_trace ≡ a.ids = rw n (ap (λ zs. take a.len a.ids ++ zs) (sym p.zeros) ∙ take-append-drop a.len a.ids) in
    ap (λ (q : List TraceId × ℕ). record { ids = q.0; len = q.1 }) (λ i. (xs i, n i))
