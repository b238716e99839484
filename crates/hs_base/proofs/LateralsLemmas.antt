-- A push keeps the zeros behind the laterals.
use Rattle.std.proofs.Common.{◌≡◌, ◌+◌, ◌-◌, ◌<◌, length, take, drop, replicate, set, sym, ap, ◌∙◌, arith, length-take-le}
use Rattle.std.proofs.lemmas.List.{length-set, drop-set-lt, drop-drop, drop-replicate}
use Rattle.hs_base.specs.declared.limits.TheConstants.{MAX_LATERALS}
use Rattle.hs_base.specs.declared.ids.TraceId.{TraceId}
use Rattle.hs_base.specs.declared.laterals.Laterals.TheInside.{Inside}
use Rattle.hs_base.specs.Laterals.{IsPadded, ids_of, no_trace}

pub IsPadded-push : (a : Inside) (t : TraceId) → IsPadded a → length (ids_of a) < MAX_LATERALS → IsPadded (record { ids = set a.ids a.len t; len = a.len + 1 })
IsPadded-push a t p room =
    let n : length (take a.len a.ids) ≡ a.len = length-take-le a.len a.ids (omega (arith, p.few, p.whole)) in
    let less : a.len < MAX_LATERALS = omega (arith, n, room) in
    let fewer : MAX_LATERALS - a.len - 1 ≡ MAX_LATERALS - (a.len + 1) = omega arith in
    record {
      few = omega (arith, less);
      whole = length-set a.ids a.len t ∙ p.whole;
      zeros =
          drop-set-lt (a.len + 1) a.ids a.len t (omega arith) ∙ sym (drop-drop 1 a.len a.ids) ∙ ap (drop 1) p.zeros ∙ drop-replicate 1 (MAX_LATERALS - a.len) no_trace
          ∙ ap (λ k. replicate k no_trace) fewer;
    }
