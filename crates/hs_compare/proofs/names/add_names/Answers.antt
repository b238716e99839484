use Rattle.std.proofs.Common.{◌<◌, List, [], ◌∷◌, ◌++◌, length, map, take, sym, ap, ◌∙◌, arith, append_assoc}
use Rattle.hs_compare.proofs.Prelude.{NumberedEvent, name_at}
use Rattle.hs_compare.proofs.Named.{laterals_more, laterals_there}
use Rattle.hs_compare.proofs.names.add_names.Goals as goal
use Rattle.hs_compare.proofs.names.add_names.Goals.{in-Some+in_ok-append-2, in_default}

pub loop-place-preserved : goal.loop-place-preserved
loop-place-preserved c =
    let laterals = c.args.trigger.now.laterals in
    let place = c.loop-place.place in
    let lead = name_at c.args.number c.args.trigger.now.lead in
    let old = c.args.names.now.items in
    let within : place < length laterals = omega (arith, c.len-place-end.ensures.value) in
    elim c.match-get.branch [
      | in-Some+in_ok-append-2 w ↦
          rw w.names-is
          (w.in_ok-append-2.ensures.ok
          ∙ ap (λ (ns : List NumberedEvent). ns ++ w.naming-in-Some.result ∷ []) c.loop-place.invariant
          ∙ ap (λ (h : NumberedEvent). (old ++ lead ∷ map (name_at c.args.number) (take place laterals)) ++ h ∷ []) w.naming-in-Some.ensures
          ∙ append_assoc old (lead ∷ map (name_at c.args.number) (take place laterals)) (name_at c.args.number w.in-Some.trace ∷ [])
          ∙ ap (λ (ns : List NumberedEvent). old ++ lead ∷ ns) (sym (laterals_more c.args.number laterals place w.in-Some.trace w.in-Some.ensures)))
      | in_default w ↦ absurd (laterals_there laterals place within (sym (w.in_default.is) ∙ c.get.ensures))
    ]
