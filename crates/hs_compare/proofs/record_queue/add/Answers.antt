use Rattle.std.proofs.Common.{◌≡◌, ◌∷◌, [], ◌++◌, Some, ap, ◌∙◌, arith}
use Rattle.std.proofs.lemmas.Grind.{common_steps}
use Rattle.hs_compare.proofs.Prelude.{unwrap_or, lookup, on_ok_map, queued}
use Rattle.hs_base.proofs.Options.{on_err_map}
use Rattle.hs_compare.proofs.Firsts.{cond_both}
use Rattle.hs_compare.proofs.Queued.{is_key, changed}
use Rattle.hs_compare.proofs.record_queue.add.Goals as goal

pub returns-clause-ok : goal.returns-clause-ok
returns-clause-ok c =
    let had : c.or_insert-queue.result.now ≡ queued c.args.queues.now.entries c.args.trace =
    c.or_insert-queue.ensures.value ∙ ap (λ o. unwrap_or o c.new.result) c.in-Ok.ensures.value ∙ ap (unwrap_or (lookup (is_key c.args.trace) c.args.queues.now.entries)) c.new.ensures in
    on_ok_map c.push.result _ _
    (λ is.
    changed (λ q. q ++ c.args.id ∷ []) c.args.queues.now.entries _ c.args.trace (Some c.push.new.self)
    (λ q. let written = (c.in-Ok.ensures.update.0 c.push.new.self).0 q in grind (arith, common_steps))
    (is ∙ ap (λ q. q ++ c.args.id ∷ []) had))
    c.push.ensures.ok

pub returns-clause-err : goal.returns-clause-err
returns-clause-err c =
    let had : c.or_insert-queue.result.now ≡ queued c.args.queues.now.entries c.args.trace =
    c.or_insert-queue.ensures.value ∙ ap (λ o. unwrap_or o c.new.result) c.in-Ok.ensures.value ∙ ap (unwrap_or (lookup (is_key c.args.trace) c.args.queues.now.entries)) c.new.ensures in
    on_err_map c.push.result _ _
    (λ same t.
    changed (λ q. q) c.args.queues.now.entries _ c.args.trace (Some c.push.new.self)
    (λ q. let written = (c.in-Ok.ensures.update.0 c.push.new.self).0 q in grind (arith, common_steps))
    (same ∙ had) t
    ∙ cond_both _ (queued c.args.queues.now.entries t))
    c.push.ensures.err
