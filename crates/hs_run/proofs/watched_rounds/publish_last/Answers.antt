use Rattle.std.proofs.Common.{sym, subst, arith}
use Rattle.hs_run.proofs.Prelude.{Progress, IsLater}
use Rattle.hs_run.proofs.watched_rounds.publish_last.Goals as goal

pub publish-requires : goal.publish-requires
publish-requires g c =
    let no = c.if-made-eq0.false in
    subst (λ (p : Progress). IsLater p c.args.watch.now.shown) (sym c.progress-progress.ensures) (c.requires.show.later (omega (arith, no)))
