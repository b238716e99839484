use Rattle.std.proofs.Common.{sym, subst, arith}
use Rattle.hs_run.proofs.Prelude.{Progress, IsLater}
use Rattle.hs_run.proofs.watched_rounds.act_watched.Goals as goal

pub act_and_publish-requires-clause-later : goal.act_and_publish-requires-clause-later
act_and_publish-requires-clause-later g c κs within =
    let no = c.if-made-eq0.false in
    subst (λ (p : Progress). IsLater p c.args.watch.now.shown) (sym c.progress-progress.ensures) (c.requires.show.later (omega (arith, no)))
