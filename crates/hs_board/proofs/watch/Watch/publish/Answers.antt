use Rattle.std.proofs.Common.{sym, subst}
use Rattle.hs_board.specs.Watching.{Showing, WatchStands, IsLater}
use Rattle.hs_board.proofs.Kept.{published}
use Rattle.hs_board.proofs.watch.Watch.publish.Goals as goal

pub publish-requires : goal.publish-requires
publish-requires g c = subst (λ (v : Showing). IsLater c.args.progress v.shown) (sym c.self.view_is) c.requires

pub returns-clause-stands : goal.returns-clause-stands
returns-clause-stands g c = λ h. published c.publish.result (record { shown = c.self.inside.writer; one = c.self.inside.one; other = c.self.inside.other }) (record { shown = c.publish.new.writer; one = c.self.inside.one; other = c.self.inside.other }) c.args.progress c.publish.ensures.ok c.publish.ensures.err (λ shown w. w) (λ shown w. w) (subst (λ (v : Showing). WatchStands v) (sym c.self.view_is) h)
