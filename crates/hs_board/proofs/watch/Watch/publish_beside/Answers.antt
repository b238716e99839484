use Rattle.std.proofs.Common.{sym, subst}
use Rattle.hs_board.specs.Watching.{Showing, WatchStands, BothKeepNotes, IsLater}
use Rattle.hs_board.proofs.Kept.{published}
use Rattle.hs_board.proofs.watch.Watch.publish_beside.Goals as goal

pub publish_and_look-requires-clause-later : goal.publish_and_look-requires-clause-later
publish_and_look-requires-clause-later g c κs within = subst (λ (v : Showing). IsLater c.args.progress v.shown) (sym c.self.view_is) c.requires.later

pub returns-clause-stands : goal.returns-clause-stands
returns-clause-stands g c = λ h.
    published c.publish_and_look.result (record { shown = c.self.inside.writer; one = c.self.inside.one; other = c.self.inside.other }) (record { shown = c.publish_and_look.new.writer; one = c.publish_and_look.new.one; other = c.publish_and_look.new.other }) c.args.progress c.publish_and_look.ensures.ok
    c.publish_and_look.ensures.err c.publish_and_look.ensures.looked.0.0 c.publish_and_look.ensures.looked.1.0 (subst (λ (v : Showing). WatchStands v) (sym c.self.view_is) h)

pub returns-clause-keeps : goal.returns-clause-keeps
returns-clause-keeps g c =
    subst (λ (v : Showing). BothKeepNotes v (record { shown = c.publish_and_look.new.writer; one = c.publish_and_look.new.one; other = c.publish_and_look.new.other })) c.self.view_is
    (c.publish_and_look.ensures.looked.0.1, c.publish_and_look.ensures.looked.1.1)
