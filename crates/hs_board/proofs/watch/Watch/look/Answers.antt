use Rattle.std.proofs.Common.{refl, sym, subst}
use Rattle.hs_board.specs.Watching.{Showing, WatchStands, BothKeepNotes}
use Rattle.hs_board.proofs.Kept.{both}
use Rattle.hs_board.proofs.watch.Watch.look.Goals as goal

pub returns-clause-stands : goal.returns-clause-stands
returns-clause-stands g c = λ h. both (record { shown = c.self.inside.writer; one = c.self.inside.one; other = c.self.inside.other }) (record { shown = c.self.inside.writer; one = c.look_both.new.one; other = c.look_both.new.other }) refl c.look_both.ensures.0.0 c.look_both.ensures.1.0 (subst (λ (v : Showing). WatchStands v) (sym c.self.view_is) h)

pub returns-clause-keeps : goal.returns-clause-keeps
returns-clause-keeps g c = subst (λ (v : Showing). BothKeepNotes v (record { shown = c.self.inside.writer; one = c.look_both.new.one; other = c.look_both.new.other })) c.self.view_is (c.look_both.ensures.0.1, c.look_both.ensures.1.1)
