use Rattle.std.proofs.Common.{refl, sym, subst}
use Rattle.hs_board.specs.Watching.{Showing, WatchStands, KnowLast}
use Rattle.hs_board.proofs.Kept.{both, know_so}
use Rattle.hs_board.proofs.watch.Watch.look_once.Goals as goal

pub returns-clause-stands : goal.returns-clause-stands
returns-clause-stands c = λ h. both (record { shown = c.self.inside.writer; one = c.self.inside.one; other = c.self.inside.other }) (record { shown = c.self.inside.writer; one = c.look.new.self; other = c.look-2.new.self }) refl c.look.ensures.watches c.look-2.ensures.watches (subst (λ (v : Showing). WatchStands v) (sym c.self.view_is) h)

pub returns-clause-last : goal.returns-clause-last
returns-clause-last c = λ h. know_so (record { shown = c.self.inside.writer; one = c.self.inside.one; other = c.self.inside.other }) (record { shown = c.self.inside.writer; one = c.look.new.self; other = c.look-2.new.self }) refl c.look.ensures.rises c.look-2.ensures.rises (subst (λ (v : Showing). KnowLast v) (sym c.self.view_is) h)
