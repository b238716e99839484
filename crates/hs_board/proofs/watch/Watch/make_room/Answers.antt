use Rattle.std.proofs.Common.{refl, sym, ap, subst, arith}
use Rattle.hs_board.specs.Watching.{Showing, WatchStands, KnowLast}
use Rattle.hs_board.specs.Looking.{Looking}
use Rattle.hs_board.proofs.Kept.{both, know_so, same_watches}
use Rattle.hs_board.proofs.watch.Watch.make_room.Goals as goal

pub returns-in_err-make_room-clause-last : goal.returns-in_err-make_room-clause-last
returns-in_err-make_room-clause-last c = λ h. know_so (record { shown = c.self.inside.writer; one = c.self.inside.one; other = c.self.inside.other }) (record { shown = c.self.inside.writer; one = c.make_room.new.self; other = c.self.inside.other }) refl (let e = ap (λ (l : Looking). l.latest.rounds) c.make_room.ensures.same.1 in omega (arith, e)) (omega arith) (subst (λ (v : Showing). KnowLast v) (sym c.self.view_is) h)

pub returns-clause-stands : goal.returns-clause-stands
returns-clause-stands c = λ h.
    both (record { shown = c.self.inside.writer; one = c.self.inside.one; other = c.self.inside.other }) (record { shown = c.self.inside.writer; one = c.make_room.new.self; other = c.make_room-2.new.self }) refl
    (λ shown w. same_watches shown c.self.inside.one c.make_room.new.self c.make_room.ensures.same.0 c.make_room.ensures.same.1 w)
    (λ shown w. same_watches shown c.self.inside.other c.make_room-2.new.self c.make_room-2.ensures.same.0 c.make_room-2.ensures.same.1 w) (subst (λ (v : Showing). WatchStands v) (sym c.self.view_is) h)

pub returns-clause-last : goal.returns-clause-last
returns-clause-last c = λ h. know_so (record { shown = c.self.inside.writer; one = c.self.inside.one; other = c.self.inside.other }) (record { shown = c.self.inside.writer; one = c.make_room.new.self; other = c.make_room-2.new.self }) refl (let e = ap (λ (l : Looking). l.latest.rounds) c.make_room.ensures.same.1 in omega (arith, e)) (let e = ap (λ (l : Looking). l.latest.rounds) c.make_room-2.ensures.same.1 in omega (arith, e)) (subst (λ (v : Showing). KnowLast v) (sym c.self.view_is) h)
