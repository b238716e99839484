use Rattle.std.proofs.Common.{List, [], ◌∷◌, sym, subst, refl}
use Rattle.hs_board.specs.declared.progress.Progress.{Progress}
use Rattle.hs_board.specs.Shown.{IsLast}
use Rattle.hs_board.specs.Watching.{Watching, Watches, KeepsNotes}
use Rattle.hs_board.proofs.Fronts.{itself}
use Rattle.hs_board.proofs.Kept.{look_same, look_noted}
use Rattle.hs_board.proofs.watcher.Watcher.look.Goals as goal

pub returns-then-is_new-clause-watches : goal.returns-then-is_new-clause-watches
returns-then-is_new-clause-watches c = λ shown w.
    look_noted shown (record { looking = c.self.inside.reader; seen = c.self.inside.seen.items; room = c.self.inside.seen.room })
    (record { looking = c.look-now.new.self; seen = c.push.new.self.items; room = c.push.new.self.room }) c.look-now.result c.look-now.ensures.is (subst (λ (v : Watching). Watches shown v) (sym c.self.view_is) w) c.look-now.ensures.known
    c.look-now.ensures.shown c.look-now.ensures.rises (λ last is. c.is_new.ensures.new c.if-is_new.true last (subst (λ (l : List Progress). IsLast last l) (sym c.as_slice.ensures) is)) c.push.ensures.items

pub returns-else-is_new-clause-watches : goal.returns-else-is_new-clause-watches
returns-else-is_new-clause-watches c = λ shown w.
    look_same shown (record { looking = c.self.inside.reader; seen = c.self.inside.seen.items; room = c.self.inside.seen.room })
    (record { looking = c.look-now.new.self; seen = c.self.inside.seen.items; room = c.self.inside.seen.room }) c.look-now.result c.look-now.ensures.is (subst (λ (v : Watching). Watches shown v) (sym c.self.view_is) w) c.look-now.ensures.known
    c.look-now.ensures.shown c.look-now.ensures.rises refl

pub returns-then-is_new-clause-keeps : goal.returns-then-is_new-clause-keeps
returns-then-is_new-clause-keeps c =
    subst (λ (v : Watching). KeepsNotes v (record { looking = c.look-now.new.self; seen = c.push.new.self.items; room = c.push.new.self.room })) c.self.view_is (c.look-now.result ∷ [], c.push.ensures.items)

pub returns-else-is_new-clause-keeps : goal.returns-else-is_new-clause-keeps
returns-else-is_new-clause-keeps c =
    subst (λ (v : Watching). KeepsNotes v (record { looking = c.look-now.new.self; seen = c.self.inside.seen.items; room = c.self.inside.seen.room })) c.self.view_is (itself c.self.inside.seen.items)
