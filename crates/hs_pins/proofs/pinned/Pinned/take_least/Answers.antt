use Rattle.std.proofs.Common.{Some, List, ◌∷◌, length, drop, sym, ap, subst, ◌∙◌, arith}
use Rattle.hs_pins.proofs.Prelude.{slice_get, length-map, sum_by-cons, values_of, HaveChunks, Groups, count_of, Buffer, buffer_of}
use Rattle.hs_pins.proofs.Lanes.{kept-rest}
use Rattle.hs_pins.proofs.pinned.Pinned.take_least.Goals as goal

pub invariant_of-self-2 : goal.invariant_of-self-2
invariant_of-self-2 g c =
    rw c.len.ensures
    (kept-rest c.in_ok-priority.priority c.in_ok-priority.pile c.self.inside.groups.entries _ c.self.inside.chunks c.self.invariant c.in_ok-priority.ensures.removal)

pub returns-clause-least : goal.returns-clause-least
returns-clause-least g c =
    ap (λ (chunks : List (Buffer g.row.L.Denot)). Some (c.in_ok-priority.priority, chunks)) c.into_list.ensures
    ∙ sym (ap (λ (groups : Groups g.row.L.Denot). slice_get groups 0) (sym c.self.view_is ∙ c.in_ok-priority.ensures.removal))

pub returns-clause-rest : goal.returns-clause-rest
returns-clause-rest g c = sym (ap (λ (groups : Groups g.row.L.Denot). drop 1 groups) (sym c.self.view_is ∙ c.in_ok-priority.ensures.removal))

pub returns-clause-count : goal.returns-clause-count
returns-clause-count g c =
    let groups : Groups g.row.L.Denot = c.pop_first.new.self.entries in
    let all = ap (λ (gs : Groups g.row.L.Denot). count_of gs) (sym c.self.view_is ∙ c.in_ok-priority.ensures.removal) ∙ sum_by-cons (λ (chunks : List (Buffer g.row.L.Denot)). length chunks) c.in_ok-priority.pile (values_of groups) in
    let size = sym (length-map c.into_list.result.items (buffer_of {L = g.row.L.Denot} {g = g.L.Token})) ∙ ap (λ (l : List (Buffer g.row.L.Denot)). length l) c.into_list.ensures in
    omega (arith, all, size)

pub returns-clause-some : goal.returns-clause-some
returns-clause-some g c =
    let some : HaveChunks ((c.in_ok-priority.priority, c.in_ok-priority.pile) ∷ c.pop_first.new.self.entries) = subst (λ (gs : Groups g.row.L.Denot). HaveChunks gs) c.in_ok-priority.ensures.removal c.self.invariant.counted.some in
    let size = sym (length-map c.into_list.result.items (buffer_of {L = g.row.L.Denot} {g = g.L.Token})) ∙ ap (λ (l : List (Buffer g.row.L.Denot)). length l) c.into_list.ensures in
    omega (arith, some.0, size)

pub returns-clause-none : goal.returns-clause-none
returns-clause-none g c = tt
