use Rattle.std.proofs.Common.{IsSome, map, sym, ap, subst, ◌∙◌}
use Rattle.std.proofs.lemmas.Result.{IfOk-weaker}
use Rattle.hs_pins.proofs.Prelude.{IsStrictlySortedBy, insert_entry, lookup, keys_of, buffer_of, priority_cmp, same_priority, Groups}
use Rattle.hs_pins.proofs.GroupLemmas.{nothing-lost, some-found}
use Rattle.hs_pins.proofs.Lanes.{sorted_insert}
use Rattle.hs_pins.proofs.Opened.{pile_back, pile_new, found_inserted}
use Rattle.hs_pins.proofs.pinned.opened.open_pile.Goals as goal

pub returns-in-Some-clause-pile : goal.returns-in-Some-clause-pile
returns-in-Some-clause-pile g c =
    let es = c.args.groups.now.entries in
    let found = sym c.in-Some.ensures.value in
    IfOk-weaker c.take_all.result _ _
    (λ pile all. pile_back c.args.priority es _ c.in-Some.pile.now _ c.take_all.new.self found
    (some-found (same_priority c.args.priority) es c.in-Some.pile.now c.requires.some found) (c.get_mut.follows.holds c.take_all.new.self).0 all) c.take_all.ensures.chunks

pub returns-in-Some-clause-err : goal.returns-in-Some-clause-err
returns-in-Some-clause-err g c =
    nothing-lost c.take_all.result (same_priority c.args.priority) c.args.groups.now.entries _ c.in-Some.pile.now c.take_all.new.self (sym c.in-Some.ensures.value)
    (c.get_mut.follows.holds c.take_all.new.self).0 c.take_all.ensures.err

pub returns-in-Ok-clause-pile : goal.returns-in-Ok-clause-pile
returns-in-Ok-clause-pile g c =
    let w = map (buffer_of {L = g.row.L.Denot} {g = g.L.Token}) c.new.result.items in
    pile_new c.args.priority c.args.groups.now.entries c.add_pile.new.groups.entries _ w (sym c.in_default.ensures.value)
    (c.in-Ok.ensures.ok ∙ ap (λ m. insert_entry priority_cmp m.entries c.args.priority w) c.get_mut.follows.holds-at-none) (ap (map buffer_of) c.in_ok-pile.ensures.items)

pub returns-in-Ok-clause-found : goal.returns-in-Ok-clause-found
returns-in-Ok-clause-found g c =
    let w = map (buffer_of {L = g.row.L.Denot} {g = g.L.Token}) c.new.result.items in
    subst (λ (gs : Groups g.row.L.Denot). IsSome (lookup (same_priority c.args.priority) gs)) (sym c.in-Ok.ensures.ok) (found_inserted c.args.priority _ w)

pub returns-in-Ok-clause-rising : goal.returns-in-Ok-clause-rising
returns-in-Ok-clause-rising g c =
    let w = map (buffer_of {L = g.row.L.Denot} {g = g.L.Token}) c.new.result.items in
    subst (λ (gs : Groups g.row.L.Denot). IsStrictlySortedBy priority_cmp (keys_of gs)) (sym (c.in-Ok.ensures.ok ∙ ap (λ m. insert_entry priority_cmp m.entries c.args.priority w) c.get_mut.follows.holds-at-none))
    (sorted_insert c.args.priority w c.args.groups.now.entries c.requires.rising)
