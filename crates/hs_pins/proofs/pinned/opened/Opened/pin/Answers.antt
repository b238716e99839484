use Rattle.std.proofs.Common.{◌+◌, map, sym, ap, ◌∙◌}
use Rattle.hs_pins.proofs.Prelude.{length-map, buffer_of, count_of, pinned}
use Rattle.hs_pins.specs.Opening.{OpenGroups, with_pile}
use Rattle.hs_pins.proofs.GroupLemmas.{counted-added, counts-more}
use Rattle.hs_pins.proofs.Opened.{pile_more}
use Rattle.hs_pins.proofs.pinned.opened.Opened.pin.Goals as goal

pub invariant_of-self : goal.invariant_of-self
invariant_of-self g c =
    let es = c.self.inside.groups.entries in
    let p = c.self.inside.priority in
    let pile = map buffer_of c.self.inside.pile.items in
    let more = map buffer_of c.args.chunks.items in
    record {
      found = c.self.invariant.found;
      rising = c.self.invariant.rising;
      counted =
          counted-added p (with_pile es p pile) _ more c.self.inside.chunks c.len-count.result c.self.invariant.counted
          (ap (with_pile es p) c.join.ensures.items ∙ pile_more p es pile more c.self.invariant.rising c.self.invariant.found) (c.len-count.ensures ∙ sym (length-map _ _));
    }

pub returns-clause-groups : goal.returns-clause-groups
returns-clause-groups g c =
    let es = c.self.inside.groups.entries in
    let p = c.self.inside.priority in
    let pile = map buffer_of c.self.inside.pile.items in
    let more = map buffer_of c.args.chunks.items in
    ap (with_pile es p) c.join.ensures.items ∙ pile_more p es pile more c.self.invariant.rising c.self.invariant.found
    ∙ ap (λ (o : OpenGroups g.row.L.Denot). pinned o.groups o.priority more) c.self.view_is

pub returns-clause-count : goal.returns-clause-count
returns-clause-count g c =
    let es = c.self.inside.groups.entries in
    let p = c.self.inside.priority in
    let pile = map buffer_of c.self.inside.pile.items in
    let more = map buffer_of c.args.chunks.items in
    counts-more (with_pile es p pile) c.args.self.now.groups _ c.self.inside.chunks c.len-count.result c.self.invariant.counted (ap (λ (o : OpenGroups g.row.L.Denot). o.groups) c.self.view_is)
    (counted-added p (with_pile es p pile) _ more c.self.inside.chunks c.len-count.result c.self.invariant.counted
    (ap (with_pile es p) c.join.ensures.items ∙ pile_more p es pile more c.self.invariant.rising c.self.invariant.found) (c.len-count.ensures ∙ sym (length-map _ _)))
    ∙ ap (λ n. count_of c.args.self.now.groups + n) c.len-count.ensures
