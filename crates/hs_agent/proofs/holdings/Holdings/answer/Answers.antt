use Rattle.std.proofs.Common.{◌≡◌, true, false, ◌∷◌, ◌++◌, Some, map, sym, ap, ◌∙◌}
use Rattle.hs_agent.proofs.Prelude.{option_map, option_map_or, option_to_list, buffer_of, buffer_in, Out, going_left, going_of, hand_of, placed_at, Kept, kept_in, answered, back_at}
use Rattle.hs_agent.specs.Offering.{gone}
use Rattle.hs_agent.proofs.holdings.Holdings.answer.Goals as goal

pub returns-in_default-back : goal.returns-in_default-back
returns-in_default-back g c =
    let inside = c.self.inside in
    let out : inside.offered ≡ Some c.in-Some.field-0 = sym c.take.ensures.value ∙ c.in-Some.is in
    (λ i. record (kept_in {L = g.row.L.Denot} {g = g.L.Token} inside) {
      offered = option_map (λ (o : Out). o.place.0) (c.take.ensures.after i);
      lefts = option_to_list (option_map (λ (o : Out). o.left) (c.take.ensures.after i)) ++ map going_left (map going_of inside.hand.items);
      again = false;
    })
    ∙ sym (ap (λ o. gone (record (kept_in {L = g.row.L.Denot} {g = g.L.Token} inside) { lefts = option_to_list (option_map (λ (o : Out). o.left) o) ++ map going_left (map going_of inside.hand.items) })) out)
    ∙ ap gone c.self.view_is
    ∙ sym (ap (λ b. answered (buffer_in {L = g.row.L.Denot} {g = g.L.Token} b) c.args.self.now) c.in_default-back.is)

pub returns : goal.returns
returns g c =
    let inside = c.self.inside in
    let out : inside.offered ≡ Some c.in-Some.field-0 = sym c.take.ensures.value ∙ c.in-Some.is in
    let buffer = buffer_of {L = g.row.L.Denot} {g = g.L.Token} c.in-Some-back.held in
    let place = c.in-Some.field-0.place.0 in
    let offered : c.args.self.now.offered ≡ Some place = sym (ap (λ (k : Kept g.row.L.Denot). k.offered) c.self.view_is) ∙ ap (option_map (λ (o : Out). o.place.0)) out in
    let hand : hand_of c.push_front_reserved.new.self.items ≡ placed_at place buffer ∷ hand_of inside.hand.items =
    ap hand_of c.push_front_reserved.ensures.items in
    let lefts : option_to_list (option_map (λ (o : Out). o.left) c.take.new.self) ++ map going_left (map going_of c.push_front_reserved.new.self.items)
    ≡ option_to_list (option_map (λ (o : Out). o.left) inside.offered) ++ map going_left (map going_of inside.hand.items) =
    (λ i. option_to_list (option_map (λ (o : Out). o.left) (c.take.ensures.after i)) ++ map going_left (map going_of (c.push_front_reserved.ensures.items i)))
    ∙ sym (ap (λ o. option_to_list (option_map (λ (o : Out). o.left) o) ++ map going_left (map going_of inside.hand.items)) out) in
    (λ i. record (kept_in {L = g.row.L.Denot} {g = g.L.Token} inside) {
      hand = hand i;
      offered = option_map (λ (o : Out). o.place.0) (c.take.ensures.after i);
      lefts = lefts i;
      again = true;
    })
    ∙ ap (λ k. back_at k place buffer) c.self.view_is
    ∙ sym (ap (λ o. option_map_or (λ p. back_at c.args.self.now p buffer) o c.args.self.now) offered)
    ∙ sym (ap (λ b. answered (buffer_in {L = g.row.L.Denot} {g = g.L.Token} b) c.args.self.now) c.in-Some-back.is)
