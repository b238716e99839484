use Rattle.std.proofs.Common.{◌≡◌, ◌∷◌, ◌++◌, Some, None, map, refl, sym, ap, ◌∙◌}
use Rattle.hs_agent.proofs.Prelude.{option_map, option_to_list, Out, buffer_of, going_left, going_of, hand_of, placed_at, Kept, kept_in}
use Rattle.hs_agent.proofs.Emptying.{no_out}
use Rattle.hs_agent.proofs.holdings.Holdings.offer.Goals as goal

pub returns-clause-some : goal.returns-clause-some
returns-clause-some g c =
    let inside = c.self.inside in
    let parting = c.in-Some.field-0 in
    let items : inside.hand.items ≡ parting ∷ c.pop_front.new.self.items = sym c.in_ok-reserve.ensures.items ∙ c.in-Some.ensures.items in
    let out : inside.offered ≡ None = no_out inside.offered (ap (λ (k : Kept g.row.L.Denot). k.offered) c.self.view_is ∙ c.requires.none) in
    let lefts : option_to_list (Some parting.left) ++ map going_left (map (going_of {L = g.row.L.Denot} {g = g.L.Token}) c.pop_front.new.self.items)
    ≡ option_to_list (option_map (λ (o : Out). o.left) inside.offered) ++ map going_left (map (going_of {L = g.row.L.Denot} {g = g.L.Token}) inside.hand.items) =
    sym (λ i. option_to_list (option_map (λ (o : Out). o.left) (out i)) ++ map going_left (map (going_of {L = g.row.L.Denot} {g = g.L.Token}) (items i))) in
    record {
      first = placed_at parting.place.0 (buffer_of {L = g.row.L.Denot} {g = g.L.Token} parting.held);
      was = sym (ap (λ (k : Kept g.row.L.Denot). k.hand) c.self.view_is) ∙ ap (hand_of {L = g.row.L.Denot} {g = g.L.Token}) items;
      handed = refl;
      offered = refl;
      others =
          (λ i. record (kept_in {L = g.row.L.Denot} {g = g.L.Token} inside) { hand = hand_of {L = g.row.L.Denot} {g = g.L.Token} c.pop_front.new.self.items; offered = Some parting.place.0; lefts = lefts i })
          ∙ ap (λ (k : Kept g.row.L.Denot). record k { hand = hand_of {L = g.row.L.Denot} {g = g.L.Token} c.pop_front.new.self.items; offered = Some parting.place.0 }) c.self.view_is;
    }
