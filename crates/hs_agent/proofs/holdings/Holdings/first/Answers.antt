use Rattle.std.proofs.Common.{◌≡◌, ◌<◌, List, [], ◌∷◌, ◌++◌, length, map, slice_index_or, refl, sym, ap, ◌∙◌, arith}
use Rattle.hs_agent.proofs.Prelude.{option_map, option_to_list, buffer_of, Out, going_left, going_of, hand_of, placed_at, Kept}
use Rattle.hs_agent.specs.declared.hand.Parting.{Parting}
use Rattle.hs_agent.proofs.Emptying.{no_out}
use Rattle.hs_agent.proofs.holdings.Holdings.first.Goals as goal

-- a list begins with what lies at its first place
head : {A : Type 0} (xs : List A) (x : A) → x ≡ slice_index_or xs 0 x → 0 < length xs → (rest : List A) × (xs ≡ x ∷ rest)
head [] x e some = absurd (omega (arith, some))
head (y ∷ ys) x e some = (ys, ap (λ z. z ∷ ys) (sym e))

pub returns-clause-some : goal.returns-clause-some
returns-clause-some g c =
    let parting : Parting g.row.L.Denot g.L.Token = c.in_ok-parting.parting.now in
    let found = head c.self.inside.hand.items parting c.in_ok-parting.ensures.lookup c.in_ok-parting.ensures.item.3.0 in
    record {
      first = placed_at parting.place.0 (buffer_of parting.held);
      others = hand_of found.0;
      is = sym (ap (λ (k : Kept g.row.L.Denot). k.hand) c.self.view_is) ∙ ap hand_of found.1;
      chunk_is = refl;
      lease_is = refl;
      lefts = map going_left (map going_of found.0);
      left_is = λ none.
          let out = no_out c.self.inside.offered (ap (λ (k : Kept g.row.L.Denot). k.offered) c.self.view_is ∙ none) in
          sym (ap (λ (k : Kept g.row.L.Denot). k.lefts) c.self.view_is) ∙ (λ i. option_to_list (option_map (λ (o : Out). o.left) (out i)) ++ map going_left (map going_of (found.1 i)));
      again_is = ap (λ (k : Kept g.row.L.Denot). k.again) c.self.view_is;
    }
