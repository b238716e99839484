use Rattle.std.proofs.Common.{◌++◌, ℕ, length, take, drop, vec_capacity, refl, ap, ◌∙◌}
use Rattle.hs_base.specs.Listing.{Listing}
use Rattle.hs_base.specs.Lending.{with_items}
use Rattle.hs_base.proofs.list.List.as_mut_slice.Goals as goal

pub returns : goal.returns
returns g c =
    let v = c.self.inside.items in (
      (
        refl,
        λ w.
            ap (λ (n : ℕ). record { items = take n (w ++ drop (length w) v.items); room = vec_capacity v }) v.ok.0
            ∙ ap (λ (l : Listing g.row.T.Denot). with_items l w) c.self.view_is,
      ),
      record { writes_back = tt; value = c.as_mut_slice.ensures.value ∙ ap (λ (l : Listing g.row.T.Denot). l.items) c.self.view_is },
    )
