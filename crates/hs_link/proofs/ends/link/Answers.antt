use Rattle.std.proofs.Common.{rules, ◌∙◌, ap}
use Rattle.hs_link.proofs.Tells.{starts_blank, makes_ends}
use Rattle.hs_link.proofs.ends.link.Goals as goal

pub vacant-requires : goal.vacant-requires
vacant-requires g c = starts_blank g.F.Fact.holds _ _ _ c.requires (c.as_slice.ensures.value ∙ c.in_ok-words.ensures.items_if_clones_equal (λ y e. search rules))

pub split_seat-other-requires : goal.split_seat-other-requires
split_seat-other-requires g c = (search rules, search rules, makes_ends g.F.Fact.holds _ _ _ _ (ap (λ m. m.0) c.in_ok-table.ensures.4))
