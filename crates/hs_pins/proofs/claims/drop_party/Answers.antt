use Rattle.std.proofs.Common.{rules, ◌≡◌, ◌-◌, length, map, sym, ap, subst, ◌∙◌, arith}
use Rattle.hs_pins.proofs.Prelude.{filter, claim_from, AreNoted, AreNamed}
use Rattle.hs_pins.specs.ClaimsLayout.{note_moved}
use Rattle.hs_pins.proofs.Noted.{Notes}
use Rattle.hs_pins.proofs.Parties.{mapped-RetainsPairs, is_another, noted_anew, noted_after, claims_after, named_after}
use Rattle.hs_pins.proofs.claims.drop_party.Goals as goal

pub returns-clause-noted : goal.returns-clause-noted
returns-clause-noted c =
    let last = c.len.result - 1 in
    let entries : c.retain.new.self.entries ≡ map (noted_anew c.args.place last) (filter (is_another c.args.place) c.args.notes.now.entries) =
    mapped-RetainsPairs _ (is_another c.args.place) (note_moved c.args.place last) _ (λ k v b w g call. search rules) _ _ c.retain.ensures.filtered in
    let is_last : last ≡ length c.give_place.new.parties.items = let shorter = c.give_place.ensures.shorter in let len = c.len.ensures in omega (arith, shorter, len) in
    subst (λ (ns : Notes). AreNoted c.give_place.new.parties.items ns) (sym entries)
    (noted_after c.args.place last c.args.parties.now.items c.give_place.new.parties.items c.give_place.ensures c.requires.within is_last c.args.notes.now.entries c.requires.noted)

pub returns-clause-claims : goal.returns-clause-claims
returns-clause-claims c =
    let last = c.len.result - 1 in
    let entries : c.retain.new.self.entries ≡ map (noted_anew c.args.place last) (filter (is_another c.args.place) c.args.notes.now.entries) =
    mapped-RetainsPairs _ (is_another c.args.place) (note_moved c.args.place last) _ (λ k v b w g call. search rules) _ _ c.retain.ensures.filtered in
    let is_last : last ≡ length c.give_place.new.parties.items = let shorter = c.give_place.ensures.shorter in let len = c.len.ensures in omega (arith, shorter, len) in
    ap (map (claim_from c.give_place.new.parties.items)) entries
    ∙ claims_after c.args.place last c.args.parties.now.items c.give_place.new.parties.items c.give_place.ensures c.requires.within is_last c.args.notes.now.entries c.requires.noted

pub returns-clause-named : goal.returns-clause-named
returns-clause-named c =
    let last = c.len.result - 1 in
    let entries : c.retain.new.self.entries ≡ map (noted_anew c.args.place last) (filter (is_another c.args.place) c.args.notes.now.entries) =
    mapped-RetainsPairs _ (is_another c.args.place) (note_moved c.args.place last) _ (λ k v b w g call. search rules) _ _ c.retain.ensures.filtered in
    let is_last : last ≡ length c.give_place.new.parties.items = let shorter = c.give_place.ensures.shorter in let len = c.len.ensures in omega (arith, shorter, len) in
    subst (λ (ns : Notes). AreNamed c.give_place.new.parties.items ns) (sym entries)
    (named_after c.args.place last c.args.parties.now.items c.give_place.new.parties.items c.give_place.ensures c.requires.within is_last c.args.notes.now.entries c.requires.named)
