use Rattle.std.proofs.Common.{◌≡◌, [], ◌∷◌, ◌++◌, map, sym, ap, subst, ◌∙◌}
use Rattle.hs_pins.proofs.Prelude.{same_trace, ClaimNote, ClaimList, claim_from, AreNoted, AreNamed}
use Rattle.indexmap.proofs.CallerLemmas.{insert_entry-new}
use Rattle.hs_pins.proofs.Noted.{Notes, unclaimed_note, are_noted-more, place_within, note_added}
use Rattle.hs_pins.proofs.Parties.{are_named-more}
use Rattle.hs_pins.proofs.claims.Claims.add.Goals as goal

pub invariant_of-self : goal.invariant_of-self
invariant_of-self c =
    let same = ap (λ (l : ClaimList). l.claims) c.self.view_is in
    let note : ClaimNote = record { party = c.place_of-party.result; crumbs = c.args.crumbs } in
    let none = unclaimed_note c.self.inside.parties.items c.self.inside.notes.entries c.args.self.now.claims c.args.trace same c.requires.unclaimed in
    let entries : c.insert.new.self.entries ≡ c.self.inside.notes.entries ++ (c.args.trace, note) ∷ [] = c.in-Ok.ensures.entries ∙ insert_entry-new same_trace c.self.inside.notes c.args.trace note none in
    record {
      noted =
          subst (λ (ns : Notes). AreNoted c.place_of-party.new.parties.items ns) (sym entries)
          (are_noted-more c.self.inside.parties.items c.place_of-party.new.parties.items c.self.inside.notes.entries (c.args.trace, note) c.self.invariant.noted c.place_of-party.ensures.longer
          (place_within c.place_of-party.new.parties.items c.place_of-party.result c.args.party c.place_of-party.ensures.place));
      named =
          subst (λ (ns : Notes). AreNamed c.place_of-party.new.parties.items ns) (sym entries)
          (are_named-more c.self.inside.parties.items c.place_of-party.new.parties.items c.self.inside.notes.entries (c.args.trace, note) c.self.invariant.named c.place_of-party.ensures.others);
    }

pub returns-clause-claims : goal.returns-clause-claims
returns-clause-claims c =
    let same = ap (λ (l : ClaimList). l.claims) c.self.view_is in
    let note : ClaimNote = record { party = c.place_of-party.result; crumbs = c.args.crumbs } in
    let none = unclaimed_note c.self.inside.parties.items c.self.inside.notes.entries c.args.self.now.claims c.args.trace same c.requires.unclaimed in
    let entries : c.insert.new.self.entries ≡ c.self.inside.notes.entries ++ (c.args.trace, note) ∷ [] = c.in-Ok.ensures.entries ∙ insert_entry-new same_trace c.self.inside.notes c.args.trace note none in
    ap (map (claim_from c.place_of-party.new.parties.items)) entries
    ∙ note_added c.self.inside.parties.items c.place_of-party.new.parties.items c.self.inside.notes.entries c.args.self.now.claims c.args.trace c.args.party c.place_of-party.result c.args.crumbs
    c.self.invariant.noted same c.place_of-party.ensures.kept c.place_of-party.ensures.place
