use Rattle.std.proofs.Common.{map, refl, sym, ap, subst, ◌∙◌}
use Rattle.hs_pins.proofs.Prelude.{set_value, same_trace, ClaimNote, ClaimList, claim_from, AreNoted, AreNamed}
use Rattle.std.specs.Prelude.{not}
use Rattle.hs_pins.proofs.Noted.{Notes, claimed_note, are_noted-set, crumb_there, crumb_noted}
use Rattle.hs_pins.proofs.Parties.{are_named-set}
use Rattle.hs_pins.proofs.claims.Claims.add_crumb.Goals as goal

pub unreachable-requires : goal.unreachable-requires
unreachable-requires c =
    claimed_note c.self.inside.parties.items c.self.inside.notes.entries c.args.self.now.claims c.args.crumb.trace (ap (λ (l : ClaimList). l.claims) c.self.view_is) c.requires.claimed (sym c.in_default.ensures.value)

pub invariant_of-self : goal.invariant_of-self
invariant_of-self c =
    let new : ClaimNote = record { party = c.in-Some.note.now.party; crumbs = c.with-note.result } in
    record {
      noted =
          subst (λ (ns : Notes). AreNoted c.self.inside.parties.items ns) (sym (c.get_mut.follows.holds new).0)
          (are_noted-set c.self.inside.parties.items c.self.inside.notes.entries c.args.crumb.trace c.in-Some.note.now new c.self.invariant.noted (sym c.in-Some.ensures.value) refl);
      named =
          subst (λ (ns : Notes). AreNamed c.self.inside.parties.items ns) (sym (c.get_mut.follows.holds new).0)
          (are_named-set c.self.inside.parties.items c.self.inside.notes.entries c.args.crumb.trace c.in-Some.note.now new c.self.invariant.named (sym c.in-Some.ensures.value) refl);
    }

pub returns-clause-fresh : goal.returns-clause-fresh
returns-clause-fresh c =
    ap not (c.contains-fresh.ensures
    ∙ sym (crumb_there c.self.inside.parties.items c.self.inside.notes.entries c.args.self.now.claims c.args.crumb.trace c.args.crumb.node.0 c.in-Some.note.now (ap (λ (l : ClaimList). l.claims) c.self.view_is) (sym c.in-Some.ensures.value)))

pub returns-clause-adds : goal.returns-clause-adds
returns-clause-adds c =
    let new : ClaimNote = record { party = c.in-Some.note.now.party; crumbs = c.with-note.result } in
    ap (map (claim_from c.self.inside.parties.items)) (c.get_mut.follows.holds new).0
    ∙ ap (λ crumbs. map (claim_from c.self.inside.parties.items) (set_value (same_trace c.args.crumb.trace) c.self.inside.notes.entries (record { party = c.in-Some.note.now.party; crumbs = crumbs }))) c.with-note.ensures.value
    ∙ crumb_noted c.self.inside.parties.items c.self.inside.notes.entries c.args.self.now.claims c.args.crumb.trace c.args.crumb.node c.in-Some.note.now (ap (λ (l : ClaimList). l.claims) c.self.view_is) (sym c.in-Some.ensures.value)
