use Rattle.std.proofs.Common.{refl, sym, ap}
use Rattle.hs_pins.proofs.Prelude.{unwrap_or, ClaimList, party_at, nobody}
use Rattle.hs_pins.proofs.Noted.{noted_none, noted_some, party_there}
use Rattle.hs_pins.proofs.claims.Claims.group_of.Goals as goal

pub returns-in_err-note : goal.returns-in_err-note
returns-in_err-note c =
    rw c.from_residual.ensures
    (noted_none (λ claim. claim.group) (λ note. (party_at c.self.inside.parties.items note.party).group) c.self.inside.parties.items c.self.inside.notes.entries c.args.self.now.claims c.args.trace
    (ap (λ (l : ClaimList). l.claims) c.self.view_is) (λ key note. refl) (sym c.in_err-note.ensures.value))

pub unreachable-requires : goal.unreachable-requires
unreachable-requires c =
    party_there c.self.inside.parties.items c.self.inside.notes.entries c.args.trace c.in_ok-note.note.now c.self.invariant.noted (sym c.in_ok-note.ensures.value) (sym c.in-None.ensures)

pub returns : goal.returns
returns c =
    noted_some (λ claim. claim.group) (λ note. (party_at c.self.inside.parties.items note.party).group) c.self.inside.parties.items c.self.inside.notes.entries c.args.self.now.claims c.args.trace c.in_ok-note.note.now c.in-Some.party.now.group
    (ap (λ (l : ClaimList). l.claims) c.self.view_is) (λ key note. refl) (sym c.in_ok-note.ensures.value)
    (ap (λ o. (unwrap_or o nobody).group) (sym c.in-Some.ensures))
