use Rattle.std.proofs.Common.{refl, sym, ap}
use Rattle.hs_pins.proofs.Prelude.{ClaimList}
use Rattle.hs_pins.proofs.Noted.{noted_none, noted_some}
use Rattle.hs_pins.proofs.claims.Claims.crumbs_of.Goals as goal

pub returns-in-Some : goal.returns-in-Some
returns-in-Some c =
    noted_some (λ claim. claim.crumbs) (λ note. note.crumbs) c.self.inside.parties.items c.self.inside.notes.entries c.args.self.now.claims c.args.trace c.in-Some.note.now c.in-Some.note.now.crumbs
    (ap (λ (l : ClaimList). l.claims) c.self.view_is) (λ key note. refl) (sym c.in-Some.ensures.value) refl

pub returns-in-None : goal.returns-in-None
returns-in-None c =
    noted_none (λ claim. claim.crumbs) (λ note. note.crumbs) c.self.inside.parties.items c.self.inside.notes.entries c.args.self.now.claims c.args.trace
    (ap (λ (l : ClaimList). l.claims) c.self.view_is) (λ key note. refl) (sym c.in-None.ensures.value)
