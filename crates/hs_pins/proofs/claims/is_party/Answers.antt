use Rattle.std.proofs.Common.{sym, ◌∙◌}
use Rattle.std.proofs.lemmas.Bool.{OnTrue_from}
use Rattle.hs_pins.proofs.Noted.{party_alike, party_same}
use Rattle.hs_pins.proofs.claims.is_party.Goals as goal

pub returns-then-eq-clause-yes : goal.returns-then-eq-clause-yes
returns-then-eq-clause-yes c = OnTrue_from c.eq-then-eq.result _ (λ e. party_same c.args.party.now c.args.other.now (sym c.eq.ensures ∙ c.if-eq.true) (sym c.eq-then-eq.ensures ∙ e))

pub returns-then-eq-clause-no : goal.returns-then-eq-clause-no
returns-then-eq-clause-no c = λ same. c.eq-then-eq.ensures ∙ party_alike c.args.party.now c.args.other.now same
