use Rattle.std.proofs.Common.{◌≡◌, ◌-◌, true, List, sym, ap, ◌∙◌, arith}
use Rattle.hs_pins.proofs.Prelude.{filter, same_group, party_at}
use Rattle.hs_pins.specs.declared.claims.Party.{Party}
use Rattle.hs_pins.proofs.Parties.{NoneFrom, stays, none_of_party, none_left, all_stay}
use Rattle.hs_pins.proofs.claims.drop_parties.Goals as goal

pub loop-place-preserved-then-is_group : goal.loop-place-preserved-then-is_group
loop-place-preserved-then-is_group c =
    let group = c.args.group.now in
    let old = c.loop-place.parties.items in
    let before = c.loop-place.place - 1 in
    let some = c.loop-place-test.true in
    let within = c.loop-place.invariant.within in
    let shorter = c.drop_party.ensures.parties.shorter in
    let own : same_group group (party_at old before).group ≡ true =
    ap (λ (ps : List Party). same_group group (party_at ps before).group) (sym c.as_slice.ensures) ∙ ap (same_group group) (sym c.group_at.ensures) ∙ sym c.is_group.ensures ∙ c.if-is_group.true in
    record {
      within = omega (arith, some, within, shorter);
      noted = c.drop_party.ensures.noted;
      named = c.drop_party.ensures.named;
      none = none_left group old c.drop_party.new.parties.items c.loop-place.place before (omega (arith, some)) c.drop_party.ensures.parties c.loop-place.invariant.none;
      stay = ap (filter (stays group)) c.drop_party.ensures.claims ∙ none_of_party group old before c.loop-place.notes.entries own ∙ c.loop-place.invariant.stay;
    }

pub returns-clause-claims : goal.returns-clause-claims
returns-clause-claims c =
    let group = c.args.group.now in
    let no_more = c.loop-place-test.false in
    let none : NoneFrom group c.loop-place.parties.items 0 = λ k from below. c.loop-place.invariant.none k (omega (arith, no_more)) below in
    sym (all_stay group c.loop-place.parties.items c.loop-place.notes.entries c.loop-place.invariant.noted none) ∙ c.loop-place.invariant.stay
