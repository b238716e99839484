use Rattle.std.proofs.Common.{◌≡◌, ◌∷◌, true, false, sym, ap, ◌∙◌}
use Rattle.hs_claimed.specs.Claims.{is_known, is_full_for, traces_of, with_claims}
use Rattle.hs_claimed.proofs.Steps.{when_full, when_claimed}
use Rattle.hs_claimed.proofs.claims.ClaimedTraces.claim.Goals as goal

pub returns-then-is_full_for-clause-answer : goal.returns-then-is_full_for-clause-answer
returns-then-is_full_for-clause-answer c =
    let s = c.args.self.now in
    let known : is_known s c.args.group.id ≡ false = sym c.is_known.ensures ∙ c.if-is_known.false in
    let full : is_full_for s (traces_of c.args.group.lead c.args.laterals.now) ≡ true =
    ap (λ o. is_full_for s (c.args.group.lead ∷ o)) (sym c.others_of-others.ensures) ∙ sym (c.is_full_for.ensures c.args.group.lead) ∙ c.if-is_full_for.true in
    sym (when_full s c.args.group (traces_of c.args.group.lead c.args.laterals.now) known full).0

pub returns-then-is_full_for-clause-after : goal.returns-then-is_full_for-clause-after
returns-then-is_full_for-clause-after c =
    let s = c.args.self.now in
    let known : is_known s c.args.group.id ≡ false = sym c.is_known.ensures ∙ c.if-is_known.false in
    let full : is_full_for s (traces_of c.args.group.lead c.args.laterals.now) ≡ true =
    ap (λ o. is_full_for s (c.args.group.lead ∷ o)) (sym c.others_of-others.ensures) ∙ sym (c.is_full_for.ensures c.args.group.lead) ∙ c.if-is_full_for.true in
    sym (when_full s c.args.group (traces_of c.args.group.lead c.args.laterals.now) known full).1

pub enter-requires : goal.enter-requires
enter-requires c = record { free = sym (c.is_full_for.ensures c.args.group.lead) ∙ c.if-is_full_for.false; new = sym c.is_known.ensures ∙ c.if-is_known.false }

pub returns-clause-answer : goal.returns-clause-answer
returns-clause-answer c =
    let s = c.args.self.now in
    let known : is_known s c.args.group.id ≡ false = sym c.is_known.ensures ∙ c.if-is_known.false in
    let free : is_full_for s (traces_of c.args.group.lead c.args.laterals.now) ≡ false =
    ap (λ o. is_full_for s (c.args.group.lead ∷ o)) (sym c.others_of-others.ensures) ∙ sym (c.is_full_for.ensures c.args.group.lead) ∙ c.if-is_full_for.false in
    sym (when_claimed s c.args.group (traces_of c.args.group.lead c.args.laterals.now) known free).0

pub returns-clause-after : goal.returns-clause-after
returns-clause-after c =
    let s = c.args.self.now in
    let known : is_known s c.args.group.id ≡ false = sym c.is_known.ensures ∙ c.if-is_known.false in
    let free : is_full_for s (traces_of c.args.group.lead c.args.laterals.now) ≡ false =
    ap (λ o. is_full_for s (c.args.group.lead ∷ o)) (sym c.others_of-others.ensures) ∙ sym (c.is_full_for.ensures c.args.group.lead) ∙ c.if-is_full_for.false in
    c.enter.ensures ∙ ap (λ o. with_claims s c.args.group (c.args.group.lead ∷ o)) c.others_of-others.ensures
    ∙ sym (when_claimed s c.args.group (traces_of c.args.group.lead c.args.laterals.now) known free).1
