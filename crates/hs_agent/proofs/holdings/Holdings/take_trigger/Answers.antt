use Rattle.std.proofs.Common.{◌≡◌, true, false, cond, [], ◌∷◌, ◌++◌, Some, None, sym, ap, subst, ◌∙◌, arith}
use Rattle.hs_base.specs.Rules.{is_declared}
use Rattle.hs_agent.proofs.Prelude.{Ask, AgentState, told_of, admits, admit, note_trigger, count_admitted, group_of, claim_for, Kept, Holds, with_state, kept_in, claimed_for}
use Rattle.hs_base.specs.declared.told.Why.TheVariants.{Fired}
use Rattle.hs_pins.specs.declared.claim.Admitted.TheVariants as admissions
use Rattle.hs_pins.specs.Remembered.{answered, tried_at}
use Rattle.hs_agent.specs.Points.{ask_by}
use Rattle.hs_agent.proofs.Admitting.{is_admitted, as_answered, number_is, holds-admitted, holds-limited}
use Rattle.hs_agent.proofs.Later.{claim-tried, claim-admitted, counted-later, answered-same}
use Rattle.hs_agent.proofs.Offered.{holds-rest}
use Rattle.hs_agent.proofs.holdings.Holdings.take_trigger.Goals as goal

pub returns-in_default-clause-told : goal.returns-in_default-clause-told
returns-in_default-clause-told g c = λ point h0.
    let trigger = c.args.trigger.now in
    let h : Holds (kept_in {L = g.row.L.Denot} {g = g.L.Token} c.self.inside) point = subst (λ k. Holds k point) (sym c.self.view_is) h0 in
    let no : is_admitted c.would_admit-answer.result ≡ false = ap is_admitted c.in_default.is in
    let not : admits point.settings point.state.tried trigger ≡ false = as_answered point.settings point.node point.state h.memory h.pins trigger c.would_admit-answer.result (c.would_admit-answer.ensures h.memory h.remembers) ∙ no in
    sym (ap (λ b. cond b (Some (told_of point.state.crumbs (group_of point.node point.state trigger) Fired)) None) not)

pub returns-in_default-clause-after : goal.returns-in_default-clause-after
returns-in_default-clause-after g c = λ point h0.
    let trigger = c.args.trigger.now in
    let kept : Kept g.row.L.Denot = kept_in {L = g.row.L.Denot} {g = g.L.Token} c.self.inside in
    let h : Holds kept point = subst (λ k. Holds k point) (sym c.self.view_is) h0 in
    let no : is_admitted c.would_admit-answer.result ≡ false = ap is_admitted c.in_default.is in
    let answer = c.would_admit-answer.ensures h.memory h.remembers in
    let not : admits point.settings point.state.tried trigger ≡ false = as_answered point.settings point.node point.state h.memory h.pins trigger c.would_admit-answer.result answer ∙ no in
    subst (λ b. Holds (record kept { pins = c.admit.new.self }) (with_state (cond b (admit point.settings point.node trigger (note_trigger trigger point.state)) (note_trigger trigger point.state)) point)) (sym not)
    (holds-limited kept c.admit.new.self point h trigger (c.admit.ensures.after h.memory h.remembers) c.would_admit-answer.result no answer)

pub admit-requires-2-clause-declared : goal.admit-requires-2-clause-declared
admit-requires-2-clause-declared g c =
    let point = c.requires.0 in
    let h : Holds (kept_in {L = g.row.L.Denot} {g = g.L.Token} c.self-2.inside) (claimed_for c.ask_of-ask.result point) = subst (λ k. Holds k (claimed_for c.ask_of-ask.result point)) (sym c.self-2.view_is) (c.in_ok-told.ensures.after point c.requires.1) in
    (h.memory, h.remembers, (λ i. is_declared (h.pins.rules i) c.args.trigger.now.trigger) ∙ c.requires.2.0)

pub admit-requires-2-clause-few : goal.admit-requires-2-clause-few
admit-requires-2-clause-few g c =
    let point = c.requires.0 in
    let h : Holds (kept_in {L = g.row.L.Denot} {g = g.L.Token} c.self-2.inside) (claimed_for c.ask_of-ask.result point) = subst (λ k. Holds k (claimed_for c.ask_of-ask.result point)) (sym c.self-2.view_is) (c.in_ok-told.ensures.after point c.requires.1) in
    let admitted = h.pins.admitted ∙ claim-admitted point.settings c.ask_of-ask.result point.state in
    let few = c.requires.2.1 in
    (h.memory, h.remembers, omega (arith, admitted, few))

pub invariant_of-self-2 : goal.invariant_of-self-2
invariant_of-self-2 g c =
    let room = c.self-2.invariant.sent in
    record { sent = (tried_at room.0 c.args.trigger.now.trigger c.args.trigger.now.moment, c.admit-2.ensures.after room.0 room.1, room.2); hand = c.self-2.invariant.hand; claims = c.self-2.invariant.claims; pages = c.self-2.invariant.pages }

pub returns-clause-told : goal.returns-clause-told
returns-clause-told g c = λ point h0.
    let trigger = c.args.trigger.now in
    let kept : Kept g.row.L.Denot = kept_in {L = g.row.L.Denot} {g = g.L.Token} c.self.inside in
    let h : Holds kept point = subst (λ k. Holds k point) (sym c.self.view_is) h0 in
    let answer : answered h.memory trigger.trigger trigger.moment ≡ Some (admissions.Admitted c.in-Admitted.number) = c.would_admit-answer.ensures h.memory h.remembers ∙ ap Some c.in-Admitted.is in
    let yes : admits point.settings point.state.tried trigger ≡ true = as_answered point.settings point.node point.state h.memory h.pins trigger (admissions.Admitted c.in-Admitted.number) answer in
    let number = number_is point.settings point.node point.state h.memory h.pins trigger c.in-Admitted.number answer in
    let ask : c.ask_of-ask.result ≡ group_of point.node point.state trigger = c.ask_of-ask.ensures ∙ (λ i. ask_by (h0.node_is i) trigger (number i)) in
    ap Some (c.in_ok-told.ensures.told point h0 ∙ ap (λ a. told_of point.state.crumbs a Fired) ask)
    ∙ sym (ap (λ b. cond b (Some (told_of point.state.crumbs (group_of point.node point.state trigger) Fired)) None) yes)

pub returns-clause-after : goal.returns-clause-after
returns-clause-after g c = λ point h0.
    let trigger = c.args.trigger.now in
    let kept : Kept g.row.L.Denot = kept_in {L = g.row.L.Denot} {g = g.L.Token} c.self.inside in
    let next : Kept g.row.L.Denot = kept_in {L = g.row.L.Denot} {g = g.L.Token} c.self-2.inside in
    let h : Holds kept point = subst (λ k. Holds k point) (sym c.self.view_is) h0 in
    let answer : answered h.memory trigger.trigger trigger.moment ≡ Some (admissions.Admitted c.in-Admitted.number) = c.would_admit-answer.ensures h.memory h.remembers ∙ ap Some c.in-Admitted.is in
    let yes : admits point.settings point.state.tried trigger ≡ true = as_answered point.settings point.node point.state h.memory h.pins trigger (admissions.Admitted c.in-Admitted.number) answer in
    let number = number_is point.settings point.node point.state h.memory h.pins trigger c.in-Admitted.number answer in
    let ask : Ask = group_of point.node point.state trigger in
    let ask_is : c.ask_of-ask.result ≡ ask = c.ask_of-ask.ensures ∙ (λ i. ask_by (h0.node_is i) trigger (number i)) in
    let claimed : Holds next (claimed_for ask point) =
    subst (λ (a : Ask). Holds next (claimed_for a point)) ask_is (subst (λ k. Holds k (claimed_for c.ask_of-ask.result point)) (sym c.self-2.view_is) (c.in_ok-told.ensures.after point h0)) in
    let again : answered claimed.memory trigger.trigger trigger.moment ≡ Some (admissions.Admitted c.in-Admitted.number) =
    answered-same claimed.memory h.memory trigger (claimed.pins.rules ∙ sym h.pins.rules) (claimed.pins.tried ∙ claim-tried point.settings ask point.state ∙ sym h.pins.tried)
    (claimed.pins.admitted ∙ claim-admitted point.settings ask point.state ∙ sym h.pins.admitted) ∙ answer in
    let noted : AgentState = note_trigger trigger point.state in
    let state : AgentState = claim_for point.settings ask (count_admitted noted) in
    let counted : Holds (record next { pins = c.admit-2.new.self }) (with_state state point) =
    subst (λ s. Holds (record next { pins = c.admit-2.new.self }) (with_state s point)) (counted-later point.settings ask trigger point.state)
    (holds-admitted next c.admit-2.new.self (claimed_for ask point) claimed trigger (c.admit-2.ensures.after claimed.memory claimed.remembers) c.in-Admitted.number again) in
    subst (λ b. Holds (record next { pins = c.admit-2.new.self }) (with_state (cond b (admit point.settings point.node trigger noted) noted) point)) (sym yes)
    (holds-rest (record next { pins = c.admit-2.new.self }) (with_state state point) (state.said ++ told_of noted.crumbs ask Fired ∷ []) state.given state.log state.shares counted)

pub invariant_of-self : goal.invariant_of-self
invariant_of-self g c =
    let room = c.self.invariant.sent in
    record {
      sent = (tried_at room.0 c.args.trigger.now.trigger c.args.trigger.now.moment, c.admit.ensures.after room.0 room.1, room.2);
      hand = c.self.invariant.hand;
      claims = c.self.invariant.claims;
      pages = c.self.invariant.pages;
    }
