-- The bucket of a trigger's id admits what the model admits, and the trigger is noted.
use Rattle.std.proofs.Common.{◌≡◌, ℕ, ◌+◌, Bool, true, false, cond, ◌∷◌, Option, Some, None, nat_le, refl, sym, ap, ◌∙◌, true≢false}
use Rattle.hs_agent.proofs.Prelude.{option_map, option_map_or, Trigger, PlainSettings, Remembered, Pinning, Remembers, AgentState, admits, note_trigger, count_admitted, Tagged, Kept, Holds, Point, RemembersAs, with_state}
use Rattle.hs_base.specs.declared.limits.TheConstants.{TOKEN}
use Rattle.hs_base.specs.declared.settings.TriggerRule.{TriggerRule}
use Rattle.hs_pins.specs.declared.claim.Admitted.{Admitted}
use Rattle.hs_pins.specs.declared.claim.Admitted.TheVariants as admissions
use Rattle.hs_pins.specs.declared.bucket.Attempt.TheVariants as attempts
use Rattle.hs_pins.specs.Buckets.{level_found, attempted}
use Rattle.hs_pins.specs.Remembered.{admission, answered, tried_at, admitted_after}
use Rattle.hs_pins.specs.Remembered as pins

-- whether the bucket admitted
abbrev pub is_admitted : Admitted → Bool
is_admitted (admissions.Admitted number) = true
is_admitted (admissions.Limited level) = false

module _ {L : Type 0} (settings : PlainSettings) (node : ℕ) (state : AgentState) (memory : Remembered (Tagged L)) (same : RemembersAs settings node state memory) (trigger : Trigger) where
  abbrev level : TriggerRule → ℕ
  level rule = level_found rule.burst rule.rate (pins.moments_of trigger.trigger memory.tried) trigger.moment

  admits-is : admits settings state.tried trigger ≡ option_map_or (λ (rule : TriggerRule). nat_le TOKEN (level rule)) (pins.rule_of memory.rules trigger.trigger) false
  admits-is =
      λ i. option_map_or (λ (rule : TriggerRule). nat_le TOKEN (level_found rule.burst rule.rate (pins.moments_of trigger.trigger (sym same.tried i)) trigger.moment)) (pins.rule_of (sym same.rules i) trigger.trigger) false

  -- the answer says whether the model admits the trigger, and with which number
  pub as_answered : (answer : Admitted) → answered memory trigger.trigger trigger.moment ≡ Some answer → admits settings state.tried trigger ≡ is_admitted answer
  as_answered answer e = admits-is ∙ by (pins.rule_of memory.rules trigger.trigger) e
    where
      decided : (rule : TriggerRule) (b : Bool) → admission memory.admitted (cond b attempts.Admitted (attempts.Limited (level rule))) ≡ answer → b ≡ is_admitted answer
      decided rule true f = ap is_admitted f
      decided rule false f = ap is_admitted f

      by : (rule : Option TriggerRule)
          → option_map (λ (r : TriggerRule). admission memory.admitted (attempted r.burst r.rate (pins.moments_of trigger.trigger memory.tried) trigger.moment)) rule ≡ Some answer
          → option_map_or (λ (r : TriggerRule). nat_le TOKEN (level r)) rule false ≡ is_admitted answer
      by None f = cc
      by (Some rule) f = decided rule (nat_le TOKEN (level rule)) (let g : admission memory.admitted (attempted rule.burst rule.rate (pins.moments_of trigger.trigger memory.tried) trigger.moment) ≡ answer = cc in g)

  numbered : (number : ℕ) → answered memory trigger.trigger trigger.moment ≡ Some (admissions.Admitted number) → number ≡ memory.admitted
  numbered number e = by (pins.rule_of memory.rules trigger.trigger) e
    where
      decided : (rule : TriggerRule) (b : Bool) → admission memory.admitted (cond b attempts.Admitted (attempts.Limited (level rule))) ≡ admissions.Admitted number → number ≡ memory.admitted
      decided rule true f = cc
      decided rule false f = cc

      by : (rule : Option TriggerRule)
          → option_map (λ (r : TriggerRule). admission memory.admitted (attempted r.burst r.rate (pins.moments_of trigger.trigger memory.tried) trigger.moment)) rule ≡ Some (admissions.Admitted number)
          → number ≡ memory.admitted
      by None f = cc
      by (Some rule) f =
          decided rule (nat_le TOKEN (level rule))
          (let g : admission memory.admitted (attempted rule.burst rule.rate (pins.moments_of trigger.trigger memory.tried) trigger.moment) ≡ admissions.Admitted number = cc in g)

  pub number_is : (number : ℕ) → answered memory trigger.trigger trigger.moment ≡ Some (admissions.Admitted number) → number ≡ state.admitted
  number_is number e = numbered number e ∙ same.admitted

-- ---- what is kept then

module _ {L : Type 0} (kept : Kept L) (pins_now : Pinning (Tagged L)) (point : Point L) (h : Holds kept point) (trigger : Trigger) (remembers : Remembers pins_now (tried_at h.memory trigger.trigger trigger.moment)) where
  -- with as many admitted as this
  holds-tried : (admitted : ℕ) → (tried_at h.memory trigger.trigger trigger.moment).admitted ≡ admitted
      → Holds (record kept { pins = pins_now }) (with_state (record (note_trigger trigger point.state) { admitted = admitted }) point)
  holds-tried admitted is = record {
    node_is = h.node_is;
    memory = tried_at h.memory trigger.trigger trigger.moment;
    remembers = remembers;
    pins = let p = h.pins in
        record {
          node_is = p.node_is;
          rules = p.rules;
          most = p.most;
          claims = p.claims;
          pinned = p.pinned;
          groups = p.groups;
          abandoned = p.abandoned;
          tried = ap (λ l. record { trigger = trigger.trigger; moment = trigger.moment } ∷ l) p.tried;
          admitted = is;
        };
    index = let i = h.index in
        record {
          threshold = i.threshold;
          most = i.most;
          touched = record { traces = i.touched.traces; apart = i.touched.apart; free = i.touched.free; places = i.touched.places; count = i.touched.count; crumbs = i.touched.crumbs };
        };
    sent = h.sent;
    offered = h.offered;
    hand = h.hand;
    again = h.again;
    keeps = h.keeps;
    lefts = h.lefts;
    untouched = h.untouched;
    standings = h.standings;
    claims = h.claims;
    pages = h.pages;
    buffers = h.buffers;
    each = h.each;
    paged = h.paged;
    few = h.few;
    fits = h.fits;
    reported = h.reported;
  }

  pub holds-admitted : (number : ℕ) → answered h.memory trigger.trigger trigger.moment ≡ Some (admissions.Admitted number)
      → Holds (record kept { pins = pins_now }) (with_state (count_admitted (note_trigger trigger point.state)) point)
  holds-admitted number e = holds-tried (point.state.admitted + 1) (ap (λ o. option_map_or (admitted_after h.memory.admitted) o h.memory.admitted) e ∙ ap (λ n. n + 1) h.pins.admitted)

  pub holds-limited : (answer : Admitted) → is_admitted answer ≡ false → answered h.memory trigger.trigger trigger.moment ≡ Some answer
      → Holds (record kept { pins = pins_now }) (with_state (note_trigger trigger point.state) point)
  holds-limited answer refused e = holds-tried point.state.admitted (ap (λ o. option_map_or (admitted_after h.memory.admitted) o h.memory.admitted) e ∙ same answer refused ∙ h.pins.admitted)
    where
      same : (a : Admitted) → is_admitted a ≡ false → admitted_after h.memory.admitted a ≡ h.memory.admitted
      same (admissions.Admitted number) f = absurd (true≢false f)
      same (admissions.Limited found) f = refl
