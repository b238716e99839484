-- What a sample leaves of the autotriggers that a client has, and what it sends.
use Rattle.std.proofs.Common.{◌≡◌, ℕ, zero, suc, Bool, List, [], ◌∷◌, ◌++◌, map, set, Option, Some, None, inl, inr, eq-eqb, ne_eqb, refl, sym, ap, ◌∙◌, subst}
use Rattle.hs_client.proofs.Prelude.{same_Some, slice_get, TraceId, Trigger, AutoRule, Operation, Sample, NumberedOperation, coming, Watch, HasSampled, AreWatching, crumb_in, samples_of}
use Rattle.std.specs.Prelude.{if◌then◌else◌}
use Rattle.hs_base.proofs.Places.{get_set_cases}
use Rattle.hs_base.specs.declared.ids.TriggerId.{TriggerId}
use Rattle.hs_base.specs.Rules.{fired_by}
use Rattle.hs_auto.specs.Firing as firing
use Rattle.hs_auto.specs.declared.sampled.Sampled.{Sampled}
use Rattle.hs_auto.specs.declared.sampled.Sampled.TheVariants as answers
use Rattle.hs_client.specs.Sending.{trigger_of}
use Rattle.hs_client.proofs.Adding.{at}

-- ---- the autotriggers

pub rules_set : (autos : List Watch) (place : ℕ) (watch watch' : Watch) → slice_get autos place ≡ Some watch → watch'.rule ≡ watch.rule → map (λ (w : Watch). w.rule) (set autos place watch') ≡ map (λ (w : Watch). w.rule) autos
rules_set [] place watch watch' found same = refl
rules_set (first ∷ autos) zero watch watch' found same =
    ap (λ (rule : AutoRule). rule ∷ map (λ (w : Watch). w.rule) autos) (same ∙ ap (λ (w : Watch). w.rule) (sym (same_Some first watch found)))
rules_set (first ∷ autos) (suc place) watch watch' found same = ap (λ (rules : List AutoRule). first.rule ∷ rules) (rules_set autos place watch watch' found same)

abbrev pub sample : ℕ → TraceId → firing.Sample
sample value trace = record { value = value; trace = trace }

pub watches : (rules : List AutoRule) (ops : List Operation) (earlier : List NumberedOperation) (autos : List Watch) (moment place value : ℕ) (lead : TraceId) (watch watch' : Watch) → slice_get autos place ≡ Some watch
    → ((samples : List firing.Sample) → HasSampled watch samples → HasSampled watch' (sample value lead ∷ samples)) → watch'.rule ≡ watch.rule
    → AreWatching rules earlier autos → AreWatching rules (at ops (Some lead) (Sample moment place value) ∷ earlier) (set autos place watch')
watches rules ops earlier autos moment place value lead watch watch' found after same w =
    let with : Bool → List firing.Sample → List firing.Sample = λ b samples. (if b then sample value lead ∷ [] else []) ++ samples in
    record {
      rules_are = rules_set autos place watch watch' found same ∙ w.rules_are;
      each = λ auto x there.
          elim (get_set_cases autos place auto watch watch' x found there) [
            | inl h ↦
                let here : HasSampled x (sample value lead ∷ samples_of place earlier) = subst (λ (y : Watch). HasSampled y (sample value lead ∷ samples_of place earlier)) h.1 (after (samples_of place earlier) (w.each place watch found)) in
                let moved : HasSampled x (sample value lead ∷ samples_of auto earlier) = subst (λ (n : ℕ). HasSampled x (sample value lead ∷ samples_of n earlier)) h.0 here in
                subst (λ (b : Bool). HasSampled x (with b (samples_of auto earlier))) (sym (eq-eqb place auto h.0)) moved
            | inr h ↦ subst (λ (b : Bool). HasSampled x (with b (samples_of auto earlier))) (sym (ne_eqb place auto h.0)) (w.each auto x h.1)
          ];
    }

-- ---- what is sent

-- the trigger that an answer sends
abbrev pub fired_trigger : ℕ → TriggerId → TraceId → Sampled → List Trigger
fired_trigger moment trigger lead answers.Quiet = []
fired_trigger moment trigger lead (answers.Fired laterals) = record { moment = moment; trigger = trigger; lead = lead; laterals = laterals } ∷ []

pub trigger_is : (moment : ℕ) (rule : AutoRule) (lead : TraceId) (answer : Sampled) → trigger_of moment rule lead answer ≡ fired_trigger moment (fired_by rule) lead answer
trigger_is moment rule lead answers.Quiet = refl
trigger_is moment rule lead (answers.Fired laterals) = refl

pub coming_sample : (size number moment place value : ℕ) (found : Option TraceId) (rest : List Operation) → coming size number found (Sample moment place value ∷ rest) ≡ coming size number found rest
coming_sample size number moment place value None rest = refl
coming_sample size number moment place value (Some trace) rest = refl

pub sample_no_crumb : (moment place value : ℕ) (found : Option TraceId) → crumb_in found (Sample moment place value) ≡ []
sample_no_crumb moment place value None = refl
sample_no_crumb moment place value (Some trace) = refl
