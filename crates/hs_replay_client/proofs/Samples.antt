-- A sample that an autotrigger of a client is given.
use Rattle.std.proofs.Common.{◌≡◌, ℕ, ◌<◌, List, [], ◌∷◌, ◌++◌, length, set, get_or, reverse, Option, Some, refl, sym, ap, ◌∙◌, subst, arith}
use Rattle.hs_replay_client.proofs.Prelude.{same_Some, slice_get-map, slice_get, option_map, TraceId, Trigger, AutoRule, fired_by, Operation, Sample, numbered_of, Watch, HasSampled, AreWatching, trigger_in, OneMore, at, Working, Does}
use Rattle.std.proofs.lemmas.Option.{slice_get_within}
use Rattle.std.specs.Option.{option_map_or}
use Rattle.hs_base.proofs.Lent.{lent_from}
use Rattle.hs_base.specs.declared.ids.TriggerId.{TriggerId}
use Rattle.hs_auto.specs.Firing.{sampled}
use Rattle.hs_auto.specs.Firing as firing
use Rattle.hs_auto.specs.declared.sampled.Sampled.{Sampled}
use Rattle.hs_client.specs.Sending.{samples_of, trigger_of}
use Rattle.hs_client.proofs.Sampling.{sample, fired_trigger, trigger_is, watches, coming_sample, sample_no_crumb}
use Rattle.hs_replay_client.proofs.Operations.{IsApart, apart_writes, done_now, none_more}

-- ---- the autotriggers

-- the autotrigger that is lent is that of this number, with the rule of this number
pub record IsFound (items : List Watch) (rules : List AutoRule) (place : ℕ) (watch : Watch) : Type 0 where
  pub found : slice_get items place ≡ Some watch
  pub rule : slice_get rules place ≡ Some watch.rule

pub is_found : (items now : List Watch) (rules : List AutoRule) (place : ℕ) (default : Watch) → (watch : Watch) × (slice_get items place ≡ Some watch) × (slice_get rules place ≡ Some watch.rule) → now ≡ items
    → IsFound items rules place (get_or now place default)
is_found items now rules place default auto same =
    let within : place < length items = slice_get_within items place auto.0 auto.1 in
    let there = lent_from items now place default same within in
    record { found = there; rule = auto.2 ∙ ap (λ (w : Watch). Some w.rule) (same_Some auto.0 (get_or now place default) (sym auto.1 ∙ there)) }

-- ---- the sample

sample_apart : (moment place value : ℕ) → IsApart (Sample moment place value)
sample_apart moment place value = record { comes = λ size number found rest. coming_sample size number moment place value found rest; later = λ size number rest. refl }

pub sample_done : OneMore → (moment place value : ℕ) (trigger : TriggerId) (lead : TraceId) (old : Working) (watch watch' : Watch) (answer : Sampled) (autos : List Watch) (triggers : List Trigger) → old.core.trace ≡ Some lead
    → slice_get old.autos place ≡ Some watch → fired_by watch.rule ≡ trigger → ((samples : List firing.Sample) → HasSampled watch samples → answer ≡ sampled watch.rule samples (sample value lead))
    → ((samples : List firing.Sample) → HasSampled watch samples → HasSampled watch' (sample value lead ∷ samples)) → watch'.rule ≡ watch.rule → autos ≡ set old.autos place watch'
    → triggers ≡ old.triggers ++ fired_trigger moment trigger lead answer → Does (Sample moment place value) old (record old { autos = autos; triggers = triggers })
sample_done laws moment place value trigger lead old watch watch' answer autos triggers open_is found fires answered after same autos_are sends = λ made ops gone h.
    let op : Operation = Sample moment place value in
    let earlier = reverse (numbered_of ops) in
    let answer_is : answer ≡ sampled watch.rule (samples_of place earlier) (sample value lead) = answered (samples_of place earlier) (h.autos.each place watch found) in
    let rule_found : slice_get made.autos place ≡ Some watch.rule =
    ap (λ (rules : List AutoRule). slice_get rules place) (sym h.autos.rules_are) ∙ slice_get-map (λ (w : Watch). w.rule) old.autos place ∙ ap (option_map (λ (w : Watch). w.rule)) found in
    let of_rule : AutoRule → List Trigger = λ rule. trigger_of moment rule lead (sampled rule (samples_of place earlier) (sample value lead)) in
    let fired : fired_trigger moment trigger lead answer ≡ trigger_in made.autos earlier (Some lead) op =
    ap (λ (id : TriggerId). fired_trigger moment id lead answer) (sym fires) ∙ sym (trigger_is moment watch.rule lead answer) ∙ ap (trigger_of moment watch.rule lead) answer_is ∙ ap (λ (o : Option AutoRule). option_map_or of_rule o []) (sym rule_found) in
    done_now laws made ops gone op old (record old { autos = autos; triggers = triggers }) h
    (record {
      writes = λ rest. apart_writes made ops gone op old (sample_apart moment place value) h rest;
      size = refl;
      calls = refl;
      counted = omega arith;
      trace = refl;
      page = refl;
      sound = h.sound;
      crumbs = none_more old.crumbs _ (sample_no_crumb moment place value old.core.trace);
      triggers = sends ∙ ap (λ (l : List Trigger). old.triggers ++ l) fired ∙ ap (λ (trace : Option TraceId). old.triggers ++ trigger_in made.autos earlier trace op) (sym open_is);
      autos =
          let now = watches made.autos ops earlier old.autos moment place value lead watch watch' found after same h.autos in
          let there = subst (λ (l : List Watch). AreWatching made.autos (at ops (Some lead) op ∷ earlier) l) (sym autos_are) now in
          subst (λ (trace : Option TraceId). AreWatching made.autos (at ops trace op ∷ earlier) autos) (sym open_is) there;
    })
