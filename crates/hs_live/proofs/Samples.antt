-- A sample that an autotrigger of a client is given.
use Rattle.std.proofs.Common.{◌≡◌, ℕ, ◌<◌, List, [], ◌∷◌, ◌++◌, length, set, get_or, reverse, Option, Some, refl, sym, ap, ◌∙◌, subst}
use Rattle.hs_live.proofs.Prelude.{append-nil, same_Some, slice_get-map, slice_get_within, slice_get, option_map, lent_from, TraceId, Crumb, Trigger, fired_by, Operation, Sample, Piece, numbered_of, segments_from, segments_of, Watch, HasSampled, Outgoing, sent, AreWatching, trigger_in, OneMore, Key, PlainClient, IsWriting, writing_of, Does}
use Rattle.std.specs.Option.{option_map_or}
use Rattle.hs_base.specs.declared.ids.TriggerId.{TriggerId}
use Rattle.hs_base.specs.declared.settings.AutoRule.{AutoRule}
use Rattle.hs_auto.specs.Firing.{sampled}
use Rattle.hs_auto.specs.Firing as firing
use Rattle.hs_auto.specs.declared.sampled.Sampled.{Sampled}
use Rattle.hs_client.specs.Sending.{samples_of, trigger_of}
use Rattle.hs_client.proofs.Adding.{at}
use Rattle.hs_client.proofs.Sampling.{sample, fired_trigger, trigger_is, watches, coming_sample, sample_no_crumb}
use Rattle.hs_live.specs.declared.called.Called.TheVariants as called
use Rattle.hs_live.proofs.Doing.{done_now}

-- ---- the autotriggers

-- the autotrigger that is lent is that of this number
pub record IsFound (items : List Watch) (place : ℕ) (watch : Watch) (trigger : TriggerId) : Type 0 where
  pub found : slice_get items place ≡ Some watch
  pub fires : fired_by watch.rule ≡ trigger

pub is_found : (items now : List Watch) (place : ℕ) (default : Watch) (trigger : TriggerId) → (other : Watch) × (slice_get items place ≡ Some other) × (fired_by other.rule ≡ trigger) → now ≡ items → IsFound items place (get_or now place default) trigger
is_found items now place default trigger auto same =
    let within : place < length items = slice_get_within items place auto.0 auto.1 in
    let there = lent_from items now place default same within in
    record { found = there; fires = ap (λ (w : Watch). fired_by w.rule) (same_Some (get_or now place default) auto.0 (sym there ∙ auto.1)) ∙ auto.2 }

-- ---- the sample

pub sample_done : OneMore → (moment place value : ℕ) (trigger : TriggerId) (lead : TraceId) (old : PlainClient) (watch watch' : Watch) (answer : Sampled) (autos : List Watch) (triggers : Outgoing Trigger Key) → old.core.trace ≡ Some lead
    → slice_get old.autos place ≡ Some watch → fired_by watch.rule ≡ trigger → ((samples : List firing.Sample) → HasSampled watch samples → answer ≡ sampled watch.rule samples (sample value lead))
    → ((samples : List firing.Sample) → HasSampled watch samples → HasSampled watch' (sample value lead ∷ samples)) → watch'.rule ≡ watch.rule → autos ≡ set old.autos place watch'
    → sent triggers ≡ sent old.triggers ++ fired_trigger moment trigger lead answer → Does (Sample moment place value) called.Done old (record old { autos = autos; triggers = triggers })
sample_done laws moment place value trigger lead old watch watch' answer autos triggers open_is found fires answered after same autos_are sends = λ made ops h.
    let op : Operation = Sample moment place value in
    let earlier = reverse (numbered_of (made.earlier ++ ops)) in
    let answer_is : answer ≡ sampled watch.rule (samples_of place earlier) (sample value lead) = answered (samples_of place earlier) (h.autos.each place watch found) in
    let rule_found : slice_get made.autos place ≡ Some watch.rule =
    ap (λ (rules : List AutoRule). slice_get rules place) (sym h.autos.rules_are) ∙ slice_get-map (λ (w : Watch). w.rule) old.autos place ∙ ap (option_map (λ (w : Watch). w.rule)) found in
    let of_rule : AutoRule → List Trigger = λ rule. trigger_of moment rule lead (sampled rule (samples_of place earlier) (sample value lead)) in
    let fired : fired_trigger moment trigger lead answer ≡ trigger_in made.autos earlier (Some lead) op =
    ap (λ (id : TriggerId). fired_trigger moment id lead answer) (sym fires) ∙ sym (trigger_is moment watch.rule lead answer) ∙ ap (trigger_of moment watch.rule lead) answer_is ∙ ap (λ (o : Option AutoRule). option_map_or of_rule o []) (sym rule_found) in
    done_now laws made ops op old (record old { autos = autos; triggers = triggers }) h
    (record {
      writes = λ rest.
          subst (λ (pieces : List Piece). IsWriting made pieces (segments_from made.size old.core.number rest) (segments_of made.size (ops ++ op ∷ rest)) (writing_of old))
          (coming_sample made.size old.core.number moment place value old.core.trace rest) (h.writes (op ∷ rest));
      trace = refl;
      page = refl;
      crumbs = sym (ap (λ (l : List Crumb). sent old.crumbs ++ l) (sample_no_crumb moment place value old.core.trace) ∙ append-nil (sent old.crumbs));
      triggers = sends ∙ ap (λ (l : List Trigger). sent old.triggers ++ l) fired ∙ ap (λ (trace : Option TraceId). sent old.triggers ++ trigger_in made.autos earlier trace op) (sym open_is);
      autos =
          let now = watches made.autos (made.earlier ++ ops) earlier old.autos moment place value lead watch watch' found after same h.autos in
          let there = subst (λ (l : List Watch). AreWatching made.autos (at (made.earlier ++ ops) (Some lead) op ∷ earlier) l) (sym autos_are) now in
          subst (λ (trace : Option TraceId). AreWatching made.autos (record { number = length (made.earlier ++ ops); trace = trace; operation = op } ∷ earlier) autos) (sym open_is) there;
    })
