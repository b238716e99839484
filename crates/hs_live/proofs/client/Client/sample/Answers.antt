use Rattle.std.proofs.Common.{◌≡◌, List, map, get_or, sym, ap, ◌∙◌, subst}
use Rattle.hs_live.proofs.Prelude.{append-nil, lent, lent_is, Sample, Watch, sent, Done, PlainClient, Does, live_of}
use Rattle.hs_auto.specs.declared.sampled.Sampled.TheVariants.{Quiet, Fired}
use Rattle.hs_client.proofs.Sampling.{rules_set}
use Rattle.hs_live.specs.Calls.{IsAutoOf}
use Rattle.hs_live.proofs.Samples.{is_found, sample_done}
use Rattle.hs_link.specs.Contents.{TakesPlaces}
use Rattle.hs_live.proofs.Senders.{takes_one}
use Rattle.hs_live.proofs.client.Client.sample.Goals as goal

pub returns-in-Quiet-clause-does : goal.returns-in-Quiet-clause-does
returns-in-Quiet-clause-does c =
    let s = c.self.inside in
    let items = s.autos.items in
    let now = c.as_mut_slice-autos.result.now in
    let place = c.args.auto in
    let default = c.index-autos-auto.result in
    let x = get_or now place default in
    let f = is_found items now place default c.args.trigger (subst (λ (l : PlainClient). IsAutoOf l place c.args.trigger) (sym c.self.view_is) c.requires.auto) c.as_mut_slice-autos.ensures.value in
    let autos = lent items now place c.sample.new.self in
    let new : PlainClient = live_of (record { writer = s.writer; autos = record { items = autos; room = s.autos.room }; crumbs = s.crumbs; triggers = s.triggers }) in
    subst (λ (old : PlainClient). Does (Sample c.args.moment place c.args.value) Done old new) c.self.view_is
    (sample_done (record { numbered = c.one_operation_more.ensures.numbered; crumbs = c.one_operation_more.ensures.crumbs; triggers = c.one_operation_more.ensures.triggers })
    c.args.moment place c.args.value c.args.trigger c.in-Some.lead (live_of s) x c.sample.new.self Quiet autos s.triggers (sym c.trace.ensures ∙ c.in-Some.is) f.found f.fires
    c.in-Quiet.ensures.answer c.sample.ensures.after c.sample.ensures.rule (lent_is items now place c.sample.new.self c.as_mut_slice-autos.ensures.value) (sym (append-nil (sent s.triggers))))

pub returns-in-Quiet-clause-rules : goal.returns-in-Quiet-clause-rules
returns-in-Quiet-clause-rules c =
    let items = c.self.inside.autos.items in
    let now = c.as_mut_slice-autos.result.now in
    let place = c.args.auto in
    let default = c.index-autos-auto.result in
    let x = get_or now place default in
    let f = is_found items now place default c.args.trigger (subst (λ (l : PlainClient). IsAutoOf l place c.args.trigger) (sym c.self.view_is) c.requires.auto) c.as_mut_slice-autos.ensures.value in
    subst (λ (old : PlainClient). map (λ (w : Watch). w.rule) (lent items now place c.sample.new.self) ≡ map (λ (w : Watch). w.rule) old.autos) c.self.view_is
    (ap (λ (l : List Watch). map (λ (w : Watch). w.rule) l) (lent_is items now place c.sample.new.self c.as_mut_slice-autos.ensures.value) ∙ rules_set items place x c.sample.new.self f.found c.sample.ensures.rule)

pub returns-in-Fired-clause-does : goal.returns-in-Fired-clause-does
returns-in-Fired-clause-does c =
    let s = c.self.inside in
    let items = s.autos.items in
    let now = c.as_mut_slice-autos.result.now in
    let place = c.args.auto in
    let default = c.index-autos-auto.result in
    let x = get_or now place default in
    let f = is_found items now place default c.args.trigger (subst (λ (l : PlainClient). IsAutoOf l place c.args.trigger) (sym c.self.view_is) c.requires.auto) c.as_mut_slice-autos.ensures.value in
    let autos = lent items now place c.sample.new.self in
    let new : PlainClient = live_of (record { writer = s.writer; autos = record { items = autos; room = s.autos.room }; crumbs = s.crumbs; triggers = c.send_within.new.self }) in
    subst (λ (old : PlainClient). Does (Sample c.args.moment place c.args.value) Done old new) c.self.view_is
    (sample_done (record { numbered = c.one_operation_more.ensures.numbered; crumbs = c.one_operation_more.ensures.crumbs; triggers = c.one_operation_more.ensures.triggers })
    c.args.moment place c.args.value c.args.trigger c.in-Some.lead (live_of s) x c.sample.new.self (Fired c.in-Fired.laterals) autos c.send_within.new.self (sym c.trace.ensures ∙ c.in-Some.is) f.found f.fires
    c.in-Fired.ensures.answer c.sample.ensures.after c.sample.ensures.rule (lent_is items now place c.sample.new.self c.as_mut_slice-autos.ensures.value) c.send_within.ensures.sent)

pub returns-in-Fired-clause-rules : goal.returns-in-Fired-clause-rules
returns-in-Fired-clause-rules c =
    let items = c.self.inside.autos.items in
    let now = c.as_mut_slice-autos.result.now in
    let place = c.args.auto in
    let default = c.index-autos-auto.result in
    let x = get_or now place default in
    let f = is_found items now place default c.args.trigger (subst (λ (l : PlainClient). IsAutoOf l place c.args.trigger) (sym c.self.view_is) c.requires.auto) c.as_mut_slice-autos.ensures.value in
    subst (λ (old : PlainClient). map (λ (w : Watch). w.rule) (lent items now place c.sample.new.self) ≡ map (λ (w : Watch). w.rule) old.autos) c.self.view_is
    (ap (λ (l : List Watch). map (λ (w : Watch). w.rule) l) (lent_is items now place c.sample.new.self c.as_mut_slice-autos.ensures.value) ∙ rules_set items place x c.sample.new.self f.found c.sample.ensures.rule)

pub returns-in-Fired-clause-places : goal.returns-in-Fired-clause-places
returns-in-Fired-clause-places c =
    let sends = c.send_within.ensures in
    subst (λ (old : PlainClient). TakesPlaces 1 old.triggers c.send_within.new.self) c.self.view_is (takes_one _ c.self.inside.triggers c.send_within.new.self sends.same sends.put sends.sent)
