use Rattle.std.proofs.Common.{get_or, sym, ap, ◌∙◌}
use Rattle.hs_replay_client.proofs.Prelude.{append-nil, fired_by, working_in}
use Rattle.std.proofs.lemmas.Option.{get_or_from_slice_get}
use Rattle.hs_base.proofs.Lent.{lent, lent_is}
use Rattle.hs_auto.specs.declared.sampled.Sampled.TheVariants.{Quiet, Fired}
use Rattle.hs_replay_client.proofs.Samples.{is_found, sample_done}
use Rattle.hs_replay_client.proofs.doing.Doing.sample.Goals as goal

pub returns-in-Quiet-clause-done : goal.returns-in-Quiet-clause-done
returns-in-Quiet-clause-done c =
    let s = c.args.self.now in
    let items = s.autos.items in
    let now = c.as_mut_slice-autos.result.now in
    let x = get_or now c.args.auto c.index-autos-auto.result in
    let f = is_found items now c.args.rules.now c.args.auto c.index-autos-auto.result c.requires.auto c.as_mut_slice-autos.ensures.value in
    sample_done (record { numbered = c.one_operation_more.ensures.numbered; crumbs = c.one_operation_more.ensures.crumbs; triggers = c.one_operation_more.ensures.triggers })
    c.args.moment c.args.auto c.args.value c.fired_by-trigger.result c.in-Some.lead (working_in s) x c.sample.new.self Quiet (lent items now c.args.auto c.sample.new.self) s.triggers.items
    (sym c.trace.ensures ∙ c.in-Some.is) f.found (sym (c.fired_by-trigger.ensures ∙ ap fired_by (get_or_from_slice_get c.args.rules.now c.args.auto x.rule _ f.rule))) c.in-Quiet.ensures.answer c.sample.ensures.after c.sample.ensures.rule (lent_is items now c.args.auto c.sample.new.self c.as_mut_slice-autos.ensures.value)
    (sym (append-nil s.triggers.items))

pub returns-in_ok-push_back-in-Fired-clause-done : goal.returns-in_ok-push_back-in-Fired-clause-done
returns-in_ok-push_back-in-Fired-clause-done c =
    let s = c.args.self.now in
    let items = s.autos.items in
    let now = c.as_mut_slice-autos.result.now in
    let x = get_or now c.args.auto c.index-autos-auto.result in
    let f = is_found items now c.args.rules.now c.args.auto c.index-autos-auto.result c.requires.auto c.as_mut_slice-autos.ensures.value in
    sample_done (record { numbered = c.one_operation_more.ensures.numbered; crumbs = c.one_operation_more.ensures.crumbs; triggers = c.one_operation_more.ensures.triggers })
    c.args.moment c.args.auto c.args.value c.fired_by-trigger.result c.in-Some.lead (working_in s) x c.sample.new.self (Fired c.in-Fired.laterals) (lent items now c.args.auto c.sample.new.self) c.push_back.new.self.items
    (sym c.trace.ensures ∙ c.in-Some.is) f.found (sym (c.fired_by-trigger.ensures ∙ ap fired_by (get_or_from_slice_get c.args.rules.now c.args.auto x.rule _ f.rule))) c.in-Fired.ensures.answer c.sample.ensures.after c.sample.ensures.rule (lent_is items now c.args.auto c.sample.new.self c.as_mut_slice-autos.ensures.value)
    c.in_ok-push_back-in-Fired.ensures.items
