use Rattle.std.proofs.Common.{◌≡◌, List, [], ◌∷◌, ◌++◌, length, map, get_or, sym, ap, ap₂, ◌∙◌, subst, arith}
use Rattle.hs_replay_client.proofs.Prelude.{map-append, take_all, AllByRecursion, Watch, HasSampled, AutoRule, buffer_of, operation_of, new_core, Working, working_in}
use Rattle.std.proofs.lemmas.List.{take_more}
use Rattle.hs_base.proofs.Alls.{all_push}
use Rattle.hs_base.specs.declared.settings.AutoRule.TheVariants.{Exception}
use Rattle.hs_records.specs.Plain.{settings_of}
use Rattle.hs_replay_client.proofs.Making.{new_at}
use Rattle.hs_replay_client.proofs.client.ReplayClient.make.Goals as goal

abbrev rule_of : Watch → AutoRule
rule_of w = w.rule

pub loop-rule-preserved : goal.loop-rule-preserved
loop-rule-preserved c =
    let rules = c.args.settings.now.autos.items in
    let i = c.loop-rule.rule-index in
    let auto = c.in_ok-make.field-0 in
    let is = c.loop-rule.invariant in
    let pushed = c.push.ensures.items in
    let same : c.as_slice-rule-items.result.now ≡ rules = c.as_slice-rule-items.ensures in
    let default : AutoRule = Exception (record { 0 = 0 }) in
    let rule : auto.rule ≡ get_or rules i default = c.in_ok-make.ensures.rule ∙ ap (λ (l : List AutoRule). get_or l i default) same in (
      omega (arith, is.0, c.push.ensures.room),
      ap (map rule_of) pushed ∙ map-append rule_of c.loop-rule.autos.items (auto ∷ []) ∙ ap₂ (λ (l : List AutoRule) (r : AutoRule). l ++ r ∷ []) is.1 rule ∙ sym (take_more rules i default (omega (arith, c.loop-rule-test.true, ap length same))),
      subst (λ (l : List Watch). AllByRecursion (λ (w : Watch). HasSampled w []) l) (sym pushed) (all_push (λ (w : Watch). HasSampled w []) c.loop-rule.autos.items auto is.2 c.in_ok-make.ensures.fresh),
    )

pub returns : goal.returns
returns c =
    let rules = c.args.settings.now.autos.items in
    let works : Working = working_in (record { writer = record { core = c.in_ok-make-2.field-0; chunks = c.new.result }; autos = c.loop-rule.autos; crumbs = c.new-2.result; triggers = c.new-3.result }) in
    let same : c.as_slice-rule-items.result.now ≡ rules = c.as_slice-rule-items.ensures in
    let core = c.in_ok-make-2.ensures.core in
    new_at
    (record {
      books = c.any_steps_make_the_book.ensures;
      timely = c.timed_pages_are_timely.ensures;
      handed = c.cores_hand_out_so_far.ensures;
      crumbs = c.the_first_crumbs_are_sent.ensures;
      triggers = c.the_first_triggers_are_sent.ensures;
    })
    (settings_of c.args.settings.now) c.args.client (map operation_of c.args.operations.now) works c.requires
    (record {
      least = c.requires.least;
      core = core ∙ ap (new_core c.args.client c.args.settings.now.size) c.count_calls-calls.ensures;
      rules = c.loop-rule.invariant.1 ∙ take_all c.loop-rule.rule-index rules (omega (arith, c.loop-rule-test.false, ap length same));
      fresh = c.loop-rule.invariant.2;
      chunks = ap (map buffer_of) c.new.ensures.items;
      crumbs = c.new-2.ensures.items;
      triggers = c.new-3.ensures.items;
    })
