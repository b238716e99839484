use Rattle.std.proofs.Common.{ℕ, arith}
use Rattle.hs_run.proofs.closing.close_down.Goals as goal

pub passes-init : goal.passes-init
passes-init c = record { paid = c.requires; by = λ W rounds m sents at. at }

pub pass_all-requires : goal.pass_all-requires
pass_all-requires c = let r = c.passes.invariant.paid in record { workload = r.workload; rounds = r.rounds; moment = r.moment; sents = r.sents; at = r.at }

pub overflow_add-made : goal.overflow_add-made
overflow_add-made c = let few = c.passes_are_few.ensures c.passes.made c.passes.nodes.items c.passes.coordinator c.passes.invariant.paid in omega (arith, few)

pub passes-smaller : goal.passes-smaller
passes-smaller c = let few = c.passes_are_few.ensures c.passes.made c.passes.nodes.items c.passes.coordinator c.passes.invariant.paid in omega (arith, few)

pub passes-preserved : goal.passes-preserved
passes-preserved c =
    let r = c.passes.invariant.paid in
    let led = c.in_ok-pass_all.ensures r.workload r.rounds r.moment r.sents r.at in
    let left = (c.is_bare.ensures r.workload r.sents (λ (node : ℕ). (r.at.posts node).work) r.at.stand.stands).1 c.passes-test.true in
    record {
      paid =
          record {
            workload = r.workload;
            rounds = r.rounds;
            moment = r.moment;
            came = r.came;
            sents = r.sents;
            fit = r.fit;
            at = led.next;
            pays = led.pays r.fit left c.passes.made r.pays;
          };
      by = λ W rounds m sents at. (c.in_ok-pass_all.ensures W rounds m sents (c.passes.invariant.by W rounds m sents at)).next;
    }

pub returns : goal.returns
returns c = λ W rounds m sents at.
    let now = c.passes.invariant.by W rounds m sents at in
    record { at = now; bare = (c.is_bare.ensures W sents (λ (node : ℕ). (now.posts node).work) now.stand.stands).0 c.passes-test.false }
