use Rattle.std.proofs.Common.{ℕ, ◌++◌}
use Rattle.hs_run.proofs.Prelude.{on_ok_weaker, moved_by, asked_by}
use Rattle.hs_run.proofs.Closed.{asked_begins, led_on}
use Rattle.hs_run.proofs.closing.pass_all.Goals as goal

pub agents_pass-requires : goal.agents_pass-requires
agents_pass-requires c = let r = c.requires in record { workload = r.workload; sents = r.sents; heard = r.at.heard; works = λ node. (r.at.posts node).work; stand = r.at.stand }

pub pass-requires-after_bounds : goal.pass-requires-after_bounds
pass-requires-after_bounds c κs =
    let r = c.requires in
    let p = c.in_ok-agents_pass.ensures r.workload r.sents r.at.heard (λ node. (r.at.posts node).work) r.at.stand in
    (r.workload, r.at.heard, moved_by p.works, asked_by p.works, p.coordinates)

pub ask_all-requires : goal.ask_all-requires
ask_all-requires c =
    let r = c.requires in
    let works = λ (node : ℕ). (r.at.posts node).work in
    let p = c.in_ok-agents_pass.ensures r.workload r.sents r.at.heard works r.at.stand in
    let h = c.in_ok-pass.ensures r.workload r.at.heard (moved_by p.works) (asked_by p.works) p.coordinates in
    record {
      workload = r.workload;
      sents = r.sents;
      heard = r.at.heard ++ h.0;
      works = p.works;
      asking = asked_begins r.workload r.sents r.at.heard works c.args.nodes.now.items c.agents_pass.new.nodes.items c.args.coordinator.now c.agents_pass.new.coordinator r.at.stand p h.0 c.pass.new.self h.1;
    }

pub returns : goal.returns
returns c = λ W rounds m sents at.
    let works = λ (node : ℕ). (at.posts node).work in
    let p = c.in_ok-agents_pass.ensures W sents at.heard works at.stand in
    let h = c.in_ok-pass.ensures W at.heard (moved_by p.works) (asked_by p.works) p.coordinates in
    let begins = asked_begins W sents at.heard works c.args.nodes.now.items c.agents_pass.new.nodes.items c.args.coordinator.now c.agents_pass.new.coordinator at.stand p h.0 c.pass.new.self h.1 in
    on_ok_weaker c.ask_all.result
    (λ a. led_on c.closing_goes_on.ensures c.agents_are_between_passes.ensures W rounds m sents c.args.nodes.now.items c.agents_pass.new.nodes.items c.ask_all.new.nodes.items c.args.coordinator.now c.agents_pass.new.coordinator c.pass.new.self
    c.ask_all.new.coordinator at p h.0 h.1 a.0 a.1 c.passes_pay.ensures)
    (c.ask_all.ensures W sents (at.heard ++ h.0) p.works begins)
