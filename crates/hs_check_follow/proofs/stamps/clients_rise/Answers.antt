use Rattle.std.proofs.Common.{◌≡◌, ℕ, Bool, ◌+◌, List, sym, ap, ◌∙◌, arith}
use Rattle.hs_check_follow.proofs.Prelude.{list_all, range_with_len, Draw, PlainJournal, journal_of, draw_stamps, rise, node_draws, draws_at, place_of, workload_of}
use Rattle.hs_base.proofs.Tests.{list_all_map}
use Rattle.hs_check_follow.proofs.Ranges.{all_more, all_fails, all_done}
use Rattle.hs_check_follow.proofs.stamps.clients_rise.Goals as goal

abbrev test : PlainJournal → ℕ → ℕ → ℕ → Bool
test j clients node number = rise (draw_stamps (draws_at j (place_of clients node number)))

pub loop-number-init : goal.loop-number-init
loop-number-init c =
    let j = journal_of c.args.journal.now in
    let n = c.args.workload.now.settings.clients in
    sym (list_all_map (λ draws. rise (draw_stamps draws)) (λ number. draws_at j (place_of n c.args.node number)) (range_with_len 0 n))

pub loop-number-preserved : goal.loop-number-preserved
loop-number-preserved c =
    let j = journal_of c.args.journal.now in
    let n = c.args.workload.now.settings.clients in
    let at = ap (λ (l : List Draw). rise (draw_stamps l)) (sym c.draws_of.ensures) ∙ sym c.draws_rise.ensures ∙ c.if-not-draws_rise.false in
    all_more (test j n c.args.node) _ c.loop-number.number n c.loop-number-test.true at c.loop-number.invariant

pub returns-then-not-draws_rise : goal.returns-then-not-draws_rise
returns-then-not-draws_rise c =
    let j = journal_of c.args.journal.now in
    let n = c.args.workload.now.settings.clients in
    let at = ap (λ (l : List Draw). rise (draw_stamps l)) (sym c.draws_of.ensures) ∙ sym c.draws_rise.ensures ∙ c.if-not-draws_rise.true in
    all_fails (test j n c.args.node) _ c.loop-number.number n c.loop-number-test.true at c.loop-number.invariant

pub returns : goal.returns
returns c =
    let n = c.args.workload.now.settings.clients in
    all_done (test (journal_of c.args.journal.now) n c.args.node) _ c.loop-number.number n c.loop-number-test.false c.loop-number.invariant
