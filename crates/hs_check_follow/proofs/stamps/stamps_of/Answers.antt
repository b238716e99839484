use Rattle.std.proofs.Common.{◌≡◌, ℕ, ◌+◌, ◌++◌, List, sym, ap, ◌∙◌, arith}
use Rattle.hs_check_follow.proofs.Prelude.{flat_map, range_with_len, Draw, Step, PlainJournal, journal_of, draw_stamps, log_stamps, node_draws, log_at, draws_at, place_of, workload_of}
use Rattle.std.proofs.lemmas.List.Folds.{flat_map-map}
use Rattle.hs_check_follow.proofs.Ranges.{range_from, told_more, told_all}
use Rattle.hs_check_follow.proofs.stamps.stamps_of.Goals as goal

abbrev stamps : PlainJournal → ℕ → ℕ → ℕ → List ℕ
stamps j clients node number = draw_stamps (draws_at j (place_of clients node number))

pub loop-number-init : goal.loop-number-init
loop-number-init c =
    let j = journal_of c.args.journal.now in
    let n = c.args.workload.now.settings.clients in
    ap (λ (l : List ℕ). l ++ flat_map (stamps j n c.args.node) (range_with_len 0 n)) c.new-stamps.ensures.items
    ∙ sym (flat_map-map draw_stamps (λ number. draws_at j (place_of n c.args.node number)) (range_with_len 0 n))

pub loop-number-preserved : goal.loop-number-preserved
loop-number-preserved c =
    let j = journal_of c.args.journal.now in
    let n = c.args.workload.now.settings.clients in
    let now : c.push_draws.new.stamps.items ≡ c.loop-number.stamps.items ++ stamps j n c.args.node c.loop-number.number =
    c.in_ok-push_draws.ensures ∙ ap (λ (l : List Draw). c.loop-number.stamps.items ++ draw_stamps l) c.draws_of.ensures in
    ap (λ (l : List ℕ). l ++ flat_map (stamps j n c.args.node) (range_from (c.loop-number.number + 1) n)) now
    ∙ told_more (stamps j n c.args.node) _ c.loop-number.number n c.loop-number.stamps.items c.loop-number-test.true c.loop-number.invariant

pub returns : goal.returns
returns c =
    let j = journal_of c.args.journal.now in
    let n = c.args.workload.now.settings.clients in
    let drawn = told_all (stamps j n c.args.node) _ c.loop-number.number n c.loop-number.stamps.items c.loop-number-test.false c.loop-number.invariant in
    c.in_ok-push_log.ensures ∙ ap (λ (l : List Step). c.loop-number.stamps.items ++ log_stamps l) c.log_of.ensures
    ∙ ap (λ (l : List ℕ). l ++ log_stamps (log_at j c.args.node)) drawn
