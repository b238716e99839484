use Rattle.std.proofs.Common.{◌≡◌, ◌∙◌, Some, length, map, refl, sym, ap}
use Rattle.std.specs.Prelude.{option_map, slice_get}
use Rattle.std.proofs.lemmas.Option.{slice_get_read, slice_get-map}
use Rattle.hs_board.proofs.Lines.{one_written}
use Rattle.hs_board.proofs.writing.push_watchers.Goals as goal

pub loop-number-preserved : goal.loop-number-preserved
loop-number-preserved c =
    let lists = c.args.all.now in
    let all = map (λ seen. seen.items) lists in
    let at : slice_get all c.loop-number.number ≡ Some c.as_slice.result.now =
    slice_get-map (λ seen. seen.items) lists c.loop-number.number
    ∙ ap (option_map (λ seen. seen.items)) (slice_get_read lists (length lists) c.loop-number.number c.index-all-number.result refl c.loop-number-test.true c.index-all-number.is)
    ∙ ap Some (sym c.as_slice.ensures) in
    one_written c.loop-number.number all c.as_slice.result.now c.args.out.now.items _ _ at c.loop-number.invariant c.in_ok-push_watcher.ensures
