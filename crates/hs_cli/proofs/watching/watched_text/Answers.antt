use Rattle.std.proofs.Common.{◌≡◌, ◌∙◌, ◌++◌, ap₂, ap, map}
use Rattle.std.proofs.lemmas.Result.{IfOk-weaker}
use Rattle.hs_board.specs.WatchText.{watch_text}
use Rattle.hs_run.specs.Ended.{items_of}
use Rattle.hs_cli.proofs.watching.watched_text.Goals as goal

pub returns : goal.returns
returns c =
    let behind : watch_text (map (λ one. one.items) c.as_slice.result.now) ≡ watch_text (items_of c.args.watched.now.seen.items) = ap (λ lists. watch_text (map (λ one. one.items) lists)) c.as_slice.ensures in
    IfOk-weaker c.with_watchers.result _ _ (λ text is W J valid lawful come. is ∙ ap₂ (λ first more. first ++ more) (c.in_ok-text.ensures W J valid lawful come) behind) c.with_watchers.ensures
