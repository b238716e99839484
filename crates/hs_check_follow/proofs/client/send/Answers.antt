use Rattle.std.proofs.Common.{map, ap, ◌∙◌}
use Rattle.hs_check_follow.proofs.Prelude.{PlainClientBook, settings_of, operation_of}
use Rattle.hs_check_follow.proofs.client.send.Goals as goal

pub book_of-requires : goal.book_of-requires
book_of-requires c =
    let s = c.in_ok-player.ensures.1 in
    record { settings = settings_of c.args.settings.now; client = c.args.client; ops = map operation_of c.args.operations.now; drawn = s.drawn; k = _; l = _; m = _; at = s.at }

pub followed-requires-clause-sent : goal.followed-requires-clause-sent
followed-requires-clause-sent c = (c.in_ok-player.player, c.in_ok-player.ensures)

pub followed-requires-clause-book : goal.followed-requires-clause-book
followed-requires-clause-book c =
    let s = c.in_ok-player.ensures.1 in
    let noted = c.in_ok-book.ensures in
    noted.2
    ∙ ap (λ (b : PlainClientBook). record { client = b.client; draws = c.args.draws.now; pages = b.pages })
    (noted.1 (settings_of c.args.settings.now) c.args.client (map operation_of c.args.operations.now) s.drawn _ _ _ s.at)
