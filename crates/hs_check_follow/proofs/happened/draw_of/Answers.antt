use Rattle.std.proofs.Common.{◌≡◌, ◌*◌, length, take, refl, arith}
use Rattle.hs_check_follow.proofs.Prelude.{journal_of}
use Rattle.hs_check_follow.proofs.PoolEvents.{no_client, no_page, one_page}
use Rattle.hs_check_follow.proofs.happened.draw_of.Goals as goal

pub returns-then-number-clients : goal.returns-then-number-clients
returns-then-number-clients c = no_client (journal_of c.args.journal.now) (c.args.node * c.args.each) c.args.clients.now c.args.page c.if-number-clients.true

pub returns-then-place-draws : goal.returns-then-place-draws
returns-then-place-draws c =
    no_page (journal_of c.args.journal.now) (c.args.node * c.args.each) c.args.clients.now c.args.page c.index-clients-number.result c.if-number-clients.false c.index-clients-number.is c.drawn_of-draws.result.now c.drawn_of-draws.ensures c.if-place-draws.true

pub returns : goal.returns
returns c =
    one_page (journal_of c.args.journal.now) (c.args.node * c.args.each) c.args.clients.now c.args.page c.index-clients-number.result c.if-number-clients.false c.index-clients-number.is c.drawn_of-draws.result.now c.drawn_of-draws.ensures _ c.if-place-draws.false
