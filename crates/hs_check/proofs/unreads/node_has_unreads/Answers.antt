use Rattle.std.proofs.Common.{sym, ◌∙◌}
use Rattle.hs_check.proofs.Stepping.{none_of}
use Rattle.hs_check.proofs.unreads.node_has_unreads.Goals as goal

pub returns-then-not-has_unread : goal.returns-then-not-has_unread
returns-then-not-has_unread c = none_of _ c.log_of-log.result.now _ c.log_of-log.ensures (sym c.has_unread.ensures ∙ c.if-not-has_unread.true)
