use Rattle.std.proofs.Common.{◌≡◌, ◌+◌, length, sym, ◌∙◌}
use Rattle.hs_check_follow.proofs.Prelude.{eq-eqb}
use Rattle.hs_check_follow.proofs.Offered.{last_ends}
use Rattle.hs_check_follow.proofs.offers.is_last.Goals as goal

pub returns-then-place-log : goal.returns-then-place-log
returns-then-place-log c = eq-eqb (c.args.place + 1) (length c.args.log.now) c.if-place-log.true ∙ sym (last_ends c.args.log.now c.args.place c.if-place-log.true)
