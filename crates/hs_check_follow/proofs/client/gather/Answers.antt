use Rattle.std.proofs.Common.{length, map, sym, subst}
use Rattle.hs_check_follow.proofs.Prelude.{length-map, settings_of, operation_of, IsSentBy}
use Rattle.hs_check_follow.proofs.NothingSent.{begins_so}
use Rattle.hs_check_follow.proofs.client.gather.Goals as goal

pub gather_all-requires : goal.gather_all-requires
gather_all-requires c = (
  settings_of c.args.settings.now,
  c.args.client,
  c.args.draws.now,
  c.as_slice-rules.ensures,
  begins_so (settings_of c.args.settings.now) c.args.client (map operation_of c.args.operations.now) c.args.draws.now c.in_ok-script.script c.in_ok-player.player c.new-gathering.result c.requires.each
      c.in_ok-script.ensures.left c.in_ok-script.ensures.size c.in_ok-player.ensures c.new-gathering.ensures,
)

pub returns : goal.returns
returns c =
    let settings = settings_of c.args.settings.now in
    let ops = map operation_of c.args.operations.now in
    let draws = c.args.draws.now in
    let begins = begins_so settings c.args.client ops draws c.in_ok-script.script c.in_ok-player.player c.new-gathering.result c.requires.each
    c.in_ok-script.ensures.left c.in_ok-script.ensures.size c.in_ok-player.ensures c.new-gathering.ensures in
    let went = c.in_ok-gather_all.ensures settings c.args.client draws c.as_slice-rules.ensures begins in (
      c.gather_all.new.script,
      subst (λ n. IsSentBy settings c.args.client ops draws n c.gather_all.new.script c.gather_all.new.player c.gather_all.new.self) (sym (length-map c.args.operations.now operation_of)) went,
    )
