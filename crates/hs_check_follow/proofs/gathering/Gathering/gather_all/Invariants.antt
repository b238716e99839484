use Rattle.std.proofs.Common.{map}
use Rattle.hs_check_follow.proofs.Prelude.{operation_of}
use Rattle.hs_check_follow.specs.Gathering.{SendsFirst}
use Rattle.hs_check_follow.proofs.gathering.Gathering.gather_all.Given as goal

abbrev pub invariant-loop-number : goal.invariant-loop-number
invariant-loop-number l = SendsFirst l.rules (map operation_of l.operations) l.number l.initial.script l.initial.player l.initial.self l.script l.player l.self
