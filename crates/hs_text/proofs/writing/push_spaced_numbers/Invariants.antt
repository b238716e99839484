use Rattle.std.proofs.Common.{◌≡◌, ◌++◌, take, map, decimal}
use Rattle.hs_text.specs.Writing.{spaced}
use Rattle.hs_text.proofs.writing.push_spaced_numbers.Given as goal

abbrev pub invariant-loop-number : goal.invariant-loop-number
invariant-loop-number l = l.out.items ≡ l.initial.out.items ++ spaced (map decimal (take l.number-index l.numbers))
