use Rattle.std.proofs.Common.{◌≡◌, ◌++◌}
use Rattle.hs_traces.specs.Parts.{keys_of}
use Rattle.hs_traces.proofs.part.Part.keys.Given as goal

-- what was found, and what is still to be found
abbrev pub invariant-loop-key : goal.invariant-loop-key
invariant-loop-key l = l.keys.items ++ keys_of l.key-iterator ≡ keys_of l.self
