use Rattle.std.proofs.Common.{◌≡◌, length, arith}
use Rattle.std.proofs.lemmas.List.{nil_from_length}
use Rattle.hs_agent.specs.Runs.{state_of}
use Rattle.tests_with.proofs.site.Site.finish.Goals as goal

pub finish-requires : goal.finish-requires
finish-requires c = λ working.
    let known = c.self.invariant working in
    let count = c.pinned.ensures known.0 known.1 in
    let none : length (state_of known.0).pinned ≡ 0 = omega (arith, count) in
    (known.0, known.1, (nil_from_length (state_of known.0).pinned none, known.2.offered))
