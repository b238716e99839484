use Rattle.std.proofs.Common.{◌≡◌, ◌+◌, ◌-◌, ◌≤◌, vec_len}
use Rattle.hs_workload.specs.declared.reading.TheConstants.{PIECE}
use Rattle.hs_base.specs.declared.limits.TheConstants.{MAX_INPUT}
use Rattle.hs_base.specs.Outside.{Loses}
use Rattle.hs_workload.proofs.reading.read_all.Given as goal

abbrev pub invariant-loop-text : goal.invariant-loop-text
invariant-loop-text g l =
    let left = g.S.Source.left in
    let faults = g.S.Source.faults in
    record {
      lost : Loses (left l.fn.source) (left l.source) l.text.items;
      within : vec_len l.text ≤ MAX_INPUT + 1;
      piece : vec_len l.piece ≡ PIECE;
      still : faults l.source ≡ faults l.fn.source;
    }

abbrev pub decreases-loop-text : goal.decreases-loop-text
decreases-loop-text g l = MAX_INPUT + 1 - vec_len l.text
