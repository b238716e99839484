use Rattle.std.proofs.Common.{◌≡◌, ◌++◌, take, map}
use Rattle.hs_workload.proofs.Prelude.{workload_of, all_settings, setting_of, Put, statements_text}
use Rattle.hs_workload.proofs.writer.push_head.Given as goal

abbrev pub invariant-loop-name : goal.invariant-loop-name
invariant-loop-name l =
    l.out.items ≡ l.initial.out.items ++ statements_text l.workload.version (map (λ setting. Put setting (setting_of (workload_of l.workload) setting)) (take l.name-index all_settings))
