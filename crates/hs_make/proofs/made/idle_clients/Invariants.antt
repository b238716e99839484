use Rattle.std.proofs.Common.{◌≡◌, [], map, vec_len}
use Rattle.hs_records.specs.Views.{operations_of}
use Rattle.hs_make.specs.Words.{each_below}
use Rattle.hs_make.proofs.made.idle_clients.Given as goal

abbrev pub invariant-idle : goal.invariant-idle
invariant-idle l = record { len : vec_len l.clients ≡ l.counter; idle : map operations_of l.clients.items ≡ each_below l.counter (λ _. []) }
