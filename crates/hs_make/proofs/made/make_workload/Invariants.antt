use Rattle.std.proofs.Common.{◌≡◌, map, vec_len}
use Rattle.hs_records.specs.Views.{operations_of}
use Rattle.hs_make.specs.Words.{words_from, seeded_words}
use Rattle.hs_make.specs.Made.{clients_at, behind_requests}
use Rattle.hs_make.proofs.made.make_workload.Given as goal

abbrev pub invariant-loop-request : goal.invariant-loop-request
invariant-loop-request l =
    record {
      len : vec_len l.clients ≡ 12;
      clients : map operations_of l.clients.items ≡ clients_at l.request (seeded_words l.fn.seed);
      words : words_from l.generator ≡ behind_requests l.request (seeded_words l.fn.seed);
    }
