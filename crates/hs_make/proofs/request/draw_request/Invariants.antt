use Rattle.std.proofs.Common.{◌≡◌, map, vec_len}
use Rattle.hs_records.specs.Views.{operations_of}
use Rattle.hs_make.specs.Words.{words_from}
use Rattle.hs_make.specs.Made.{request_until, Adds, behind_visits}
use Rattle.hs_make.proofs.request.draw_request.Given as goal

abbrev pub invariant-loop-node : goal.invariant-loop-node
invariant-loop-node l =
    record {
      len : vec_len l.clients ≡ 12;
      added : Adds (request_until l.node l.request (words_from l.fn.generator)) (map operations_of l.fn.clients.items) (map operations_of l.clients.items);
      words : words_from l.generator ≡ behind_visits l.node (words_from l.fn.generator);
    }
