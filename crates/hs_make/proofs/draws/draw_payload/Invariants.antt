use Rattle.std.proofs.Common.{◌≡◌, ◌+◌, ◌≤◌}
use Rattle.hs_make.specs.Words.{words_from, from}
use Rattle.hs_make.specs.Made.{bytes_at}
use Rattle.hs_make.proofs.draws.draw_payload.Given as goal

abbrev pub invariant-bytes : goal.invariant-bytes
invariant-bytes l =
    record {
      bytes : l.payload.items ≡ bytes_at l.counter (words_from l.fn.generator);
      words : words_from l.generator ≡ from (1 + l.counter) (words_from l.fn.generator);
      room : l.length ≤ l.payload.room;
    }
