use Rattle.std.proofs.Common.{◌≡◌, ◌+◌, ◌*◌, ◌∷◌, length, take}
use Rattle.hs_wire.proofs.Prelude.{flat_map, Puts, trace_bytes, FitTraces}
use Rattle.hs_wire.proofs.writing.put_laterals.Given as goal

abbrev pub invariant-loop-place : goal.invariant-loop-place
invariant-loop-place l =
    record {
      puts : Puts l.fn.out l.out l.fn.at l.end (length l.laterals ∷ flat_map trace_bytes (take l.place l.laterals));
      end : l.end ≡ l.fn.at + 1 + 16 * l.place;
      fits : FitTraces (take l.place l.laterals);
    }
