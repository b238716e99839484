use Rattle.std.proofs.Common.{ℕ, ◌+◌, ◌*◌, ap, arith}
use Rattle.tests_threads.specs.declared.live_size.TheConstants.{RECORDS}
use Rattle.hs_base.specs.declared.limits.TheConstants.{MAX_SIZE}
use Rattle.hs_records.specs.Records.{piece_count}
use Rattle.tests_with.specs.PairLaws.{can_fewer}
use Rattle.tests_threads.proofs.live_size.records.Goals as goal

pub point-wide-requires-clause-can : goal.point-wide-requires-clause-can
point-wide-requires-clause-can c = can_fewer MAX_SIZE 3 (3 * RECORDS + 4) c.begin-begun.new.client (omega arith) (c.begin-begun.ensures (3 * RECORDS + 4) c.requires.can)

pub point-wide-requires-clause-pieces : goal.point-wide-requires-clause-pieces
point-wide-requires-clause-pieces c = ap (λ (bytes : ℕ). piece_count MAX_SIZE bytes) c.requires.too_long

pub record_all-done-requires-clause-pieces : goal.record_all-done-requires-clause-pieces
record_all-done-requires-clause-pieces c = ap (λ (bytes : ℕ). piece_count MAX_SIZE bytes) c.requires.longest

pub record_all-done-requires-clause-can : goal.record_all-done-requires-clause-can
record_all-done-requires-clause-can c = c.point-wide.ensures (3 * RECORDS + 1) (c.begin-begun.ensures (3 * RECORDS + 4) c.requires.can)
