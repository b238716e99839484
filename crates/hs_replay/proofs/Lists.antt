-- Lists of which an item was lent and written, and what stands in a list of mapped numbers.
use Rattle.hs_replay.proofs.Prelude.{Result, Ok, Err}
use Rattle.std.specs.Prelude.{OnOk}

pub on_ok : {T E : Type 0} (r : Result T E) (P Q : Type 0) → OnOk r P → (P → Q) → OnOk r Q
on_ok (Ok x) P Q h f = f h
on_ok (Err e) P Q h f = tt
