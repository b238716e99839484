-- What follows of a value that there is.
use Rattle.hs_replay.proofs.Prelude.{Result, Ok, Err, IfOk}
use Rattle.std.specs.Prelude.{OnOk}

pub on_ok_value : {T E : Type 0} (r : Result T E) (P Q : T → Type 0) → IfOk r P → ((x : T) → P x → Q x) → IfOk r Q
on_ok_value (Ok x) P Q h f = f x h
on_ok_value (Err e) P Q h f = tt

pub on_ok_so : {T E : Type 0} (r : Result T E) (P : Type 0) → P → OnOk r P
on_ok_so (Ok x) P p = p
on_ok_so (Err e) P p = tt
