-- What holds of a core between calls holds after each call.
use Rattle.std.proofs.Common.{◌≡◌, ℕ, ◌≤◌, Bool, List, Option, Some, None, IsSome, refl}
use Rattle.hs_replay_client.proofs.Prelude.{option_map, TraceId, MIN_SIZE, Core, Began, Wrote, Supplied, Ended_, after_step, May, Unleased, IsSound}

pub some_map : {A B : Type 0} (f : A → B) (o : Option A) → IsSome o → IsSome (option_map f o)
some_map f None some = absurd cc
some_map f (Some x) some = some

pub some_not : {A : Type 0} (o : Option A) → IsSome o → o ≡ None → ⊥
some_not None some none = cc
some_not (Some x) some none = cc

pub sound_began : (core : Core (Unit {0})) (trace : TraceId) → IsSound core → IsSound (after_step core (Began trace))
sound_began core trace s = record { least = s.least; ready = λ some none. refl; closed = λ none. absurd cc }

pub sound_wrote : (core : Core (Unit {0})) (moment : ℕ) (payload : List ℕ) (more : Bool) → IsSound core → May core (Wrote moment payload more) → IsSound (after_step core (Wrote moment payload more))
sound_wrote core moment payload more s may =
    record {
      least = s.least;
      ready = λ some none. absurd (some_not _ (some_map _ core.current may.3.0) none);
      closed = λ none. absurd (some_not core.trace may.1 none);
    }

pub sound_supplied : (core : Core (Unit {0})) (buffer : Option Unleased) (stamp moment : ℕ) (payload : List ℕ) (more : Bool) → MIN_SIZE ≤ core.size → IsSome core.trace → IsSound (after_step core (Supplied buffer stamp moment payload more))
sound_supplied core buffer stamp moment payload more least open_is =
    record {
      least = least;
      ready = λ some none. absurd (some_not _ (some_map _ core.trace open_is) none);
      closed = λ none. absurd (some_not core.trace open_is none);
    }

pub sound_ended : (core : Core (Unit {0})) → IsSound core → IsSound (after_step core Ended_)
sound_ended core s = record { least = s.least; ready = λ some none. absurd cc; closed = λ none. refl }
