-- A client that was made has done nothing.
use Rattle.std.proofs.Common.{◌≡◌, ◌≤◌, List, [], ◌++◌, map, reverse, refl, sym, ap, subst, arith}
use Rattle.hs_replay_client.proofs.Prelude.{AllByRecursion, ClientId, MIN_SIZE, Watch, HasSampled, Core, with_all, Draw, Operation, PlainSettings, segments_from, segments_of, coming, Working, PlainReplayClient, Made, IsSound, new_of, Gone, HasDone, IsPlayable, ReplayClientIsAt, made_for}
use Rattle.hs_base.proofs.Alls.{all_everywhere}
use Rattle.hs_replay_client.proofs.Standing.{Laws, is_at}

-- what is known of a client that was made
pub record IsNew (made : Made) (works : Working) : Type 0 where
  pub least : MIN_SIZE ≤ made.size
  pub core : works.core ≡ new_of made
  pub rules : map (λ (w : Watch). w.rule) works.autos ≡ made.autos
  pub fresh : AllByRecursion (λ (w : Watch). HasSampled w []) works.autos
  pub chunks : works.chunks ≡ []
  pub crumbs : works.crumbs ≡ []
  pub triggers : works.triggers ≡ []

abbrev nothing : Gone
nothing = record { chunks = []; crumbs = []; triggers = [] }

new_sound : (made : Made) → MIN_SIZE ≤ made.size → IsSound (new_of made)
new_sound made least = record { least = least; ready = λ some none. refl; closed = λ none. refl }

new_done : (made : Made) (works : Working) → IsNew made works → HasDone made [] nothing works
new_done made works is =
    let size = made.size in
    record {
      writes = λ rest.
          record {
            steps = [];
            comes = record { may = tt; core = is.core; number = ap (λ (c : Core (Unit {0})). c.number) is.core; chunks = is.chunks; buffers = refl };
            gives = subst (λ (c : Core (Unit {0})). reverse (with_all (coming size c.number c.trace rest) []) ++ segments_from size c.number rest ≡ segments_of size rest) (sym is.core) refl;
          };
      size = ap (λ (c : Core (Unit {0})). c.size) is.core;
      calls = ap (λ (c : Core (Unit {0})). c.calls) is.core;
      counted = let none : works.core.counted ≡ 0 = ap (λ (c : Core (Unit {0})). c.counted) is.core in omega (arith, none);
      trace = ap (λ (c : Core (Unit {0})). c.trace) is.core;
      page = ap (λ (c : Core (Unit {0})). Rattle.std.specs.Prelude.is_some c.current) is.core;
      sound = subst IsSound (sym is.core) (new_sound made is.least);
      crumbs = is.crumbs;
      triggers = is.triggers;
      autos = record { rules_are = is.rules; each = λ auto watch found. all_everywhere (λ (w : Watch). HasSampled w []) works.autos is.fresh auto watch found };
    }

pub new_at : Laws → (settings : PlainSettings) (client : ClientId) (ops : List Operation) (works : Working) → IsPlayable settings ops → IsNew (made_for settings client ops) works
    → ReplayClientIsAt settings client ops [] 0 0 0 0 (record { done = 0; works = works })
new_at laws settings client ops works playable is =
    let player : PlainReplayClient = record { done = 0; works = works } in
    let at = is_at laws settings client ops 0 0 0 0 nothing player playable (omega arith) refl (record { chunks = refl; crumbs = refl; triggers = refl }) (new_done (made_for settings client ops) works is) in
    let none : works.core.draws ≡ [] = ap (λ (c : Core (Unit {0})). c.draws) is.core in
    subst (λ (drawn : List Draw). ReplayClientIsAt settings client ops drawn 0 0 0 0 player) none at
