-- What the calls of a client's core leave, and what they spend.
use Rattle.std.proofs.Common.{◌≡◌, ℕ, ◌+◌, Bool, List, [], ◌∷◌, ◌++◌, Option, Some, None, IsSome, refl, sym, ap, ◌∙◌, subst, arith}
use Rattle.hs_replay_client.proofs.Prelude.{option_to_list, Drawn, buffer_of, Core, Wrote, Needed, Supplied, Ended_, after_step, handed, draw_of, number_after, supplied, May, Unleased, Way, IsClear, note_drawn, Writing, IsSound, CountsOne, Records, EndsTrace, IsWriting}
use Rattle.hs_words.specs.declared.token.Drawn.TheVariants as drawn
use Rattle.hs_client.specs.Core.{closed, HasClearChunk, next_page, piece}
use Rattle.hs_replay_client.specs.Writing.{WritesPieces}
use Rattle.hs_replay_client.proofs.Sound.{some_map, sound_wrote, sound_supplied, sound_ended}
use Rattle.hs_replay_client.proofs.Spending.{spends_one}
use Rattle.hs_replay_client.proofs.Steps.{piece_of, wrote, needed, drew, ended_trace}

pub ends : (old : Writing) (core : Core (Unit {0})) (chunks : List Unleased) → IsSound old.core → May old.core Ended_ → core ≡ after_step old.core Ended_ → chunks ≡ old.chunks ++ option_to_list (handed old.core)
    → EndsTrace old (record { core = core; chunks = chunks })
ends old core chunks sound may is sends =
    let new : Writing = record { core = core; chunks = chunks } in
    record {
      sound = subst IsSound (sym is) (sound_ended old.core sound);
      trace_is = ap (λ (c : Core (Unit {0})). c.trace) is;
      number_is = ap (λ (c : Core (Unit {0})). c.number) is;
      page = ap (λ (c : Core (Unit {0})). c.current) is;
      spends = subst (λ (c : Core (Unit {0})). CountsOne old.core c) (sym is) (record { size_is = refl; calls_are = refl; counted = refl; draws = refl });
      written = λ made gone later all h. ended_trace made gone later all old new may is sends h;
    }

-- a clear chunk of its size is fresh for a core
pub fresh : {g : _} (core : Core (Unit {0})) (d : Drawn (Unit {0}) g) → IsClear core.size d → HasClearChunk core d
fresh core (drawn.Got held stamp) clear = clear
fresh core (drawn.Empty stamp) clear = tt

module _ {P : Type 0} (way : Way P) where
  pub records_wrote : (old : Writing) (core : Core (Unit {0})) (moment : ℕ) (payload : List ℕ) (more : Bool) (well : P) → IsSound old.core → May old.core (Wrote moment payload more)
      → core ≡ after_step old.core (Wrote moment payload more)
      → Records way 1 (number_after more old.core.number) (piece_of old.core.number moment payload ∷ []) old (record { core = core; chunks = old.chunks }) well well
  records_wrote old core moment payload more well sound may is =
      let new : Writing = record { core = core; chunks = old.chunks } in
      let one : CountsOne old.core core = subst (λ (c : Core (Unit {0})). CountsOne old.core c) (sym is) (record { size_is = refl; calls_are = refl; counted = refl; draws = refl }) in
      record {
        sound = subst IsSound (sym is) (sound_wrote old.core moment payload more sound may);
        trace_is = ap (λ (c : Core (Unit {0})). c.trace) is;
        number_is = ap (λ (c : Core (Unit {0})). c.number) is;
        page = subst (λ (c : Core (Unit {0})). IsSome c.current) (sym is) (some_map _ old.core.current may.3.0);
        spends = spends_one way old.core core well one;
        written = λ made gone pieces later all h. wrote made gone pieces later all old new moment payload more may is refl h;
      }

  -- what is known of the draw of a page
  pub record IsDraw {g : _} (old : Writing) (middle : Core (Unit {0})) (len : ℕ) (chunks : List Unleased) (well : P) (d : Drawn (Unit {0}) g) (well' : P) : Type 0 where
    pub sound : IsSound old.core
    pub opened : IsSome old.core.trace
    pub may : May old.core (Needed len)
    pub is : middle ≡ after_step old.core (Needed len)
    pub sends : chunks ≡ old.chunks ++ option_to_list (handed old.core)
    pub clear : (size more : ℕ) → way.ready well size (more + 1) → IsClear size d
    pub left : (size more : ℕ) → way.ready well size (more + 1) → way.ready well' size more
    pub draws : way.draws well (note_drawn d) well'
    pub ready : way.ready well old.core.size 1

  supplied_so : (old : Writing) (middle core : Core (Unit {0})) (chunks : List Unleased) (buffer : Option Unleased) (stamp moment : ℕ) (payload : List ℕ) (more : Bool) (well well' : P)
      → IsSound old.core → IsSome old.core.trace → middle ≡ closed old.core → core ≡ after_step middle (Supplied buffer stamp moment payload more)
      → ((size more : ℕ) → way.ready well size (more + 1) → way.ready well' size more) → way.draws well (draw_of buffer stamp) well'
      → WritesPieces (piece_of old.core.number moment payload ∷ []) old (record { core = core; chunks = chunks })
      → Records way 1 (number_after more old.core.number) (piece_of old.core.number moment payload ∷ []) old (record { core = core; chunks = chunks }) well well'
  supplied_so old middle core chunks buffer stamp moment payload more well well' sound some is core_is left draws written =
      let there : core ≡ after_step (closed old.core) (Supplied buffer stamp moment payload more) = core_is ∙ ap (λ (c : Core (Unit {0})). after_step c (Supplied buffer stamp moment payload more)) is in
      record {
        sound = subst IsSound (sym there) (sound_supplied (closed old.core) buffer stamp moment payload more sound.least some);
        trace_is = ap (λ (c : Core (Unit {0})). c.trace) there;
        number_is = ap (λ (c : Core (Unit {0})). c.number) there;
        page = subst (λ (c : Core (Unit {0})). IsSome c.current) (sym there) (some_map (next_page (closed old.core) buffer (piece moment payload)) old.core.trace some);
        spends =
            record {
              size_is = ap (λ (c : Core (Unit {0})). c.size) there;
              calls_are = ap (λ (c : Core (Unit {0})). c.calls) there;
              counted = let e : core.counted ≡ old.core.counted + 1 = ap (λ (c : Core (Unit {0})). c.counted) there in omega (arith, e);
              drawn = draw_of buffer stamp ∷ [];
              few = omega arith;
              notes = ap (λ (c : Core (Unit {0})). c.draws) there;
              draws = (well', draws, refl);
              ready = λ size others ready fewer few. left size fewer (ready (fewer + 1) (omega (arith, few)));
            };
        written = written;
      }

  pub records_drew : {g : _} (old : Writing) (middle core : Core (Unit {0})) (chunks : List Unleased) (len moment : ℕ) (payload : List ℕ) (more : Bool) (well : P) (d : Drawn (Unit {0}) g) (well' : P)
      → IsDraw old middle len chunks well d well' → May middle (supplied d moment payload more) → core ≡ after_step middle (supplied d moment payload more)
      → Records way 1 (number_after more old.core.number) (piece_of old.core.number moment payload ∷ []) old (record { core = core; chunks = chunks }) well well'
  records_drew {g = g} old middle core chunks len moment payload more well (drawn.Got held stamp) well' w may core_is =
      let turned : Writing = record { core = middle; chunks = chunks } in
      let new : Writing = record { core = core; chunks = chunks } in
      let d : Drawn (Unit {0}) g = drawn.Got held stamp in
      let number : middle.number ≡ old.core.number = ap (λ (c : Core (Unit {0})). c.number) w.is in
      let clear = w.clear old.core.size 0 w.ready in
      supplied_so old middle core chunks (Some (buffer_of held)) stamp moment payload more well well' w.sound w.opened w.is core_is w.left w.draws
      (λ made gone pieces later all h.
      let writing = needed made gone (piece_of old.core.number moment payload ∷ pieces) later all old turned len w.may w.is w.sends h in
      drew made gone pieces later all turned new d moment payload more (clear.0, clear.1 ∙ sym (ap (λ (c : Core (Unit {0})). c.size) w.is)) may core_is refl
      (subst (λ n. IsWriting made gone (piece_of n moment payload ∷ pieces) later all turned) (sym number) writing))
  records_drew {g = g} old middle core chunks len moment payload more well (drawn.Empty stamp) well' w may core_is =
      let turned : Writing = record { core = middle; chunks = chunks } in
      let new : Writing = record { core = core; chunks = chunks } in
      let d : Drawn (Unit {0}) g = drawn.Empty stamp in
      let number : middle.number ≡ old.core.number = ap (λ (c : Core (Unit {0})). c.number) w.is in
      supplied_so old middle core chunks None stamp moment payload more well well' w.sound w.opened w.is core_is w.left w.draws
      (λ made gone pieces later all h.
      let writing = needed made gone (piece_of old.core.number moment payload ∷ pieces) later all old turned len w.may w.is w.sends h in
      drew made gone pieces later all turned new d moment payload more tt may core_is refl
      (subst (λ n. IsWriting made gone (piece_of n moment payload ∷ pieces) later all turned) (sym number) writing))
