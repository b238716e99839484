-- What each call of a client's parts does to the steps of its core.
use Rattle.std.proofs.Common.{◌≡◌, ℕ, Bool, List, [], ◌∷◌, ◌++◌, map, reverse, Option, Some, None, refl, sym, ap, ap₂, ◌∙◌, subst, append_assoc}
use Rattle.hs_replay_client.proofs.Prelude.{reverse-append, map-append, option_to_list, TraceId, Piece, Segment, Drawn, Contents, clear_chunk, buffer_of, Core, CoreStep, Began, Wrote, Needed, Supplied, Ended_, Refused, after_step, handed, draw_of, number_after, supplied, May, after, segments_of_steps, draws_supplied, with_all, Unleased, IsClear, Made, Writing, new_of, buffer_got, IsWriting}
use Rattle.hs_words.specs.declared.token.Drawn.TheVariants as drawn
use Rattle.hs_client.specs.Calls.{next_number, with_last, chunks_supplied, handed_out}
use Rattle.hs_client.proofs.AllSteps.{with_all-open}
use Rattle.hs_replay_client.specs.Writing.{ComesBy}

abbrev pub piece_of : ℕ → ℕ → List ℕ → Piece
piece_of number moment payload = record { number = number; moment = moment; payload = payload }

abbrev Unsupplied : CoreStep (Unit {0}) → List (CoreStep (Unit {0})) → Type 0
Unsupplied step steps = (draws_supplied (step ∷ steps) ≡ draws_supplied steps) × (chunks_supplied (step ∷ steps) ≡ chunks_supplied steps)

-- a step without a draw
comes_on : (made : Made) (steps : List (CoreStep (Unit {0}))) (gone : List Unleased) (old new : Writing) (step : CoreStep (Unit {0})) → ComesBy made steps gone old → May old.core step → new.core ≡ after_step old.core step
    → (after_step old.core step).number ≡ next_number (step ∷ steps) → gone ++ new.chunks ≡ handed_out (new_of made) (step ∷ steps) → Unsupplied step steps → ComesBy made (step ∷ steps) gone new
comes_on made steps gone old new step s may core number chunks none =
    record {
      may = (s.may, subst (λ (c : Core (Unit {0})). May c step) s.core may);
      core = core ∙ ap (λ (c : Core (Unit {0})). after_step c step) s.core;
      number = ap (λ (c : Core (Unit {0})). c.number) core ∙ number;
      chunks = chunks;
      buffers = none.1 ∙ s.buffers ∙ ap (map (buffer_got made.size)) (sym none.0);
    }

-- what waits where the chunk of the current page is handed out
hands_out : (made : Made) (steps : List (CoreStep (Unit {0}))) (gone : List Unleased) (old new : Writing) → ComesBy made steps gone old → new.chunks ≡ old.chunks ++ option_to_list (handed old.core)
    → gone ++ new.chunks ≡ handed_out (new_of made) steps ++ option_to_list (handed (after (new_of made) steps))
hands_out made steps gone old new s chunks =
    ap (λ (l : List Unleased). gone ++ l) chunks ∙ sym (append_assoc gone old.chunks (option_to_list (handed old.core)))
    ∙ ap₂ (λ (l : List Unleased) (c : Core (Unit {0})). l ++ option_to_list (handed c)) s.chunks s.core

-- the piece's number is that of the steps
numbered : (made : Made) (gone : List Unleased) (pieces : List Piece) (later all : List Segment) (old : Writing) (moment : ℕ) (payload : List ℕ) (is : IsWriting made gone (piece_of old.core.number moment payload ∷ pieces) later all old)
    → reverse (with_all pieces (with_last (piece_of (next_number is.steps) moment payload) (segments_of_steps is.steps))) ++ later ≡ all
numbered made gone pieces later all old moment payload is =
    ap (λ n. reverse (with_all pieces (with_last (piece_of n moment payload) (segments_of_steps is.steps))) ++ later) (sym is.comes.number) ∙ is.gives

pub wrote : (made : Made) (gone : List Unleased) (pieces : List Piece) (later all : List Segment) (old new : Writing) (moment : ℕ) (payload : List ℕ) (more : Bool)
    → May old.core (Wrote moment payload more) → new.core ≡ after_step old.core (Wrote moment payload more) → new.chunks ≡ old.chunks
    → IsWriting made gone (piece_of old.core.number moment payload ∷ pieces) later all old → IsWriting made gone pieces later all new
wrote made gone pieces later all old new moment payload more may core chunks is =
    record {
      steps = Wrote moment payload more ∷ is.steps;
      comes = comes_on made is.steps gone old new (Wrote moment payload more) is.comes may core (ap (number_after more) is.comes.number) (ap (λ (l : List Unleased). gone ++ l) chunks ∙ is.comes.chunks) (refl, refl);
      gives = numbered made gone pieces later all old moment payload is;
    }

pub needed : (made : Made) (gone : List Unleased) (pieces : List Piece) (later all : List Segment) (old new : Writing) (len : ℕ) → May old.core (Needed len) → new.core ≡ after_step old.core (Needed len)
    → new.chunks ≡ old.chunks ++ option_to_list (handed old.core) → IsWriting made gone pieces later all old → IsWriting made gone pieces later all new
needed made gone pieces later all old new len may core chunks is =
    record {
      steps = Needed len ∷ is.steps;
      comes = comes_on made is.steps gone old new (Needed len) is.comes may core is.comes.number (hands_out made is.steps gone old new is.comes chunks) (refl, refl);
      gives = is.gives;
    }

supplied_page : (made : Made) (gone : List Unleased) (pieces : List Piece) (later all : List Segment) (old new : Writing) (buffer : Option Unleased) (stamp moment : ℕ) (payload : List ℕ) (more : Bool)
    → May old.core (Supplied buffer stamp moment payload more) → new.core ≡ after_step old.core (Supplied buffer stamp moment payload more)
    → buffer ≡ buffer_got made.size (draw_of buffer stamp) → new.chunks ≡ old.chunks
    → IsWriting made gone (piece_of old.core.number moment payload ∷ pieces) later all old → IsWriting made gone pieces later all new
supplied_page made gone pieces later all old new buffer stamp moment payload more may core got chunks is =
    let step : CoreStep (Unit {0}) = Supplied buffer stamp moment payload more in
    let s = is.comes in
    record {
      steps = step ∷ is.steps;
      comes =
          record {
            may = (s.may, subst (λ (c : Core (Unit {0})). May c step) s.core may);
            core = core ∙ ap (λ (c : Core (Unit {0})). after_step c step) s.core;
            number = ap (λ (c : Core (Unit {0})). c.number) core ∙ ap (number_after more) s.number;
            chunks = ap (λ (l : List Unleased). gone ++ l) chunks ∙ s.chunks;
            buffers =
                ap₂ (λ (l : List (Option Unleased)) (b : Option Unleased). l ++ b ∷ []) s.buffers got
                ∙ sym (map-append (buffer_got made.size) (draws_supplied is.steps) (draw_of buffer stamp ∷ []));
          };
      gives = numbered made gone pieces later all old moment payload is;
    }

-- the steps do not change what the client was made with
after-size : (new : Core (Unit {0})) (steps : List (CoreStep (Unit {0}))) → (after new steps).size ≡ new.size
after-size new [] = refl
after-size new (Began trace ∷ earlier) = after-size new earlier
after-size new (Wrote moment payload more ∷ earlier) = after-size new earlier
after-size new (Needed len ∷ earlier) = after-size new earlier
after-size new (Supplied buffer stamp moment payload more ∷ earlier) = after-size new earlier
after-size new (Ended_ ∷ earlier) = after-size new earlier
after-size new (Refused ∷ earlier) = after-size new earlier

pub made_size : (made : Made) (gone : List Unleased) (pieces : List Piece) (later all : List Segment) (w : Writing) → IsWriting made gone pieces later all w → w.core.size ≡ made.size
made_size made gone pieces later all w is = ap (λ (c : Core (Unit {0})). c.size) is.comes.core ∙ after-size (new_of made) is.steps

-- a page that gets a buffer of its well, or none
pub drew : {g : _} (made : Made) (gone : List Unleased) (pieces : List Piece) (later all : List Segment) (old new : Writing) (draw : Drawn (Unit {0}) g) (moment : ℕ) (payload : List ℕ) (more : Bool)
    → IsClear old.core.size draw → May old.core (supplied draw moment payload more) → new.core ≡ after_step old.core (supplied draw moment payload more) → new.chunks ≡ old.chunks
    → IsWriting made gone (piece_of old.core.number moment payload ∷ pieces) later all old → IsWriting made gone pieces later all new
drew made gone pieces later all old new (drawn.Got held stamp) moment payload more clear may core chunks is =
    let size : held.chunk.size ≡ made.size = clear.1 ∙ made_size made gone _ later all old is in
    let chunk : held.chunk ≡ clear_chunk made.size held.chunk.number = λ i. record { number = held.chunk.number; size = size i; page = clear.0 i } in
    let got : Some (buffer_of held) ≡ buffer_got made.size (draw_of (Some (buffer_of held)) stamp) = ap (λ (c : Contents). let b : Unleased = record { chunk = c; lease = tt } in Some b) chunk in
    supplied_page made gone pieces later all old new (Some (buffer_of held)) stamp moment payload more may core got chunks is
drew made gone pieces later all old new (drawn.Empty stamp) moment payload more clear may core chunks is =
    supplied_page made gone pieces later all old new None stamp moment payload more may core refl chunks is

-- ---- begins and ends

pub began_trace : (made : Made) (gone : List Unleased) (pieces : List Piece) (later all : List Segment) (old new : Writing) (trace : TraceId) → May old.core (Began trace) → new.core ≡ after_step old.core (Began trace)
    → new.chunks ≡ old.chunks → IsWriting made gone [] (record { trace = trace; pieces = pieces } ∷ later) all old → IsWriting made gone pieces later all new
began_trace made gone pieces later all old new trace may core chunks is =
    let segment : Segment = record { trace = trace; pieces = pieces } in
    let segments = segments_of_steps is.steps in
    record {
      steps = Began trace ∷ is.steps;
      comes = comes_on made is.steps gone old new (Began trace) is.comes may core is.comes.number (ap (λ (l : List Unleased). gone ++ l) chunks ∙ is.comes.chunks) (refl, refl);
      gives =
          ap (λ segments. reverse segments ++ later) (with_all-open trace [] pieces segments) ∙ ap (λ segments. segments ++ later) (reverse-append (segment ∷ []) segments)
          ∙ append_assoc (reverse segments) (segment ∷ []) later ∙ is.gives;
    }

pub ended_trace : (made : Made) (gone : List Unleased) (later all : List Segment) (old new : Writing) → May old.core Ended_ → new.core ≡ after_step old.core Ended_
    → new.chunks ≡ old.chunks ++ option_to_list (handed old.core) → IsWriting made gone [] later all old → IsWriting made gone [] later all new
ended_trace made gone later all old new may core chunks is =
    record {
      steps = Ended_ ∷ is.steps;
      comes = comes_on made is.steps gone old new Ended_ is.comes may core is.comes.number (hands_out made is.steps gone old new is.comes chunks) (refl, refl);
      gives = is.gives;
    }

-- ---- a chunk is taken

pub chunk_taken : (made : Made) (gone : List Unleased) (pieces : List Piece) (later all : List Segment) (core : Core (Unit {0})) (chunk : Unleased) (chunks : List Unleased)
    → IsWriting made gone pieces later all (record { core = core; chunks = chunk ∷ chunks }) → IsWriting made (gone ++ chunk ∷ []) pieces later all (record { core = core; chunks = chunks })
chunk_taken made gone pieces later all core chunk chunks is =
    let s = is.comes in
    record {
      steps = is.steps;
      comes =
          record {
            may = s.may;
            core = s.core;
            number = s.number;
            chunks = append_assoc gone (chunk ∷ []) chunks ∙ s.chunks;
            buffers = s.buffers;
          };
      gives = is.gives;
    }
