-- What each call of a client's parts does to the steps of its core.
use Rattle.std.proofs.Common.{◌≡◌, ℕ, Bool, List, [], ◌∷◌, ◌++◌, reverse, Option, Some, None, refl, sym, ap, ap₂, ◌∙◌, subst, append_assoc}
use Rattle.hs_live.proofs.Prelude.{reverse-append, option_to_list, TraceId, Piece, Segment, Drawn, Contents, PoolEvent, Got, Empty, Answer, Buffer, buffer_of, Core, CoreStep, Began, after_step, handed, supplied, May, after, segments_of_steps, with_all, sent, Leased, Drawing, after_draw, Made, Writing, new_of, noted, buffer_got, buffers_by, IsWriting, DrawsAs}
use Rattle.hs_words.specs.declared.token.Drawn.TheVariants as drawn
use Rattle.hs_client.specs.Core.{Wrote, Needed, Supplied, Ended_, Refused, draw_of, number_after}
use Rattle.hs_client.specs.Calls.{next_number, with_last, chunks_supplied, draws_supplied, handed_out}
use Rattle.hs_client.proofs.AllSteps.{with_all-open}
use Rattle.hs_client.proofs.Bare.{after_renewed}
use Rattle.hs_live.specs.Writing.{ComesBy}

abbrev pub piece_of : ℕ → ℕ → List ℕ → Piece
piece_of number moment payload = record { number = number; moment = moment; payload = payload }

abbrev Unsupplied : CoreStep Leased → List (CoreStep Leased) → Type 0
Unsupplied step steps = (draws_supplied (step ∷ steps) ≡ draws_supplied steps) × (chunks_supplied (step ∷ steps) ≡ chunks_supplied steps)

-- a step without a draw
comes_on : (made : Made) (steps : List (CoreStep Leased)) (old new : Writing) (step : CoreStep Leased) → ComesBy made steps old → May old.core step → new.core ≡ after_step old.core step → new.drawer ≡ old.drawer
    → (after_step old.core step).number ≡ next_number (step ∷ steps) → sent new.chunks ≡ made.before ++ handed_out (new_of made) (step ∷ steps) → Unsupplied step steps → ComesBy made (step ∷ steps) new
comes_on made steps old new step s may core drawer number chunks none =
    record {
      may = (s.may, subst (λ (c : Core Leased). May c step) s.core may);
      core = core ∙ ap (λ (c : Core Leased). after_step c step) s.core;
      number = ap (λ (c : Core Leased). c.number) core ∙ number;
      chunks = chunks;
      answers = s.answers;
      since = ap (λ (d : Drawing). d.answers) drawer ∙ s.since;
      draws = none.0 ∙ s.draws;
      buffers = none.1 ∙ s.buffers ∙ ap (λ (d : Drawing). buffers_by d.pool d.size made.renewed s.answers) (sym drawer);
    }

-- what was sent where the chunk of the current page is handed out
hands_out : (made : Made) (steps : List (CoreStep Leased)) (old new : Writing) → ComesBy made steps old → sent new.chunks ≡ sent old.chunks ++ option_to_list (handed old.core)
    → sent new.chunks ≡ made.before ++ (handed_out (new_of made) steps ++ option_to_list (handed (after (new_of made) steps)))
hands_out made steps old new s chunks =
    chunks ∙ ap₂ (λ (k : List (Buffer Leased)) (c : Core Leased). k ++ option_to_list (handed c)) s.chunks s.core
    ∙ append_assoc made.before (handed_out (new_of made) steps) (option_to_list (handed (after (new_of made) steps)))

-- the piece's number is that of the steps
numbered : (made : Made) (pieces : List Piece) (later all : List Segment) (old : Writing) (moment : ℕ) (payload : List ℕ) (is : IsWriting made (piece_of old.core.number moment payload ∷ pieces) later all old)
    → reverse (with_all pieces (with_last (piece_of (next_number is.steps) moment payload) (segments_of_steps is.steps))) ++ later ≡ all
numbered made pieces later all old moment payload is =
    ap (λ n. reverse (with_all pieces (with_last (piece_of n moment payload) (segments_of_steps is.steps))) ++ later) (sym is.comes.number) ∙ is.gives

pub wrote : (made : Made) (pieces : List Piece) (later all : List Segment) (old new : Writing) (moment : ℕ) (payload : List ℕ) (more : Bool)
    → May old.core (Wrote moment payload more) → new.core ≡ after_step old.core (Wrote moment payload more) → new.drawer ≡ old.drawer → sent new.chunks ≡ sent old.chunks
    → IsWriting made (piece_of old.core.number moment payload ∷ pieces) later all old → IsWriting made pieces later all new
wrote made pieces later all old new moment payload more may core drawer chunks is =
    record {
      steps = Wrote moment payload more ∷ is.steps;
      comes = comes_on made is.steps old new (Wrote moment payload more) is.comes may core drawer (ap (number_after more) is.comes.number) (chunks ∙ is.comes.chunks) (refl, refl);
      gives = numbered made pieces later all old moment payload is;
    }

pub needed : (made : Made) (pieces : List Piece) (later all : List Segment) (old new : Writing) (len : ℕ) → May old.core (Needed len) → new.core ≡ after_step old.core (Needed len) → new.drawer ≡ old.drawer
    → sent new.chunks ≡ sent old.chunks ++ option_to_list (handed old.core) → IsWriting made pieces later all old → IsWriting made pieces later all new
needed made pieces later all old new len may core drawer chunks is =
    record {
      steps = Needed len ∷ is.steps;
      comes = comes_on made is.steps old new (Needed len) is.comes may core drawer is.comes.number (hands_out made is.steps old new is.comes chunks) (refl, refl);
      gives = is.gives;
    }

-- the core has the number of the renewal
renewal : (made : Made) (steps : List (CoreStep Leased)) (w : Writing) → ComesBy made steps w → w.core.renewed ≡ made.renewed
renewal made steps w s = ap (λ (c : Core Leased). c.renewed) s.core ∙ after_renewed (new_of made) steps

supplied_page : (made : Made) (pieces : List Piece) (later all : List Segment) (old new : Writing) (buffer : Option (Buffer Leased)) (event : PoolEvent) (stamp moment : ℕ) (payload : List ℕ) (more : Bool)
    → May old.core (Supplied buffer stamp moment payload more) → new.core ≡ after_step old.core (Supplied buffer stamp moment payload more)
    → new.drawer ≡ after_draw old.drawer stamp event → draw_of buffer stamp ≡ noted stamp event → buffer ≡ buffer_got old.drawer.pool old.drawer.size old.core.renewed stamp event → sent new.chunks ≡ sent old.chunks
    → IsWriting made (piece_of old.core.number moment payload ∷ pieces) later all old → IsWriting made pieces later all new
supplied_page made pieces later all old new buffer event stamp moment payload more may core drawer note got chunks is =
    let step : CoreStep Leased = Supplied buffer stamp moment payload more in
    let s = is.comes in
    let answer : Answer = record { stamp = stamp; event = event; draw = 0 } in
    record {
      steps = step ∷ is.steps;
      comes =
          record {
            may = (s.may, subst (λ (c : Core Leased). May c step) s.core may);
            core = core ∙ ap (λ (c : Core Leased). after_step c step) s.core;
            number = ap (λ (c : Core Leased). c.number) core ∙ ap (number_after more) s.number;
            chunks = chunks ∙ s.chunks;
            answers = answer ∷ s.answers;
            since = ap (λ (d : Drawing). d.answers) drawer ∙ ap (λ answers. answer ∷ answers) s.since;
            draws = ap₂ (λ draws draw. draws ++ draw ∷ []) s.draws note;
            buffers =
                ap₂ (λ buffers buffer. buffers ++ buffer ∷ []) s.buffers (got ∙ ap (λ (mark : ℕ). buffer_got old.drawer.pool old.drawer.size mark stamp event) (renewal made is.steps old s))
                ∙ ap (λ (d : Drawing). buffers_by d.pool d.size made.renewed s.answers ++ buffer_got d.pool d.size made.renewed stamp event ∷ []) (sym drawer);
          };
      gives = numbered made pieces later all old moment payload is;
    }

-- a page that gets a buffer of the pool, or none
pub drew : {g : _} (made : Made) (pieces : List Piece) (later all : List Segment) (old new : Writing) (draw : Drawn Leased g) (moment : ℕ) (payload : List ℕ) (more : Bool)
    → DrawsAs old.core.renewed old.drawer draw new.drawer → May old.core (supplied draw moment payload more) → new.core ≡ after_step old.core (supplied draw moment payload more) → sent new.chunks ≡ sent old.chunks
    → IsWriting made (piece_of old.core.number moment payload ∷ pieces) later all old → IsWriting made pieces later all new
drew made pieces later all old new (drawn.Got held stamp) moment payload more draws may core chunks is =
    let got : Some (buffer_of held) ≡ buffer_got old.drawer.pool old.drawer.size old.core.renewed stamp (Got held.chunk.number) =
    ap₂ (λ (chunk : Contents) (lease : Leased). let b : Buffer Leased = record { chunk = chunk; lease = lease } in Some b) draws.2 draws.3 in
    supplied_page made pieces later all old new (Some (buffer_of held)) (Got held.chunk.number) stamp moment payload more may core draws.0 refl got chunks is
drew made pieces later all old new (drawn.Empty stamp) moment payload more draws may core chunks is =
    supplied_page made pieces later all old new None Empty stamp moment payload more may core draws.0 refl refl chunks is

-- ---- begins and ends

pub began_trace : (made : Made) (pieces : List Piece) (later all : List Segment) (old new : Writing) (trace : TraceId) → May old.core (Began trace) → new.core ≡ after_step old.core (Began trace) → new.drawer ≡ old.drawer
    → sent new.chunks ≡ sent old.chunks → IsWriting made [] (record { trace = trace; pieces = pieces } ∷ later) all old → IsWriting made pieces later all new
began_trace made pieces later all old new trace may core drawer chunks is =
    let segment : Segment = record { trace = trace; pieces = pieces } in
    let segments = segments_of_steps is.steps in
    record {
      steps = Began trace ∷ is.steps;
      comes = comes_on made is.steps old new (Began trace) is.comes may core drawer is.comes.number (chunks ∙ is.comes.chunks) (refl, refl);
      gives =
          ap (λ segments. reverse segments ++ later) (with_all-open trace [] pieces segments) ∙ ap (λ segments. segments ++ later) (reverse-append (segment ∷ []) segments)
          ∙ append_assoc (reverse segments) (segment ∷ []) later ∙ is.gives;
    }

pub ended_trace : (made : Made) (later all : List Segment) (old new : Writing) → May old.core Ended_ → new.core ≡ after_step old.core Ended_ → new.drawer ≡ old.drawer
    → sent new.chunks ≡ sent old.chunks ++ option_to_list (handed old.core) → IsWriting made [] later all old → IsWriting made [] later all new
ended_trace made later all old new may core drawer chunks is =
    record {
      steps = Ended_ ∷ is.steps;
      comes = comes_on made is.steps old new Ended_ is.comes may core drawer is.comes.number (hands_out made is.steps old new is.comes chunks) (refl, refl);
      gives = is.gives;
    }

-- ---- nothing done

pub writing_kept : (made : Made) (pieces : List Piece) (later all : List Segment) (old new : Writing) → new.core ≡ old.core → new.drawer.answers ≡ old.drawer.answers → new.drawer.pool ≡ old.drawer.pool → new.drawer.size ≡ old.drawer.size
    → sent new.chunks ≡ sent old.chunks → IsWriting made pieces later all old → IsWriting made pieces later all new
writing_kept made pieces later all old new core answers pool size chunks is =
    let s = is.comes in
    record {
      steps = is.steps;
      comes =
          record {
            may = s.may;
            core = core ∙ s.core;
            number = ap (λ (c : Core Leased). c.number) core ∙ s.number;
            chunks = chunks ∙ s.chunks;
            answers = s.answers;
            since = answers ∙ s.since;
            draws = s.draws;
            buffers = s.buffers ∙ ap₂ (λ pool size. buffers_by pool size made.renewed s.answers) (sym pool) (sym size);
          };
      gives = is.gives;
    }

-- the steps do not change what the client was made with
after-size : (new : Core Leased) (steps : List (CoreStep Leased)) → (after new steps).size ≡ new.size
after-size new [] = refl
after-size new (Began trace ∷ earlier) = after-size new earlier
after-size new (Wrote moment payload more ∷ earlier) = after-size new earlier
after-size new (Needed len ∷ earlier) = after-size new earlier
after-size new (Supplied buffer stamp moment payload more ∷ earlier) = after-size new earlier
after-size new (Ended_ ∷ earlier) = after-size new earlier
after-size new (Refused ∷ earlier) = after-size new earlier

pub made_size : (made : Made) (pieces : List Piece) (later all : List Segment) (w : Writing) → IsWriting made pieces later all w → w.core.size ≡ made.size
made_size made pieces later all w is = ap (λ (c : Core Leased). c.size) is.comes.core ∙ after-size (new_of made) is.steps

after-client : (new : Core Leased) (steps : List (CoreStep Leased)) → (after new steps).client ≡ new.client
after-client new [] = refl
after-client new (Began trace ∷ earlier) = after-client new earlier
after-client new (Wrote moment payload more ∷ earlier) = after-client new earlier
after-client new (Needed len ∷ earlier) = after-client new earlier
after-client new (Supplied buffer stamp moment payload more ∷ earlier) = after-client new earlier
after-client new (Ended_ ∷ earlier) = after-client new earlier
after-client new (Refused ∷ earlier) = after-client new earlier

pub made_client : (made : Made) (pieces : List Piece) (later all : List Segment) (w : Writing) → IsWriting made pieces later all w → w.core.client ≡ made.client
made_client made pieces later all w is = ap (λ (c : Core Leased). c.client) is.comes.core ∙ after-client (new_of made) is.steps

pub made_renewed : (made : Made) (pieces : List Piece) (later all : List Segment) (w : Writing) → IsWriting made pieces later all w → w.core.renewed ≡ made.renewed
made_renewed made pieces later all w is = renewal made is.steps w is.comes
