-- How many pages operations take. A point that needs a page takes one for each of its pieces: steps that write the pieces on new pages are
-- steps of the core, and the pages of all steps are those of the operations.
use Rattle.std.proofs.Common.{◌≡◌, ℕ, zero, suc, ◌+◌, ◌<◌, ◌≤◌, true, false, List, [], ◌∷◌, ◌++◌, length, map, reverse, take, drop, Option, Some, None, IsSome, MatchOption, option_map, refl, sym, ap, ◌∙◌, subst, flat_map, append-nil, length-append, length-drop, lt_of_not-le, arith}
use Rattle.std.specs.Prelude.{is_some}
use Rattle.std.proofs.lemmas.List.{length-map, length-take-le}
use mathlib.Core.Logic.{dite}
use native.Mathlib.Decide.{dec_le}
use Rattle.hs_base.specs.declared.limits.TheConstants.{HEADER_COST, PIECE_COST, FRAME_COST, MIN_SIZE}
use Rattle.hs_base.specs.declared.ids.TraceId.{TraceId}
use Rattle.hs_client.specs.Core.{CoreStep, Current, Began, Wrote, Needed, Supplied, Ended_, Refused, closed, draw_of, all_pages, piece, next_page, MaySupply}
use Rattle.hs_client.specs.Calls.{AreSteps, May, after, next_number, segments_of_steps, with_all, draws_supplied, pages_of_steps, note_of}
use Rattle.hs_client.proofs.Adding.{page_more}
use Rattle.hs_client.specs.SoFar.{has_open_page}
use Rattle.hs_live.proofs.Doing.{Books, book_of}
use Rattle.hs_live.proofs.Steps.{made_size, made_renewed}
use Rattle.hs_live.specs.Done.{HasSent}
use Rattle.hs_live.specs.Writing.{new_of}
use Rattle.hs_records.proofs.Payloads.{AreCut}
use Rattle.hs_records.specs.Records.{Piece, Segment, coming, payload_pieces, piece_count, piece_limit, record_pieces, segments_of}
use Rattle.hs_records.specs.Pages.{pages_of, segment_pages}
use Rattle.hs_node_client.specs.Paging.{PointsTakePages, EndsTakeNone}
use Rattle.hs_node_client.proofs.Prelude.{Core, after_step, NeedsPage, PlainClient, HasDone, Made, writing_of, Operation, Point, End, Leased}

-- ---- pieces that fill pages

-- All of these but the last fill a page of their own, and the last fits one.
abbrev pub AreFull : ℕ → List (List ℕ) → Type 0
AreFull limit [] = Unit {0}
AreFull limit (last ∷ []) = length last ≤ limit
AreFull limit (p ∷ next ∷ ps) = (length p ≡ limit) × AreFull limit (next ∷ ps)

first_full : (limit : ℕ) (p : List ℕ) (ps : List (List ℕ)) → length p ≡ limit → 0 < length ps → AreFull limit ps → AreFull limit (p ∷ ps)
first_full limit p [] is some full = absurd (omega (arith, some))
first_full limit p (next ∷ ps) is some full = (is, full)

pieces_full : AreCut → (most size : ℕ) (payload : List ℕ) → MIN_SIZE ≤ size → length payload ≤ most → AreFull (piece_limit size) (payload_pieces size payload)
pieces_full cut zero size payload least short =
    subst (AreFull (piece_limit size)) (sym (cut.fits size payload (omega (arith, short)))) (omega (arith, short))
pieces_full cut (suc most) size payload least short =
    dite (dec_le (length payload) (piece_limit size))
    (λ fits. subst (AreFull (piece_limit size)) (sym (cut.fits size payload fits)) fits)
    (λ not.
    let limit = piece_limit size in
    let long : limit < length payload = lt_of_not-le not in
    let rest = drop limit payload in
    let left : length rest ≤ most = omega (arith, length-drop limit payload, long, short, least) in
    subst (AreFull limit) (sym (cut.cut size payload least long))
    (first_full limit (take limit payload) (payload_pieces size rest) (length-take-le limit payload (omega (arith, long))) (omega (arith, cut.counted size rest)) (pieces_full cut most size rest least left)))

-- ---- steps that write each of these pieces on a page of its own

abbrev turned : ℕ → List (List ℕ) → List (CoreStep Leased) → List (CoreStep Leased)
turned moment [] steps = steps
turned moment (p ∷ ps) steps = turned moment ps (Supplied None 0 moment p true ∷ Needed (length p) ∷ steps)

abbrev numbered : ℕ → ℕ → List (List ℕ) → List Piece
numbered number moment ps = map (λ (bytes : List ℕ). let p : Piece = record { number = number; moment = moment; payload = bytes } in p) ps

turned_segments : (moment : ℕ) (ps : List (List ℕ)) (steps : List (CoreStep Leased)) → segments_of_steps (turned moment ps steps) ≡ with_all (numbered (next_number steps) moment ps) (segments_of_steps steps)
turned_segments moment [] steps = refl
turned_segments moment (p ∷ ps) steps = turned_segments moment ps (Supplied None 0 moment p true ∷ Needed (length p) ∷ steps)

turned_draws : (moment : ℕ) (ps : List (List ℕ)) (steps : List (CoreStep Leased)) → length (draws_supplied (turned moment ps steps)) ≡ length (draws_supplied steps) + length ps
turned_draws moment [] steps = omega arith
turned_draws moment (p ∷ ps) steps =
    let buffer : Option (Rattle.hs_words.specs.Buffers.Buffer Leased) = None in
    omega (arith, turned_draws moment ps (Supplied None 0 moment p true ∷ Needed (length p) ∷ steps), length-append (draws_supplied steps) (draw_of buffer 0 ∷ []))

-- no page has room for the first of them
abbrev NeedsFirst : Core Leased → List (List ℕ) → Type 0
NeedsFirst core [] = Unit {0}
NeedsFirst core (p ∷ ps) = NeedsPage core (length p)

abbrev IsReady : Core Leased → Type 0
IsReady core = core.current ≡ None → core.used ≡ 0

match_any : {A : Type 0} (o : Option A) (P : Type 0) → P → MatchOption o (Unit {0}) (λ _. P)
match_any None P p = tt
match_any (Some a) P p = p

full_when : {A : Type 0} (o : Option A) (used : ℕ) (P : Type 0) → MatchOption o (Unit {0}) (λ _. P) → (o ≡ None → used ≡ 0) → 0 < used → P
full_when None used P p ready some = absurd (omega (arith, ready refl, some))
full_when (Some a) used P p ready some = p

never_none : {A B : Type 0} (f : A → B) (o : Option A) → IsSome o → option_map f o ≡ None → ⊥
never_none f None some none = cc
never_none f (Some a) some none = cc

next_needs : (core : Core Leased) (moment : ℕ) (p : List ℕ) (ps : List (List ℕ)) (limit : ℕ) → FRAME_COST + limit ≡ core.size → AreFull limit (p ∷ ps) → NeedsFirst (after_step (closed core) (Supplied None 0 moment p true)) ps
next_needs core moment p [] limit sized full = tt
next_needs core moment p (next ∷ ps) limit sized full =
    match_any (option_map (next_page (closed core) None (piece moment p)) core.trace) (core.size < HEADER_COST + (PIECE_COST + length p) + (PIECE_COST + length next)) (omega (arith, sized, full.0))

first_fits : (limit : ℕ) (p : List ℕ) (ps : List (List ℕ)) → AreFull limit (p ∷ ps) → length p ≤ limit
first_fits limit p [] full = full
first_fits limit p (next ∷ ps) full = omega (arith, full.0)

rest_full : (limit : ℕ) (p : List ℕ) (ps : List (List ℕ)) → AreFull limit (p ∷ ps) → AreFull limit ps
rest_full limit p [] full = tt
rest_full limit p (next ∷ ps) full = full.1

turned_may : (new : Core Leased) (limit moment : ℕ) (ps : List (List ℕ)) (steps : List (CoreStep Leased)) → AreSteps new steps → IsSome (after new steps).trace
    → (after new steps).counted + length ps ≤ (after new steps).calls → FRAME_COST + limit ≡ (after new steps).size → AreFull limit ps → NeedsFirst (after new steps) ps → IsReady (after new steps) → AreSteps new (turned moment ps steps)
turned_may new limit moment [] steps are opened left sized full needs ready = are
turned_may new limit moment (p ∷ ps) steps are opened left sized full needs ready =
    let core = after new steps in
    let fits = first_fits limit p ps full in
    let needed : May core (Needed (length p)) = (omega (arith, left), opened, omega (arith, sized, fits), needs) in
    let supply : MaySupply (closed core) (length p) =
    record {
      left = omega (arith, left);
      opened = opened;
      none = refl;
      narrow = omega (arith, sized, fits);
      full = λ some. full_when core.current core.used (core.size < core.used + (PIECE_COST + length p)) needs ready some;
    } in
    turned_may new limit moment ps (Supplied None 0 moment p true ∷ Needed (length p) ∷ steps) (((are, needed)), (supply, tt)) opened (omega (arith, left)) sized (rest_full limit p ps full)
    (next_needs core moment p ps limit sized full) (λ none. absurd (never_none (next_page (closed core) None (piece moment p)) core.trace opened none))

-- ---- the bytes of a page

-- a page that is written has its header and a piece
page_used : Books → (made : Made) (steps : List (CoreStep Leased)) → AreSteps (new_of made) steps → IsSome (after (new_of made) steps).current → FRAME_COST ≤ (after (new_of made) steps).used
page_used books made [] are some = absurd cc
page_used books made (Began trace ∷ earlier) are some =
    let book = book_of books made earlier are.0 in
    absurd (subst (λ (o : Option (Current Leased)). IsSome o → ⊥) (sym (book.closed (sym book.trace ∙ are.1.1))) (λ h. cc) some)
page_used books made (Wrote moment payload more ∷ earlier) are some =
    let used = page_used books made earlier are.0 are.1.3.0 in
    omega (arith, used)
page_used books made (Needed len ∷ earlier) are some = absurd cc
page_used books made (Supplied buffer stamp moment payload more ∷ earlier) are some = omega arith
page_used books made (Ended_ ∷ earlier) are some = absurd cc
page_used books made (Refused ∷ earlier) are some = page_used books made earlier are.0 some

-- A payload that needs a page has a first piece that needs one.
first_long : (current : Option (Current Leased)) (size used bytes limit : ℕ) → FRAME_COST + limit ≡ size → (IsSome current → FRAME_COST ≤ used) → MatchOption current (Unit {0}) (λ _. size < used + (PIECE_COST + bytes))
    → MatchOption current (Unit {0}) (λ _. size < used + (PIECE_COST + limit))
first_long None size used bytes limit sized least needs = tt
first_long (Some page) size used bytes limit sized least needs = omega (arith, sized, least refl)

needs_first : AreCut → (core : Core Leased) (size : ℕ) (payload : List ℕ) → core.size ≡ size → MIN_SIZE ≤ size → (IsSome core.current → FRAME_COST ≤ core.used) → NeedsPage core (length payload) → NeedsFirst core (payload_pieces size payload)
needs_first cut core size payload sized least used needs =
    dite (dec_le (length payload) (piece_limit size))
    (λ fits. subst (NeedsFirst core) (sym (cut.fits size payload fits)) needs)
    (λ not.
    let limit = piece_limit size in
    let long : limit < length payload = lt_of_not-le not in
    let front : length (take limit payload) ≡ limit = length-take-le limit payload (omega (arith, long)) in
    subst (NeedsFirst core) (sym (cut.cut size payload least long))
    (subst (NeedsPage core) (sym front) (first_long core.current core.size core.used (length payload) limit (omega (arith, sized, least)) used needs)))

-- ---- pages and draws

abbrev pub Sends : Type 0
Sends = (made : Made) (ops : List Operation) (client : PlainClient) → HasDone made ops client → HasSent made ops client

-- a core has as many pages as draws
pub pages_drawn : Books → (made : Made) (steps : List (CoreStep Leased)) (core : Core Leased) → AreSteps (new_of made) steps → core ≡ after (new_of made) steps → length (all_pages core) ≡ length (draws_supplied steps)
pages_drawn books made steps core are is =
    let book = book_of books made steps are in
    ap (λ (c : Core Leased). length (all_pages c)) is ∙ ap length book.pages ∙ length-map (pages_of_steps made.size steps) note_of ∙ sym book.each

-- and as many as its operations take
pub pages_taken : Sends → (made : Made) (ops : List Operation) (client : PlainClient) → HasDone made ops client → length (all_pages client.core) ≡ length (pages_of made.size ops)
pages_taken sends made ops client h = ap length (sends made ops client h).pages ∙ length-map (pages_of made.size ops) note_of

-- the pieces of a point that comes next in the open trace
point_comes : (size number : ℕ) (trace : Option TraceId) (moment : ℕ) (payload : List ℕ) → IsSome trace → coming size number trace (Point moment payload ∷ []) ≡ numbered number moment (payload_pieces size payload)
point_comes size number None moment payload some = absurd cc
point_comes size number (Some trace) moment payload some = append-nil (record_pieces size number moment payload)

end_comes : (size number : ℕ) (trace : Option TraceId) → coming size number trace (End ∷ []) ≡ []
end_comes size number None = refl
end_comes size number (Some trace) = refl

pub point_takes : Books → Sends → AreCut → PointsTakePages
point_takes books sends cut moment payload made ops old new h k opened needs ready least left =
    let is = h.writes (Point moment payload ∷ []) in
    let steps = is.steps in
    let size = made.size in
    let limit = piece_limit size in
    let ps = payload_pieces size payload in
    let same : old.core.size ≡ size = made_size made _ _ _ (writing_of old) is in
    let enough : MIN_SIZE ≤ size = subst (λ (n : ℕ). MIN_SIZE ≤ n) same least in
    let core : old.core ≡ after (new_of made) steps = is.comes.core in
    let count : length ps ≡ piece_count old.core.size (length payload) = cut.counted size payload ∙ ap (λ (n : ℕ). piece_count n (length payload)) (sym same) in
    let used : IsSome old.core.current → FRAME_COST ≤ old.core.used =
    subst (λ (c : Core Leased). IsSome c.current → FRAME_COST ≤ c.used) (sym core) (page_used books made steps is.comes.may) in
    let full : AreFull limit ps = pieces_full cut (length payload) size payload enough (omega arith) in
    let first : NeedsFirst old.core ps = needs_first cut old.core size payload same enough used needs in
    let sized : FRAME_COST + limit ≡ old.core.size = omega (arith, same, enough) in
    let may =
    turned_may (new_of made) limit moment ps steps is.comes.may (subst (λ (c : Core Leased). IsSome c.trace) core opened) (subst (λ (c : Core Leased). c.counted + length ps ≤ c.calls) core (omega (arith, left, count)))
    (subst (λ (c : Core Leased). FRAME_COST + limit ≡ c.size) core sized) full (subst (λ (c : Core Leased). NeedsFirst c ps) core first) (subst IsReady core ready) in
    let next = turned moment ps steps in
    let pieces : coming size old.core.number old.core.trace (Point moment payload ∷ []) ≡ numbered (next_number steps) moment ps =
    point_comes size old.core.number old.core.trace moment payload opened ∙ ap (λ (n : ℕ). numbered n moment ps) is.comes.number in
    let segments : reverse (segments_of_steps next) ≡ segments_of size (ops ++ Point moment payload ∷ []) =
    ap reverse (turned_segments moment ps steps) ∙ ap (λ (l : List Piece). reverse (with_all l (segments_of_steps steps))) (sym pieces)
    ∙ sym (append-nil (reverse (with_all (coming size old.core.number old.core.trace (Point moment payload ∷ [])) (segments_of_steps steps)))) ∙ is.gives in
    let book = book_of books made next may in
    let taken : length (all_pages new.core) ≡ length (draws_supplied next) =
    pages_taken sends made (ops ++ Point moment payload ∷ []) new k ∙ ap (λ (l : List Segment). length (flat_map (segment_pages size) l)) (sym segments) ∙ sym book.each in
    record {
      pages_are = omega (arith, taken, turned_draws moment ps steps, pages_drawn books made steps old.core is.comes.may core, count);
      renewed = made_renewed made _ _ _ (writing_of new) (k.writes []) ∙ sym (made_renewed made _ _ _ (writing_of old) is);
    }

-- an end takes none
pub end_takes : Books → Sends → EndsTakeNone
end_takes books sends made ops old new h k =
    let is = h.writes (End ∷ []) in
    let steps = is.steps in
    let size = made.size in
    let segments : reverse (segments_of_steps steps) ≡ segments_of size (ops ++ End ∷ []) =
    ap (λ (l : List Piece). reverse (with_all l (segments_of_steps steps))) (sym (end_comes size old.core.number old.core.trace))
    ∙ sym (append-nil (reverse (with_all (coming size old.core.number old.core.trace (End ∷ [])) (segments_of_steps steps)))) ∙ is.gives in
    let book = book_of books made steps is.comes.may in
    let taken : length (all_pages new.core) ≡ length (draws_supplied steps) =
    pages_taken sends made (ops ++ End ∷ []) new k ∙ ap (λ (l : List Segment). length (flat_map (segment_pages size) l)) (sym segments) ∙ sym book.each in
    record {
      pages_are = omega (arith, taken, pages_drawn books made steps old.core is.comes.may is.comes.core);
      renewed = made_renewed made _ _ _ (writing_of new) (k.writes []) ∙ sym (made_renewed made _ _ _ (writing_of old) is);
    }

-- a core behind a point has a page
pub point_open : (moment : ℕ) (payload : List ℕ) (made : Made) (ops : List Operation) (new : PlainClient) → HasDone made (ops ++ Point moment payload ∷ []) new → new.core.current ≡ None → ⊥
point_open moment payload made ops new k none =
    let opened : has_open_page false (ops ++ Point moment payload ∷ []) ≡ true = page_more false ops (Point moment payload) in
    let both : is_some new.core.current ≡ true = k.page ∙ opened in
    let no : is_some new.core.current ≡ false = ap is_some none in
    cc
