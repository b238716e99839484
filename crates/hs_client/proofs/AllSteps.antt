-- What holds after any steps.
use Rattle.std.proofs.Common.{◌≡◌, ℕ, List, [], ◌∷◌, ◌++◌, length, length-append, map, Some, None, Option, refl, sym, ap, ◌∙◌, subst, arith, ◌⊎◌, inl, inr, ⊎_elim, append_assoc}
use Rattle.std.specs.Prelude.{IsSome}
use Rattle.std.specs.Option.{option_to_list}
use Rattle.std.proofs.lemmas.List.{append-nil}
use Rattle.hs_base.proofs.Options.{some_item}
use Rattle.hs_base.specs.declared.ids.TraceId.{TraceId}
use Rattle.hs_base.specs.declared.ids.ClientId.{ClientId}
use Rattle.hs_records.specs.Records.{Segment, Piece}
use Rattle.hs_records.specs.Pages.{PlainPage}
use Rattle.hs_records.specs.declared.journal.Draw.{Draw}
use Rattle.hs_client.specs.Core.{Core, CoreStep, Began, Wrote, Needed, Supplied, Ended_, Refused, after_step, new_core, closed, handed, draw_of, number_after}
use Rattle.hs_words.specs.Buffers.{Buffer}
use Rattle.hs_client.specs.Calls.{after, AreSteps, next_number, segments_of_steps, open_trace, chunks_supplied, draws_supplied, handed_out, with_last, pages_of_steps, note_of, filled_chunks, IsBook, with_all}
use Rattle.hs_client.proofs.Runs.{AreLongest}
use Rattle.hs_client.proofs.Book.{pages_back, pages_in_order, KeepsNone, KeepsLast, numbered, begun, needed, needed_none, wrote, supplied_more}

apart : {A : Type 0} (o : Option A) (a : A) → o ≡ None → o ≡ Some a → ⊥
apart {A} o a none some = let e : ◌≡◌ {A = Option A} None (Some a) = sym none ∙ some in cc

lacks : {A : Type 0} (o : Option A) → o ≡ None → IsSome o → ⊥
lacks None none some = cc
lacks (Some a) none some = cc

module _ {L : Type 0} (longest : AreLongest) (client : ClientId) (size calls : ℕ) where
  abbrev new : Core L
  new = new_core client size calls

  record Holds (steps : List (CoreStep L)) : Type 0 where
    pub client_is : (after new steps).client ≡ client
    pub size_is : (after new steps).size ≡ size
    pub trace_is : (after new steps).trace ≡ open_trace steps
    pub number_is : (after new steps).number ≡ next_number steps
    pub draws_are : (after new steps).draws ≡ draws_supplied steps
    pub keeps : KeepsNone client size (after new steps) (segments_of_steps steps) (chunks_supplied steps) (handed_out new steps)
        ⊎ KeepsLast client size (after new steps) (segments_of_steps steps) (chunks_supplied steps) (handed_out new steps)

  -- without an open trace
  at_end : (core : Core L) (segments : List Segment) (supplied : List (Option (Buffer L))) (out : List (Buffer L)) → KeepsNone client size (closed core) segments supplied out
      → KeepsNone client size (after_step core Ended_) segments supplied out
  at_end core segments supplied out is = record { none = refl; pages = is.pages; each = is.each; chunks = is.chunks; last = λ trace e. absurd cc }

  ended : (steps : List (CoreStep L)) → Holds steps → KeepsNone client size (closed (after new steps)) (segments_of_steps steps) (chunks_supplied steps) (handed_out new steps ++ option_to_list (handed (after new steps)))
  ended steps is =
      ⊎_elim (needed_none longest client size (after new steps) (segments_of_steps steps) (chunks_supplied steps) (handed_out new steps))
      (needed longest client size (after new steps) (segments_of_steps steps) (chunks_supplied steps) (handed_out new steps)) is.keeps

  holds : (steps : List (CoreStep L)) → AreSteps new steps → Holds steps
  holds [] are =
      record { client_is = refl; size_is = refl; trace_is = refl; number_is = refl; draws_are = refl; keeps = inl (record { none = refl; pages = refl; each = refl; chunks = refl; last = λ trace e. absurd cc }) }
  holds (Began trace ∷ earlier) are =
      let is = holds earlier are.0 in
      record {
        client_is = is.client_is;
        size_is = is.size_is;
        trace_is = refl;
        number_is = is.number_is;
        draws_are = is.draws_are;
        keeps = ⊎_elim (λ none. inl (begun longest client size (after new earlier) (segments_of_steps earlier) (chunks_supplied earlier) (handed_out new earlier) trace none))
            (λ last. absurd (apart (after new earlier).trace last.trace are.1.1 last.trace_is)) is.keeps;
      }
  holds (Wrote moment payload more ∷ earlier) are =
      let is = holds earlier are.0 in
      record {
        client_is = is.client_is;
        size_is = is.size_is;
        trace_is = is.trace_is;
        number_is = ap (number_after more) is.number_is;
        draws_are = is.draws_are;
        keeps = ⊎_elim (λ none. absurd (lacks (after new earlier).current none.none are.1.3.0))
            (λ last. inr (wrote longest client size (after new earlier) (segments_of_steps earlier) (chunks_supplied earlier) (handed_out new earlier) moment payload more (next_number earlier) last
            (omega (arith, are.1.3.1, is.size_is)))) is.keeps;
      }
  holds (Needed len ∷ earlier) are =
      let is = holds earlier are.0 in
      record { client_is = is.client_is; size_is = is.size_is; trace_is = is.trace_is; number_is = is.number_is; draws_are = is.draws_are; keeps = inl (ended earlier is) }
  holds (Supplied buffer stamp moment payload more ∷ earlier) are =
      let is = holds earlier are.0 in
      let core = after new earlier in
      let t = some_item core.trace are.1.0.opened in
      record {
        client_is = is.client_is;
        size_is = is.size_is;
        trace_is = is.trace_is;
        number_is = ap (number_after more) is.number_is;
        draws_are = ap (λ (l : List Draw). l ++ draw_of buffer stamp ∷ []) is.draws_are;
        keeps = ⊎_elim
            (λ none.
            inr (subst (λ (n : ℕ). KeepsLast client size (after_step core (Supplied buffer stamp moment payload more)) (with_last (numbered n moment payload) (segments_of_steps earlier)) (chunks_supplied earlier ++ buffer ∷ []) (handed_out new earlier))
            is.number_is (supplied_more longest client size core (segments_of_steps earlier) (chunks_supplied earlier) (handed_out new earlier) buffer stamp moment payload more t.0 is.client_is is.size_is t.1 none are.1.0)))
            (λ last. absurd (apart core.current _ are.1.0.none last.current)) is.keeps;
      }
  holds (Ended_ ∷ earlier) are =
      let is = holds earlier are.0 in
      record {
        client_is = is.client_is;
        size_is = is.size_is;
        trace_is = refl;
        number_is = is.number_is;
        draws_are = is.draws_are;
        keeps = inl (at_end (after new earlier) (segments_of_steps earlier) (chunks_supplied earlier) (handed_out new earlier ++ option_to_list (handed (after new earlier))) (ended earlier is));
      }
  holds (Refused ∷ earlier) are =
      let is = holds earlier are.0 in
      record { client_is = is.client_is; size_is = is.size_is; trace_is = is.trace_is; number_is = is.number_is; draws_are = is.draws_are; keeps = is.keeps }

  -- there are as many draws as chunks and null pages
  draws_counted : (steps : List (CoreStep L)) → length (draws_supplied steps) ≡ length (chunks_supplied steps)
  draws_counted [] = refl
  draws_counted (Supplied buffer stamp moment payload more ∷ earlier) =
      omega (arith, length-append (draws_supplied earlier) (draw_of buffer stamp ∷ []), length-append (chunks_supplied earlier) (buffer ∷ []), draws_counted earlier)
  draws_counted (Began trace ∷ earlier) = draws_counted earlier
  draws_counted (Wrote moment payload more ∷ earlier) = draws_counted earlier
  draws_counted (Needed len ∷ earlier) = draws_counted earlier
  draws_counted (Ended_ ∷ earlier) = draws_counted earlier
  draws_counted (Refused ∷ earlier) = draws_counted earlier

  pub book : (steps : List (CoreStep L)) → AreSteps new steps → IsBook new steps
  book steps are =
      let is = holds steps are in
      let whole = ended steps is in
      let same : pages_back size (segments_of_steps steps) ≡ pages_of_steps size steps = pages_in_order size (segments_of_steps steps) in
      record {
        trace = is.trace_is;
        number = is.number_is;
        pages = whole.pages ∙ ap (map note_of) same;
        draws = is.draws_are;
        each = draws_counted steps ∙ whole.each ∙ ap length same;
        chunks = whole.chunks ∙ ap (λ (ps : List PlainPage). filled_chunks client 0 ps (chunks_supplied steps)) same;
        closed = λ none. ⊎_elim (λ kept. kept.none) (λ last. absurd (apart (after new steps).trace last.trace (is.trace_is ∙ none) last.trace_is)) is.keeps;
      }

pub with_all-open : (trace : TraceId) (before pieces : List Piece) (segments : List Segment)
    → with_all pieces (record { trace = trace; pieces = before } ∷ segments) ≡ record { trace = trace; pieces = before ++ pieces } ∷ segments
with_all-open trace before [] segments = ap (λ (pieces : List Piece). let s : Segment = record { trace = trace; pieces = pieces } in s ∷ segments) (sym (append-nil before))
with_all-open trace before (piece ∷ pieces) segments =
    with_all-open trace (before ++ piece ∷ []) pieces segments
    ∙ ap (λ (pieces : List Piece). let s : Segment = record { trace = trace; pieces = pieces } in s ∷ segments) (append_assoc before (piece ∷ []) pieces)
