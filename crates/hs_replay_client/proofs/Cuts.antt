-- A client that has recorded some pieces of a payload, and has the rest of it still to record.
use Rattle.std.proofs.Common.{◌≡◌, ℕ, ◌+◌, ◌<◌, ◌≤◌, List, [], ◌∷◌, ◌++◌, length, map, take, drop, refl, sym, ap, ap₂, ◌∙◌, arith, subst}
use Rattle.hs_replay_client.proofs.Prelude.{MIN_SIZE, Piece, Segment, piece_limit, piece_count, record_pieces, AreCut, Unleased, Way, IsReadyFor, Made, Writing, IsSound, Spends, IsWriting, Records}
use Rattle.hs_records.specs.Records.{payload_pieces}
use Rattle.hs_replay_client.proofs.Spending.{ready_less, spends_none, spends_more}
use Rattle.hs_replay_client.proofs.Steps.{piece_of}

module _ {P : Type 0} (way : Way P) where
  -- a payload of which this rest is still to be recorded
  pub record IsCutTo (moment : ℕ) (payload rest : List ℕ) (old now : Writing) (well well' : P) : Type 0 where
    pub sound : IsSound now.core
    pub trace : now.core.trace ≡ old.core.trace
    pub number : now.core.number ≡ old.core.number
    pub used : ℕ
    pub spends : Spends way used old.core now.core well well'
    pub counted : used + piece_count old.core.size (length rest) ≡ piece_count old.core.size (length payload)
    pub written : (made : Made) (gone : List Unleased) (pieces : List Piece) (later all : List Segment)
        → IsWriting made gone (record_pieces old.core.size old.core.number moment payload ++ pieces) later all old → IsWriting made gone (record_pieces old.core.size old.core.number moment rest ++ pieces) later all now

  -- nothing is recorded yet
  pub cut_none : (moment : ℕ) (payload : List ℕ) (old : Writing) (well : P) → IsSound old.core → IsCutTo moment payload payload old old well well
  cut_none moment payload old well sound =
      record {
        sound = sound;
        trace = refl;
        number = refl;
        used = 0;
        spends = spends_none way 0 old.core well;
        counted = omega arith;
        written = λ made gone pieces later all h. h;
      }

  pub cut_further : AreCut → (limit moment : ℕ) (payload rest full behind : List ℕ) (old now new : Writing) (well middle well' : P) → IsCutTo moment payload rest old now well middle → limit ≡ piece_limit old.core.size
      → limit < length rest → full ≡ take limit rest → behind ≡ drop limit rest → Records way 1 now.core.number (piece_of now.core.number moment full ∷ []) now new middle well' → IsCutTo moment payload behind old new well well'
  cut_further are limit moment payload rest full behind old now new well middle well' is limit_is long full_is behind_is recorded =
      let size = old.core.size in
      let wide : MIN_SIZE ≤ size = omega (arith, is.sound.least, is.spends.size_is) in
      let longer : piece_limit size < length rest = omega (arith, long, limit_is) in
      let cut : payload_pieces size rest ≡ full ∷ payload_pieces size behind =
      are.cut size rest wide longer ∙ ap (λ n. take n rest ∷ payload_pieces size (drop n rest)) (sym limit_is)
      ∙ ap₂ (λ piece more. piece ∷ payload_pieces size more) (sym full_is) (sym behind_is) in
      let less : piece_count size (length rest) ≡ piece_count size (length behind) + 1 = omega (arith, are.counted size rest, ap length cut, are.counted size behind) in
      record {
        sound = recorded.sound;
        trace = recorded.trace_is ∙ is.trace;
        number = recorded.number_is ∙ is.number;
        used = is.used + 1;
        spends = spends_more way is.used 1 (is.used + 1) old.core now.core new.core well middle well' refl is.spends recorded.spends;
        counted = omega (arith, is.counted, less);
        written = λ made gone pieces later all h.
            let from = is.written made gone pieces later all h in
            let more : record_pieces size old.core.number moment rest ≡ piece_of now.core.number moment full ∷ record_pieces size old.core.number moment behind =
            ap (map (piece_of old.core.number moment)) cut ∙ ap (λ number. piece_of number moment full ∷ record_pieces size old.core.number moment behind) (sym is.number) in
            recorded.written made gone (record_pieces size old.core.number moment behind ++ pieces) later all (subst (λ these. IsWriting made gone (these ++ pieces) later all now) more from);
      }

  -- all of the payload is recorded
  pub cut_all : AreCut → (limit moment : ℕ) (payload rest : List ℕ) (old now new : Writing) (well middle well' : P) → IsCutTo moment payload rest old now well middle → limit ≡ piece_limit old.core.size → length rest ≤ limit
      → Records way 1 (now.core.number + 1) (piece_of now.core.number moment rest ∷ []) now new middle well'
      → Records way (piece_count old.core.size (length payload)) (old.core.number + 1) (record_pieces old.core.size old.core.number moment payload) old new well well'
  cut_all are limit moment payload rest old now new well middle well' is limit_is short recorded =
      let size = old.core.size in
      let shorter : length rest ≤ piece_limit size = omega (arith, short, limit_is) in
      let whole = are.fits size rest shorter in
      let one : piece_count size (length rest) ≡ 1 = sym (are.counted size rest) ∙ ap length whole in
      let all_used : is.used + 1 ≡ piece_count size (length payload) = omega (arith, is.counted, one) in
      record {
        sound = recorded.sound;
        trace_is = recorded.trace_is ∙ is.trace;
        number_is = recorded.number_is ∙ ap (λ n. n + 1) is.number;
        page = recorded.page;
        spends = spends_more way is.used 1 (piece_count size (length payload)) old.core now.core new.core well middle well' all_used is.spends recorded.spends;
        written = λ made gone pieces later all h.
            let from = is.written made gone pieces later all h in
            let cut : record_pieces size old.core.number moment rest ≡ piece_of now.core.number moment rest ∷ [] =
            ap (map (piece_of old.core.number moment)) whole ∙ ap (λ number. piece_of number moment rest ∷ []) (sym is.number) in
            recorded.written made gone pieces later all (subst (λ these. IsWriting made gone (these ++ pieces) later all now) cut from);
      }

  -- and what it draws from is ready for the next of the rest
  pub cut_ready : (moment : ℕ) (payload rest : List ℕ) (old now : Writing) (well well' : P)
      → IsCutTo moment payload rest old now well well' → IsReadyFor way well old.core.size (piece_count old.core.size (length payload)) → IsReadyFor way well' now.core.size 1
  cut_ready moment payload rest old now well well' is ready =
      let size = old.core.size in
      let some : 1 ≤ piece_count size (length rest) = omega arith in
      subst (λ n. IsReadyFor way well' n 1) (sym is.spends.size_is) (ready_less way well' size (piece_count size (length rest)) 1 some (is.spends.ready size (piece_count size (length rest)) (ready_less way well size (piece_count size (length payload)) (piece_count size (length rest) + is.used) (omega (arith, is.counted)) ready)))
