-- A client that has recorded some pieces of a payload, and has the rest of it still to record.
use Rattle.std.proofs.Common.{◌≡◌, ℕ, suc, ◌+◌, ◌-◌, ◌<◌, ◌≤◌, List, [], ◌∷◌, ◌++◌, length, map, take, drop, Bool, true, false, Option, IsSome, refl, sym, ap, ap₂, ◌∙◌, arith, subst, append_assoc, length-append}
use Rattle.hs_live.proofs.Prelude.{option_to_list_short, AllByRecursion, option_to_list, Piece, Segment, piece_limit, record_pieces, Drawn, PoolEvent, Got, Empty, Answer, Buffer, Core, after_step, closed, supplied, Outgoing, sent, Leased, Drawing, after_draw, Key, GoesOn, Made, Writing, IsSound, IsWriting, WritesPieces, DrawsAs}
use Rattle.hs_base.specs.declared.limits.TheConstants.{MIN_SIZE}
use Rattle.hs_records.specs.Records.{payload_pieces, piece_count, count_cuts}
use Rattle.hs_records.proofs.Payloads.{AreCut}
use Rattle.hs_words.specs.declared.token.Drawn.TheVariants as drawn
use Rattle.hs_link.specs.Contents.{HasPlaces}
use Rattle.hs_ring.specs.Parts.{Refills}
use Rattle.hs_live.specs.Writing.{DrawsOn, IsDraw, IsDrawn, Spends}
use Rattle.hs_live.proofs.Senders.{goes_trans, goes_same, places_left}
use Rattle.hs_live.proofs.Steps.{piece_of}

-- answers above a floor are above a lower one, too
all_above : (low floor : ℕ) (later earlier : List Answer) → low ≤ floor → AllByRecursion (λ (x : Answer). floor ≤ x.stamp) later → AllByRecursion (λ (x : Answer). low ≤ x.stamp) earlier
    → AllByRecursion (λ (x : Answer). low ≤ x.stamp) (later ++ earlier)
all_above low floor [] earlier lower h k = k
all_above low floor (answer ∷ later) earlier lower h k = (omega (arith, lower, h.0), all_above low floor later earlier lower h.1 k)

pub all_drawn : (later earlier : List Answer) → AllByRecursion IsDrawn later → AllByRecursion IsDrawn earlier → AllByRecursion IsDrawn (later ++ earlier)
all_drawn [] earlier h k = k
all_drawn (answer ∷ later) earlier h k = (h.0, all_drawn later earlier h.1 k)

pub draws_trans : (a b c : Drawing) → DrawsOn a b → DrawsOn b c → DrawsOn a c
draws_trans a b c h l =
    record {
      pool = l.pool ∙ h.pool;
      buffers = l.buffers ∙ h.buffers;
      size = l.size ∙ h.size;
      number = l.number ∙ h.number;
      floor = omega (arith, l.floor, h.floor);
      added = l.added ++ h.added;
      since = l.since ∙ ap (λ (answers : List Answer). l.added ++ answers) h.since ∙ sym (append_assoc l.added h.added a.answers);
      above = all_above a.floor b.floor l.added h.added h.floor l.above h.above;
      drawn = all_drawn l.added h.added l.drawn h.drawn;
    }

pub spends_trans : (m n k : ℕ) (a b c : Writing) → m + n ≡ k → Spends m a b → Spends n b c → Spends k a c
spends_trans m n k a b c sum h l =
    record {
      owner = l.owner ∙ h.owner;
      size = l.size ∙ h.size;
      calls_are = l.calls_are ∙ h.calls_are;
      keeps = l.keeps ∙ h.keeps;
      counted = omega (arith, l.counted, h.counted, sum);
      drawer = draws_trans a.drawer b.drawer c.drawer h.drawer l.drawer;
      left = omega (arith, l.left, h.left, sum);
      chunks = goes_trans a.chunks b.chunks c.chunks h.chunks l.chunks;
      items = omega (arith, l.items, h.items, sum);
    }

drew_at : (old new : Drawing) (stamp : ℕ) (event : PoolEvent) → IsDraw event → new ≡ after_draw old stamp event → old.floor ≤ stamp → DrawsOn old new
drew_at old new stamp event draw is above =
    let floor : new.floor ≡ suc stamp = ap (λ (d : Drawing). d.floor) is in
    record {
      pool = ap (λ (d : Drawing). d.pool) is;
      buffers = ap (λ (d : Drawing). d.buffers) is;
      size = ap (λ (d : Drawing). d.size) is;
      number = ap (λ (d : Drawing). d.number) is;
      floor = omega (arith, floor, above);
      added = record { stamp = stamp; event = event; draw = 0 } ∷ [];
      since = ap (λ (d : Drawing). d.answers) is;
      above = (above, tt);
      drawn = ((draw, refl), tt);
    }

-- nothing was drawn
pub draws_none : (drawer : Drawing) → DrawsOn drawer drawer
draws_none drawer = record { pool = refl; buffers = refl; size = refl; number = refl; floor = omega arith; added = []; since = refl; above = tt; drawn = tt }

-- nothing was drawn where the allowance was made whole, or stayed
pub draws_refilled : (old new : Drawing) (is_whole : Bool) → Refills old is_whole new → DrawsOn old new
draws_refilled old new true is =
    subst (λ (d : Drawing). DrawsOn old d) (sym is) (record { pool = refl; buffers = refl; size = refl; number = refl; floor = omega arith; added = []; since = refl; above = tt; drawn = tt })
draws_refilled old new false is = subst (λ (d : Drawing). DrawsOn old d) (sym is) (draws_none old)

-- a page was drawn for
pub draws_one : {g : _} (mark : ℕ) (old new : Drawing) (draw : Drawn Leased g) → DrawsAs mark old draw new → DrawsOn old new
draws_one mark old new (drawn.Got held stamp) draws = drew_at old new stamp (Got held.chunk.number) tt draws.0 draws.1
draws_one mark old new (drawn.Empty stamp) draws = drew_at old new stamp Empty tt draws.0 draws.1

pub spends_none : (a : Writing) → Spends 0 a a
spends_none a =
    record {
      owner = refl;
      size = refl;
      calls_are = refl;
      keeps = refl;
      counted = omega arith;
      drawer = draws_none a.drawer;
      left = omega arith;
      chunks = goes_same a.chunks;
      items = omega arith;
    }

-- what a supplied page leaves of a core
record IsSupplied (old new : Core Leased) : Type 0 where
  owner : new.client ≡ old.client
  size : new.size ≡ old.size
  calls_are : new.calls ≡ old.calls
  keeps : new.keeps ≡ old.keeps
  counted : new.counted ≡ old.counted + 1

is_supplied : {g : _} (core : Core Leased) (draw : Drawn Leased g) (moment : ℕ) (payload : List ℕ) (more : Bool) → IsSupplied core (after_step core (supplied draw moment payload more))
is_supplied core (drawn.Got held stamp) moment payload more = record { owner = refl; size = refl; calls_are = refl; keeps = refl; counted = refl }
is_supplied core (drawn.Empty stamp) moment payload more = record { owner = refl; size = refl; calls_are = refl; keeps = refl; counted = refl }

left_drawn : {g : _} (mark : ℕ) (old new : Drawing) (draw : Drawn Leased g) → DrawsAs mark old draw new → new.left ≡ old.left - 1
left_drawn mark old new (drawn.Got held stamp) draws = ap (λ (d : Drawing). d.left) draws.0
left_drawn mark old new (drawn.Empty stamp) draws = ap (λ (d : Drawing). d.left) draws.0

-- a piece that needed a page
pub spends_page : {g : _} (mark : ℕ) (old : Writing) (core : Core Leased) (drawer : Drawing) (chunks : Outgoing (Buffer Leased) Key) (handed : Option (Buffer Leased)) (draw : Drawn Leased g) (moment : ℕ) (payload : List ℕ) (more : Bool)
    → core ≡ after_step (closed old.core) (supplied draw moment payload more) → DrawsAs mark old.drawer draw drawer → GoesOn old.chunks chunks → sent chunks ≡ sent old.chunks ++ option_to_list handed
    → Spends 1 old (record { core = core; drawer = drawer; chunks = chunks })
spends_page mark old core drawer chunks handed draw moment payload more is draws goes sends =
    let by = subst (λ (new : Core Leased). IsSupplied (closed old.core) new) (sym is) (is_supplied (closed old.core) draw moment payload more) in
    let left = left_drawn mark old.drawer drawer draw draws in
    record {
      owner = by.owner;
      size = by.size;
      calls_are = by.calls_are;
      keeps = by.keeps;
      counted = by.counted;
      drawer = draws_one mark old.drawer drawer draw draws;
      left = omega (arith, left);
      chunks = goes;
      items = omega (arith, ap length sends, length-append (sent old.chunks) (option_to_list handed), option_to_list_short handed);
    }

-- ---- a payload of which this rest is still to be recorded

pub record IsCutTo (moment : ℕ) (payload rest : List ℕ) (old now : Writing) : Type 0 where
  pub sound : IsSound now
  pub trace : now.core.trace ≡ old.core.trace
  pub number : now.core.number ≡ old.core.number
  pub used : ℕ
  pub spends : Spends used old now
  pub counted : used + piece_count old.core.size (length rest) ≡ piece_count old.core.size (length payload)
  pub written : (made : Made) (pieces : List Piece) (later all : List Segment)
      → IsWriting made (record_pieces old.core.size old.core.number moment payload ++ pieces) later all old → IsWriting made (record_pieces old.core.size old.core.number moment rest ++ pieces) later all now

-- a call that records a piece
pub record IsRecorded (moment : ℕ) (payload : List ℕ) (number : ℕ) (now new : Writing) : Type 0 where
  pub sound : IsSound new
  pub trace : new.core.trace ≡ now.core.trace
  pub number_is : new.core.number ≡ number
  pub page : IsSome new.core.current
  pub spends : Spends 1 now new
  pub written : WritesPieces (piece_of now.core.number moment payload ∷ []) now new

-- a piece that is still to be recorded has its place
pub places_now : (moment : ℕ) (payload rest : List ℕ) (old now : Writing) → IsCutTo moment payload rest old now → HasPlaces (piece_count old.core.size (length payload)) old.chunks → HasPlaces 1 now.chunks
places_now moment payload rest old now is places =
    let more = piece_count old.core.size (length rest) in
    let all = places_left is.used more old.chunks now.chunks is.spends.chunks is.spends.items (subst (λ (n : ℕ). HasPlaces n old.chunks) (sym is.counted) places) in
    let some : more ≡ count_cuts (length rest) (piece_limit old.core.size) (length rest) + 1 = refl in
    (omega (arith, all.0, some), omega (arith, all.1, some))

pub cut_further : AreCut → (limit moment : ℕ) (payload rest full behind : List ℕ) (old now new : Writing) → IsCutTo moment payload rest old now → limit ≡ piece_limit old.core.size → limit < length rest
    → full ≡ take limit rest → behind ≡ drop limit rest → IsRecorded moment full now.core.number now new → IsCutTo moment payload behind old new
cut_further are limit moment payload rest full behind old now new is limit_is long full_is behind_is recorded =
    let size = old.core.size in
    let wide : MIN_SIZE ≤ size = omega (arith, is.sound.least, is.spends.size) in
    let longer : piece_limit size < length rest = omega (arith, long, limit_is) in
    let cut : payload_pieces size rest ≡ full ∷ payload_pieces size behind =
    are.cut size rest wide longer ∙ ap (λ n. take n rest ∷ payload_pieces size (drop n rest)) (sym limit_is)
    ∙ ap₂ (λ piece more. piece ∷ payload_pieces size more) (sym full_is) (sym behind_is) in
    let fewer : piece_count size (length rest) ≡ piece_count size (length behind) + 1 = omega (arith, are.counted size rest, ap length cut, are.counted size behind) in
    record {
      sound = recorded.sound;
      trace = recorded.trace ∙ is.trace;
      number = recorded.number_is ∙ is.number;
      used = is.used + 1;
      spends = spends_trans is.used 1 (is.used + 1) old now new refl is.spends recorded.spends;
      counted = omega (arith, is.counted, fewer);
      written = λ made pieces later all h.
          let from = is.written made pieces later all h in
          let more : record_pieces size old.core.number moment rest ≡ piece_of now.core.number moment full ∷ record_pieces size old.core.number moment behind =
          ap (map (piece_of old.core.number moment)) cut ∙ ap (λ number. piece_of number moment full ∷ record_pieces size old.core.number moment behind) (sym is.number) in
          recorded.written made (record_pieces size old.core.number moment behind ++ pieces) later all (subst (λ these. IsWriting made (these ++ pieces) later all now) more from);
    }

-- all of the payload is recorded
pub record IsCut (moment : ℕ) (payload : List ℕ) (old new : Writing) : Type 0 where
  pub sound : IsSound new
  pub trace : new.core.trace ≡ old.core.trace
  pub number : new.core.number ≡ old.core.number + 1
  pub page : IsSome new.core.current
  pub spends : Spends (piece_count old.core.size (length payload)) old new
  pub written : WritesPieces (record_pieces old.core.size old.core.number moment payload) old new

pub cut_all : AreCut → (limit moment : ℕ) (payload rest : List ℕ) (old now new : Writing) → IsCutTo moment payload rest old now → limit ≡ piece_limit old.core.size → length rest ≤ limit
    → IsRecorded moment rest (now.core.number + 1) now new → IsCut moment payload old new
cut_all are limit moment payload rest old now new is limit_is short recorded =
    let size = old.core.size in
    let shorter : length rest ≤ piece_limit size = omega (arith, short, limit_is) in
    let whole = are.fits size rest shorter in
    let one : piece_count size (length rest) ≡ 1 = sym (are.counted size rest) ∙ ap length whole in
    let all_used : is.used + 1 ≡ piece_count size (length payload) = omega (arith, is.counted, one) in
    record {
      sound = recorded.sound;
      trace = recorded.trace ∙ is.trace;
      number = recorded.number_is ∙ ap (λ n. n + 1) is.number;
      page = recorded.page;
      spends = spends_trans is.used 1 (piece_count size (length payload)) old now new all_used is.spends recorded.spends;
      written = λ made pieces later all h.
          let from = is.written made pieces later all h in
          let cut : record_pieces size old.core.number moment rest ≡ piece_of now.core.number moment rest ∷ [] =
          ap (map (piece_of old.core.number moment)) whole ∙ ap (λ number. piece_of number moment rest ∷ []) (sym is.number) in
          recorded.written made pieces later all (subst (λ these. IsWriting made (these ++ pieces) later all now) cut from);
    }

-- a payload that is recorded as one piece
pub cut_once : AreCut → (moment : ℕ) (payload : List ℕ) (old new : Writing) → IsSound old → length payload ≤ piece_limit old.core.size → IsRecorded moment payload (old.core.number + 1) old new → IsCut moment payload old new
cut_once are moment payload old new sound short recorded =
    let nothing : IsCutTo moment payload payload old old =
    record { sound = sound; trace = refl; number = refl; used = 0; spends = spends_none old; counted = omega arith; written = λ made pieces later all h. h } in
    cut_all are (piece_limit old.core.size) moment payload payload old old new nothing refl short recorded
