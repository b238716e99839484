-- A page's pieces among the records that are there: whether the first joins the record before their place, and what the
-- records are then.
use Rattle.std.proofs.Common.{◌≡◌, ℕ, zero, suc, ◌+◌, ◌-◌, ◌≤◌, Bool, true, false, cond, List, [], ◌∷◌, ◌++◌, length, take, drop, All, refl, sym, ap, ◌∙◌, subst, arith, length-drop}
use Rattle.hs_collect.proofs.Prelude.{append_assoc, append-nil, take-append-le, All-nil, All-push, All-weaker, ClientId, RecordId, Header, Piece, is_behind, Placed, is_same, pieces_from, Precedes, AreInOrder, AreWholes, is_before, join_at, IsPlaceBehind, GoesBehind, Joins}
use Rattle.std.specs.Int.{from_bool}
use Rattle.std.proofs.lemmas.List.{take-append-drop, drop-append-le, take_at, drop_at}
use Rattle.hs_base.proofs.Counts.{from_bool_one}
use Rattle.hs_collect.proofs.Listed.{all_middle, pairs_before}
use Rattle.hs_collect.proofs.Ids.{precedes_next, next_number, before_number, before_last, lower_number, same_ids}
use Rattle.hs_collect.proofs.Joined.{length-joined}
use Rattle.hs_collect.proofs.Adding.{InOrder, grown, id_of, AreBefore, AreBehind, joined_record, new_records}

-- the front of a list up to an element, with the element
pub record SplitsAt {X : Type 0} (xs : List X) (n : ℕ) : Type 0 where
  pub front : List X
  pub last : X
  pub back : List X
  pub parts : xs ≡ front ++ last ∷ back
  pub long : n ≡ suc (length front)

splits_at : {X : Type 0} (xs : List X) (n : ℕ) → suc n ≤ length xs → SplitsAt xs (suc n)
splits_at [] n within = absurd (omega arith)
splits_at (x ∷ xs) zero within = record { front = []; last = x; back = xs; parts = refl; long = refl }
splits_at (x ∷ xs) (suc n) within =
    let rest = splits_at xs n (omega arith) in
    record { front = x ∷ rest.front; last = rest.last; back = rest.back; parts = ap (λ l. x ∷ l) rest.parts; long = ap suc rest.long }

take_through : {X : Type 0} (front : List X) (last : X) (back : List X) → take (suc (length front)) (front ++ last ∷ back) ≡ front ++ last ∷ []
take_through [] last back = refl
take_through (first ∷ front) last back = ap (λ l. first ∷ l) (take_through front last back)

drop_through : {X : Type 0} (front : List X) (last : X) (back : List X) → drop (suc (length front)) (front ++ last ∷ back) ≡ back
drop_through [] last back = refl
drop_through (first ∷ front) last back = drop_through front last back

is_before_last : (front : List Placed) (last : Placed) (back : List Placed) (id : RecordId) → is_before (suc (length front)) id (front ++ last ∷ back) ≡ is_same last.id id
is_before_last [] last back id = refl
is_before_last (first ∷ front) last back id = is_before_last front last back id

join_last : (front : List Placed) (last : Placed) (back : List Placed) (bytes : List ℕ) → join_at (length front) bytes (front ++ last ∷ back) ≡ front ++ grown last bytes ∷ back
join_last [] last back bytes = refl
join_last (first ∷ front) last back bytes = ap (λ l. first ∷ l) (join_last front last back bytes)

-- the first piece joins the last record before, or begins its own
at_last : (pieces front : List Placed) (last : Placed) (back : List Placed) (client : ClientId) (number : ℕ) (piece : Piece) (more : List Piece) (joined : Bool)
    → AreWholes pieces (front ++ last ∷ back) → is_behind last.id.client client ≡ false → (last.id.client ≡ client → last.id.number ≤ number) → AreBehind client back
    → joined ≡ is_same last.id (id_of client number)
    → AreWholes (pieces ++ pieces_from client number (piece ∷ more)) (front ++ cond joined (grown last piece.payload) last ∷ [] ++ drop (cond joined 1 0) (pieces_from client number (piece ∷ more)) ++ back)
at_last pieces front last back client number piece more true are here low behind its =
    let placed : Placed = record { id = id_of client number; moment = piece.moment; payload = piece.payload } in
    let whole : Placed = grown last piece.payload in
    let rest : List Placed = pieces_from client (number + 1) more in
    let id_is : last.id ≡ id_of client number = same_ids last.id (id_of client number) (sym its) in
    let one : AreWholes (pieces ++ placed ∷ []) ((front ++ whole ∷ []) ++ back) =
    subst (AreWholes (pieces ++ placed ∷ [])) (sym (append_assoc front (whole ∷ []) back)) (joined_record pieces placed front last back id_is are) in
    let before : AreBefore client (number + 1) (front ++ whole ∷ []) =
    All-push (λ w. Precedes w.id (id_of client (number + 1))) front whole
    (All-weaker (λ f. InOrder f last) (λ w. Precedes w.id (id_of client (number + 1)))
    (λ f h. precedes_next f.id client number (number + 1) (omega arith) (subst (Precedes f.id) id_is h)) front (pairs_before InOrder front last back are.ordered))
    (subst (λ (id : RecordId). Precedes id (id_of client (number + 1))) (sym id_is) (next_number client number)) in
    subst (λ (ps : List Placed). AreWholes ps (front ++ whole ∷ [] ++ rest ++ back)) (append_assoc pieces (placed ∷ []) rest)
    (new_records (pieces ++ placed ∷ []) client (number + 1) more (front ++ whole ∷ []) back one before behind)
at_last pieces front last back client number piece more false are here low behind its =
    let before : AreBefore client number (front ++ last ∷ []) =
    All-push (λ w. Precedes w.id (id_of client number)) front last
    (All-weaker (λ f. InOrder f last) (λ w. Precedes w.id (id_of client number)) (λ f h. before_last f.id last.id client number h here low) front (pairs_before InOrder front last back are.ordered))
    (before_number last.id client number here (lower_number last.id client number (sym its) low)) in
    new_records pieces client number (piece ∷ more) (front ++ last ∷ []) back (subst (AreWholes pieces) (sym (append_assoc front (last ∷ []) back)) are) before behind

-- the records with the pieces of a page at their place, the first of which may have joined another
abbrev pub with_pieces : ClientId → ℕ → ℕ → List Piece → Bool → List Placed → List Placed
with_pieces client number place pieces joined now = take place now ++ drop (cond joined 1 0) (pieces_from client number pieces) ++ drop place now

joined_now : (front : List Placed) (last : Placed) (back : List Placed) (bytes : List ℕ) (joined : Bool)
    → cond joined (join_at (suc (length front) - 1) bytes (front ++ last ∷ back)) (front ++ last ∷ back) ≡ front ++ cond joined (grown last bytes) last ∷ back
joined_now front last back bytes true =
    let place : suc (length front) - 1 ≡ length front = omega arith in
    ap (λ n. join_at n bytes (front ++ last ∷ back)) place ∙ join_last front last back bytes
joined_now front last back bytes false = refl

behind_last : (pieces front : List Placed) (last : Placed) (back : List Placed) (header : Header) (piece : Piece) (more : List Piece) (joined : Bool) (now : List Placed)
    → AreWholes pieces (front ++ last ∷ back) → IsPlaceBehind header.client (suc (length front)) (front ++ last ∷ back) → GoesBehind header (front ++ last ∷ back)
    → Joins header (suc (length front)) (front ++ last ∷ back) (piece ∷ more) joined now
    → AreWholes (pieces ++ pieces_from header.client header.first (piece ∷ more)) (with_pieces header.client header.first (suc (length front)) (piece ∷ more) joined now)
behind_last pieces front last back header piece more joined now are place low joins =
    let here : is_behind last.id.client header.client ≡ false =
    all_middle (λ w. is_behind w.id.client header.client ≡ false) front last []
    (subst (λ (ws : List Placed). All (λ (w : Placed). is_behind w.id.client header.client ≡ false) ws) (take_through front last back) place.before) in
    let behind : AreBehind header.client back = subst (AreBehind header.client) (drop_through front last back) place.behind in
    let now_is : now ≡ front ++ cond joined (grown last piece.payload) last ∷ back = joins.1 ∙ joined_now front last back piece.payload joined in
    let before_is : take (suc (length front)) now ≡ front ++ cond joined (grown last piece.payload) last ∷ [] =
    ap (take (suc (length front))) now_is ∙ take_through front (cond joined (grown last piece.payload) last) back in
    let behind_is : drop (suc (length front)) now ≡ back = ap (drop (suc (length front))) now_is ∙ drop_through front (cond joined (grown last piece.payload) last) back in
    let fresh : List Placed = drop (cond joined 1 0) (pieces_from header.client header.first (piece ∷ more)) in
    subst (λ (ws : List Placed). AreWholes (pieces ++ pieces_from header.client header.first (piece ∷ more)) (ws ++ fresh ++ drop (suc (length front)) now)) (sym before_is)
    (subst (λ (ws : List Placed). AreWholes (pieces ++ pieces_from header.client header.first (piece ∷ more)) (front ++ cond joined (grown last piece.payload) last ∷ [] ++ fresh ++ ws)) (sym behind_is)
    (at_last pieces front last back header.client header.first piece more joined are here (all_middle (λ w. w.id.client ≡ header.client → w.id.number ≤ header.first) front last back low) behind
    (joins.0 ∙ is_before_last front last back (id_of header.client header.first))))

at_front : (pieces wholes : List Placed) (client : ClientId) (number : ℕ) (more : List Piece) (place : ℕ) → place ≡ 0 → AreWholes pieces wholes → IsPlaceBehind client place wholes
    → AreWholes (pieces ++ pieces_from client number more) (with_pieces client number place more false wholes)
at_front pieces wholes client number more place none are behind =
    subst (λ (n : ℕ). AreWholes (pieces ++ pieces_from client number more) (with_pieces client number n more false wholes)) (sym none)
    (new_records pieces client number more [] wholes are (All-nil (λ w. Precedes w.id (id_of client number)))
    (subst (λ (n : ℕ). AreBehind client (drop n wholes)) none behind.behind))

-- a page's pieces, added
pub page_added : (pieces wholes : List Placed) (header : Header) (place : ℕ) (more : List Piece) (joined : Bool) (now : List Placed) → place ≤ length wholes → AreWholes pieces wholes
    → IsPlaceBehind header.client place wholes → GoesBehind header wholes → Joins header place wholes more joined now
    → AreWholes (pieces ++ pieces_from header.client header.first more) (with_pieces header.client header.first place more joined now)
page_added pieces wholes header place [] joined now within are behind low joins =
    subst (λ (b : Bool). AreWholes (pieces ++ []) (with_pieces header.client header.first place [] b now)) (sym joins.0)
    (subst (λ (ws : List Placed). AreWholes (pieces ++ []) (with_pieces header.client header.first place [] false ws)) (sym joins.1)
    (subst (λ (ps : List Placed). AreWholes ps (take place wholes ++ [] ++ drop place wholes)) (sym (append-nil pieces))
    (subst (AreWholes pieces) (sym (ap (λ l. l ++ drop place wholes) (append-nil (take place wholes)) ∙ take-append-drop place wholes)) are)))
page_added pieces wholes header zero (piece ∷ more) joined now within are behind low joins =
    subst (λ (b : Bool). AreWholes (pieces ++ pieces_from header.client header.first (piece ∷ more)) (with_pieces header.client header.first 0 (piece ∷ more) b now)) (sym joins.0)
    (subst (λ (ws : List Placed). AreWholes (pieces ++ pieces_from header.client header.first (piece ∷ more)) (with_pieces header.client header.first 0 (piece ∷ more) false ws))
    (sym (joins.1 ∙ ap (λ b. cond b (join_at (0 - 1) piece.payload wholes) wholes) joins.0))
    (at_front pieces wholes header.client header.first (piece ∷ more) 0 refl are behind))
page_added pieces wholes header (suc last) (piece ∷ more) joined now within are behind low joins =
    let s = splits_at wholes last within in
    let split : List Placed = s.front ++ s.last ∷ s.back in
    subst (λ (n : ℕ). AreWholes (pieces ++ pieces_from header.client header.first (piece ∷ more)) (with_pieces header.client header.first n (piece ∷ more) joined now)) (sym s.long)
    (behind_last pieces s.front s.last s.back header piece more joined now (subst (AreWholes pieces) s.parts are)
    (subst (λ (n : ℕ). IsPlaceBehind header.client n split) s.long (subst (IsPlaceBehind header.client (suc last)) s.parts behind))
    (subst (GoesBehind header) s.parts low)
    (subst (λ (n : ℕ). Joins header n split (piece ∷ more) joined now) s.long
    (subst (λ (ws : List Placed). Joins header (suc last) ws (piece ∷ more) joined now) s.parts joins)))

-- what the appended pieces leave when they are moved to their place
pub moved : (now fresh : List Placed) (place : ℕ) → place ≤ length now
    → take place (now ++ fresh) ++ drop (length now) (now ++ fresh) ++ take (length now - place) (drop place (now ++ fresh)) ≡ take place now ++ fresh ++ drop place now
moved now fresh place within =
    ap (λ l. l ++ drop (length now) (now ++ fresh) ++ take (length now - place) (drop place (now ++ fresh))) (take-append-le place now fresh within)
    ∙ ap (λ l. take place now ++ l ++ take (length now - place) (drop place (now ++ fresh))) (drop_at now fresh (length now) refl)
    ∙ ap (λ l. take place now ++ fresh ++ l) (ap (take (length now - place)) (drop-append-le place now fresh within) ∙ take_at (drop place now) fresh (length now - place) (length-drop place now))

-- the whole of adding a page: its first piece joined, the records of the others appended, and these moved to their place
pub records_added : (pieces old joined_old appended new : List Placed) (header : Header) (more : List Piece) (joined : Bool) (place middle from : ℕ) → place ≤ length old
    → (AreInOrder old → IsPlaceBehind header.client place old) → GoesBehind header old → Joins header place old more joined joined_old → from ≡ from_bool joined
    → appended ≡ joined_old ++ drop from (pieces_from header.client header.first more) → middle ≡ length joined_old
    → new ≡ take place appended ++ drop middle appended ++ take (middle - place) (drop place appended) → AreWholes pieces old → AreWholes (pieces ++ pieces_from header.client header.first more) new
records_added pieces old joined_old appended new header more joined place middle from within placed low joins from_is appends long moves are =
    let fresh : List Placed = drop (cond joined 1 0) (pieces_from header.client header.first more) in
    let all : appended ≡ joined_old ++ fresh = appends ∙ ap (λ n. joined_old ++ drop n (pieces_from header.client header.first more)) (from_is ∙ from_bool_one joined) in
    let short : place ≤ length joined_old = omega (arith, length-joined header place old more joined joined_old joins) in
    let new_is : new ≡ with_pieces header.client header.first place more joined joined_old =
    moves ∙ ap (λ l. take place l ++ drop middle l ++ take (middle - place) (drop place l)) all
    ∙ ap (λ n. take place (joined_old ++ fresh) ++ drop n (joined_old ++ fresh) ++ take (n - place) (drop place (joined_old ++ fresh))) long
    ∙ moved joined_old fresh place short in
    subst (AreWholes (pieces ++ pieces_from header.client header.first more)) (sym new_is)
    (page_added pieces old header place more joined joined_old within are (placed are.ordered) low joins)
