-- What is let go one after another: it is noted why, and it stands last in the hand.
use Rattle.std.proofs.Common.{◌≡◌, ℕ, Bool, List, [], ◌∷◌, ◌++◌, map, Option, Some, None, refl, ap, ◌∙◌, sym}
use Rattle.hs_agent.proofs.Prelude.{append_assoc, map-append, fold-append, option_map, Buffer, Out, place_of, placed_at, untagged, with_left, Left, ChunkNote, Index, Tagged, Kept, Placed, Going, going_buffer, going_left, let_go_all}
use Rattle.hs_agent.specs.Trying.{lefts_noted}
use Rattle.hs_agent.proofs.Relieving.{let_go_all-is}

pub let_go_parts : {L : Type 0} (kept : Kept L) (goings : List (Going L))
    → let_go_all kept goings ≡ record kept { standings = lefts_noted kept.standings goings; hand = kept.hand ++ map going_buffer goings; lefts = kept.lefts ++ map going_left goings }
let_go_parts kept goings = let_go_all-is kept goings

-- a hand in which these stand last, and why they left
pub hand_more : {L : Type 0} → (now old goings : List (Going L)) → now ≡ old ++ goings → map going_buffer now ≡ map going_buffer old ++ map going_buffer goings
hand_more now old goings is = ap (map going_buffer) is ∙ map-append going_buffer old goings

pub lefts_more : {L : Type 0} → (out : List Left) (now old goings : List (Going L)) → now ≡ old ++ goings → out ++ map going_left now ≡ (out ++ map going_left old) ++ map going_left goings
lefts_more out now old goings is =
    ap (λ l. out ++ map going_left l) is ∙ ap (λ l. out ++ l) (map-append going_left old goings) ∙ sym (append_assoc out (map going_left old) (map going_left goings))

-- what the index let go
pub let_go_from : {L : Type 0} (kept : Kept L) (index : Index (Tagged L)) (goings : List (Going L)) (standings : List ChunkNote) (hand : List (Placed L)) (lefts : List Left) (keeps : Bool) → standings ≡ lefts_noted kept.standings goings
    → hand ≡ kept.hand ++ map going_buffer goings → lefts ≡ kept.lefts ++ map going_left goings → keeps ≡ kept.keeps
    → record kept { index = index; standings = standings; hand = hand; lefts = lefts; keeps = keeps } ≡ let_go_all (record kept { index = index }) goings
let_go_from kept index goings standings hand lefts keeps s h l k =
    (λ i. record kept { index = index; standings = s i; hand = h i; lefts = l i; keeps = k i }) ∙ sym (let_go_parts (record kept { index = index }) goings)

-- no chunk is out
pub no_out : (out : Option Out) → option_map (λ (o : Out). o.place.0) out ≡ None → out ≡ None
no_out None e = refl
no_out (Some o) e = cc

-- one more is let go, over items that each stand for one
pub goings_more : {L A B : Type 0} (going : B → Going L) (f : A → B) (items : List A) (item : A) → map going (map f (items ++ item ∷ [])) ≡ map going (map f items) ++ going (f item) ∷ []
goings_more going f items item = ap (map going) (map-append f items (item ∷ [])) ∙ map-append going (map f items) (f item ∷ [])

-- why it left is noted
pub noted_more : {L : Type 0} (marks : List ChunkNote) (goings : List (Going L)) (going : Going L) (now next : List ChunkNote) (place : ℕ) → now ≡ lefts_noted marks goings → place ≡ place_of going.buffer
    → next ≡ with_left place (Some going.left) now → next ≡ lefts_noted marks (goings ++ going ∷ [])
noted_more {L} marks goings going now next place was at is =
    is
    ∙ (λ i. with_left (at i) (Some going.left) (was i))
    ∙ sym (fold-append (λ (ms : List ChunkNote) (g : Going L). with_left (place_of g.buffer) (Some g.left) ms) marks goings (going ∷ []))

-- it stands last in the hand
pub placed_again : {L : Type 0} (place : ℕ) (buffer : Buffer L) (placed : Placed L) → buffer ≡ untagged placed → place ≡ place_of placed → placed_at place buffer ≡ placed
placed_again place buffer placed is at = λ i. placed_at (at i) (is i)
