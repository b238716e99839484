-- One more of what is drawn.
use Rattle.std.proofs.Common.{◌≡◌, ℕ, ◌+◌, ◌%◌, List, [], ◌∷◌, ◌++◌, map, ap, sym, ◌∙◌, add-zero, refl}
use Rattle.std.proofs.lemmas.List.{map-append, append_assoc}
use Rattle.hs_records.specs.Plain.{Operation, Point}
use Rattle.hs_records.specs.declared.operation.Op.{Op}
use Rattle.hs_records.specs.Views.{operation_of}
use Rattle.hs_make.specs.Words.{Words, from}
use Rattle.hs_make.specs.Made.{bytes_at, payload_at, behind_payload, behind_points, first_points, behind_visit, behind_visits}
use Rattle.hs_make.proofs.Sequences.{each_below-more, behind_parts-more, from-from}

-- a byte behind the first ones
pub byte_more : (n word : ℕ) (words now : Words) (front : List ℕ) → front ≡ bytes_at n words → now ≡ from (1 + n) words → word ≡ now 0 % 256
    → front ++ word ∷ [] ≡ bytes_at (n + 1) words
byte_more n word words now front are behind is =
    let picked : word ≡ words (1 + n) % 256 = is ∙ (ap (λ (ws : Words). ws 0 % 256) behind ∙ ap (λ m. words m % 256) (add-zero (1 + n))) in
    ap (λ xs. xs ++ word ∷ []) are ∙ (ap (λ w. bytes_at n words ++ w ∷ []) picked ∙ sym (each_below-more n (λ i. words (1 + i) % 256)))

-- the words behind one word more
pub word_more : (n m : ℕ) (words now next : Words) → n + 1 ≡ m → now ≡ from n words → next ≡ from 1 now → next ≡ from m words
word_more n m words now next is behind after = after ∙ (ap (from 1) behind ∙ (from-from words n 1 ∙ ap (λ k. from k words) is))

-- an operation behind those that were added
pub operation_more : (before added : List Operation) (old new : List Op) (op : Op) → new ≡ old ++ op ∷ [] → map operation_of old ≡ before ++ added
    → map operation_of new ≡ before ++ (added ++ operation_of op ∷ [])
operation_more before added old new op is are =
    ap (map operation_of) is ∙ (map-append operation_of old (op ∷ []) ∙ (ap (λ xs. xs ++ operation_of op ∷ []) are ∙ append_assoc before added (operation_of op ∷ [])))

-- a point behind the first ones
pub point_more : (n moment : ℕ) (words now : Words) (payload : List ℕ) → now ≡ behind_points n words → payload ≡ payload_at now
    → first_points n moment words ++ Point (moment + n) payload ∷ [] ≡ first_points (n + 1) moment words
point_more n moment words now payload behind is =
    ap (λ bytes. first_points n moment words ++ Point (moment + n) bytes ∷ []) (is ∙ ap payload_at behind)
    ∙ sym (each_below-more n (λ i. Point (moment + i) (payload_at (behind_points i words))))

pub payload_more : (n : ℕ) (words now next : Words) → now ≡ behind_points n words → next ≡ behind_payload now → next ≡ behind_points (n + 1) words
payload_more n words now next behind after = after ∙ (ap behind_payload behind ∙ sym (behind_parts-more (λ _. behind_payload) n (from 1 words)))

-- the words behind the first three of a request
pub three_drawn : (words first second third : Words) → first ≡ from 1 words → second ≡ from 1 first → third ≡ from 1 second → third ≡ from 3 words
three_drawn words first second third a b c = word_more 2 3 words second third refl (word_more 1 2 words first second refl a b) c

pub visit_more : (n : ℕ) (words now next : Words) → now ≡ behind_visits n words → next ≡ behind_visit n now → next ≡ behind_visits (n + 1) words
visit_more n words now next behind after = after ∙ (ap (behind_visit n) behind ∙ sym (behind_parts-more behind_visit n (from 3 words)))
