-- Words of a fixed list, each with its text. A text is that of the first word of the list that has it.
use Rattle.std.proofs.Common.{◌≡◌, ℕ, Bool, true, false, List, [], ◌∷◌, Option, Some, None, cond, codes, refl}
use Rattle.std.specs.Str.{bytes_eq}
use Rattle.std.specs.List.{find, list_all}
use Rattle.std.proofs.lemmas.Bool.{and_parts}
use Rattle.std.proofs.lemmas.Slice.Eq.{bytes_eq-Decides}
use Rattle.hs_base.proofs.Filters.{find_passes}

-- which of these words has this text
unfoldable pub spelled : {W : Type 0} → (W → List ℕ) → List W → List ℕ → Option W
spelled text words word = find (λ w. bytes_eq word (text w)) words

found_at : {W : Type 0} (p : W → Bool) (v w : W) (rest : Option W) (b : Bool) → p v ≡ b → (rest ≡ Some w → p w ≡ true) → cond b (Some v) rest ≡ Some w → p w ≡ true
found_at p v w rest true holds later is = let same : v ≡ w = cc in rw (← same) holds
found_at p v w rest false holds later is = later is

-- what is found has this text
pub spelled-text : {W : Type 0} (text : W → List ℕ) (words : List W) (word : List ℕ) (w : W) → spelled text words word ≡ Some w → word ≡ text w
unfolding spelled
spelled-text text words word w is = (bytes_eq-Decides word (text w)).0 (find_passes (λ v. bytes_eq word (text v)) words w is)

every_at : {W : Type 0} (p q : W → Bool) (v w : W) (rest : Option W) (b : Bool) → q v ≡ true → (rest ≡ Some w → q w ≡ true) → cond b (Some v) rest ≡ Some w → q w ≡ true
every_at p q v w rest true holds later is = let same : v ≡ w = cc in rw (← same) holds
every_at p q v w rest false holds later is = later is

every_found : {W : Type 0} (p q : W → Bool) (words : List W) (w : W) → list_all q words ≡ true → find p words ≡ Some w → q w ≡ true
every_found p q [] w all is = cc
every_found p q (v ∷ words) w all is =
    let parts = and_parts (q v) (list_all q words) all in
    every_at p q v w (find p words) (p v) parts.0 (every_found p q words w parts.1) is

-- what holds of all words of a list holds of each that is found by its text
pub spelled-every : {W : Type 0} (text : W → List ℕ) (words : List W) (q : W → Bool) → ((w : W) → spelled text words (text w) ≡ Some w) → list_all q words ≡ true → (w : W) → q w ≡ true
unfolding spelled
spelled-every text words q apart all w = every_found (λ v. bytes_eq (text w) (text v)) q words w all (apart w)

-- worked examples: bits by their names
abbrev bit_name : Bool → List ℕ
bit_name false = codes "off"
bit_name true = codes "on"

bits_spelled : (spelled bit_name (false ∷ true ∷ []) (codes "on") ≡ Some true) × (spelled bit_name (false ∷ true ∷ []) (codes "o") ≡ None)
unfolding spelled
bits_spelled = (refl, refl)
