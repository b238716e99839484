-- The texts of lists of JSON values.
use Rattle.std.proofs.Common.{◌≡◌, ℕ, ◌+◌, ◌<◌, ◌≤◌, true, false, List, [], ◌∷◌, ◌++◌, length, get_or, take, map, codes, decimal, sym, ap, ◌∙◌, refl, subst, append_assoc}
use Rattle.std.specs.List.{join_with_byte}
use Rattle.std.proofs.lemmas.Bool.{or_from}
use Rattle.std.proofs.lemmas.List.{map-append, take_all}
use Rattle.json.specs.Print.{escape_byte}
use Rattle.serde_json.specs.Data.{Data, number, unsigned, string, array, object, member, no_members}
use Rattle.serde_json.specs.View.{view, items_of, items_view}
use Rattle.serde_json.specs.Written.{has_float, items_have_float, compact_text, items_text}
use Rattle.serde_json.specs.declared.value.Value.{Value}
use Rattle.hs_base.proofs.Bools.{first_false, second_false}
use Rattle.hs_base.specs.declared.ids.RecordId.{RecordId}
use Rattle.hs_collect.specs.Collected.{Placed}
use Rattle.hs_ledger.specs.declared.ledger.Entry.{Entry}
use Rattle.hs_report.specs.OutcomeText.{fate_words, id_words, json_text, json_list, json_field, json_object, placed_json, gap_json}
use Rattle.hs_text.specs.Text.{line_of, payload_text}
use Rattle.hs_json.specs.Spelling.{ArePlain, Spells, SpellEach, id_data}
use Rattle.hs_json.proofs.Plain.{quoted_plain}
use Rattle.hs_base.proofs.Loops.{Joins, loop_more, loop_more_at}

-- an item and those behind it, up to the bracket
items_behind : (d : Data) (ds : List Data) → compact_text d ++ items_text true (items_of ds) ≡ join_with_byte 44 (map compact_text (d ∷ ds)) ++ 93 ∷ []
items_behind d [] = refl
items_behind d (e ∷ es) =
    ap (λ t. compact_text d ++ 44 ∷ t) (items_behind e es) ∙ sym (append_assoc (compact_text d) (44 ∷ join_with_byte 44 (map compact_text (e ∷ es))) (93 ∷ []))

-- a list of values has the list of their texts
pub list_text : (ds : List Data) → compact_text (array (items_of ds)) ≡ json_list (map compact_text ds)
list_text [] = refl
list_text (d ∷ ds) = ap (λ t. 91 ∷ t) (items_behind d ds)

items_float_push : (ds : List Data) (d : Data) → items_have_float (items_of ds) ≡ false → has_float d ≡ false → items_have_float (items_of (ds ++ d ∷ [])) ≡ false
items_float_push [] d p q = or_from (has_float d) false q refl
items_float_push (e ∷ ds) d p q =
    or_from (has_float e) (items_have_float (items_of (ds ++ d ∷ []))) (first_false (has_float e) (items_have_float (items_of ds)) p)
    (items_float_push ds d (second_false (has_float e) (items_have_float (items_of ds)) p) q)

-- ---- values

texts_of : (values : List Value) → map compact_text (map view values) ≡ map (λ (value : Value). compact_text (view value)) values
texts_of [] = refl
texts_of (value ∷ values) = ap (λ t. compact_text (view value) ∷ t) (texts_of values)

pub spell_none : SpellEach [] []
spell_none = record { whole = refl; are = refl }

-- one value more
pub spell_push : (values more : List Value) (value : Value) (texts : List (List ℕ)) (text : List ℕ) → SpellEach values texts → Spells value text → more ≡ values ++ value ∷ [] → SpellEach more (texts ++ text ∷ [])
spell_push values more value texts text all one is =
    record {
      whole = ap (λ (vs : List Value). items_have_float (items_view vs)) is ∙ ap (λ ds. items_have_float (items_of ds)) (map-append view values (value ∷ [])) ∙ items_float_push (map view values) (view value) all.whole one.whole;
      are = ap (λ (vs : List Value). map (λ (v : Value). compact_text (view v)) vs) is ∙ map-append (λ (v : Value). compact_text (view v)) values (value ∷ [])
          ∙ ap (λ t. t ++ compact_text (view value) ∷ []) all.are ∙ ap (λ t. texts ++ t ∷ []) one.is;
    }

-- the list of values
pub spell_list : (values : List Value) (texts : List (List ℕ)) (list : Value) → SpellEach values texts → view list ≡ array (items_view values) → Spells list (json_list texts)
spell_list values texts list all is =
    record {
      whole = ap has_float is ∙ all.whole;
      is = ap compact_text is ∙ list_text (map view values) ∙ ap json_list (texts_of values ∙ all.are);
    }

-- a text
pub spell_text : (value : Value) (text : List ℕ) → view value ≡ string text → ArePlain text → Spells value (json_text text)
spell_text value text is plain = record { whole = ap has_float is; is = ap compact_text is ∙ quoted_plain text plain }

-- a number
spell_number : (value : Value) (n : ℕ) → view value ≡ number (unsigned n) → Spells value (decimal n)
spell_number value n is = record { whole = ap has_float is; is = ap compact_text is }

-- the numbers of a record
spell_id : (values : List Value) (id : RecordId) → map view values ≡ id_data id → SpellEach values (id_words id)
spell_id values id is = record { whole = ap (λ ds. items_have_float (items_of ds)) is; are = sym (texts_of values) ∙ ap (map compact_text) is }

pub spell_record : (ids more most : List Value) (moment payload list : Value) (placed : Placed) → map view ids ≡ id_data placed.id → view moment ≡ number (unsigned placed.moment)
    → Spells payload (json_text (payload_text placed.payload)) → more ≡ ids ++ moment ∷ [] → most ≡ more ++ payload ∷ [] → view list ≡ array (items_view most) → Spells list (placed_json placed)
spell_record ids more most moment payload list placed id at text first second is =
    let two = spell_push ids more moment (id_words placed.id) (decimal placed.moment) (spell_id ids placed.id id) (spell_number moment placed.moment at) first in
    spell_list most _ list (spell_push more most payload (id_words placed.id ++ decimal placed.moment ∷ []) (json_text (payload_text placed.payload)) two text second) is

pub spell_gap : (version : ℕ) (entry : Entry) (ids more : List Value) (fate list : Value) → map view ids ≡ id_data entry.id → Spells fate (json_text (line_of (fate_words version entry.fate))) → more ≡ ids ++ fate ∷ []
    → view list ≡ array (items_view more) → Spells list (gap_json version entry)
spell_gap version entry ids more fate list id text first is =
    spell_list more _ list (spell_push ids more fate (id_words entry.id) (json_text (line_of (fate_words version entry.fate))) (spell_id ids entry.id id) text first) is

-- ---- a report

fields_text : (gaps records trace : Data) (a b c : List ℕ) → compact_text gaps ≡ a → compact_text records ≡ b → compact_text trace ≡ c
    → compact_text (object (member (codes "gaps") gaps (member (codes "records") records (member (codes "trace") trace no_members))))
    ≡ json_object (json_field (codes "gaps") a ∷ json_field (codes "records") b ∷ json_field (codes "trace") c ∷ [])
unfolding escape_byte
fields_text gaps records trace a b c p q r =
    let end = codes "}" in
    let last = 44 ∷ (json_text (codes "trace") ++ codes ":" ++ c) in
    let more = 44 ∷ ((json_text (codes "records") ++ codes ":" ++ b) ++ last) in
    rw (p, q, r)
    (sym (ap (λ t. codes "{" ++ (json_text (codes "gaps") ++ codes ":" ++ t)) (append_assoc a more end ∙ ap (λ t. a ++ 44 ∷ (json_text (codes "records") ++ codes ":" ++ t)) (append_assoc b last end))))

pub spell_report : (gaps records : List Value) (one two trace report : Value) (a b : List (List ℕ)) (c : List ℕ) → SpellEach gaps a → SpellEach records b → Spells trace (json_text c)
    → view one ≡ array (items_view gaps) → view two ≡ array (items_view records)
    → view report ≡ object (member (codes "gaps") (view one) (member (codes "records") (view two) (member (codes "trace") (view trace) no_members)))
    → Spells report (json_object (json_field (codes "gaps") (json_list a) ∷ json_field (codes "records") (json_list b) ∷ json_field (codes "trace") (json_text c) ∷ []))
spell_report gaps records one two trace report a b c all both text is1 is2 is =
    let first = spell_list gaps a one all is1 in
    let second = spell_list records b two both is2 in
    record {
      whole = ap has_float is ∙ or_from (has_float (view one)) _ first.whole (or_from (has_float (view two)) _ second.whole (or_from (has_float (view trace)) false text.whole refl));
      is = ap compact_text is ∙ fields_text (view one) (view two) (view trace) (json_list a) (json_list b) (json_text c) first.is second.is text.is;
    }

-- ---- loops

pub spell_more : {X : Type 0} (F : List X → List (List ℕ)) → Joins F → (xs : List X) (i : ℕ) (x : X) (values : List Value) → i < length xs → x ≡ get_or xs i x → SpellEach values (F (take i xs) ++ F (x ∷ []))
    → SpellEach values (F (take (i + 1) xs))
spell_more F joins xs i x values lt is all = subst (SpellEach values) (loop_more F joins xs i x [] (F (take i xs)) (F (take i xs) ++ F (x ∷ [])) lt is refl refl) all

pub spell_more_at : {X : Type 0} (F : List X → List (List ℕ)) → Joins F → (xs : List X) (i : ℕ) (d : X) (values : List Value) → i < length xs → SpellEach values (F (take i xs) ++ F (get_or xs i d ∷ []))
    → SpellEach values (F (take (i + 1) xs))
spell_more_at F joins xs i d values lt all = subst (SpellEach values) (loop_more_at F joins xs i d [] (F (take i xs)) (F (take i xs) ++ F (get_or xs i d ∷ [])) lt refl refl) all

pub spell_all : {X : Type 0} (F : List X → List (List ℕ)) (xs : List X) (i : ℕ) (values : List Value) → length xs ≤ i → SpellEach values (F (take i xs)) → SpellEach values (F xs)
spell_all F xs i values le all = subst (SpellEach values) (ap F (take_all i xs le)) all
