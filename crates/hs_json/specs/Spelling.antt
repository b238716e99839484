-- What values of JSON spell. Their texts are of printed characters that stand for themselves in a JSON string.
use Rattle.std.specs.Prelude.{◌≡◌, ℕ, Bool, true, false, not, ◌&&◌, ◌==◌, nat_le, List, [], ◌∷◌, map, codes, refl}
use Rattle.std.specs.List.{list_all}
use Rattle.serde_json.specs.Data.{Data, number, unsigned}
use Rattle.serde_json.specs.View.{view, items_view}
use Rattle.serde_json.specs.Written.{has_float, items_have_float, compact_text}
use Rattle.serde_json.specs.declared.value.Value.{Value}
use Rattle.hs_base.specs.declared.ids.RecordId.{RecordId}

-- a printed character that is neither a quotation mark nor a backslash
abbrev pub is_plain : ℕ → Bool
is_plain byte = nat_le 32 byte && nat_le byte 126 && not (byte == 34) && not (byte == 92)

abbrev pub ArePlain : List ℕ → Type 0
ArePlain text = list_all is_plain text ≡ true

abbrev pub Texts : Type 0
Texts = List (List ℕ)

-- a record's node, client and number
abbrev pub id_data : RecordId → List Data
id_data id = number (unsigned id.client.node) ∷ number (unsigned id.client.number) ∷ number (unsigned id.number) ∷ []

-- The value's text without spaces is this one.
pub record Spells (value : Value) (text : List ℕ) : Type 0 where
  pub whole : has_float (view value) ≡ false
  pub is : compact_text (view value) ≡ text

-- The values' texts are these.
pub record SpellEach (values : List Value) (texts : List (List ℕ)) : Type 0 where
  pub whole : items_have_float (items_view values) ≡ false
  pub are : map (λ (value : Value). compact_text (view value)) values ≡ texts

-- worked examples
plain_words : ArePlain (codes "evicted 1 1")
plain_words = refl

a_quotation_mark : list_all is_plain (codes "a\"b") ≡ false
a_quotation_mark = refl

no_bytes_as_a_word : ArePlain (codes "-")
no_bytes_as_a_word = refl

a_line_break : list_all is_plain (10 ∷ []) ≡ false
a_line_break = refl

id_of_a_record : id_data (record { client = record { node = 2; number = 1 }; number = 9 }) ≡ number (unsigned 2) ∷ number (unsigned 1) ∷ number (unsigned 9) ∷ []
id_of_a_record = refl
