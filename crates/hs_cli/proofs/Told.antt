-- What a parse found, as rows.
use Rattle.std.proofs.Common.{◌≡◌, ◌∙◌, Option, Some, None, refl, sym, ap}
use Rattle.std.specs.Prelude.{find, slice_get, option_map, option_and_then}
use Rattle.std.specs.Str.{bytes_eq}
use Rattle.std.proofs.lemmas.Option.{slice_get-map}
use Rattle.clap.specs.Words.{Row, Text, first_of, first_value, rows_of}
use Rattle.clap.specs.Walk.{row_of}
use Rattle.clap.specs.Facts.{Entry}
use Rattle.clap.specs.declared.parser.matches.Found.{Found}
use Rattle.clap.proofs.WalkLemmas.{find_row}

-- the first text of an entry is that of its row
first_of_entry : (entry : Option Entry) → option_and_then (λ a. option_map (λ s. s.now) (slice_get a.vals.items 0)) (option_map (λ (e : Entry). e.1) entry) ≡ option_and_then (λ (r : Row). slice_get r.values 0) (option_map row_of entry)
first_of_entry None = refl
first_of_entry (Some e) = sym (slice_get-map (λ s. s.now) e.1.vals.items 0)

pub first_text : (found : Found) (id : Text) → first_value found id ≡ first_of id (rows_of found)
first_text found id =
    first_of_entry (find (λ (e : Entry). bytes_eq e.0.now id) found.entries.items)
    ∙ ap (option_and_then (λ (r : Row). slice_get r.values 0)) (sym (find_row found.entries.items id))
