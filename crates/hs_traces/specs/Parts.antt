-- The pages of one trace that are given out together: each once, with its bytes, in the order of their keys.
use Rattle.std.specs.Prelude.{◌≡◌, ℕ, Bool, List, [], ◌∷◌, length, map, sum_by, find, slice_get, Option, Some, None, is_some, refl}
use Rattle.std.specs.Ordering.{is_lt}
use Rattle.std.specs.Map.{lookup, values_of}
use Rattle.std.specs.BTreeMap.{insert_entry}
use Rattle.hs_traces.specs.declared.key.PageKey.{PageKey}
use Rattle.hs_traces.specs.Keys.{key_cmp, same_key, key_at}

abbrev pub Pages : Type 0
Pages = List (PageKey × List ℕ)

-- the bytes of all pages
abbrev pub bytes_of : Pages → ℕ
bytes_of pages = sum_by (λ bytes. length bytes) (values_of pages)

-- the keys of all pages
abbrev pub keys_of : Pages → List PageKey
keys_of pages = map (λ page. page.0) pages

-- whether a page has this key
abbrev pub has_key : Pages → PageKey → Bool
has_key pages key = is_some (lookup (same_key key) pages)

-- the page with this key
abbrev pub page_with : Pages → PageKey → Option (List ℕ)
page_with pages key = lookup (same_key key) pages

-- the pages with one more, at the place of its key
abbrev pub with_page : Pages → PageKey → List ℕ → Pages
with_page pages key bytes = insert_entry key_cmp pages key bytes

-- the first page behind a key, or the first of all
abbrev pub next_page : Option PageKey → Pages → Option (PageKey × List ℕ)
next_page None pages = slice_get pages 0
next_page (Some after) pages = find (λ page. is_lt (key_cmp after page.0)) pages

-- ---- worked examples

abbrev two_pages : Pages
two_pages = (key_at 0 7 0 0 3, 1 ∷ 2 ∷ []) ∷ (key_at 2 5 0 0 0, 3 ∷ []) ∷ []

-- a page of node 0's next epoch goes between them
between : with_page two_pages (key_at 0 8 0 0 0) (4 ∷ []) ≡ (key_at 0 7 0 0 3, 1 ∷ 2 ∷ []) ∷ (key_at 0 8 0 0 0, 4 ∷ []) ∷ (key_at 2 5 0 0 0, 3 ∷ []) ∷ []
between = refl

three_bytes : bytes_of two_pages ≡ 3
three_bytes = refl

two_keys : keys_of two_pages ≡ key_at 0 7 0 0 3 ∷ key_at 2 5 0 0 0 ∷ []
two_keys = refl

one_by_one : (next_page None two_pages ≡ Some (key_at 0 7 0 0 3, 1 ∷ 2 ∷ [])) × (next_page (Some (key_at 0 7 0 0 3)) two_pages ≡ Some (key_at 2 5 0 0 0, 3 ∷ [])) × (next_page (Some (key_at 2 5 0 0 0)) two_pages ≡ None)
one_by_one = (refl, refl, refl)
