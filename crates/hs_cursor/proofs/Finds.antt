-- What is found of pages in the order of their keys: the bytes of one, and the one behind it.
use Rattle.std.proofs.Common.{◌≡◌, ℕ, true, false, cond, List, [], ◌∷◌, ◌++◌, Some, refl, ap, ◌∙◌}
use Rattle.std.specs.Prelude.{find, slice_get}
use Rattle.std.specs.List.{AllByRecursion}
use Rattle.std.specs.Map.{lookup}
use Rattle.std.specs.Ordering.{is_eq, is_lt, ordering_reverse}
use Rattle.std.specs.declared.cmp.Ordering.{Ordering}
use Rattle.std.specs.declared.cmp.Ordering.TheVariants.{Less, Equal, Greater}
use Rattle.std.proofs.lemmas.Map.Keys.{sorted_head, sorted_tail}
use Rattle.hs_traces.specs.declared.key.PageKey.{PageKey}
use Rattle.hs_traces.specs.Keys.{key_cmp, same_key}
use Rattle.hs_traces.specs.Parts.{Pages, keys_of, page_with, next_page}
use Rattle.hs_traces.proofs.Order.{key_total, key_laws}
use Rattle.hs_cursor.specs.Walking.{AreInOrder}

-- what is so of each key is so of one among them
of_each : (P : PageKey → Type 0) (done : Pages) (page : PageKey × List ℕ) (todo : Pages) → AllByRecursion P (keys_of (done ++ page ∷ todo)) → P page.0
of_each P [] page todo all = all.0
of_each P (x ∷ done) page todo all = of_each P done page todo all.1

greater : (a b : PageKey) → key_cmp a b ≡ Less → key_cmp b a ≡ Greater
greater a b less = key_total.antisymm b a ∙ ap ordering_reverse less

not_before_itself : (a : PageKey) → is_lt (key_cmp a a) ≡ false
not_before_itself a = by_word (key_cmp a a) (key_laws.refl a)
  where
    by_word : (o : Ordering) → is_eq o ≡ true → is_lt o ≡ false
    by_word Less e = absurd cc
    by_word Equal e = refl
    by_word Greater e = refl

pub bytes-found : (done : Pages) (key : PageKey) (bytes : List ℕ) (todo : Pages) → AreInOrder (done ++ (key, bytes) ∷ todo) → page_with (done ++ (key, bytes) ∷ todo) key ≡ Some bytes
bytes-found [] key bytes todo sorted = ap (λ b. cond b (Some bytes) (lookup (same_key key) todo)) (key_laws.refl key)
bytes-found (x ∷ done) key bytes todo sorted =
    let rest = done ++ (key, bytes) ∷ todo in
    let less : key_cmp x.0 key ≡ Less = of_each (λ k. key_cmp x.0 k ≡ Less) done (key, bytes) todo (sorted_head key_cmp x.0 (keys_of rest) sorted) in
    ap (λ o. cond (is_eq o) (Some x.1) (lookup (same_key key) rest)) (greater x.0 key less) ∙ bytes-found done key bytes todo (sorted_tail key_cmp x.0 (keys_of rest) sorted)

first_behind : (key : PageKey) (todo : Pages) → AllByRecursion (λ k. key_cmp key k ≡ Less) (keys_of todo) → find (λ page. is_lt (key_cmp key page.0)) todo ≡ slice_get todo 0
first_behind key [] all = refl
first_behind key (y ∷ todo) all = ap (λ o. cond (is_lt o) (Some y) (find (λ page. is_lt (key_cmp key page.0)) todo)) all.0

pub next-found : (done : Pages) (key : PageKey) (bytes : List ℕ) (todo : Pages) → AreInOrder (done ++ (key, bytes) ∷ todo) → next_page (Some key) (done ++ (key, bytes) ∷ todo) ≡ slice_get todo 0
next-found [] key bytes todo sorted =
    ap (λ b. cond b (Some (key, bytes)) (find (λ page. is_lt (key_cmp key page.0)) todo)) (not_before_itself key) ∙ first_behind key todo (sorted_head key_cmp key (keys_of todo) sorted)
next-found (x ∷ done) key bytes todo sorted =
    let rest = done ++ (key, bytes) ∷ todo in
    let less : key_cmp x.0 key ≡ Less = of_each (λ k. key_cmp x.0 k ≡ Less) done (key, bytes) todo (sorted_head key_cmp x.0 (keys_of rest) sorted) in
    ap (λ o. cond (is_lt o) (Some x) (find (λ page. is_lt (key_cmp key page.0)) rest)) (greater x.0 key less) ∙ next-found done key bytes todo (sorted_tail key_cmp x.0 (keys_of rest) sorted)
