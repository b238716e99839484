-- The pages of a part as one more joins them: what is found there, and that their keys stay in order.
use Rattle.std.proofs.Common.{◌≡◌, ℕ, Bool, true, false, cond, List, [], ◌∷◌, Some, None, refl, sym, ap, ◌∙◌, true≢false}
use Rattle.std.specs.Ordering.{is_eq, match_ordering, ordering_reverse}
use Rattle.std.specs.declared.cmp.Ordering.{Ordering}
use Rattle.std.specs.declared.cmp.Ordering.TheVariants.{Less, Equal, Greater}
use Rattle.std.specs.List.{AllByRecursion}
unfoldable use Rattle.std.specs.List.Sorted.{IsStrictlySortedBy}
use Rattle.std.specs.Map.{keys_of, lookup}
use Rattle.std.specs.BTreeMap.{insert_entry}
use Rattle.std.proofs.lemmas.Map.Keys.{sorted_head, sorted_tail}
use Rattle.std.proofs.lemmas.Option.{same_Some}
use Rattle.hs_base.proofs.Bools.{by_answer}
use Rattle.hs_traces.specs.declared.key.PageKey.{PageKey}
use Rattle.hs_traces.specs.Keys.{key_cmp, same_key}
use Rattle.hs_traces.specs.Parts.{Pages}
use Rattle.hs_traces.proofs.Order.{key_total, key_laws, key_exact, same_key-true}

abbrev pub AreSorted : Pages → Type 0
AreSorted pages = IsStrictlySortedBy key_cmp (keys_of pages)

sorted_cons : (k : PageKey) (ks : List PageKey) → AllByRecursion (λ q. key_cmp k q ≡ Less) ks → IsStrictlySortedBy key_cmp ks → IsStrictlySortedBy key_cmp (k ∷ ks)
unfolding IsStrictlySortedBy
sorted_cons k ks all sorted = (all, sorted)

pub sorted_nil : AreSorted []
unfolding IsStrictlySortedBy
sorted_nil = tt

less_all : (p q : PageKey) (ks : List PageKey) → key_cmp p q ≡ Less → AllByRecursion (λ r. key_cmp q r ≡ Less) ks → AllByRecursion (λ r. key_cmp p r ≡ Less) ks
less_all p q [] e all = tt
less_all p q (r ∷ ks) e all = (key_total.trans p q r e all.0, less_all p q ks e all.1)

less_insert : (k key : PageKey) (bytes : List ℕ) (pages : Pages) → key_cmp k key ≡ Less → AllByRecursion (λ q. key_cmp k q ≡ Less) (keys_of pages)
    → AllByRecursion (λ q. key_cmp k q ≡ Less) (keys_of (insert_entry key_cmp pages key bytes))
less_insert k key bytes [] e all = (e, tt)
less_insert k key bytes (x ∷ pages) e all = at (key_cmp key x.0) (less_insert k key bytes pages e all.1)
  where
    at : (o : Ordering) → AllByRecursion (λ q. key_cmp k q ≡ Less) (keys_of (insert_entry key_cmp pages key bytes))
        → AllByRecursion (λ q. key_cmp k q ≡ Less) (keys_of (match_ordering o ((key, bytes) ∷ x ∷ pages) ((x.0, bytes) ∷ pages) (x ∷ insert_entry key_cmp pages key bytes)))
    at Less rest = (e, all)
    at Equal rest = all
    at Greater rest = (all.0, rest)

pub sorted-insert : (key : PageKey) (bytes : List ℕ) (pages : Pages) → AreSorted pages → AreSorted (insert_entry key_cmp pages key bytes)
sorted-insert key bytes [] sorted = sorted_cons key [] tt sorted_nil
sorted-insert key bytes (x ∷ pages) sorted = at (key_cmp key x.0) refl (sorted-insert key bytes pages (sorted_tail key_cmp x.0 (keys_of pages) sorted))
  where
    above : AllByRecursion (λ q. key_cmp x.0 q ≡ Less) (keys_of pages)
    above = sorted_head key_cmp x.0 (keys_of pages) sorted

    at : (o : Ordering) → key_cmp key x.0 ≡ o → AreSorted (insert_entry key_cmp pages key bytes)
        → AreSorted (match_ordering o ((key, bytes) ∷ x ∷ pages) ((x.0, bytes) ∷ pages) (x ∷ insert_entry key_cmp pages key bytes))
    at Less e rest = sorted_cons key (x.0 ∷ keys_of pages) (e, less_all key x.0 (keys_of pages) e above) sorted
    at Equal e rest = sorted
    at Greater e rest = sorted_cons x.0 _ (less_insert x.0 key bytes pages (key_total.antisymm x.0 key ∙ ap ordering_reverse e) above) rest

-- two choices, of which one at most is taken
swapped : {A : Type 0} (a b : Bool) (x y z : A) → (a ≡ true → b ≡ true → ⊥) → cond a x (cond b y z) ≡ cond b y (cond a x z)
swapped true true x y z apart = absurd (apart refl refl)
swapped true false x y z apart = refl
swapped false true x y z apart = refl
swapped false false x y z apart = refl

-- a page whose key is new is found under its key, and the others under theirs
pub lookup-insert_new : (q key : PageKey) (bytes : List ℕ) (pages : Pages) → lookup (same_key key) pages ≡ None
    → lookup (same_key q) (insert_entry key_cmp pages key bytes) ≡ cond (same_key q key) (Some bytes) (lookup (same_key q) pages)
lookup-insert_new q key bytes [] none = refl
lookup-insert_new q key bytes (x ∷ pages) none = at (key_cmp key x.0) refl none (lookup-insert_new q key bytes pages)
  where
    apart : key_cmp key x.0 ≡ Greater → same_key q x.0 ≡ true → same_key q key ≡ true → ⊥
    apart e here there = true≢false (sym here ∙ key_laws.congr q key x.0 there ∙ ap is_eq e)

    at : (o : Ordering) → key_cmp key x.0 ≡ o → cond (is_eq o) (Some x.1) (lookup (same_key key) pages) ≡ None
        → (lookup (same_key key) pages ≡ None → lookup (same_key q) (insert_entry key_cmp pages key bytes) ≡ cond (same_key q key) (Some bytes) (lookup (same_key q) pages))
        → lookup (same_key q) (match_ordering o ((key, bytes) ∷ x ∷ pages) ((x.0, bytes) ∷ pages) (x ∷ insert_entry key_cmp pages key bytes))
        ≡ cond (same_key q key) (Some bytes) (lookup (same_key q) (x ∷ pages))
    at Less e none rest = refl
    at Equal e none rest = let never : Some x.1 ≡ None = none in absurd cc
    at Greater e none rest =
        ap (λ o. cond (same_key q x.0) (Some x.1) o) (rest none)
        ∙ swapped (same_key q x.0) (same_key q key) (Some x.1) (Some bytes) (lookup (same_key q) pages) (apart e)

-- ---- pages in order with equal look-ups are the same

-- no page comes at or before one that is before all
none_before : (q : PageKey) (pages : Pages) → AllByRecursion (λ k. key_cmp q k ≡ Less) (keys_of pages) → lookup (same_key q) pages ≡ None
none_before q [] all = refl
none_before q (x ∷ pages) all = ap (λ o. cond (is_eq o) (Some x.1) (lookup (same_key q) pages)) all.0 ∙ none_before q pages all.1

module _ (x y : PageKey × List ℕ) (xs ys : Pages) (sorted : AreSorted (x ∷ xs)) (others : AreSorted (y ∷ ys)) (same : (q : PageKey) → lookup (same_key q) (x ∷ xs) ≡ lookup (same_key q) (y ∷ ys)) where
  at_head : (e : PageKey × List ℕ) (es : Pages) → lookup (same_key e.0) (e ∷ es) ≡ Some e.1
  at_head e es = ap (λ b. cond b (Some e.1) (lookup (same_key e.0) es)) (key_laws.refl e.0)

  by_heads : (o : Ordering) → key_cmp x.0 y.0 ≡ o → key_cmp x.0 y.0 ≡ Equal
  by_heads Less e =
      let none : lookup (same_key x.0) (y ∷ ys) ≡ None = none_before x.0 (y ∷ ys) (e, less_all x.0 y.0 (keys_of ys) e (sorted_head key_cmp y.0 (keys_of ys) others)) in
      let never : Some x.1 ≡ None = sym (at_head x xs) ∙ same x.0 ∙ none in
      absurd cc
  by_heads Equal e = e
  by_heads Greater e =
      let less : key_cmp y.0 x.0 ≡ Less = key_total.antisymm y.0 x.0 ∙ ap ordering_reverse e in
      let none : lookup (same_key y.0) (x ∷ xs) ≡ None = none_before y.0 (x ∷ xs) (less, less_all y.0 x.0 (keys_of xs) less (sorted_head key_cmp x.0 (keys_of xs) sorted)) in
      let never : Some y.1 ≡ None = sym (at_head y ys) ∙ sym (same y.0) ∙ none in
      absurd cc

  heads : x.0 ≡ y.0
  heads = key_exact x.0 y.0 (by_heads (key_cmp x.0 y.0) refl)

  values : x.1 ≡ y.1
  values = same_Some x.1 y.1 (sym (at_head x xs) ∙ same x.0 ∙ ap (λ (k : PageKey). lookup (same_key k) (y ∷ ys)) heads ∙ at_head y ys)

  none_at : (q : PageKey) (e : PageKey × List ℕ) (es : Pages) → AreSorted (e ∷ es) → same_key q e.0 ≡ true → lookup (same_key q) es ≡ None
  none_at q e es in_order here = ap (λ (k : PageKey). lookup (same_key k) es) (same_key-true q e.0 here) ∙ none_before e.0 es (sorted_head key_cmp e.0 (keys_of es) in_order)

  tails : (q : PageKey) → lookup (same_key q) xs ≡ lookup (same_key q) ys
  tails q =
      by_answer (same_key q x.0)
      (λ here. none_at q x xs sorted here ∙ sym (none_at q y ys others (ap (same_key q) (sym heads) ∙ here)))
      (λ there. sym (ap (λ b. cond b (Some x.1) (lookup (same_key q) xs)) there) ∙ same q ∙ ap (λ b. cond b (Some y.1) (lookup (same_key q) ys)) (ap (same_key q) (sym heads) ∙ there))

pub same_pages : (pages others : Pages) → AreSorted pages → AreSorted others → ((q : PageKey) → lookup (same_key q) pages ≡ lookup (same_key q) others) → pages ≡ others
same_pages [] [] sorted sorted' same = refl
same_pages [] (y ∷ ys) sorted sorted' same =
    let never : None ≡ Some y.1 = same y.0 ∙ ap (λ b. cond b (Some y.1) (lookup (same_key y.0) ys)) (key_laws.refl y.0) in
    absurd cc
same_pages (x ∷ xs) [] sorted sorted' same =
    let never : Some x.1 ≡ None = sym (ap (λ b. cond b (Some x.1) (lookup (same_key x.0) xs)) (key_laws.refl x.0)) ∙ same x.0 in
    absurd cc
same_pages (x ∷ xs) (y ∷ ys) sorted sorted' same =
    let rest = same_pages xs ys (sorted_tail key_cmp x.0 (keys_of xs) sorted) (sorted_tail key_cmp y.0 (keys_of ys) sorted') (tails x y xs ys sorted sorted' same) in
    λ i. (heads x y xs ys sorted sorted' same i, values x y xs ys sorted sorted' same i) ∷ rest i
