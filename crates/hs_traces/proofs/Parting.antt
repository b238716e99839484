-- Pages that join a part one after another make one part, whatever their order and repeats.
use Rattle.std.proofs.Common.{◌≡◌, ◌⊎◌, ℕ, true, cond, List, [], ◌∷◌, Option, Some, None, is_some, unwrap_or, inl, inr, ⊎_elim, refl, sym, ap, subst, ◌∙◌, true≢false}
use Rattle.std.specs.Ordering.{match_ordering}
use Rattle.std.specs.declared.cmp.Ordering.{Ordering}
use Rattle.std.specs.declared.cmp.Ordering.TheVariants.{Less, Equal, Greater}
use Rattle.std.specs.Prelude.{if◌then◌else◌}
use Rattle.std.specs.Map.{lookup}
use Rattle.std.specs.BTreeMap.{insert_entry}
use Rattle.std.proofs.lemmas.Option.{same_Some}
use Rattle.hs_base.proofs.Options.{is_some_false}
use Rattle.hs_base.proofs.Bools.{by_answer}
use Rattle.hs_traces.specs.declared.key.PageKey.{PageKey}
use Rattle.hs_traces.specs.Keys.{key_cmp, same_key}
use Rattle.hs_traces.specs.Parts.{Pages, has_key, with_page}
use Rattle.hs_traces.specs.History.{Coming, Brings, AreSamePages}
use Rattle.hs_traces.proofs.Order.{key_laws, same_key-true}
use Rattle.hs_traces.proofs.Pages.{AreSorted, sorted_nil, sorted-insert, lookup-insert_new, same_pages}

-- a part, and one that a page joins
abbrev pub joined : Pages → Coming → Pages
joined pages page = if has_key pages page.key then pages else with_page pages page.key page.bytes

abbrev pub all_joined : Pages → List Coming → Pages
all_joined pages [] = pages
all_joined pages (page ∷ more) = all_joined (joined pages page) more

-- a part without pages is none
abbrev pub wrapped : Pages → Option Pages
wrapped [] = None
wrapped (p ∷ ps) = Some (p ∷ ps)

-- these are the pages that were brought: S says of a key and bytes whether they were
pub record Stand (S : PageKey → List ℕ → Type 0) (pages : Pages) : Type 0 where
  pub sorted : AreSorted pages
  pub only : (key : PageKey) (bytes : List ℕ) → lookup (same_key key) pages ≡ Some bytes → S key bytes
  pub all : (key : PageKey) (bytes : List ℕ) → S key bytes → (found : List ℕ) × (lookup (same_key key) pages ≡ Some found)

abbrev More : (PageKey → List ℕ → Type 0) → Coming → PageKey → List ℕ → Type 0
More S page key bytes = S key bytes ⊎ ((page.key ≡ key) × (page.bytes ≡ bytes))

none_stand : Stand (λ key bytes. ⊥) []
none_stand = record {
  sorted = sorted_nil;
  only = λ key bytes e. let never : None ≡ Some bytes = e in absurd cc;
  all = λ key bytes never. absurd never;
}

some_of : {A : Type 0} (o : Option A) → is_some o ≡ true → (a : A) × (o ≡ Some a)
some_of None e = absurd (true≢false (sym e))
some_of (Some a) e = (a, refl)

module _ (S : PageKey → List ℕ → Type 0) (pages : Pages) (page : Coming) (stand : Stand S pages) where
  -- a page whose key is there
  known : has_key pages page.key ≡ true → Stand (More S page) pages
  known there =
      let found = some_of (lookup (same_key page.key) pages) there in
      record {
        sorted = stand.sorted;
        only = λ key bytes e. inl (stand.only key bytes e);
        all = λ key bytes brought.
            ⊎_elim (λ s. stand.all key bytes s)
            (λ (is : (page.key ≡ key) × (page.bytes ≡ bytes)). (found.0, ap (λ (k : PageKey). lookup (same_key k) pages) (sym is.0) ∙ found.1))
            brought;
      }

  module _ (new : lookup (same_key page.key) pages ≡ None) where
    abbrev grown : Pages
    grown = with_page pages page.key page.bytes

    found_now : (key : PageKey) → lookup (same_key key) grown ≡ cond (same_key key page.key) (Some page.bytes) (lookup (same_key key) pages)
    found_now key = lookup-insert_new key page.key page.bytes pages new

    only_now : (key : PageKey) (bytes : List ℕ) → lookup (same_key key) grown ≡ Some bytes → More S page key bytes
    only_now key bytes e =
        by_answer (same_key key page.key)
        (λ y. inr (sym (same_key-true key page.key y), same_Some page.bytes bytes (sym (ap (λ b. cond b (Some page.bytes) (lookup (same_key key) pages)) y) ∙ sym (found_now key) ∙ e)))
        (λ n. inl (stand.only key bytes (sym (ap (λ b. cond b (Some page.bytes) (lookup (same_key key) pages)) n) ∙ sym (found_now key) ∙ e)))

    here_now : (key : PageKey) → page.key ≡ key → lookup (same_key key) grown ≡ Some page.bytes
    here_now key is =
        found_now key ∙ ap (λ b. cond b (Some page.bytes) (lookup (same_key key) pages)) (ap (λ (k : PageKey). same_key k page.key) (sym is) ∙ key_laws.refl page.key)

    there_now : (key : PageKey) (found : List ℕ) → lookup (same_key key) pages ≡ Some found → (now : List ℕ) × (lookup (same_key key) grown ≡ Some now)
    there_now key found is =
        by_answer (same_key key page.key)
        (λ y. (page.bytes, found_now key ∙ ap (λ b. cond b (Some page.bytes) (lookup (same_key key) pages)) y))
        (λ n. (found, found_now key ∙ ap (λ b. cond b (Some page.bytes) (lookup (same_key key) pages)) n ∙ is))

    added : Stand (More S page) grown
    added = record {
      sorted = sorted-insert page.key page.bytes pages stand.sorted;
      only = only_now;
      all = λ key bytes brought.
          ⊎_elim (λ s. let was = stand.all key bytes s in there_now key was.0 was.1)
          (λ (is : (page.key ≡ key) × (page.bytes ≡ bytes)). (page.bytes, here_now key is.0))
          brought;
    }

  pub one_joins : Stand (More S page) (joined pages page)
  one_joins =
      by_answer (has_key pages page.key)
      (λ y. subst (λ b. Stand (More S page) (cond b pages (with_page pages page.key page.bytes))) (sym y) (known y))
      (λ n. subst (λ b. Stand (More S page) (cond b pages (with_page pages page.key page.bytes))) (sym n) (added (is_some_false (lookup (same_key page.key) pages) n)))

-- the same said in other words
retold : (S R : PageKey → List ℕ → Type 0) (pages : Pages) → ((key : PageKey) (bytes : List ℕ) → S key bytes → R key bytes) → ((key : PageKey) (bytes : List ℕ) → R key bytes → S key bytes) → Stand S pages → Stand R pages
retold S R pages to back stand = record {
  sorted = stand.sorted;
  only = λ key bytes e. to key bytes (stand.only key bytes e);
  all = λ key bytes r. stand.all key bytes (back key bytes r);
}

all_join : (S : PageKey → List ℕ → Type 0) (pages : Pages) (more : List Coming) → Stand S pages → Stand (λ key bytes. S key bytes ⊎ Brings more key bytes) (all_joined pages more)
all_join S pages [] stand = retold S (λ key bytes. S key bytes ⊎ ⊥) pages (λ key bytes s. inl s) (λ key bytes r. ⊎_elim (λ s. s) (λ never. absurd never) r) stand
all_join S pages (page ∷ more) stand =
    retold (λ key bytes. More S page key bytes ⊎ Brings more key bytes) (λ key bytes. S key bytes ⊎ (((page.key ≡ key) × (page.bytes ≡ bytes)) ⊎ Brings more key bytes)) (all_joined (joined pages page) more)
    (λ key bytes r. ⊎_elim (λ m. ⊎_elim (λ s. inl s) (λ is. inr (inl is)) m) (λ b. inr (inr b)) r)
    (λ key bytes r. ⊎_elim (λ s. inl (inl s)) (λ m. ⊎_elim (λ is. inl (inr is)) (λ b. inr b) m) r)
    (all_join (More S page) (joined pages page) more (one_joins S pages page stand))

pub brought_stand : (more : List Coming) → Stand (Brings more) (all_joined [] more)
brought_stand more =
    retold (λ key bytes. ⊥ ⊎ Brings more key bytes) (Brings more) (all_joined [] more) (λ key bytes r. ⊎_elim (λ never. absurd never) (λ b. b) r) (λ key bytes b. inr b) (all_join (λ key bytes. ⊥) [] more none_stand)

-- ---- the same pages make the same part

found_same : (one other : Option (List ℕ)) → ((bytes : List ℕ) → one ≡ Some bytes → other ≡ Some bytes) → ((bytes : List ℕ) → other ≡ Some bytes → one ≡ Some bytes) → one ≡ other
found_same None None to back = refl
found_same None (Some b) to back = back b refl
found_same (Some a) other to back = sym (to a refl)

module _ (pages others : List Coming) (same : AreSamePages pages others) where
  found_there : (key : PageKey) (bytes : List ℕ) → lookup (same_key key) (all_joined [] pages) ≡ Some bytes → lookup (same_key key) (all_joined [] others) ≡ Some bytes
  found_there key bytes e =
      let mine = (brought_stand pages).only key bytes e in
      let found = (brought_stand others).all key bytes (same.there key bytes mine) in
      let theirs = same.back key found.0 ((brought_stand others).only key found.0 found.1) in
      found.1 ∙ ap Some (same.alike key found.0 bytes theirs mine)

  found_back : (key : PageKey) (bytes : List ℕ) → lookup (same_key key) (all_joined [] others) ≡ Some bytes → lookup (same_key key) (all_joined [] pages) ≡ Some bytes
  found_back key bytes e =
      let mine = same.back key bytes ((brought_stand others).only key bytes e) in
      let found = (brought_stand pages).all key bytes mine in
      found.1 ∙ ap Some (same.alike key found.0 bytes ((brought_stand pages).only key found.0 found.1) mine)

  pub one_part : all_joined [] pages ≡ all_joined [] others
  one_part =
      same_pages (all_joined [] pages) (all_joined [] others) (brought_stand pages).sorted (brought_stand others).sorted
      (λ q. found_same (lookup (same_key q) (all_joined [] pages)) (lookup (same_key q) (all_joined [] others)) (found_there q) (found_back q))

-- ---- parts as they may be missing

wrapped-insert : (pages : Pages) (key : PageKey) (bytes : List ℕ) → wrapped (insert_entry key_cmp pages key bytes) ≡ Some (insert_entry key_cmp pages key bytes)
wrapped-insert [] key bytes = refl
wrapped-insert (x ∷ pages) key bytes = at (key_cmp key x.0)
  where
    at : (o : Ordering) → wrapped (match_ordering o ((key, bytes) ∷ x ∷ pages) ((x.0, bytes) ∷ pages) (x ∷ insert_entry key_cmp pages key bytes))
        ≡ Some (match_ordering o ((key, bytes) ∷ x ∷ pages) ((x.0, bytes) ∷ pages) (x ∷ insert_entry key_cmp pages key bytes))
    at Less = refl
    at Equal = refl
    at Greater = refl

pub wrapped-new : (pages : Pages) (key : PageKey) (bytes : List ℕ) → wrapped (with_page pages key bytes) ≡ Some (with_page pages key bytes)
wrapped-new = wrapped-insert

pub unwrapped : (pages : Pages) → unwrap_or (wrapped pages) [] ≡ pages
unwrapped [] = refl
unwrapped (p ∷ ps) = refl
