-- What a filter keeps, and what is found.
use Rattle.std.proofs.Common.{◌≡◌, ◌≤◌, Bool, true, false, cond, List, [], ◌∷◌, length, filter, arith, refl, ap, ◌∙◌, map, find, Some, None, Option, sym, ℕ, ◌<◌, suc, not, ◌||◌, eqb, get_or}
use Rattle.std.specs.List.{AllByRecursion, list_any}
use Rattle.std.proofs.lemmas.Bool.{both_ways}
use Rattle.std.proofs.lemmas.List.Sums.{length-filter, count_by-le-length}

pub filter_few : {X : Type 0} (test : X → Bool) (xs : List X) → length (filter test xs) ≤ length xs
filter_few test xs =
    let same = length-filter test xs in
    let few = count_by-le-length test xs in
    omega (arith, same, few)

pub filter_all : {A : Type 0} (p : A → Bool) (xs : List A) → AllByRecursion (λ x. p x ≡ true) xs → filter p xs ≡ xs
filter_all p [] all = refl
filter_all p (x ∷ xs) all = ap (λ t. cond t (x ∷ filter p xs) (filter p xs)) all.0 ∙ ap (λ l. x ∷ l) (filter_all p xs all.1)

pub filter_none : {A : Type 0} (p : A → Bool) (xs : List A) → AllByRecursion (λ x. p x ≡ false) xs → filter p xs ≡ []
filter_none p [] all = refl
filter_none p (x ∷ xs) all = ap (λ t. cond t (x ∷ filter p xs) (filter p xs)) all.0 ∙ filter_none p xs all.1

pub filter_mapped : {X Y : Type 0} (f : X → Y) (p : Y → Bool) (xs : List X) → filter p (map f xs) ≡ map f (filter (λ x. p (f x)) xs)
filter_mapped f p [] = refl
filter_mapped f p (x ∷ xs) = either (p (f x)) (filter_mapped f p xs)
  where
    either : (b : Bool) → filter p (map f xs) ≡ map f (filter (λ x. p (f x)) xs) → cond b (f x ∷ filter p (map f xs)) (filter p (map f xs)) ≡ map f (cond b (x ∷ filter (λ x. p (f x)) xs) (filter (λ x. p (f x)) xs))
    either true h = ap (λ rest. f x ∷ rest) h
    either false h = h

-- what is found passes the test
pub find_passes : {X : Type 0} (p : X → Bool) (xs : List X) (x : X) → find p xs ≡ Some x → p x ≡ true
find_passes p [] x h = let no : None ≡ Some x = h in absurd cc
find_passes p (y ∷ xs) x h = found_if p y x (p y) (find p xs) refl h (find_passes p xs x)
  where
    found_if : {X : Type 0} (p : X → Bool) (y x : X) (b : Bool) (o : Option X) → p y ≡ b → cond b (Some y) o ≡ Some x → (o ≡ Some x → p x ≡ true) → p x ≡ true
    found_if p y x true o e h rest = let same : y ≡ x = cc in ap p (sym same) ∙ e
    found_if p y x false o e h rest = rest h

-- one item more, which passes the second test wherever it passes the first
weaker_more : {X : Type 0} (test by : X → Bool) (z : X) (zs : List X) (a b : Bool) → test z ≡ a → by z ≡ b → (test z ≡ true → by z ≡ true) → filter test (filter by zs) ≡ filter test zs
    → filter test (filter by (z ∷ zs)) ≡ filter test (z ∷ zs)
weaker_more test by z zs a true ta tb all rest =
    ap (λ t. filter test (cond t (z ∷ filter by zs) (filter by zs))) tb ∙ ap (λ more. cond (test z) (z ∷ more) more) rest
weaker_more test by z zs true false ta tb all rest = absurd (both_ways (by z) tb (all ta))
weaker_more test by z zs false false ta tb all rest =
    ap (λ t. filter test (cond t (z ∷ filter by zs) (filter by zs))) tb ∙ rest ∙ ap (λ t. cond t (z ∷ filter test zs) (filter test zs)) (sym ta)

-- a filter for a weaker test first changes nothing
pub filter_weaker : {X : Type 0} (test by : X → Bool) → ((y : X) → test y ≡ true → by y ≡ true) → (zs : List X) → filter test (filter by zs) ≡ filter test zs
filter_weaker test by all [] = refl
filter_weaker test by all (z ∷ zs) = weaker_more test by z zs (test z) (by z) refl refl (all z) (filter_weaker test by all zs)

pub filter_whole : {X : Type 0} (test : X → Bool) (xs : List X) → ((k : ℕ) (d : X) → k < length xs → test (get_or xs k d) ≡ true) → filter test xs ≡ xs
filter_whole test [] all = refl
filter_whole test (x ∷ xs) all =
    ap (λ t. cond t (x ∷ filter test xs) (filter test xs)) (all 0 x (omega arith)) ∙ ap (λ t. x ∷ t) (filter_whole test xs (λ k d lt. all (suc k) d (omega arith)))

pub filter_nothing : {X : Type 0} (test : X → Bool) (xs : List X) → ((k : ℕ) (d : X) → k < length xs → test (get_or xs k d) ≡ false) → filter test xs ≡ []
filter_nothing test [] all = refl
filter_nothing test (x ∷ xs) all =
    ap (λ t. cond t (x ∷ filter test xs) (filter test xs)) (all 0 x (omega arith)) ∙ filter_nothing test xs (λ k d lt. all (suc k) d (omega arith))

-- a filter keeps something exactly where something passes
any_more : {X : Type 0} (test : X → Bool) (x : X) (xs : List X) (t : Bool) → not (eqb (length (filter test xs)) 0) ≡ list_any test xs → not (eqb (length (cond t (x ∷ filter test xs) (filter test xs))) 0) ≡ (t || list_any test xs)
any_more test x xs true rest = grind arith
any_more test x xs false rest = rest

pub any_filtered : {X : Type 0} (test : X → Bool) (xs : List X) → not (eqb (length (filter test xs)) 0) ≡ list_any test xs
any_filtered test [] = refl
any_filtered test (x ∷ xs) = any_more test x xs (test x) (any_filtered test xs)
