-- An element that is put into a list, taken out of it or changed, and what holds of all elements, of some, and of each
-- and every later one.
use Rattle.std.proofs.Common.{◌≡◌, ◌⊎◌, ℕ, zero, suc, ◌<◌, List, [], ◌∷◌, ◌++◌, length, get_or, All, refl, sym, subst, inl, inr, arith}
use Rattle.hs_collect.proofs.Prelude.{Any, AllPairs, All-nil, All-cons, All-head, All-tail, pairs_head, pairs_tail}

-- ---- all elements

pub all_left : {X : Type 0} (P : X → Type 0) (xs ys : List X) → All P (xs ++ ys) → All P xs
all_left P [] ys h = All-nil P
all_left P (x ∷ xs) ys h = All-cons P x xs (All-head P x (xs ++ ys) h) (all_left P xs ys (All-tail P x (xs ++ ys) h))

pub all_right : {X : Type 0} (P : X → Type 0) (xs ys : List X) → All P (xs ++ ys) → All P ys
all_right P [] ys h = h
all_right P (x ∷ xs) ys h = all_right P xs ys (All-tail P x (xs ++ ys) h)

pub all_into : {X : Type 0} (P : X → Type 0) (front : List X) (x : X) (back : List X) → P x → All P (front ++ back) → All P (front ++ x ∷ back)
all_into P [] x back here h = All-cons P x back here h
all_into P (first ∷ front) x back here h =
    All-cons P first (front ++ x ∷ back) (All-head P first (front ++ back) h) (all_into P front x back here (All-tail P first (front ++ back) h))

pub all_out : {X : Type 0} (P : X → Type 0) (front : List X) (x : X) (back : List X) → All P (front ++ x ∷ back) → All P (front ++ back)
all_out P [] x back h = All-tail P x back h
all_out P (first ∷ front) x back h =
    All-cons P first (front ++ back) (All-head P first (front ++ x ∷ back) h) (all_out P front x back (All-tail P first (front ++ x ∷ back) h))

pub all_middle : {X : Type 0} (P : X → Type 0) (front : List X) (x : X) (back : List X) → All P (front ++ x ∷ back) → P x
all_middle P front x back h = All-head P x back (all_right P front (x ∷ back) h)

-- ---- each and every later element

pairs_cons : {X : Type 0} (R : X → X → Type 0) (x : X) (xs : List X) → All (R x) xs → AllPairs R xs
    → (i j : ℕ) (d : X) → i < j → j < length (x ∷ xs) → R (get_or (x ∷ xs) i d) (get_or (x ∷ xs) j d)
pairs_cons R x xs first rest i zero d lt within = absurd (omega arith)
pairs_cons R x xs first rest zero (suc j) d lt within = first j d (omega arith)
pairs_cons R x xs first rest (suc i) (suc j) d lt within = rest i j d (omega arith) (omega arith)

pub pairs_into : {X : Type 0} (R : X → X → Type 0) (front : List X) (x : X) (back : List X) → AllPairs R (front ++ back) → All (λ f. R f x) front → All (R x) back → AllPairs R (front ++ x ∷ back)
pairs_into R [] x back h before behind = pairs_cons R x back behind h
pairs_into R (first ∷ front) x back h before behind =
    pairs_cons R first (front ++ x ∷ back)
    (all_into (R first) front x back (All-head (λ f. R f x) first front before) (pairs_head R first (front ++ back) h))
    (pairs_into R front x back (pairs_tail R first (front ++ back) h) (All-tail (λ f. R f x) first front before) behind)

pub pairs_out : {X : Type 0} (R : X → X → Type 0) (front : List X) (x : X) (back : List X) → AllPairs R (front ++ x ∷ back) → AllPairs R (front ++ back)
pairs_out R [] x back h = pairs_tail R x back h
pairs_out R (first ∷ front) x back h =
    pairs_cons R first (front ++ back) (all_out (R first) front x back (pairs_head R first (front ++ x ∷ back) h))
    (pairs_out R front x back (pairs_tail R first (front ++ x ∷ back) h))

pub pairs_before : {X : Type 0} (R : X → X → Type 0) (front : List X) (x : X) (back : List X) → AllPairs R (front ++ x ∷ back) → All (λ f. R f x) front
pairs_before R [] x back h = All-nil (λ f. R f x)
pairs_before R (first ∷ front) x back h =
    All-cons (λ f. R f x) first front (all_middle (R first) front x back (pairs_head R first (front ++ x ∷ back) h))
    (pairs_before R front x back (pairs_tail R first (front ++ x ∷ back) h))

pub pairs_behind : {X : Type 0} (R : X → X → Type 0) (front : List X) (x : X) (back : List X) → AllPairs R (front ++ x ∷ back) → All (R x) back
pairs_behind R [] x back h = pairs_head R x back h
pairs_behind R (first ∷ front) x back h = pairs_behind R front x back (pairs_tail R first (front ++ x ∷ back) h)

-- ---- some element

any_head : {X : Type 0} (P : X → Type 0) (x : X) (xs : List X) → P x → Any P (x ∷ xs)
any_head P x xs here = (0, x, omega arith, refl, here)

any_tail : {X : Type 0} (P : X → Type 0) (x : X) (xs : List X) → Any P xs → Any P (x ∷ xs)
any_tail P x xs h = (suc h.0, h.1, omega (arith, h.2), h.3, h.4)

pub any_cases : {X : Type 0} (P : X → Type 0) (x : X) (xs : List X) (k : ℕ) (y : X) → k < length (x ∷ xs) → get_or (x ∷ xs) k y ≡ y → P y → P x ⊎ Any P xs
any_cases P x xs zero y within at holds = inl (subst P (sym at) holds)
any_cases P x xs (suc k) y within at holds = inr (k, y, omega arith, at, holds)

pub any_here : {X : Type 0} (P : X → Type 0) (front : List X) (x : X) (back : List X) → P x → Any P (front ++ x ∷ back)
any_here P [] x back here = any_head P x back here
any_here P (first ∷ front) x back here = any_tail P first (front ++ x ∷ back) (any_here P front x back here)

pub any_into : {X : Type 0} (P : X → Type 0) (front : List X) (x : X) (back : List X) → Any P (front ++ back) → Any P (front ++ x ∷ back)
any_into P [] x back h = any_tail P x back h
any_into P (first ∷ front) x back h =
    elim (any_cases P first (front ++ back) h.0 h.1 h.2 h.3 h.4) [
      | inl here ↦ any_head P first (front ++ x ∷ back) here
      | inr later ↦ any_tail P first (front ++ x ∷ back) (any_into P front x back later)
    ]

pub any_changed : {X : Type 0} (P : X → Type 0) (front : List X) (x y : X) (back : List X) → (P x → P y) → Any P (front ++ x ∷ back) → Any P (front ++ y ∷ back)
any_changed P [] x y back keeps h =
    elim (any_cases P x back h.0 h.1 h.2 h.3 h.4) [
      | inl here ↦ any_head P y back (keeps here)
      | inr later ↦ any_tail P y back later
    ]
any_changed P (first ∷ front) x y back keeps h =
    elim (any_cases P first (front ++ x ∷ back) h.0 h.1 h.2 h.3 h.4) [
      | inl here ↦ any_head P first (front ++ y ∷ back) here
      | inr later ↦ any_tail P first (front ++ y ∷ back) (any_changed P front x y back keeps later)
    ]

-- what holds of all holds of the one
pub all_at_any : {X : Type 0} (P Q : X → Type 0) (xs : List X) → All P xs → Any Q xs → (x : X) × P x × Q x
all_at_any P Q xs all any = (any.1, subst P any.3 (all any.0 any.1 any.2), any.4)
