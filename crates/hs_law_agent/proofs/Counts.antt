-- How often a place stands in a list, and what the chunks at places pass.
use Rattle.std.proofs.Common.{◌≡◌, ℕ, zero, suc, ◌+◌, ◌<◌, ◌≤◌, Bool, true, false, cond, not, List, [], ◌∷◌, ◌++◌, length, take, refl, sym, ap, ◌∙◌, arith, inl, inr, length-append}
use Rattle.hs_law_agent.proofs.Prelude.{◌==◌, filter, cases_Bool, true≢false, eqb-true, eq-eqb, ne_eqb, or_parts, one_if, ChunkStanding, Taken, passes, is_among, places_from, moved_from, moved, count_of}
use Rattle.std.proofs.lemmas.Bool.{cases_order}

pub count-append : (xs ys : List ℕ) (p : ℕ) → count_of (xs ++ ys) p ≡ count_of xs p + count_of ys p
count-append [] ys p = omega arith
count-append (x ∷ xs) ys p = omega (arith, count-append xs ys p)

count-filter-here : (f : ℕ → Bool) (xs : List ℕ) (p x : ℕ) (b same : Bool) → f x ≡ b → (x == p) ≡ same → count_of (filter f xs) p ≡ cond (f p) (count_of xs p) 0 → count_of (cond b (x ∷ filter f xs) (filter f xs)) p ≡ cond (f p) (cond same 1 0 + count_of xs p) 0
count-filter-here f xs p x true true fx same ih =
    let fp : f p ≡ true = ap f (sym (eqb-true x p same)) ∙ fx in
    let h : count_of (filter f xs) p ≡ count_of xs p = rw fp at ih in
    rw (fp, same) (ap (λ n. 1 + n) h)
count-filter-here f xs p x true false fx same ih = rw same (go (f p) ih)
  where
    go : (b : Bool) → count_of (filter f xs) p ≡ cond b (count_of xs p) 0 → 0 + count_of (filter f xs) p ≡ cond b (0 + count_of xs p) 0
    go true h = omega arith
    go false h = omega arith
count-filter-here f xs p x false true fx same ih =
    let fp : f p ≡ false = ap f (sym (eqb-true x p same)) ∙ fx in
    rw fp (rw fp at ih)
count-filter-here f xs p x false false fx same ih = go (f p) ih
  where
    go : (b : Bool) → count_of (filter f xs) p ≡ cond b (count_of xs p) 0 → count_of (filter f xs) p ≡ cond b (0 + count_of xs p) 0
    go true h = omega arith
    go false h = omega arith

pub count-filter : (f : ℕ → Bool) (xs : List ℕ) (p : ℕ) → count_of (filter f xs) p ≡ cond (f p) (count_of xs p) 0
count-filter f [] p = elim (cases_Bool (f p)) [ inl e ↦ rw e refl | inr e ↦ rw e refl ]
count-filter f (x ∷ xs) p = count-filter-here f xs p x (f x) (x == p) refl refl (count-filter f xs p)

pub count-take : (n : ℕ) (xs : List ℕ) (p : ℕ) → count_of (take n xs) p ≤ count_of xs p
count-take zero xs p = omega arith
count-take (suc n) [] p = omega arith
count-take (suc n) (x ∷ xs) p = omega (arith, count-take n xs p)

pub among_counted : (places : List ℕ) (p : ℕ) → is_among places p ≡ true → 1 ≤ count_of places p
among_counted [] p e = absurd (true≢false (sym e))
among_counted (q ∷ places) p e = elim (cases_Bool (q == p)) [ inl same ↦ rw same (omega arith) | inr differ ↦ rw differ (omega (arith, among_counted places p (rw differ at e))) ]

pub not_among_counted : (places : List ℕ) (p : ℕ) → is_among places p ≡ false → count_of places p ≡ 0
not_among_counted [] p e = refl
not_among_counted (q ∷ places) p e = let both = or_parts (q == p) (is_among places p) e in rw both.0 (omega (arith, not_among_counted places p both.1))

pub counted_one : (b : Bool) → 1 ≤ one_if b → b ≡ true
counted_one true h = refl
counted_one false h = absurd (omega arith)

-- ---- what the chunks at places pass

-- a chunk that passes one test passes another, or does not
pub passes_too : (from test : Taken → Bool) (b : Bool) → ((c : Taken) → from c ≡ true → test c ≡ b) → (taken : List Taken) (p : ℕ) → passes from taken p ≡ true → passes test taken p ≡ b
passes_too from test b h [] p e = absurd (true≢false (sym e))
passes_too from test b h (c ∷ taken) zero e = h c e
passes_too from test b h (c ∷ taken) (suc p) e = passes_too from test b h taken p e

pub passes_moved : (test : Taken → Bool) (change : ChunkStanding → ChunkStanding) (places : List ℕ) (k : ℕ) (taken : List Taken) (p : ℕ)
    → passes test (moved_from k places change taken) p ≡ cond (is_among places (k + p)) (passes (λ c. test (record c { standing = change c.standing })) taken p) (passes test taken p)
passes_moved test change places k [] p = elim (cases_Bool (is_among places (k + p))) [ inl e ↦ rw e refl | inr e ↦ rw e refl ]
passes_moved test change places k (c ∷ taken) zero =
    let e : k + 0 ≡ k = omega arith in
    rw e (elim (cases_Bool (is_among places k)) [ inl e ↦ rw e refl | inr e ↦ rw e refl ])
passes_moved test change places k (c ∷ taken) (suc p) =
    let e : k + suc p ≡ suc k + p = omega arith in
    rw e (passes_moved test change places (suc k) taken p)

pub passes_before : (test : Taken → Bool) (taken more : List Taken) (p : ℕ) → p < length taken → passes test (taken ++ more) p ≡ passes test taken p
passes_before test [] more p h = absurd (omega arith)
passes_before test (c ∷ taken) more zero h = refl
passes_before test (c ∷ taken) more (suc p) h = passes_before test taken more p (omega arith)

pub passes_past : (test : Taken → Bool) (taken : List Taken) (p : ℕ) → length taken ≤ p → passes test taken p ≡ false
passes_past test [] p h = refl
passes_past test (c ∷ taken) zero h = absurd (omega arith)
passes_past test (c ∷ taken) (suc p) h = passes_past test taken p (omega arith)

pub passes_at : (test : Taken → Bool) (taken : List Taken) (c : Taken) → passes test (taken ++ c ∷ []) (length taken) ≡ test c
passes_at test [] c = refl
passes_at test (x ∷ taken) c = passes_at test taken c

-- with one chunk more, counted
pub passes_more : (test : Taken → Bool) (taken : List Taken) (c : Taken) (p : ℕ) → one_if (passes test (taken ++ c ∷ []) p) ≡ one_if (passes test taken p) + cond (test c) (count_of (length taken ∷ []) p) 0
passes_more test taken c p =
    elim (cases_order p (length taken)) [
      | inl here ↦ rw here (rw (passes_at test taken c, passes_past test taken (length taken) (omega arith), eq-eqb (length taken) (length taken) refl) (omega arith))
      | inr other ↦ elim other [
        | inl below ↦ rw (passes_before test taken (c ∷ []) p below, ne_eqb (length taken) p (λ e. omega arith)) (go (test c))
        | inr above ↦ rw (passes_past test (taken ++ c ∷ []) p (rw length-append (omega arith)), passes_past test taken p (omega arith), ne_eqb (length taken) p (λ e. omega arith)) (go_past (test c))
      ]
    ]
  where
    go : (b : Bool) → one_if (passes test taken p) ≡ one_if (passes test taken p) + cond b 0 0
    go true = omega arith
    go false = omega arith

    go_past : (b : Bool) → 0 ≡ 0 + cond b 0 0
    go_past true = omega arith
    go_past false = omega arith

pub places_below : (k : ℕ) (test : Taken → Bool) (taken : List Taken) (q : ℕ) → q < k → count_of (places_from k test taken) q ≡ 0
places_below k test [] q h = refl
places_below k test (c ∷ taken) q h =
    let ih = places_below (suc k) test taken q (omega arith) in
    elim (cases_Bool (test c)) [ inl e ↦ rw e (rw (ne_eqb k q (λ e. omega arith)) (omega (arith, ih))) | inr e ↦ rw e ih ]

pub places_counted : (k : ℕ) (test : Taken → Bool) (taken : List Taken) (p : ℕ) → count_of (places_from k test taken) (k + p) ≡ one_if (passes test taken p)
places_counted k test [] p = refl
places_counted k test (c ∷ taken) zero =
    let e : k + 0 ≡ k = omega arith in
    rw e (elim (cases_Bool (test c)) [ inl t ↦ rw t (rw (eq-eqb k k refl) (omega (arith, places_below (suc k) test taken k (omega arith)))) | inr t ↦ rw t (places_below (suc k) test taken k (omega arith)) ])
places_counted k test (c ∷ taken) (suc p) =
    let e : k + suc p ≡ suc k + p = omega arith in
    let ih = places_counted (suc k) test taken p in
    rw e (elim (cases_Bool (test c)) [ inl t ↦ rw t (rw (ne_eqb k (suc k + p) (λ e. omega arith)) (omega (arith, ih))) | inr t ↦ rw t ih ])

pub passes_moved_at : (test : Taken → Bool) (change : ChunkStanding → ChunkStanding) (places : List ℕ) (taken : List Taken) (p : ℕ)
    → passes test (moved places change taken) p ≡ cond (is_among places p) (passes (λ c. test (record c { standing = change c.standing })) taken p) (passes test taken p)
passes_moved_at test change places taken p = let e : 0 + p ≡ p = omega arith in rw e at (passes_moved test change places 0 taken p)

pub places_counted_at : (test : Taken → Bool) (taken : List Taken) (p : ℕ) → count_of (places_from 0 test taken) p ≡ one_if (passes test taken p)
places_counted_at test taken p = let e : 0 + p ≡ p = omega arith in rw e at (places_counted 0 test taken p)

-- a filter and what it leaves out
pub count-split : (f : ℕ → Bool) (xs : List ℕ) (p : ℕ) → count_of (filter (λ x. not (f x)) xs) p + count_of (filter f xs) p ≡ count_of xs p
count-split f xs p = rw (count-filter (λ x. not (f x)) xs p, count-filter f xs p) (go (f p))
  where
    go : (b : Bool) → cond (not b) (count_of xs p) 0 + cond b (count_of xs p) 0 ≡ count_of xs p
    go true = omega arith
    go false = omega arith

pub count-filter-le : (f : ℕ → Bool) (xs : List ℕ) (p : ℕ) → count_of (filter f xs) p ≤ count_of xs p
count-filter-le f xs p = omega (arith, count-split f xs p)
