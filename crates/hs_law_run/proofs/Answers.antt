-- The answers of a pool's ends, the first one first. At each place of the list of deeds stands one answer of one end.
use Rattle.std.proofs.Common.{◌≡◌, ◌⊎◌, inl, inr, ℕ, zero, suc, ◌+◌, ◌<◌, ◌≤◌, Bool, true, false, ◌&&◌, ◌==◌, cond, List, [], ◌∷◌, ◌++◌, length, reverse, refl, sym, ap, subst, ◌∙◌, arith, map, filter, eq-eqb, nat_eq, append-nil, ltb, lt-ltb, eq-or-lt_of_le}
use Rattle.hs_law_run.proofs.Prelude.{AllByRecursion, flat_map, range_with_len, and_from, length-append, map-append, filter-append, reverse_cons, flat_range_alike, Deed, Answer, answer_to, answers_by, put_if, rise, rise_above}
use Rattle.hs_base.proofs.Numbers.{nat_eq_below, nat_eq_above}

-- ---- one answer, or none

abbrev pub own : Bool → Answer → List Answer
own b answer = cond b (answer ∷ []) []

abbrev pub answers : ℕ → List Deed → List Answer
answers end [] = []
answers end (deed ∷ earlier) = answers end earlier ++ own (deed.by == end) (answer_to deed (length earlier))

pub answers_are : (end : ℕ) (log : List Deed) → reverse (answers_by end log) ≡ answers end log
answers_are end [] = refl
answers_are end (deed ∷ earlier) = either (deed.by == end) (answers_are end earlier)
  where
    either : (b : Bool) → reverse (answers_by end earlier) ≡ answers end earlier → reverse (put_if b (answer_to deed (length earlier)) (answers_by end earlier)) ≡ answers end earlier ++ own b (answer_to deed (length earlier))
    either true h = reverse_cons (answer_to deed (length earlier)) (answers_by end earlier) ∙ ap (λ front. front ++ answer_to deed (length earlier) ∷ []) h
    either false h = h ∙ sym (append-nil (answers end earlier))

-- ---- stamps

abbrev pub at_stamp : ℕ → List Answer → List Answer
at_stamp s list = filter (λ (a : Answer). a.stamp == s) list

abbrev Below : ℕ → List Answer → Type 0
Below bound list = AllByRecursion (λ (a : Answer). a.stamp < bound) list

below_both : (bound : ℕ) (a b : List Answer) → Below bound a → Below bound b → Below bound (a ++ b)
below_both bound [] b h g = g
below_both bound (x ∷ a) b h g = (h.0, below_both bound a b h.1 g)

below_more : (bound : ℕ) (list : List Answer) → Below bound list → Below (suc bound) list
below_more bound [] h = tt
below_more bound (x ∷ list) h = let less = h.0 in (omega (arith, less), below_more bound list h.1)

pub all_below : (end : ℕ) (log : List Deed) → Below (length log) (answers end log)
all_below end [] = tt
all_below end (deed ∷ earlier) =
    below_both (suc (length earlier)) (answers end earlier) (own (deed.by == end) (answer_to deed (length earlier))) (below_more (length earlier) (answers end earlier) (all_below end earlier))
    (one (deed.by == end))
  where
    one : (b : Bool) → Below (suc (length earlier)) (own b (answer_to deed (length earlier)))
    one true = (omega arith, tt)
    one false = tt

none_at : (bound : ℕ) (list : List Answer) → Below bound list → at_stamp bound list ≡ []
none_at bound [] h = refl
none_at bound (a ∷ list) h = ap (λ b. cond b (a ∷ at_stamp bound list) (at_stamp bound list)) (nat_eq_below a.stamp bound h.0) ∙ none_at bound list h.1

-- the answer at the last place
pub at_last : (end : ℕ) (deed : Deed) (earlier : List Deed) → at_stamp (length earlier) (answers end (deed ∷ earlier)) ≡ own (deed.by == end) (answer_to deed (length earlier))
at_last end deed earlier =
    filter-append (λ (a : Answer). a.stamp == length earlier) (answers end earlier) (own (deed.by == end) (answer_to deed (length earlier)))
    ∙ ap (λ front. front ++ at_stamp (length earlier) (own (deed.by == end) (answer_to deed (length earlier)))) (none_at (length earlier) (answers end earlier) (all_below end earlier))
    ∙ either (deed.by == end)
  where
    either : (b : Bool) → at_stamp (length earlier) (own b (answer_to deed (length earlier))) ≡ own b (answer_to deed (length earlier))
    either true = ap (λ b. cond b (answer_to deed (length earlier) ∷ []) []) (eq-eqb (length earlier) (length earlier) refl)
    either false = refl

-- and those before it are as before
pub at_earlier : (end s : ℕ) (deed : Deed) (earlier : List Deed) → s < length earlier → at_stamp s (answers end (deed ∷ earlier)) ≡ at_stamp s (answers end earlier)
at_earlier end s deed earlier less =
    filter-append (λ (a : Answer). a.stamp == s) (answers end earlier) (own (deed.by == end) (answer_to deed (length earlier)))
    ∙ ap (λ back. at_stamp s (answers end earlier) ++ back) (either (deed.by == end))
    ∙ append-nil (at_stamp s (answers end earlier))
  where
    either : (b : Bool) → at_stamp s (own b (answer_to deed (length earlier))) ≡ []
    either true = ap (λ b. cond b (answer_to deed (length earlier) ∷ []) []) (nat_eq_above (length earlier) s less)
    either false = refl

-- stamps of one end rise
rise_on : (list : List ℕ) (last : ℕ) → rise list ≡ true → AllByRecursion (λ s. s < last) list → rise (list ++ last ∷ []) ≡ true
rise_on [] last h below = refl
rise_on (s ∷ list) last h below = above s list h below.0 below.1
  where
    above : (before : ℕ) (list : List ℕ) → rise_above before list ≡ true → before < last → AllByRecursion (λ s. s < last) list → rise_above before (list ++ last ∷ []) ≡ true
    above before [] h low below = and_from (ltb before last) true (lt-ltb before last low) refl
    above before (s ∷ list) h low below =
        and_from (ltb before s) (rise_above s (list ++ last ∷ [])) (first (ltb before s) (rise_above s list) h) (above s list (second (ltb before s) (rise_above s list) h) below.0 below.1)
      where
        first : (a b : Bool) → (a && b) ≡ true → a ≡ true
        first true b h = refl
        first false b h = h

        second : (a b : Bool) → (a && b) ≡ true → b ≡ true
        second true b h = h
        second false b h = let no : false ≡ true = h in absurd cc

abbrev pub stamps : List Answer → List ℕ
stamps list = map (λ (a : Answer). a.stamp) list

stamps_below : (bound : ℕ) (list : List Answer) → Below bound list → AllByRecursion (λ s. s < bound) (stamps list)
stamps_below bound [] h = tt
stamps_below bound (a ∷ list) h = (h.0, stamps_below bound list h.1)

pub stamps_rise : (end : ℕ) (log : List Deed) → rise (stamps (answers end log)) ≡ true
stamps_rise end [] = refl
stamps_rise end (deed ∷ earlier) = either (deed.by == end) (stamps_rise end earlier)
  where
    either : (b : Bool) → rise (stamps (answers end earlier)) ≡ true → rise (stamps (answers end earlier ++ own b (answer_to deed (length earlier)))) ≡ true
    either true before =
        ap rise (map-append (λ (a : Answer). a.stamp) (answers end earlier) (answer_to deed (length earlier) ∷ []))
        ∙ rise_on (stamps (answers end earlier)) (length earlier) before (stamps_below (length earlier) (answers end earlier) (all_below end earlier))
    either false before = ap (λ list. rise (stamps list)) (append-nil (answers end earlier)) ∙ before

-- ---- all ends

-- those of the drawers from one number on
abbrev pub drawers : ℕ → ℕ → List Deed → List Answer
drawers start count log = flat_map (λ client. answers (suc client) log) (range_with_len start count)

abbrev ones : (ℕ → Bool) → Answer → ℕ → ℕ → List Answer
ones test a start count = flat_map (λ client. own (test client) a) (range_with_len start count)

none_ones : (test : ℕ → Bool) (a : Answer) (start count : ℕ) → ((client : ℕ) → start ≤ client → client < start + count → test client ≡ false) → ones test a start count ≡ []
none_ones test a start zero each = refl
none_ones test a start (suc count) each =
    ap (λ b. own b a ++ ones test a (start + 1) count) (each start (omega arith) (omega arith))
    ∙ none_ones test a (start + 1) count (λ client low high. each client (omega (arith, low)) (omega (arith, high)))

-- just one drawer has the number
one_of_them : (by : ℕ) (a : Answer) (start count client : ℕ) → by ≡ suc client → start ≤ client → client < start + count → ones (λ client. by == suc client) a start count ≡ a ∷ []
one_of_them by a start zero client is low high = absurd (omega (arith, low, high))
one_of_them by a start (suc count) client is low high = either (eq-or-lt_of_le low) (λ up. one_of_them by a (start + 1) count client is up (omega (arith, high)))
  where
    either : (start ≡ client) ⊎ (start < client) → (start + 1 ≤ client → ones (λ client. by == suc client) a (start + 1) count ≡ a ∷ []) → ones (λ client. by == suc client) a start (suc count) ≡ a ∷ []
    either (inl same) on =
        let here : by ≡ suc start = omega (arith, is, same) in
        ap (λ b. own b a ++ ones (λ client. by == suc client) a (start + 1) count) (eq-eqb by (suc start) here)
        ∙ ap (λ rest. a ∷ rest) (none_ones (λ client. by == suc client) a (start + 1) count (λ other up down. more_or_less by (suc other) (omega (arith, here, up))))
      where
        more_or_less : (x y : ℕ) → x < y → nat_eq x y ≡ false
        more_or_less x y less = nat_eq_below x y less
    either (inr less) on =
        ap (λ b. own b a ++ ones (λ client. by == suc client) a (start + 1) count) (nat_eq_above by (suc start) (omega (arith, is, less))) ∙ on (omega (arith, less))

-- an end that there is: a drawer or the giver
pub just_one : (by : ℕ) (a : Answer) (count : ℕ) → by ≤ count → ((ones (λ client. by == suc client) a 0 count ≡ a ∷ []) × (nat_eq by 0 ≡ false)) ⊎ ((ones (λ client. by == suc client) a 0 count ≡ []) × (nat_eq by 0 ≡ true))
just_one zero a count low = inr (none_ones (λ client. 0 == suc client) a 0 count (λ client up down. nat_eq_below 0 (suc client) (omega arith)), refl)
just_one (suc client) a count low = inl (one_of_them (suc client) a 0 count client refl (omega arith) (omega (arith, low)), nat_eq_above (suc client) 0 (omega arith))

-- what the drawers have at a stamp
pub drawers_at : (s start count : ℕ) (log : List Deed) → at_stamp s (drawers start count log) ≡ flat_map (λ client. at_stamp s (answers (suc client) log)) (range_with_len start count)
drawers_at s start zero log = refl
drawers_at s start (suc count) log =
    filter-append (λ (a : Answer). a.stamp == s) (answers (suc start) log) (drawers (start + 1) count log) ∙ ap (λ rest. at_stamp s (answers (suc start) log) ++ rest) (drawers_at s (start + 1) count log)

pub drawers_last : (count : ℕ) (deed : Deed) (earlier : List Deed)
    → at_stamp (length earlier) (drawers 0 count (deed ∷ earlier)) ≡ ones (λ client. deed.by == suc client) (answer_to deed (length earlier)) 0 count
drawers_last count deed earlier =
    drawers_at (length earlier) 0 count (deed ∷ earlier)
    ∙ flat_range_alike (λ client. at_stamp (length earlier) (answers (suc client) (deed ∷ earlier))) (λ client. own (deed.by == suc client) (answer_to deed (length earlier))) 0 count (λ client h. at_last (suc client) deed earlier)

pub drawers_earlier : (s count : ℕ) (deed : Deed) (earlier : List Deed) → s < length earlier → at_stamp s (drawers 0 count (deed ∷ earlier)) ≡ at_stamp s (drawers 0 count earlier)
drawers_earlier s count deed earlier less =
    drawers_at s 0 count (deed ∷ earlier)
    ∙ flat_range_alike (λ client. at_stamp s (answers (suc client) (deed ∷ earlier))) (λ client. at_stamp s (answers (suc client) earlier)) 0 count (λ client h. at_earlier (suc client) s deed earlier less)
    ∙ sym (drawers_at s 0 count earlier)

-- how many answers there are
drawers_long : (start count : ℕ) (deed : Deed) (earlier : List Deed)
    → length (drawers start count (deed ∷ earlier)) ≡ length (drawers start count earlier) + length (ones (λ client. deed.by == suc client) (answer_to deed (length earlier)) start count)
drawers_long start zero deed earlier = refl
drawers_long start (suc count) deed earlier =
    let a = answers (suc start) earlier in
    let o = own (deed.by == suc start) (answer_to deed (length earlier)) in
    let rest = drawers_long (start + 1) count deed earlier in
    let one = length-append (a ++ o) (drawers (start + 1) count (deed ∷ earlier)) in
    let two = length-append a o in
    let three = length-append a (drawers (start + 1) count earlier) in
    let four = length-append o (ones (λ client. deed.by == suc client) (answer_to deed (length earlier)) (start + 1) count) in
    omega (arith, rest, one, two, three, four)

-- all answers, those of the giver last
abbrev pub everyone : ℕ → List Deed → List Answer
everyone count log = drawers 0 count log ++ answers 0 log

abbrev pub IsEnd : ℕ → Deed → Type 0
IsEnd count deed = deed.by ≤ count

pub as_many : (count : ℕ) (log : List Deed) → AllByRecursion (IsEnd count) log → length (everyone count log) ≡ length log
as_many count [] ends = let none = none_at_all 0 count in let all = length-append (drawers 0 count []) [] in omega (arith, none, all)
  where
    none_at_all : (start count : ℕ) → length (drawers start count []) ≡ 0
    none_at_all start zero = refl
    none_at_all start (suc count) = none_at_all (start + 1) count
as_many count (deed ∷ earlier) ends =
    let a = answer_to deed (length earlier) in
    let rest = as_many count earlier ends.1 in
    let before = length-append (drawers 0 count earlier) (answers 0 earlier) in
    let now = length-append (drawers 0 count (deed ∷ earlier)) (answers 0 (deed ∷ earlier)) in
    let drawn = drawers_long 0 count deed earlier in
    let given = length-append (answers 0 earlier) (own (deed.by == 0) a) in
    let one = counted (just_one deed.by a count ends.0) in
    omega (arith, rest, before, now, drawn, given, one)
  where
    counted : ((ones (λ client. deed.by == suc client) (answer_to deed (length earlier)) 0 count ≡ answer_to deed (length earlier) ∷ []) × (nat_eq deed.by 0 ≡ false))
        ⊎ ((ones (λ client. deed.by == suc client) (answer_to deed (length earlier)) 0 count ≡ []) × (nat_eq deed.by 0 ≡ true))
        → length (ones (λ client. deed.by == suc client) (answer_to deed (length earlier)) 0 count) + length (own (deed.by == 0) (answer_to deed (length earlier))) ≡ 1
    counted (inl both) = let a = ap length both.0 in let b = ap (λ t. length (own t (answer_to deed (length earlier)))) both.1 in omega (arith, a, b)
    counted (inr both) = let a = ap length both.0 in let b = ap (λ t. length (own t (answer_to deed (length earlier)))) both.1 in omega (arith, a, b)

-- at each place stands one
pub one_at : (count : ℕ) (log : List Deed) → AllByRecursion (IsEnd count) log → (s : ℕ) → s < length log → length (at_stamp s (everyone count log)) ≡ 1
one_at count [] ends s low = absurd (omega (arith, low))
one_at count (deed ∷ earlier) ends s low = either (below_or_last s (length earlier) low) (one_at count earlier ends.1 s)
  where
    below_or_last : (s k : ℕ) → s < suc k → (s < k) ⊎ (s ≡ k)
    below_or_last s k low = swap (eq-or-lt_of_le (at_most s k low))
      where
        at_most : (s k : ℕ) → s < suc k → s ≤ k
        at_most s k low = omega (arith, low)

        swap : (s ≡ k) ⊎ (s < k) → (s < k) ⊎ (s ≡ k)
        swap (inl same) = inr same
        swap (inr less) = inl less

    a : Answer
    a = answer_to deed (length earlier)

    last : ((ones (λ client. deed.by == suc client) (answer_to deed (length earlier)) 0 count ≡ answer_to deed (length earlier) ∷ []) × (nat_eq deed.by 0 ≡ false))
        ⊎ ((ones (λ client. deed.by == suc client) (answer_to deed (length earlier)) 0 count ≡ []) × (nat_eq deed.by 0 ≡ true))
        → length (ones (λ client. deed.by == suc client) (answer_to deed (length earlier)) 0 count ++ own (deed.by == 0) (answer_to deed (length earlier))) ≡ 1
    last (inl both) =
        ap (λ front. length (front ++ own (deed.by == 0) (answer_to deed (length earlier)))) both.0 ∙ ap (λ t. length (answer_to deed (length earlier) ∷ own t (answer_to deed (length earlier)))) both.1
    last (inr both) = ap (λ front. length (front ++ own (deed.by == 0) (answer_to deed (length earlier)))) both.0 ∙ ap (λ t. length (own t (answer_to deed (length earlier)))) both.1

    either : (s < length earlier) ⊎ (s ≡ length earlier) → (s < length earlier → length (at_stamp s (everyone count earlier)) ≡ 1) → length (at_stamp s (everyone count (deed ∷ earlier))) ≡ 1
    either (inl less) on =
        ap length
        (filter-append (λ (a : Answer). a.stamp == s) (drawers 0 count (deed ∷ earlier)) (answers 0 (deed ∷ earlier))
        ∙ ap (λ front. front ++ at_stamp s (answers 0 (deed ∷ earlier))) (drawers_earlier s count deed earlier less)
        ∙ ap (λ back. at_stamp s (drawers 0 count earlier) ++ back) (at_earlier 0 s deed earlier less)
        ∙ sym (filter-append (λ (a : Answer). a.stamp == s) (drawers 0 count earlier) (answers 0 earlier)))
        ∙ on less
    either (inr same) on =
        subst (λ s. length (at_stamp s (everyone count (deed ∷ earlier))) ≡ 1) (sym same)
        (ap length
        (filter-append (λ (a : Answer). a.stamp == length earlier) (drawers 0 count (deed ∷ earlier)) (answers 0 (deed ∷ earlier))
        ∙ ap (λ front. front ++ at_stamp (length earlier) (answers 0 (deed ∷ earlier))) (drawers_last count deed earlier)
        ∙ ap (λ back. ones (λ client. deed.by == suc client) (answer_to deed (length earlier)) 0 count ++ back) (at_last 0 deed earlier))
        ∙ last (just_one deed.by (answer_to deed (length earlier)) count ends.0))
