-- A replayed pool, one event on.
use Rattle.std.proofs.Common.{◌≡◌, ℕ, zero, suc, ◌+◌, ◌-◌, ◌<◌, ◌≤◌, true, false, eqb, ltb, List, [], ◌∷◌, ◌++◌, length, drop, set, get_or, replicate, refl, sym, ap, ◌∙◌, inl, inr, arith}
use Rattle.hs_check_follow.proofs.Prelude.{count_by, slice_get, AllByRecursion, range_with_len, option_map_or, eq-eqb, ne_eqb, lt-ltb, le-ltb, cases_eq, and_left, and_from, and_right, drop_more, drop_all, length-set, get_or-set_same, get_or-set_other, length-range_with_len, count_by-le-length, one_if, count_cons, range_append, all_append, PoolEvent, Got, may_follow, ReplayStands}
use Rattle.std.proofs.lemmas.List.{drop-append-le, length_push, get_or-replicate, length-replicate}
use Rattle.hs_words.specs.PoolHistory.{Empty, Given, Missed, is_got, is_given, is_empty, is_missed, queue_after}

low_at : (n : ℕ) (xs : List ℕ) (i : ℕ) → AllByRecursion (λ b. b < n) xs → i < length xs → get_or xs i 0 < n
low_at n [] i all less = absurd (omega arith)
low_at n (x ∷ xs) zero all less = all.0
low_at n (x ∷ xs) (suc i) all less = low_at n xs i all.1 (omega arith)

range_low : (n a m : ℕ) → a + m ≤ n → AllByRecursion (λ b. b < n) (range_with_len a m)
range_low n a zero few = tt
range_low n a (suc m) few = (omega arith, range_low n (a + 1) m (omega arith))

first_counts : (n buffer : ℕ) → buffer < n → get_or (replicate n 0) buffer 0 + count_by (is_given buffer) [] ≡ count_by (is_got buffer) []
first_counts n buffer low = let e : get_or {A = ℕ} (replicate n 0) buffer 0 ≡ zero = get_or-replicate n buffer 0 0 low in omega (arith, e)

pub stands_first : (n : ℕ) → ReplayStands n [] (range_with_len 0 n) 0 (replicate n 0) 0
stands_first n =
    record {
      queue = refl;
      behind = omega arith;
      low = range_low n 0 n (omega arith);
      many = length-replicate n 0;
      counts = λ buffer low. first_counts n buffer low;
      never = λ buffer high. refl;
      missing = refl;
    }

module _ (n : ℕ) (earlier : List PoolEvent) (waiting : List ℕ) (gone : ℕ) (out : List ℕ) (owed : ℕ) (stands : ReplayStands n earlier waiting gone out owed) where
  nothing : gone ≡ length waiting → queue_after n earlier ≡ []
  nothing all = sym stands.queue ∙ drop_all gone waiting (omega arith)

  front : gone < length waiting → queue_after n earlier ≡ get_or waiting gone 0 ∷ drop (gone + 1) waiting
  front less = sym stands.queue ∙ drop_more waiting gone 0 less

  -- how often a buffer is out is no more than there were events
  pub out_few : (buffer : ℕ) → buffer < n → get_or out buffer 0 ≤ length earlier
  out_few buffer low = let e = stands.counts buffer low in let few = count_by-le-length (is_got buffer) earlier in omega (arith, e, few)

  pub owed_few : owed ≤ length earlier
  owed_few = let few = count_by-le-length is_empty earlier in omega (arith, stands.missing, few)

  pub front_low : gone < length waiting → get_or waiting gone 0 < n
  front_low less = low_at n waiting gone stands.low less

  -- ---- a draw that got a buffer

  pub got_none : (buffer : ℕ) → gone ≡ length waiting → false ≡ may_follow n earlier (Got buffer)
  got_none buffer all = sym (ap (λ (q : List ℕ). option_map_or (λ first. eqb first buffer) (slice_get q 0) false) (nothing all))

  pub got_is : (buffer : ℕ) → gone < length waiting → eqb (get_or waiting gone 0) buffer ≡ may_follow n earlier (Got buffer)
  got_is buffer less = sym (ap (λ (q : List ℕ). option_map_or (λ first. eqb first buffer) (slice_get q 0) false) (front less))

  pub got : (buffer : ℕ) → gone < length waiting → get_or waiting gone 0 ≡ buffer → ReplayStands n (Got buffer ∷ earlier) waiting (gone + 1) (set out buffer (get_or out buffer 0 + 1)) owed
  got buffer less is =
      let first = front_low less in
      record {
        queue = sym (ap (drop 1) (front less));
        behind = omega arith;
        low = stands.low;
        many = length-set out buffer (get_or out buffer 0 + 1) ∙ stands.many;
        counts = λ other low.
            let a = count_cons (is_given other) (Got buffer) earlier in
            let b = count_cons (is_got other) (Got buffer) earlier in
            let was = stands.counts other low in
            elim (cases_eq other buffer) [
              | inl same ↦
                  (let now : get_or (set out buffer (get_or out buffer 0 + 1)) other 0 ≡ get_or out buffer 0 + 1 =
                  ap (λ k. get_or (set out buffer (get_or out buffer 0 + 1)) k 0) same ∙ get_or-set_same out buffer (get_or out buffer 0 + 1) 0 (omega (arith, is, first, stands.many)) in
                  let one = ap one_if (eq-eqb buffer other (sym same)) in
                  let there = ap (λ k. get_or out k 0) same in
                  omega (arith, a, b, was, now, one, there))
              | inr differ ↦
                  (let now = get_or-set_other out buffer other (get_or out buffer 0 + 1) 0 differ in
                  let none = ap one_if (ne_eqb buffer other (λ e. differ (sym e))) in
                  omega (arith, a, b, was, now, none))
            ];
        never = λ other high.
            let b = count_cons (is_got other) (Got buffer) earlier in
            let none = ap one_if (ne_eqb buffer other (λ e. omega (arith, e, is, first, high))) in
            let was = stands.never other high in
            omega (arith, b, none, was);
        missing = (let a = count_cons is_missed (Got buffer) earlier in let b = count_cons is_empty (Got buffer) earlier in omega (arith, a, b, stands.missing));
      }

  -- ---- a draw that found nothing

  pub found_some : gone < length waiting → false ≡ may_follow n earlier Empty
  found_some less = sym (ap (λ (q : List ℕ). eqb (length q) 0) (front less) ∙ ne_eqb (suc (length (drop (gone + 1) waiting))) 0 (λ e. omega (arith, e)))

  pub found_none : gone ≡ length waiting → true ≡ may_follow n earlier Empty
  found_none all = sym (ap (λ (q : List ℕ). eqb (length q) 0) (nothing all))

  pub empty : gone ≡ length waiting → ReplayStands n (Empty ∷ earlier) waiting gone out (owed + 1)
  empty all =
      record {
        queue = stands.queue;
        behind = stands.behind;
        low = stands.low;
        many = stands.many;
        counts = λ other low. let a = count_cons (is_given other) Empty earlier in let b = count_cons (is_got other) Empty earlier in let was = stands.counts other low in omega (arith, a, b, was);
        never = λ other high. let b = count_cons (is_got other) Empty earlier in let was = stands.never other high in omega (arith, b, was);
        missing = (let a = count_cons is_missed Empty earlier in let b = count_cons is_empty Empty earlier in omega (arith, a, b, stands.missing));
      }

  -- ---- a give

  pub give_strange : (buffer : ℕ) → n ≤ buffer → false ≡ may_follow n earlier (Given buffer)
  give_strange buffer high = let never = stands.never buffer high in sym (le-ltb (count_by (is_given buffer) earlier) (count_by (is_got buffer) earlier) (omega (arith, never)))

  pub give_again : (buffer : ℕ) → buffer < n → get_or out buffer 0 ≡ 0 → false ≡ may_follow n earlier (Given buffer)
  give_again buffer low none = let e = stands.counts buffer low in sym (le-ltb (count_by (is_given buffer) earlier) (count_by (is_got buffer) earlier) (omega (arith, e, none)))

  pub may_give : (buffer : ℕ) → buffer < n → (get_or out buffer 0 ≡ 0 → ⊥) → true ≡ may_follow n earlier (Given buffer)
  may_give buffer low some = let e = stands.counts buffer low in sym (lt-ltb (count_by (is_given buffer) earlier) (count_by (is_got buffer) earlier) (omega (arith, e, some)))

  pub given : (buffer : ℕ) → buffer < n → (get_or out buffer 0 ≡ 0 → ⊥) → ReplayStands n (Given buffer ∷ earlier) (waiting ++ buffer ∷ []) gone (set out buffer (get_or out buffer 0 - 1)) owed
  given buffer within some =
      record {
        queue = drop-append-le gone waiting (buffer ∷ []) stands.behind ∙ ap (λ (q : List ℕ). q ++ buffer ∷ []) stands.queue;
        behind = (let e = length_push waiting buffer in let was = stands.behind in omega (arith, e, was));
        low = all_append (λ b. b < n) waiting (buffer ∷ []) stands.low (within, tt);
        many = length-set out buffer (get_or out buffer 0 - 1) ∙ stands.many;
        counts = λ other low.
            let a = count_cons (is_given other) (Given buffer) earlier in
            let b = count_cons (is_got other) (Given buffer) earlier in
            let was = stands.counts other low in
            elim (cases_eq other buffer) [
              | inl same ↦
                  (let now : get_or (set out buffer (get_or out buffer 0 - 1)) other 0 ≡ get_or out buffer 0 - 1 =
                  ap (λ k. get_or (set out buffer (get_or out buffer 0 - 1)) k 0) same ∙ get_or-set_same out buffer (get_or out buffer 0 - 1) 0 (omega (arith, within, stands.many)) in
                  let one = ap one_if (eq-eqb buffer other (sym same)) in
                  let there = ap (λ k. get_or out k 0) same in
                  omega (arith, a, b, was, now, one, there, some))
              | inr differ ↦
                  (let now = get_or-set_other out buffer other (get_or out buffer 0 - 1) 0 differ in
                  let none = ap one_if (ne_eqb buffer other (λ e. differ (sym e))) in
                  omega (arith, a, b, was, now, none))
            ];
        never = λ other high. let b = count_cons (is_got other) (Given buffer) earlier in let was = stands.never other high in omega (arith, b, was);
        missing = (let a = count_cons is_missed (Given buffer) earlier in let b = count_cons is_empty (Given buffer) earlier in omega (arith, a, b, stands.missing));
      }

  -- ---- a give that missed

  pub missed_some : gone < length waiting → false ≡ may_follow n earlier Missed
  missed_some less = sym (and_left (eqb (length (queue_after n earlier)) 0) (ltb (count_by is_missed earlier) (count_by is_empty earlier)) (sym (found_some less)))

  pub not_owed : owed ≡ 0 → false ≡ may_follow n earlier Missed
  not_owed none =
      sym (and_right (eqb (length (queue_after n earlier)) 0) (ltb (count_by is_missed earlier) (count_by is_empty earlier)) (le-ltb (count_by is_missed earlier) (count_by is_empty earlier) (omega (arith, stands.missing, none))))

  pub may_miss : gone ≡ length waiting → (owed ≡ 0 → ⊥) → true ≡ may_follow n earlier Missed
  may_miss all some =
      sym (and_from (eqb (length (queue_after n earlier)) 0) (ltb (count_by is_missed earlier) (count_by is_empty earlier)) (sym (found_none all)) (lt-ltb (count_by is_missed earlier) (count_by is_empty earlier) (omega (arith, stands.missing, some))))

  pub missed : gone ≡ length waiting → (owed ≡ 0 → ⊥) → ReplayStands n (Missed ∷ earlier) waiting gone out (owed - 1)
  missed all some =
      record {
        queue = stands.queue;
        behind = stands.behind;
        low = stands.low;
        many = stands.many;
        counts = λ other low. let a = count_cons (is_given other) Missed earlier in let b = count_cons (is_got other) Missed earlier in let was = stands.counts other low in omega (arith, a, b, was);
        never = λ other high. let b = count_cons (is_got other) Missed earlier in let was = stands.never other high in omega (arith, b, was);
        missing = (let a = count_cons is_missed Missed earlier in let b = count_cons is_empty Missed earlier in omega (arith, a, b, stands.missing, some));
      }

pub range_push : (n : ℕ) → range_with_len 0 n ++ n ∷ [] ≡ range_with_len 0 (n + 1)
range_push n = sym (range_append 0 n 1 ∙ ap (λ k. range_with_len 0 n ++ k ∷ []) (omega arith))
