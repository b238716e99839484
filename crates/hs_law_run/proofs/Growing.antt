-- A pool with an event more. The event bears the next stamp: wherever it stands among the others, it comes last in the history. A
-- buffer that is out waits nowhere, and nothing happened to it since it was got.
use Rattle.std.proofs.Common.{◌≡◌, ℕ, zero, suc, ◌+◌, ◌<◌, ◌≤◌, Bool, true, false, ◌&&◌, ◌||◌, not, cond, List, [], ◌∷◌, ◌++◌, length, refl, sym, ap, subst, ◌∙◌, Some, None, arith, map, filter, drop, reverse, slice_get, count_by, eqb, eqb-true, eq-eqb, ltb, ltb-true, lt-ltb, append-nil, length-append}
use Rattle.hs_law_run.proofs.Prelude.{AllByRecursion, flat_map, range_with_len, both_true, map-append, reverse-append, filter-append, count_cons, count_append, all_append, all_each, PoolEvent, Got, Empty, Given, is_got, is_given, queue_after, MayFollow, IsHistoryBack, StampedPoolEvent, by_stamp, answers_draw}
use Rattle.hs_words.specs.PoolHistory.{Missed}
use Rattle.std.proofs.lemmas.Bool.{eqb-false}
use Rattle.hs_base.proofs.Counts.{one_of_below, one_if as one}
use Rattle.hs_records.specs.declared.journal.Draw.TheVariants as draws
use Rattle.hs_law_journal.specs.Pooled.{has_buffer, is_touched}

-- what happened, the latest first
abbrev pub events_back : List StampedPoolEvent → List PoolEvent
events_back events = reverse (map (λ (e : StampedPoolEvent). e.event) (by_stamp (λ (e : StampedPoolEvent). e.stamp) (length events) events))

-- and in the order of stamps
abbrev pub history_of : List StampedPoolEvent → List PoolEvent
history_of events = map (λ (e : StampedPoolEvent). e.event) (by_stamp (λ (e : StampedPoolEvent). e.stamp) (length events) events)

abbrev of_stamp : List StampedPoolEvent → ℕ → List StampedPoolEvent
of_stamp events s = filter (λ (e : StampedPoolEvent). eqb e.stamp s) events

abbrev pub IsBelow : ℕ → List StampedPoolEvent → Type 0
IsBelow n events = AllByRecursion (λ (e : StampedPoolEvent). e.stamp < n) events

abbrev pub stamps_of : List StampedPoolEvent → List ℕ
stamps_of events = map (λ (e : StampedPoolEvent). e.stamp) events

abbrev pub waits : ℕ → List ℕ → ℕ
waits buffer queue = count_by (λ b. eqb b buffer) queue

abbrev pub gots : ℕ → List PoolEvent → ℕ
gots buffer events = count_by (is_got buffer) events

abbrev pub gives : ℕ → List PoolEvent → ℕ
gives buffer events = count_by (is_given buffer) events

-- ---- the events of a stamp

none_case : (e : StampedPoolEvent) (kept : List StampedPoolEvent) (n : ℕ) (b : Bool) → eqb e.stamp n ≡ b → e.stamp < n → kept ≡ [] → cond b (e ∷ kept) kept ≡ []
none_case e kept n true same low h = let equal = eqb-true e.stamp n same in absurd (omega (arith, equal, low))
none_case e kept n false same low h = h

none_of : (n : ℕ) (events : List StampedPoolEvent) → IsBelow n events → of_stamp events n ≡ []
none_of n [] all = refl
none_of n (e ∷ events) all = none_case e (of_stamp events n) n (eqb e.stamp n) refl all.0 (none_of n events all.1)

skip_case : (x : StampedPoolEvent) (kept : List StampedPoolEvent) (s n : ℕ) (b : Bool) → eqb x.stamp s ≡ b → x.stamp ≡ n → s < n → cond b (x ∷ kept) kept ≡ kept
skip_case x kept s n true same next low = let equal = eqb-true x.stamp s same in absurd (omega (arith, equal, next, low))
skip_case x kept s n false same next low = refl

flat_more : {A : Type 0} (f : ℕ → List A) (start count : ℕ) → flat_map f (range_with_len start (suc count)) ≡ flat_map f (range_with_len start count) ++ f (start + count)
flat_more f start zero = let here : start ≡ start + 0 = omega arith in append-nil (f start) ∙ ap f here
flat_more {A = A} f start (suc count) =
    let here : start + 1 + count ≡ start + suc count = omega arith in
    ap (λ (rest : List A). f start ++ rest) (flat_more f (start + 1) count)
    ∙ sym (grouped (f start) (flat_map f (range_with_len (start + 1) count)) (f (start + 1 + count)))
    ∙ ap (λ (n : ℕ). flat_map f (range_with_len start (suc count)) ++ f n) here
  where
    grouped : (xs ys zs : List A) → (xs ++ ys) ++ zs ≡ xs ++ (ys ++ zs)
    grouped [] ys zs = refl
    grouped (x ∷ xs) ys zs = ap (λ (rest : List A). x ∷ rest) (grouped xs ys zs)

module _ (a b : List StampedPoolEvent) (event : PoolEvent) where
  -- the events before, and the one more
  abbrev pub before : List StampedPoolEvent
  before = a ++ b

  abbrev pub next : StampedPoolEvent
  next = record { stamp = length before; event = event }

  abbrev pub after : List StampedPoolEvent
  after = a ++ next ∷ b

  pub longer : length after ≡ suc (length before)
  longer =
      let one = length-append a (next ∷ b) in
      let two = length-append a b in
      omega (arith, one, two)

  same_below : (s : ℕ) → s < length before → of_stamp after s ≡ of_stamp before s
  same_below s low =
      filter-append (λ (e : StampedPoolEvent). eqb e.stamp s) a (next ∷ b)
      ∙ ap (λ (rest : List StampedPoolEvent). of_stamp a s ++ rest) (skip_case next (of_stamp b s) s (length before) (eqb (length before) s) refl refl low)
      ∙ sym (filter-append (λ (e : StampedPoolEvent). eqb e.stamp s) a b)

  flat_same : (start count : ℕ) → start + count ≤ length before → flat_map (of_stamp after) (range_with_len start count) ≡ flat_map (of_stamp before) (range_with_len start count)
  flat_same start zero low = refl
  flat_same start (suc count) low =
      ap (λ (front : List StampedPoolEvent). front ++ flat_map (of_stamp after) (range_with_len (start + 1) count)) (same_below start (omega (arith, low)))
      ∙ ap (λ (rest : List StampedPoolEvent). of_stamp before start ++ rest) (flat_same (start + 1) count (omega (arith, low)))

  module _ (low : IsBelow (length before) before) where
    below_parts : (xs ys : List StampedPoolEvent) (n : ℕ) → IsBelow n (xs ++ ys) → IsBelow n xs × IsBelow n ys
    below_parts [] ys n all = (tt, all)
    below_parts (x ∷ xs) ys n all = let rest = below_parts xs ys n all.1 in ((all.0, rest.0), rest.1)

    at_next : of_stamp after (length before) ≡ next ∷ []
    at_next =
        let parts = below_parts a b (length before) low in
        filter-append (λ (e : StampedPoolEvent). eqb e.stamp (length before)) a (next ∷ b)
        ∙ ap (λ (front : List StampedPoolEvent). front ++ cond (eqb (length before) (length before)) (next ∷ of_stamp b (length before)) (of_stamp b (length before))) (none_of (length before) a parts.0)
        ∙ ap (λ c. cond c (next ∷ of_stamp b (length before)) (of_stamp b (length before))) (eq-eqb (length before) (length before) refl)
        ∙ ap (λ (rest : List StampedPoolEvent). next ∷ rest) (none_of (length before) b parts.1)

    -- it comes last
    pub comes_last : by_stamp (λ (e : StampedPoolEvent). e.stamp) (length after) after ≡ by_stamp (λ (e : StampedPoolEvent). e.stamp) (length before) before ++ next ∷ []
    comes_last =
        let zeroth : 0 + length before ≡ length before = omega arith in
        ap (λ (n : ℕ). flat_map (of_stamp after) (range_with_len 0 n)) longer
        ∙ flat_more (of_stamp after) 0 (length before)
        ∙ ap (λ (front : List StampedPoolEvent). front ++ of_stamp after (0 + length before)) (flat_same 0 (length before) (omega arith))
        ∙ ap (λ (rest : List StampedPoolEvent). flat_map (of_stamp before) (range_with_len 0 (length before)) ++ rest) (ap (of_stamp after) zeroth ∙ at_next)

    pub back : events_back after ≡ event ∷ events_back before
    back =
        let ordered = by_stamp (λ (e : StampedPoolEvent). e.stamp) (length before) before in
        ap (λ (all : List StampedPoolEvent). reverse (map (λ (e : StampedPoolEvent). e.event) all)) comes_last
        ∙ ap reverse (map-append (λ (e : StampedPoolEvent). e.event) ordered (next ∷ []))
        ∙ reverse-append (map (λ (e : StampedPoolEvent). e.event) ordered) (event ∷ [])

    below_all : IsBelow (length after) after
    below_all =
        let parts = below_parts a b (length before) low in
        let here : length before < length after = omega (arith, longer) in
        let up : (e : StampedPoolEvent) → e.stamp < length before → e.stamp < length after = λ e h. omega (arith, h, longer) in
        all_append (λ (e : StampedPoolEvent). e.stamp < length after) a (next ∷ b)
        (all_each (λ (e : StampedPoolEvent). e.stamp < length before) (λ (e : StampedPoolEvent). e.stamp < length after) a up parts.0)
        (here, all_each (λ (e : StampedPoolEvent). e.stamp < length before) (λ (e : StampedPoolEvent). e.stamp < length after) b up parts.1)

-- ---- pools

-- The stamps number the events, which are a history; no buffer waits twice, and none was given more often than got.
pub record IsPooled (n : ℕ) (events : List StampedPoolEvent) : Type 0 where
  pub low : IsBelow (length events) events
  pub each : (s : ℕ) → s < length events → count_by (λ t. eqb t s) (stamps_of events) ≡ 1
  pub history : IsHistoryBack n (events_back events)
  pub once : (buffer : ℕ) → waits buffer (queue_after n (events_back events)) ≤ 1
  pub owed : (buffer : ℕ) → gives buffer (events_back events) ≤ gots buffer (events_back events)
  pub count : length (events_back events) ≡ length events

-- The buffer that was got at this stamp is out: it does not wait, and nothing happened to it since.
pub record IsOut (n : ℕ) (events : List StampedPoolEvent) (buffer stamp : ℕ) : Type 0 where
  pub away : waits buffer (queue_after n (events_back events)) ≡ 0
  pub owed : gives buffer (events_back events) < gots buffer (events_back events)
  pub last : AllByRecursion (λ (e : StampedPoolEvent). has_buffer buffer e.event ≡ true → e.stamp ≤ stamp) events

-- The buffer that was got at one stamp was given at another one, and nothing happened to it in between.
pub record IsAnswered (events : List StampedPoolEvent) (buffer from to : ℕ) : Type 0 where
  pub later : from < to
  pub past : to < length events
  pub untouched : AllByRecursion (λ (e : StampedPoolEvent). has_buffer buffer e.event ≡ true → from < e.stamp → e.stamp < to → ⊥) events

module _ (n : ℕ) (a b : List StampedPoolEvent) (event : PoolEvent) (p : IsPooled n (before a b event)) where
  abbrev was : List StampedPoolEvent
  was = before a b event

  abbrev now : List StampedPoolEvent
  now = after a b event

  abbrev events : List PoolEvent
  events = events_back was

  abbrev queue : List ℕ
  queue = queue_after n events

  got_more : (buffer : ℕ) → gots buffer (event ∷ events) ≡ one (is_got buffer event) + gots buffer events
  got_more buffer = count_cons (is_got buffer) event events

  give_more : (buffer : ℕ) → gives buffer (event ∷ events) ≡ one (is_given buffer event) + gives buffer events
  give_more buffer = count_cons (is_given buffer) event events

  insert_all : (P : StampedPoolEvent → Type 0) → AllByRecursion P was → P (next a b event) → AllByRecursion P now
  insert_all P all here = go a all
    where
      go : (xs : List StampedPoolEvent) → AllByRecursion P (xs ++ b) → AllByRecursion P (xs ++ next a b event ∷ b)
      go [] all = (here, all)
      go (x ∷ xs) all = (all.0, go xs all.1)

  count_now : (s : ℕ) → count_by (λ t. eqb t s) (stamps_of now) ≡ one (eqb (length was) s) + count_by (λ t. eqb t s) (stamps_of was)
  count_now s =
      let whole = ap (count_by (λ t. eqb t s)) (map-append (λ (e : StampedPoolEvent). e.stamp) a (next a b event ∷ b)) in
      let parts = ap (count_by (λ t. eqb t s)) (map-append (λ (e : StampedPoolEvent). e.stamp) a b) in
      let one_by = count_append (λ t. eqb t s) (stamps_of a) (length was ∷ stamps_of b) in
      let two_by = count_append (λ t. eqb t s) (stamps_of a) (stamps_of b) in
      let first = count_cons (λ t. eqb t s) (length was) (stamps_of b) in
      omega (arith, whole, parts, one_by, two_by, first)

  no_stamp : (es : List StampedPoolEvent) (s : ℕ) → IsBelow s es → count_by (λ t. eqb t s) (stamps_of es) ≡ 0
  no_stamp [] s all = refl
  no_stamp (e ∷ es) s all =
      let first = count_cons (λ t. eqb t s) e.stamp (stamps_of es) in
      let here = no_case (eqb e.stamp s) refl in
      let rest = no_stamp es s all.1 in
      omega (arith, first, here, rest)
    where
      no_case : (c : Bool) → eqb e.stamp s ≡ c → one c ≡ 0
      no_case true same = let equal = eqb-true e.stamp s same in let low = all.0 in absurd (omega (arith, equal, low))
      no_case false same = refl

  each_now : (s : ℕ) → s < length now → count_by (λ t. eqb t s) (stamps_of now) ≡ 1
  each_now s low = each_case (eqb (length was) s) refl
    where
      each_case : (c : Bool) → eqb (length was) s ≡ c → count_by (λ t. eqb t s) (stamps_of now) ≡ 1
      each_case true same =
          let equal = eqb-true (length was) s same in
          let count = count_now s in
          let here = ap one same in
          let none = subst (λ (s : ℕ). count_by (λ t. eqb t s) (stamps_of was) ≡ 0) equal (no_stamp was (length was) p.low) in
          omega (arith, count, here, none)
      each_case false same =
          let count = count_now s in
          let here = ap one same in
          let long = longer a b event in
          let ne = eqb-false (length was) s same in
          let other = p.each s (omega (arith, low, long, ne)) in
          omega (arith, count, here, other)

  pub kept : MayFollow n events event → ((buffer : ℕ) → waits buffer (queue_after n (event ∷ events)) ≤ 1) → ((buffer : ℕ) → gives buffer (event ∷ events) ≤ gots buffer (event ∷ events)) → IsPooled n now
  kept may once owed =
      let is = back a b event p.low in
      let all = ap length is in
      let long = longer a b event in
      let count = p.count in
      record {
        low = below_all a b event p.low;
        count = omega (arith, all, long, count);
        each = each_now;
        history = subst (IsHistoryBack n) (sym is) (p.history, may);
        once = subst (λ (es : List PoolEvent). (buffer : ℕ) → waits buffer (queue_after n es) ≤ 1) (sym is) once;
        owed = subst (λ (es : List PoolEvent). (buffer : ℕ) → gives buffer es ≤ gots buffer es) (sym is) owed;
      }

  -- what was answered stays so
  pub answered : (buffer from to : ℕ) → IsAnswered was buffer from to → IsAnswered now buffer from to
  answered buffer from to h =
      let long = longer a b event in
      let past = h.past in
      record {
        later = h.later;
        past = omega (arith, long, past);
        untouched = insert_all (λ (e : StampedPoolEvent). has_buffer buffer e.event ≡ true → from < e.stamp → e.stamp < to → ⊥) h.untouched (λ own above below. omega (arith, below, past));
      }

  -- what is out stays so, where the event is another buffer's
  pub still_out : (buffer stamp : ℕ) → IsOut n was buffer stamp → waits buffer (queue_after n (event ∷ events)) ≡ 0 → has_buffer buffer event ≡ false → IsOut n now buffer stamp
  still_out buffer stamp out away other =
      let is = back a b event p.low in
      let got = got_more buffer in
      let given = give_more buffer in
      let no_got = ap one (none_got event other) in
      let no_give = ap one (none_given event other) in
      let was_owed = out.owed in
      record {
        away = subst (λ (es : List PoolEvent). waits buffer (queue_after n es) ≡ 0) (sym is) away;
        owed = subst (λ (es : List PoolEvent). gives buffer es < gots buffer es) (sym is) (omega (arith, got, given, no_got, no_give, was_owed));
        last = insert_all (λ (e : StampedPoolEvent). has_buffer buffer e.event ≡ true → e.stamp ≤ stamp) out.last (λ own. let no : true ≡ false = sym own ∙ other in absurd cc);
      }
    where
      none_got : (event : PoolEvent) → has_buffer buffer event ≡ false → is_got buffer event ≡ false
      none_got (Got c) h = h
      none_got Empty h = refl
      none_got (Given c) h = refl
      none_got Missed h = refl

      none_given : (event : PoolEvent) → has_buffer buffer event ≡ false → is_given buffer event ≡ false
      none_given (Got c) h = refl
      none_given Empty h = refl
      none_given (Given c) h = h
      none_given Missed h = refl

-- ---- nothing happened yet

module _ (buffer : ℕ) where
  none_below : (start count : ℕ) → buffer < start → waits buffer (range_with_len start count) ≡ 0
  none_below start zero low = refl
  none_below start (suc count) low =
      let first = count_cons (λ b. eqb b buffer) start (range_with_len (start + 1) count) in
      let none = one_of_below buffer start (eqb start buffer) refl low in
      let rest = none_below (start + 1) count (omega (arith, low)) in
      omega (arith, first, none, rest)

  once_case_above : (start count : ℕ) (b : Bool) → eqb start buffer ≡ b → waits buffer (range_with_len (start + 1) count) ≤ 1 → one b + waits buffer (range_with_len (start + 1) count) ≤ 1
  once_case_above start count true same few =
      let e = eqb-true start buffer same in
      let none = none_below (start + 1) count (omega (arith, e)) in
      omega (arith, none)
  once_case_above start count false same few = omega (arith, few)

  once_there : (start count : ℕ) → waits buffer (range_with_len start count) ≤ 1
  once_there start zero = omega arith
  once_there start (suc count) =
      let first = count_cons (λ b. eqb b buffer) start (range_with_len (start + 1) count) in
      let case = once_case_above start count (eqb start buffer) refl (once_there (start + 1) count) in
      omega (arith, first, case)

pub none_pooled : (n : ℕ) → IsPooled n []
none_pooled n =
    record {
      low = tt;
      each = λ s h. absurd (omega (arith, h));
      history = tt;
      once = λ buffer. once_there buffer 0 n;
      owed = λ buffer. omega arith;
      count = refl;
    }

-- ---- a draw

waits_front : (buffer : ℕ) (queue : List ℕ) (front : ℕ) → slice_get queue 0 ≡ Some front → waits buffer queue ≡ one (eqb front buffer) + waits buffer (drop 1 queue)
waits_front buffer [] front h = let no : None ≡ Some front = h in absurd cc
waits_front buffer (b ∷ queue) front h =
    let same : b ≡ front = cc in count_cons (λ b. eqb b buffer) b queue ∙ ap (λ (f : ℕ). one (eqb f buffer) + waits buffer queue) same

false_of : (b : Bool) → one b ≡ 0 → b ≡ false
false_of true h = absurd (omega (arith, h))
false_of false h = refl

module _ (n : ℕ) (a b : List StampedPoolEvent) (buffer : ℕ) (p : IsPooled n (before a b (Got buffer))) (front : slice_get (queue_after n (events_back (before a b (Got buffer)))) 0 ≡ Some buffer) where
  abbrev was_got : List StampedPoolEvent
  was_got = before a b (Got buffer)

  abbrev past_got : List PoolEvent
  past_got = events_back was_got

  pub got_kept : IsPooled n (after a b (Got buffer))
  got_kept =
      kept n a b (Got buffer) p front
      (λ c. let q = waits_front c (queue_after n past_got) buffer front in let few = p.once c in omega (arith, q, few))
      (λ c. let got = got_more n a b (Got buffer) p c in let given = give_more n a b (Got buffer) p c in let few = p.owed c in omega (arith, got, given, few))

  -- the buffer is out then
  pub got_out : IsOut n (after a b (Got buffer)) buffer (length was_got)
  got_out =
      let is = back a b (Got buffer) p.low in
      let q = waits_front buffer (queue_after n past_got) buffer front in
      let own = ap one (eq-eqb buffer buffer refl) in
      let few = p.once buffer in
      let got = got_more n a b (Got buffer) p buffer in
      let given = give_more n a b (Got buffer) p buffer in
      let owed = p.owed buffer in
      record {
        away = subst (λ (es : List PoolEvent). waits buffer (queue_after n es) ≡ 0) (sym is) (omega (arith, q, own, few));
        owed = subst (λ (es : List PoolEvent). gives buffer es < gots buffer es) (sym is) (omega (arith, got, given, own, owed));
        last =
            insert_all n a b (Got buffer) p (λ (e : StampedPoolEvent). has_buffer buffer e.event ≡ true → e.stamp ≤ length was_got)
            (all_each (λ (e : StampedPoolEvent). e.stamp < length was_got) (λ (e : StampedPoolEvent). has_buffer buffer e.event ≡ true → e.stamp ≤ length was_got) was_got (λ e low own. omega (arith, low)) p.low)
            (λ own. omega arith);
      }

  pub got_stays : (c stamp : ℕ) → IsOut n was_got c stamp → IsOut n (after a b (Got buffer)) c stamp
  got_stays c stamp out =
      let q = waits_front c (queue_after n past_got) buffer front in
      let away = out.away in
      still_out n a b (Got buffer) p c stamp out (omega (arith, q, away)) (false_of (eqb buffer c) (omega (arith, q, away)))

module _ (n : ℕ) (a b : List StampedPoolEvent) (p : IsPooled n (before a b Empty)) (none : queue_after n (events_back (before a b Empty)) ≡ []) where
  pub empty_kept : IsPooled n (after a b Empty)
  empty_kept =
      kept n a b Empty p none p.once
      (λ c. let got = got_more n a b Empty p c in let given = give_more n a b Empty p c in let few = p.owed c in omega (arith, got, given, few))

  pub empty_stays : (c stamp : ℕ) → IsOut n (before a b Empty) c stamp → IsOut n (after a b Empty) c stamp
  empty_stays c stamp out = still_out n a b Empty p c stamp out out.away refl

-- ---- a give

module _ (n : ℕ) (a b : List StampedPoolEvent) (buffer stamp : ℕ) (p : IsPooled n (before a b (Given buffer))) (out : IsOut n (before a b (Given buffer)) buffer stamp) where
  abbrev was_given : List StampedPoolEvent
  was_given = before a b (Given buffer)

  abbrev past_given : List PoolEvent
  past_given = events_back was_given

  waits_back : (c : ℕ) → waits c (queue_after n past_given ++ buffer ∷ []) ≡ waits c (queue_after n past_given) + one (eqb buffer c)
  waits_back c =
      let both = count_append (λ b. eqb b c) (queue_after n past_given) (buffer ∷ []) in
      let last = count_cons (λ b. eqb b c) buffer [] in
      omega (arith, both, last)

  pub given_kept : IsPooled n (after a b (Given buffer))
  given_kept = kept n a b (Given buffer) p out.owed (λ c. once_case c (eqb buffer c) refl) (λ c. owed_case c (eqb buffer c) refl)
    where
      once_case : (c : ℕ) (same : Bool) → eqb buffer c ≡ same → waits c (queue_after n past_given ++ buffer ∷ []) ≤ 1
      once_case c true e =
          let q = waits_back c in
          let here = ap one e in
          let away = subst (λ (k : ℕ). waits k (queue_after n past_given) ≡ 0) (eqb-true buffer c e) out.away in
          omega (arith, q, here, away)
      once_case c false e =
          let q = waits_back c in
          let here = ap one e in
          let few = p.once c in
          omega (arith, q, here, few)

      owed_case : (c : ℕ) (same : Bool) → eqb buffer c ≡ same → gives c (Given buffer ∷ past_given) ≤ gots c (Given buffer ∷ past_given)
      owed_case c true e =
          let got = got_more n a b (Given buffer) p c in
          let given = give_more n a b (Given buffer) p c in
          let here = ap one e in
          let less = subst (λ (k : ℕ). gives k past_given < gots k past_given) (eqb-true buffer c e) out.owed in
          omega (arith, got, given, here, less)
      owed_case c false e =
          let got = got_more n a b (Given buffer) p c in
          let given = give_more n a b (Given buffer) p c in
          let here = ap one e in
          let few = p.owed c in
          omega (arith, got, given, here, few)

  -- the give answers the draw
  pub given_answers : stamp < length was_given → IsAnswered (after a b (Given buffer)) buffer stamp (length was_given)
  given_answers low =
      let long = longer a b (Given buffer) in
      record {
        later = low;
        past = omega (arith, long);
        untouched =
            insert_all n a b (Given buffer) p (λ (e : StampedPoolEvent). has_buffer buffer e.event ≡ true → stamp < e.stamp → e.stamp < length was_given → ⊥)
            (all_each (λ (e : StampedPoolEvent). has_buffer buffer e.event ≡ true → e.stamp ≤ stamp) (λ (e : StampedPoolEvent). has_buffer buffer e.event ≡ true → stamp < e.stamp → e.stamp < length was_given → ⊥) was_given
            (λ e last own above below. let most = last own in omega (arith, most, above)) out.last)
            (λ own above below. omega (arith, below));
      }

  -- what is out beside it stays so
  pub given_stays : (c other : ℕ) → eqb buffer c ≡ false → IsOut n was_given c other → IsOut n (after a b (Given buffer)) c other
  given_stays c other ne o =
      let q = waits_back c in
      let here = ap one ne in
      let away = o.away in
      still_out n a b (Given buffer) p c other o (omega (arith, q, here, away)) ne

-- ---- the test of an answer

and_last : (x y : Bool) → (x && y && false) ≡ false
and_last true true = refl
and_last true false = refl
and_last false y = refl

and_middle : (x z : Bool) → (x && false && z) ≡ false
and_middle true z = refl
and_middle false z = refl

untouched_one : (buffer from to : ℕ) (e : StampedPoolEvent) (x y z : Bool) → has_buffer buffer e.event ≡ x → ltb from e.stamp ≡ y → ltb e.stamp to ≡ z → (has_buffer buffer e.event ≡ true → from < e.stamp → e.stamp < to → ⊥)
    → (has_buffer buffer e.event && ltb from e.stamp && ltb e.stamp to) ≡ false
untouched_one buffer from to e true true true own above below never = absurd (never own (ltb-true from e.stamp above) (ltb-true e.stamp to below))
untouched_one buffer from to e x y false own above below never = ap (λ c. has_buffer buffer e.event && ltb from e.stamp && c) below ∙ and_last (has_buffer buffer e.event) (ltb from e.stamp)
untouched_one buffer from to e x false z own above below never = ap (λ c. has_buffer buffer e.event && c && ltb e.stamp to) above ∙ and_middle (has_buffer buffer e.event) (ltb e.stamp to)
untouched_one buffer from to e false y z own above below never = ap (λ c. c && ltb from e.stamp && ltb e.stamp to) own

untouched_none : (buffer from to : ℕ) (all : List StampedPoolEvent) → AllByRecursion (λ (e : StampedPoolEvent). has_buffer buffer e.event ≡ true → from < e.stamp → e.stamp < to → ⊥) all → is_touched all buffer from to ≡ false
untouched_none buffer from to [] each = refl
untouched_none buffer from to (e ∷ all) each =
    ap (λ c. c || is_touched all buffer from to) (untouched_one buffer from to e (has_buffer buffer e.event) (ltb from e.stamp) (ltb e.stamp to) refl refl refl each.0)
    ∙ untouched_none buffer from to all each.1

pub answer_passes : (all : List StampedPoolEvent) (buffer from to : ℕ) → IsAnswered all buffer from to → answers_draw all to (draws.Got buffer from) ≡ true
answer_passes all buffer from to h = both_true (lt-ltb from to h.later) (ap not (untouched_none buffer from to all h.untouched))
