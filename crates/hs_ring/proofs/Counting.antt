-- What the rule says of the counts, and of the words and slots that a step changes.
use Rattle.std.proofs.Common.{◌≡◌, ◌≢◌, ℕ, zero, suc, ◌+◌, ◌-◌, ◌*◌, ◌%◌, ◌<◌, ◌≤◌, List, [], ◌∷◌, ◌++◌, length, drop, set, get_or, Some, refl, sym, ap, ◌∙◌, subst, ⊎_elim, mod-eq_of_lt, mod-lt, arith}
use Rattle.hs_ring.proofs.Prelude.{some, some-injective, some-ne-none, get_elem?, Option, slice_get, count_by, State, Me, Act, stepped, at_set, elem_push_cases, DRAWN, ONE_DRAW, ONE_GIVE, MOST_AHEAD, MOST_BUFFERS, MOST_DRAWS, Contents, is_missed, is_empty, events_of, drawn_in, given_in, is_any_got, is_any_given, queue_of, drawn_kinds, given_kinds, Plan, View, Facts, published, Knows, Kept, RingRule, left_in, packed, drawn_of, published_of}
use Rattle.atomic_table.specs.Table.{Valid, carried_after}
use Rattle.hs_words.proofs.Deeds.{stamp_is}
use Rattle.hs_words.proofs.Waiting.{few, waiting_length}
use Rattle.hs_ring.specs.Steps.{IsStamp}
use Rattle.hs_ring.proofs.Updates.{left_low}

-- ---- lists

module _ {A : Type 0} where
  pub at_length : (xs : List A) (i : ℕ) (x : A) → get_elem? xs i ≡ some x → i < length xs
  at_length [] i x at = absurd (some-ne-none x (sym at))
  at_length (y ∷ ys) zero x at = omega arith
  at_length (y ∷ ys) (suc i) x at = let less = at_length ys i x at in omega arith

  pub first_there : (xs : List A) → 0 < length xs → (x : A) × (get_elem? xs 0 ≡ some x)
  first_there [] less = absurd (omega arith)
  first_there (x ∷ xs) less = (x, refl)

  pub at_rest : (xs : List A) (i : ℕ) (x : A) → get_elem? (drop 1 xs) i ≡ some x → get_elem? xs (suc i) ≡ some x
  at_rest [] i x at = absurd (some-ne-none x (sym at))
  at_rest (y ∷ ys) i x at = at

pub front_got : (xs : List ℕ) (x : ℕ) → get_elem? xs 0 ≡ some x → slice_get xs 0 ≡ Some x
front_got [] x at = absurd (some-ne-none x (sym at))
front_got (y ∷ ys) x at = ap (λ (z : ℕ). Some z) (some-injective y x at)

-- ---- the word of the counts

-- the lead is within its part of the word
pub record IsLead (p d : ℕ) : Type 0 where
  pub lap : p ≤ d + MOST_BUFFERS
  pub ahead : d ≤ p + MOST_AHEAD

pub drawn_packed : (p d : ℕ) → IsLead p d → drawn_of (packed p d) ≡ d
drawn_packed p d lead = omega (arith, lead.lap, lead.ahead)

pub published_packed : (p d : ℕ) → IsLead p d → published_of (packed p d) ≡ p
published_packed p d lead =
    let first : drawn_of (packed p d) ≡ d = drawn_packed p d lead in
    let second : packed p d % DRAWN ≡ (p + 8388608) - d = omega (arith, lead.lap, lead.ahead) in
    omega (arith, lead.ahead)

pub one_drawn : (p d word : ℕ) → IsLead p d → suc d ≤ MOST_DRAWS → suc d ≤ p + MOST_AHEAD → word ≡ packed p d → (word + ONE_DRAW) % 18446744073709551616 ≡ packed p (suc d)
one_drawn p d word lead few more is =
    let below : word + ONE_DRAW < 18446744073709551616 = omega (arith, lead.lap, lead.ahead) in
    mod-eq_of_lt below ∙ (let e : word + ONE_DRAW ≡ packed p (suc d) = omega (arith, lead.ahead) in e)

pub one_published : (p d word : ℕ) → IsLead p d → d ≤ MOST_DRAWS → word ≡ packed p d → (word + ONE_GIVE) % 18446744073709551616 ≡ packed (suc p) d
one_published p d word lead few is =
    let below : word + ONE_GIVE < 18446744073709551616 = omega (arith, lead.lap, lead.ahead) in
    mod-eq_of_lt below ∙ (let e : word + ONE_GIVE ≡ packed (suc p) d = omega (arith, lead.ahead) in e)

-- ---- the counts of a state

module _ (plan : Plan) (s : State (Option Contents) View) (f : Facts) (k : Kept plan s f) where
  abbrev n : ℕ
  n = plan.buffers

  pub line : length (queue_of n f.log) ≡ published n f.log - drawn_in f.log
  line =
      let waiting = waiting_length n (events_of f.log) k.lawful in
      let draws = drawn_kinds f.log in
      let gives = given_kinds f.log in
      let voids = k.voids in
      balanced (length (queue_of n f.log)) (count_by is_any_got (events_of f.log)) (count_by is_any_given (events_of f.log)) (count_by is_empty (events_of f.log)) (count_by is_missed (events_of f.log))
      n (drawn_in f.log) (given_in f.log) waiting draws gives voids
    where
      balanced : (l g v e m n d o : ℕ) → l + g ≡ n + v → d ≡ g + e → o ≡ v + m → m + (d - (n + o)) ≡ e → l ≡ (n + o) - d
      balanced l g v e m n d o w x y z = omega arith

  pub lap : published n f.log ≤ drawn_in f.log + n
  lap = let l = line in let most = few n (events_of f.log) k.lawful in omega arith

  pub few_drawn : drawn_in f.log ≤ MOST_DRAWS
  few_drawn = omega (arith, k.allowed.life)

  pub lead : IsLead (published n f.log) (drawn_in f.log)
  lead = record { lap = omega (arith, lap, k.within.few); ahead = omega (arith, k.allowed.ahead) }

  pub found_drawn : drawn_of (get_or s.words 0 0) ≡ drawn_in f.log
  found_drawn = ap drawn_of k.counts ∙ drawn_packed (published n f.log) (drawn_in f.log) lead

  pub found_published : published_of (get_or s.words 0 0) ≡ published n f.log
  found_published = ap published_of k.counts ∙ published_packed (published n f.log) (drawn_in f.log) lead

  -- the number of deeds is the stamp that the counts make
  pub found_stamp : (entries : ℕ) → entries ≡ 2 * n → IsStamp entries (get_or s.words 0 0) (length f.log)
  found_stamp entries is = let d = found_drawn in let p = found_published in let both = stamp_is f.log in omega arith

  -- a seat that may draw
  pub one_more_drawn : (id : ℕ) (v : View) → get_elem? s.views id ≡ some v → 1 ≤ left_in v → (get_or s.words 0 0 + ONE_DRAW) % 18446744073709551616 ≡ packed (published n f.log) (suc (drawn_in f.log))
  one_more_drawn id v at some_left =
      let low = left_low s.views id v at in
      one_drawn (published n f.log) (drawn_in f.log) (get_or s.words 0 0) lead (omega (arith, k.allowed.life)) (omega (arith, k.allowed.ahead)) k.counts

  pub one_more_published : (get_or s.words 0 0 + ONE_GIVE) % 18446744073709551616 ≡ packed (suc (published n f.log)) (drawn_in f.log)
  one_more_published = one_published (published n f.log) (drawn_in f.log) (get_or s.words 0 0) lead few_drawn k.counts

  pub entry_below : (number : ℕ) → number % (2 * n) < 2 * n
  entry_below number = mod-lt number (let one = k.within.some_there in omega arith)

-- ---- seats

-- one seat's view is another
pub reseated : (plan : Plan) (f : Facts) (views : List View) (id : ℕ) (w : View) → Knows plan f id w → ((j : ℕ) (v : View) → j ≢ id → get_elem? views j ≡ some v → Knows plan f j v)
    → (j : ℕ) (v : View) → get_elem? (set views id w) j ≡ some v → Knows plan f j v
reseated plan f views id w mine others j v at =
    ⊎_elim (λ (here : (j ≡ id) × (w ≡ v)). subst (λ (x : View). Knows plan f j x) here.1 (subst (λ (i : ℕ). Knows plan f i w) (sym here.0) mine)) (λ (else : (j ≢ id) × (get_elem? views j ≡ some v)). others j v else.0 else.1)
    (at_set views id j w v at)

-- and one more seat
pub seated_too : (plan : Plan) (f : Facts) (views : List View) (w : View) → Knows plan f (length views) w → ((j : ℕ) (v : View) → get_elem? views j ≡ some v → Knows plan f j v)
    → (j : ℕ) (v : View) → get_elem? (views ++ w ∷ []) j ≡ some v → Knows plan f j v
seated_too plan f views w new others j v at =
    ⊎_elim (λ old. others j v old) (λ (last : (j ≡ length views) × (w ≡ v)). subst (λ (x : View). Knows plan f j x) last.1 (subst (λ (i : ℕ). Knows plan f i w) (sym last.0) new)) (elem_push_cases views w v j at)

-- ---- what a step owes

abbrev pub Goes : Plan → State (Option Contents) View → ℕ → ℕ → Me (Option Contents) View → ℕ → (ℕ → Me (Option Contents) View → Type 0) → Type 0
Goes plan s i id me x then =
    (w : View) × (a : Act (Option Contents)) × Valid s.homes me.1 a × RingRule plan (stepped s i x id me.1 w a) × then (get_or s.words i 0) (w, carried_after me.1 a)
