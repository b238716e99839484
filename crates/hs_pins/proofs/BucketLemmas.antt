-- One attempt more: what flows in raises every term of the level alike, and a token that is taken lowers each by one.
use Rattle.std.proofs.Common.{◌≡◌, ℕ, ◌+◌, ◌-◌, ◌*◌, ◌≤◌, max, min, List, [], ◌∷◌, refl, arith, ap, sym, ◌∙◌, subst, Bool, true, false}
use Rattle.hs_pins.proofs.Prelude.{nat_le, TOKEN, Admitted, Limited, BucketState, level_found, attempted}
use Rattle.std.specs.Prelude.{if◌then◌else◌}
use Rattle.std.proofs.lemmas.Bool.{leb-true}
use Rattle.hs_pins.specs.Buckets.{HasAttempted, greatest, least_since, level_at, admitted_of}

-- no term of the level has less than the tokens that it has lost
abbrev pub Covers : ℕ → ℕ → ℕ → ℕ → List ℕ → Type 0
Covers burst rate now taken [] = Unit {0}
Covers burst rate now taken (t ∷ ts) =
    (taken * TOKEN ≤ burst * TOKEN + rate * (now - t)) × (t ≤ now) × Covers burst rate now (taken + 1) ts

times_later : (rate now more t : ℕ) → t ≤ now → rate * (now + more - t) ≡ rate * (now - t) + rate * more
times_later rate now more t h =
    let e : now + more - t ≡ (now - t) + more = omega arith in rw e (omega arith)

term_later : (full before after lost more rest later : ℕ) → after ≡ before + more → lost ≤ full + before → later ≡ min full (rest + more)
    → min (full + after - lost) later ≡ min full (min (full + before - lost) rest + more)
term_later full before after lost more rest later e h r = omega arith

term_taken : (low term taken rest later : ℕ) → min low later ≡ rest - TOKEN
    → min low (min (term - (taken + 1) * TOKEN) later) ≡ min (term - taken * TOKEN) rest - TOKEN
term_taken low term taken rest later e = omega arith

term_covered : (term taken rest : ℕ) → TOKEN ≤ min (term - taken * TOKEN) rest → (taken + 1) * TOKEN ≤ term
term_covered term taken rest h = omega arith

rest_covered : (term rest : ℕ) → TOKEN ≤ min term rest → TOKEN ≤ rest
rest_covered term rest h = omega arith

pub least_since-later : (burst rate now more taken : ℕ) (ts : List ℕ) → Covers burst rate now taken ts
    → least_since burst rate (now + more) taken ts ≡ min (burst * TOKEN) (least_since burst rate now taken ts + rate * more)
least_since-later burst rate now more taken [] h = omega arith
least_since-later burst rate now more taken (t ∷ ts) h =
    term_later (burst * TOKEN) (rate * (now - t)) (rate * (now + more - t)) (taken * TOKEN) (rate * more)
    (least_since burst rate now (taken + 1) ts) (least_since burst rate (now + more) (taken + 1) ts)
    (times_later rate now more t h.1) h.0 (least_since-later burst rate now more (taken + 1) ts h.2)

pub least_since-taken : (burst rate now taken : ℕ) (ts : List ℕ)
    → min (burst * TOKEN - TOKEN) (least_since burst rate now (taken + 1) ts) ≡ least_since burst rate now taken ts - TOKEN
least_since-taken burst rate now taken [] = omega arith
least_since-taken burst rate now taken (t ∷ ts) =
    term_taken (burst * TOKEN - TOKEN) (burst * TOKEN + rate * (now - t)) taken
    (least_since burst rate now (taken + 1) ts) (least_since burst rate now (taken + 1 + 1) ts)
    (least_since-taken burst rate now (taken + 1) ts)

pub least_since-full : (burst rate now taken : ℕ) (ts : List ℕ) → least_since burst rate now taken ts ≤ burst * TOKEN
least_since-full burst rate now taken [] = omega arith
least_since-full burst rate now taken (t ∷ ts) = let h = least_since-full burst rate now (taken + 1) ts in omega arith

covers_later : (burst rate now more taken : ℕ) (ts : List ℕ) → Covers burst rate now taken ts → Covers burst rate (now + more) taken ts
covers_later burst rate now more taken [] h = tt
covers_later burst rate now more taken (t ∷ ts) h = (
  let e = times_later rate now more t h.1 in omega (arith, h.0),
  omega (arith, h.1),
  covers_later burst rate now more (taken + 1) ts h.2,
)

covers_taken : (burst rate now taken : ℕ) (ts : List ℕ) → Covers burst rate now taken ts
    → TOKEN ≤ least_since burst rate now taken ts → Covers burst rate now (taken + 1) ts
covers_taken burst rate now taken [] h level = tt
covers_taken burst rate now taken (t ∷ ts) h level = (
  term_covered (burst * TOKEN + rate * (now - t)) taken (least_since burst rate now (taken + 1) ts) level,
  h.1,
  covers_taken burst rate now (taken + 1) ts h.2
      (rest_covered (burst * TOKEN + rate * (now - t) - taken * TOKEN) (least_since burst rate now (taken + 1) ts) level),
)

covers_either : (burst rate now : ℕ) (ts : List ℕ) (b : Bool) → (b ≡ true → TOKEN ≤ level_at burst rate ts now)
    → Covers burst rate now 1 ts → Covers burst rate now 1 (if b then now ∷ ts else ts)
covers_either burst rate now ts true level h =
    let full = least_since-full burst rate now 1 ts in
    let some = level refl in
    (omega arith, omega arith, covers_taken burst rate now 1 ts h some)
covers_either burst rate now ts false level h = h

-- the latest attempt's moment is the greatest before it and some more
greatest-later : (moment before : ℕ) → max moment before ≡ before + (moment - before)
greatest-later moment before = omega arith

-- every list of attempts leaves terms that are covered
covers_admitted : (burst rate : ℕ) (moments : List ℕ) → Covers burst rate (greatest moments) 1 (admitted_of burst rate moments)
covers_admitted burst rate [] = tt
covers_admitted burst rate (moment ∷ earlier) =
    covers_either burst rate (greatest (moment ∷ earlier)) (admitted_of burst rate earlier)
    (nat_le TOKEN (level_found burst rate earlier moment)) (leb-true TOKEN (level_found burst rate earlier moment))
    (let P : ℕ → Type 0 = λ n. Covers burst rate n 1 (admitted_of burst rate earlier) in
    subst P (sym (greatest-later moment (greatest earlier)))
    (covers_later burst rate (greatest earlier) (moment - greatest earlier) 1 (admitted_of burst rate earlier) (covers_admitted burst rate earlier)))

-- an attempt finds the level that the earlier ones left, and what has flowed in since
pub level_found-flow : (burst rate moment : ℕ) (earlier : List ℕ)
    → level_found burst rate earlier moment
    ≡ min (burst * TOKEN) (level_at burst rate (admitted_of burst rate earlier) (greatest earlier) + rate * (moment - greatest earlier))
level_found-flow burst rate moment earlier =
    rw (greatest-later moment (greatest earlier))
    (least_since-later burst rate (greatest earlier) (moment - greatest earlier) 1 (admitted_of burst rate earlier) (covers_admitted burst rate earlier))

first_taken : (full flowed rest level : ℕ) → flowed ≡ 0 → min (full - TOKEN) rest ≡ level → min (full + flowed - 1 * TOKEN) rest ≡ level
first_taken full flowed rest level e h = omega arith

nothing_flows : (rate now : ℕ) → rate * (now - now) ≡ 0
nothing_flows rate now = let e : now - now ≡ 0 = omega arith in rw e (omega arith)

level_either : (burst rate now : ℕ) (ts : List ℕ) (b : Bool) → level_at burst rate (if b then now ∷ ts else ts) now ≡ (if b then level_at burst rate ts now - TOKEN else level_at burst rate ts now)
level_either burst rate now ts true =
    first_taken (burst * TOKEN) (rate * (now - now)) (least_since burst rate now 2 ts) (least_since burst rate now 1 ts - TOKEN)
    (nothing_flows rate now) (least_since-taken burst rate now 1 ts)
level_either burst rate now ts false = refl

-- the level that an attempt leaves
pub level_left : (burst rate moment : ℕ) (earlier : List ℕ)
    → level_at burst rate (admitted_of burst rate (moment ∷ earlier)) (greatest (moment ∷ earlier))
    ≡ (if nat_le TOKEN (level_found burst rate earlier moment) then level_found burst rate earlier moment - TOKEN else level_found burst rate earlier moment)
level_left burst rate moment earlier =
    level_either burst rate (greatest (moment ∷ earlier)) (admitted_of burst rate earlier) (nat_le TOKEN (level_found burst rate earlier moment))

pub left_if_limited : (burst rate moment level : ℕ) (earlier : List ℕ) → level ≡ level_found burst rate earlier moment → nat_le TOKEN level ≡ false
    → level ≡ level_at burst rate (admitted_of burst rate (moment ∷ earlier)) (greatest (moment ∷ earlier))
left_if_limited burst rate moment level earlier e few =
    let t : nat_le TOKEN (level_found burst rate earlier moment) ≡ false = ap (nat_le TOKEN) (sym e) ∙ few in
    rw level_left (rw t e)

pub left_if_admitted : (burst rate moment level : ℕ) (earlier : List ℕ) → level ≡ level_found burst rate earlier moment → nat_le TOKEN level ≡ true
    → level - TOKEN ≡ level_at burst rate (admitted_of burst rate (moment ∷ earlier)) (greatest (moment ∷ earlier))
left_if_admitted burst rate moment level earlier e some =
    let t : nat_le TOKEN (level_found burst rate earlier moment) ≡ true = ap (nat_le TOKEN) (sym e) ∙ some in
    rw level_left (rw t (ap (λ n. n - TOKEN) e))

pub answer_if_limited : (burst rate moment level : ℕ) (earlier : List ℕ) → level ≡ level_found burst rate earlier moment → nat_le TOKEN level ≡ false
    → Limited level ≡ attempted burst rate earlier moment
answer_if_limited burst rate moment level earlier e few =
    let t : nat_le TOKEN (level_found burst rate earlier moment) ≡ false = ap (nat_le TOKEN) (sym e) ∙ few in
    rw t (ap Limited e)

pub answer_if_admitted : (burst rate moment level : ℕ) (earlier : List ℕ) → level ≡ level_found burst rate earlier moment → nat_le TOKEN level ≡ true
    → Admitted ≡ attempted burst rate earlier moment
answer_if_admitted burst rate moment level earlier e some =
    let t : nat_le TOKEN (level_found burst rate earlier moment) ≡ true = ap (nat_le TOKEN) (sym e) ∙ some in
    rw t refl

-- a bucket that let flow in what had come since its moment stands at the level that the attempt finds
pub refilled : (old : BucketState) (moment level : ℕ) (earlier : List ℕ) → HasAttempted old earlier
    → level ≡ min (old.burst * TOKEN) (old.level + old.rate * (moment - old.moment))
    → level ≡ level_found old.burst old.rate earlier moment
refilled old moment level earlier h e =
    let f = level_found-flow old.burst old.rate moment earlier in
    rw f (rw (← h.level, ← h.moment) e)

-- what has the level that an attempt leaves has taken that attempt
pub takes : (old new : BucketState) (moment : ℕ) (earlier : List ℕ) → HasAttempted old earlier → new.burst ≡ old.burst → new.rate ≡ old.rate
    → new.moment ≡ max moment old.moment
    → new.level ≡ level_at old.burst old.rate (admitted_of old.burst old.rate (moment ∷ earlier)) (greatest (moment ∷ earlier))
    → HasAttempted new (moment ∷ earlier)
takes old new moment earlier h burst rate later level = record {
  moment = later ∙ ap (λ m. max moment m) h.moment;
  level = let P : ℕ → ℕ → Type 0 = λ b r. new.level ≡ level_at b r (admitted_of b r (moment ∷ earlier)) (greatest (moment ∷ earlier)) in
      let Q : ℕ → Type 0 = λ b. P b new.rate in
      subst Q (sym burst) (let R : ℕ → Type 0 = λ r. P old.burst r in subst R (sym rate) level);
}
