-- Who holds which buffer at a node: each buffer that a client got for a page is out until the chunk of that page is given. A step of
-- the agent keeps this, be it that it takes or that it gives with the next stamp.
use Rattle.std.proofs.Common.{◌≡◌, ◌⊎◌, inl, inr, ℕ, zero, suc, ◌+◌, ◌<◌, ◌≤◌, Bool, true, false, ◌&&◌, List, [], ◌∷◌, ◌++◌, length, refl, sym, ap, subst, ◌∙◌, Option, Some, None, arith, map, filter_map, option_map, slice_get, count_by, eqb, eqb-true, eq-eqb, append_assoc, append-nil, length-append, lt-ltb}
use Rattle.hs_law_run.proofs.Prelude.{AllByRecursion, flat_map, cons_option, option_and_then, both_true, map-append, same_Some, get_front, get_mid, one_if, count_cons, count_append, all_append, all_front, Step, GivenPlace, DrawnPage, stamp_of, Sent, ClientSends, sheet_of, sent_chunks, Sheet, Given, Chunks, taken, takes, StampedPoolEvent, drawn_event, buffer_of, missed_event, step_stamp, log_stamps, rise}
use Rattle.std.proofs.lemmas.List.Elements.{filter_map-append}
use Rattle.hs_base.proofs.Places.{get_behind}
use Rattle.hs_records.specs.declared.journal.Draw.TheVariants as draws
use Rattle.hs_records.specs.declared.journal.Step.TheVariants as steps
use Rattle.hs_law_journal.specs.Pooled.{has_buffer}
use Rattle.hs_law_journal.specs.Shape.{rise_above}
use Rattle.hs_law_run.proofs.Growing.{stamps_of, IsPooled, IsOut, IsAnswered, answered, given_kept, given_answers, given_stays}

-- ---- what happened at the pool

-- the page of a sheet
abbrev pub page_in : List ClientSends → Sheet → Option DrawnPage
page_in sends sheet = option_and_then (λ (s : ClientSends). slice_get s.drawn sheet.header.page) (slice_get sends sheet.header.client.number)

abbrev pub given_as : ℕ → ℕ → StampedPoolEvent
given_as stamp buffer = record { stamp = stamp; event = Given buffer }

-- the give of a chunk, where these pages were taken
abbrev pub event_at : List ClientSends → List Sheet → GivenPlace → Option StampedPoolEvent
event_at sends sheets g = option_map (given_as g.stamp) (option_and_then (λ (d : DrawnPage). buffer_of d.draw) (option_and_then (page_in sends) (slice_get sheets g.place)))

abbrev pub pages_in : List ClientSends → List DrawnPage
pages_in sends = flat_map (λ (s : ClientSends). s.drawn) sends

abbrev pub gives_in : List ClientSends → List Sheet → List GivenPlace → List StampedPoolEvent
gives_in sends sheets given = filter_map (event_at sends sheets) given

abbrev pub events_in : List ClientSends → List Sheet → List GivenPlace → List StampedPoolEvent
events_in sends sheets given = map drawn_event (pages_in sends) ++ gives_in sends sheets given

-- ---- what is held

-- the chunk of a page was given
pub record WasGiven (sheets : List Sheet) (given : List GivenPlace) (client page : ℕ) : Type 0 where
  pub place : ℕ
  pub give : GivenPlace
  pub sheet : Sheet
  pub there : slice_get given place ≡ Some give
  pub is : slice_get sheets give.place ≡ Some sheet
  pub client_is : sheet.header.client.number ≡ client
  pub page_is : sheet.header.page ≡ page

-- a sheet is that of a page with a buffer
pub record IsDrawn (sends : List ClientSends) (sheet : Sheet) : Type 0 where
  pub page : DrawnPage
  pub buffer : ℕ
  pub stamp : ℕ
  pub there : page_in sends sheet ≡ Some page
  pub got : page.draw ≡ draws.Got buffer stamp
  pub is : sheet_of page ≡ sheet

-- a give answers the draw of its chunk's page
pub record GiveAnswers (sends : List ClientSends) (sheets : List Sheet) (given : List GivenPlace) (g : GivenPlace) : Type 0 where
  pub sheet : Sheet
  pub drawn : IsDrawn sends sheet
  pub is : slice_get sheets g.place ≡ Some sheet
  pub answers : IsAnswered (events_in sends sheets given) drawn.buffer drawn.stamp g.stamp

pub record ClientHolds (n : ℕ) (sends : List ClientSends) (sheets : List Sheet) (given : List GivenPlace) (log : List Step) (client : ℕ) (s : ClientSends) : Type 0 where
  pub chunks : s.chunks ≡ sent_chunks s.drawn
  pub numbers : (k : ℕ) (d : DrawnPage) → slice_get s.drawn k ≡ Some d → d.number ≡ k
  pub own : (k : ℕ) (d : DrawnPage) → slice_get s.drawn k ≡ Some d → d.client.number ≡ client
  pub rises : rise (map (λ (d : DrawnPage). stamp_of d.draw) s.drawn) ≡ true
  -- a page with a buffer was given, or its buffer is out
  pub held : (k : ℕ) (d : DrawnPage) (buffer stamp : ℕ) → slice_get s.drawn k ≡ Some d → d.draw ≡ draws.Got buffer stamp
      → WasGiven sheets given client k ⊎ IsOut n (events_in sends sheets given) buffer stamp
  -- what is taken next comes behind what was taken
  pub ahead : (j : ℕ) (item : Sent Sheet) → taken (Chunks client) log ≤ j → slice_get s.chunks j ≡ Some item → (q : ℕ) (sheet : Sheet) → slice_get sheets q ≡ Some sheet → sheet.header.client.number ≡ client
      → sheet.header.page < item.item.header.page

pub record Holds (n : ℕ) (sends : List ClientSends) (sheets : List Sheet) (given : List GivenPlace) (log : List Step) : Type 0 where
  pub pooled : IsPooled n (events_in sends sheets given)
  pub missed : filter_map missed_event log ≡ []
  pub stamps : log_stamps log ≡ map (λ (g : GivenPlace). g.stamp) given
  pub rising : rise (log_stamps log) ≡ true
  pub clients : (client : ℕ) (s : ClientSends) → slice_get sends client ≡ Some s → ClientHolds n sends sheets given log client s
  pub answers : AllByRecursion (GiveAnswers sends sheets given) given
  pub drawn : (q : ℕ) (sheet : Sheet) → slice_get sheets q ≡ Some sheet → IsDrawn sends sheet
  -- the pages of a client rise
  pub apart : (p q : ℕ) (a b : Sheet) → slice_get sheets p ≡ Some a → slice_get sheets q ≡ Some b → p < q → a.header.client.number ≡ b.header.client.number → a.header.page < b.header.page

-- ---- lists

pub record InFront {X : Type 0} (xs : List X) (i : ℕ) (x : X) : Type 0 where
  pub there : slice_get xs i ≡ Some x
  pub low : i < length xs

pub record Behind {X : Type 0} (xs ys : List X) (i : ℕ) (x : X) : Type 0 where
  pub place : ℕ
  pub there : slice_get ys place ≡ Some x
  pub is : i ≡ length xs + place

-- an item of two lists is one of the first or one of the second
pub in_either : {X : Type 0} (xs ys : List X) (i : ℕ) (x : X) → slice_get (xs ++ ys) i ≡ Some x → InFront xs i x ⊎ Behind xs ys i x
in_either [] ys i x h = inr (record { place = i; there = h; is = omega arith })
in_either (y ∷ xs) ys zero x h = inl (record { there = h; low = omega arith })
in_either {X = X} (y ∷ xs) ys (suc i) x h = elim (in_either xs ys i x h) as (λ _. InFront (y ∷ xs) (suc i) x ⊎ Behind (y ∷ xs) ys (suc i) x) [
  | inl f ↦ let low = f.low in inl (record { there = f.there; low = omega (arith, low) })
  | inr b ↦ let is = b.is in inr (record { place = b.place; there = b.there; is = omega (arith, is) })
]

pub rise_more : (before : ℕ) (xs : List ℕ) (x : ℕ) → before < x → AllByRecursion (λ y. y < x) xs → rise_above before xs ≡ true → rise_above before (xs ++ x ∷ []) ≡ true
rise_more before [] x low all h = both_true (lt-ltb before x low) refl
rise_more before (y ∷ xs) x low all h = let parts = and_both _ _ h in both_true parts.0 (rise_more y xs x all.0 all.1 parts.1)
  where
    and_both : (a b : Bool) → (a && b) ≡ true → (a ≡ true) × (b ≡ true)
    and_both true b h = (refl, h)
    and_both false b h = let no : false ≡ true = h in absurd cc

pub rises_more : (xs : List ℕ) (x : ℕ) → AllByRecursion (λ y. y < x) xs → rise xs ≡ true → rise (xs ++ x ∷ []) ≡ true
rises_more [] x all h = refl
rises_more (y ∷ xs) x all h = rise_more y xs x all.0 all.1 h

-- ---- pages and their events

pub record FoundPage (sends : List ClientSends) (sheet : Sheet) (page : DrawnPage) : Type 0 where
  pub client : ClientSends
  pub there : slice_get sends sheet.header.client.number ≡ Some client
  pub is : slice_get client.drawn sheet.header.page ≡ Some page

pub page_found : (sends : List ClientSends) (sheet : Sheet) (page : DrawnPage) → page_in sends sheet ≡ Some page → FoundPage sends sheet page
page_found sends sheet page h = go (slice_get sends sheet.header.client.number) refl h
  where
    go : (o : Option ClientSends) → slice_get sends sheet.header.client.number ≡ o → option_and_then (λ (s : ClientSends). slice_get s.drawn sheet.header.page) o ≡ Some page → FoundPage sends sheet page
    go None e h = let no : None ≡ Some page = h in absurd cc
    go (Some s) e h = record { client = s; there = e; is = h }

-- a give of a chunk whose page is there is an event
pub event_there : (sends : List ClientSends) (sheets : List Sheet) (g : GivenPlace) (sheet : Sheet) → slice_get sheets g.place ≡ Some sheet → (d : IsDrawn sends sheet) → event_at sends sheets g ≡ Some (given_as g.stamp d.buffer)
event_there sends sheets g sheet is d =
    ap (λ o. option_map (given_as g.stamp) (option_and_then (λ (d : DrawnPage). buffer_of d.draw) (option_and_then (page_in sends) o))) is
    ∙ ap (λ o. option_map (given_as g.stamp) (option_and_then (λ (d : DrawnPage). buffer_of d.draw) o)) d.there
    ∙ ap (λ draw. option_map (given_as g.stamp) (buffer_of draw)) d.got

record AtPlace {X : Type 0} (xs : List X) (x : X) : Type 0 where
  place : ℕ
  there : slice_get xs place ≡ Some x

page_there : (sends : List ClientSends) (client k : ℕ) (s : ClientSends) (d : DrawnPage) → slice_get sends client ≡ Some s → slice_get s.drawn k ≡ Some d → AtPlace (pages_in sends) d
page_there [] client k s d h g = let no : None ≡ Some s = h in absurd cc
page_there (t ∷ sends) zero k s d h g = record { place = k; there = get_front t.drawn (pages_in sends) k d (ap (λ (s : ClientSends). slice_get s.drawn k) (same_Some t s h) ∙ g) }
page_there (t ∷ sends) (suc client) k s d h g = let rest = page_there sends client k s d h g in record { place = length t.drawn + rest.place; there = get_behind t.drawn (pages_in sends) rest.place d rest.there }

mapped_at : {X Y : Type 0} (P : Y → Type 0) (f : X → Y) (xs : List X) (i : ℕ) (x : X) → AllByRecursion P (map f xs) → slice_get xs i ≡ Some x → P (f x)
mapped_at P f [] i x all h = let no : None ≡ Some x = h in absurd cc
mapped_at P f (y ∷ xs) zero x all h = subst (λ z. P (f z)) (same_Some y x h) all.0
mapped_at P f (y ∷ xs) (suc i) x all h = mapped_at P f xs i x all.1 h

-- what holds of all events holds of that of a page
pub at_page : (P : StampedPoolEvent → Type 0) (sends : List ClientSends) (more : List StampedPoolEvent) (client k : ℕ) (s : ClientSends) (d : DrawnPage) → AllByRecursion P (map drawn_event (pages_in sends) ++ more)
    → slice_get sends client ≡ Some s → slice_get s.drawn k ≡ Some d → P (drawn_event d)
at_page P sends more client k s d all h g =
    let at = page_there sends client k s d h g in mapped_at P drawn_event (pages_in sends) at.place d (all_front P (map drawn_event (pages_in sends)) more all) at.there

-- ---- one stamp is one page's

some_counted : {X : Type 0} (p : X → Bool) (xs : List X) (i : ℕ) (x : X) → slice_get xs i ≡ Some x → p x ≡ true → 1 ≤ count_by p xs
some_counted p [] i x h e = let no : None ≡ Some x = h in absurd cc
some_counted p (y ∷ xs) zero x h e =
    let first = count_cons p y xs in
    let here = ap one_if (ap p (same_Some y x h) ∙ e) in
    omega (arith, first, here)
some_counted p (y ∷ xs) (suc i) x h e = let first = count_cons p y xs in let rest = some_counted p xs i x h e in omega (arith, first, rest)

same_counted : {X : Type 0} (p : X → Bool) (xs : List X) (i j : ℕ) (x y : X) → slice_get xs i ≡ Some x → slice_get xs j ≡ Some y → p x ≡ true → p y ≡ true → count_by p xs ≤ 1 → x ≡ y
same_counted p [] i j x y h g e f few = let no : None ≡ Some x = h in absurd cc
same_counted p (z ∷ xs) zero zero x y h g e f few = sym (same_Some z x h) ∙ same_Some z y g
same_counted p (z ∷ xs) zero (suc j) x y h g e f few =
    let first = count_cons p z xs in
    let here = ap one_if (ap p (same_Some z x h) ∙ e) in
    let rest = some_counted p xs j y g f in
    absurd (omega (arith, first, here, rest, few))
same_counted p (z ∷ xs) (suc i) zero x y h g e f few =
    let first = count_cons p z xs in
    let here = ap one_if (ap p (same_Some z y g) ∙ f) in
    let rest = some_counted p xs i x h e in
    absurd (omega (arith, first, here, rest, few))
same_counted p (z ∷ xs) (suc i) (suc j) x y h g e f few = let first = count_cons p z xs in same_counted p xs i j x y h g e f (omega (arith, first, few))

count_pages : (s : ℕ) (pages : List DrawnPage) → count_by (λ t. eqb t s) (stamps_of (map drawn_event pages)) ≡ count_by (λ (d : DrawnPage). eqb (stamp_of d.draw) s) pages
count_pages s [] = refl
count_pages s (d ∷ pages) =
    let a = count_cons (λ t. eqb t s) (stamp_of d.draw) (stamps_of (map drawn_event pages)) in
    let b = count_cons (λ (d : DrawnPage). eqb (stamp_of d.draw) s) d pages in
    let rest = count_pages s pages in
    omega (arith, a, b, rest)

pub same_page : (n : ℕ) (sends : List ClientSends) (more : List StampedPoolEvent) → IsPooled n (map drawn_event (pages_in sends) ++ more) → (c k e l : ℕ) (s t : ClientSends) (x y : DrawnPage) → slice_get sends c ≡ Some s → slice_get s.drawn k ≡ Some x
    → slice_get sends e ≡ Some t → slice_get t.drawn l ≡ Some y → stamp_of x.draw ≡ stamp_of y.draw → x ≡ y
same_page n sends more p c k e l s t x y h g i j same =
    let low = at_page (λ (v : StampedPoolEvent). v.stamp < length (map drawn_event (pages_in sends) ++ more)) sends more c k s x p.low h g in
    let once = p.each (stamp_of x.draw) low in
    let whole = ap (count_by (λ t. eqb t (stamp_of x.draw))) (map-append (λ (v : StampedPoolEvent). v.stamp) (map drawn_event (pages_in sends)) more) in
    let both = count_append (λ t. eqb t (stamp_of x.draw)) (stamps_of (map drawn_event (pages_in sends))) (stamps_of more) in
    let pages = count_pages (stamp_of x.draw) (pages_in sends) in
    let first = page_there sends c k s x h g in
    let second = page_there sends e l t y i j in
    same_counted (λ (d : DrawnPage). eqb (stamp_of d.draw) (stamp_of x.draw)) (pages_in sends) first.place second.place x y first.there second.there (eq-eqb (stamp_of x.draw) (stamp_of x.draw) refl)
    (eq-eqb (stamp_of y.draw) (stamp_of x.draw) (sym same)) (omega (arith, once, whole, both, pages))

-- ---- the agent takes

-- what a step adds to the pages that were taken
pub record Adds (sends : List ClientSends) (sheets : List Sheet) (log : List Step) (added : List Sheet) (step : Step) : Type 0 where
  pub few : length added ≤ 1
  pub drawn : (q : ℕ) (sheet : Sheet) → slice_get added q ≡ Some sheet → IsDrawn sends sheet
  pub apart : (p q : ℕ) (a b : Sheet) → slice_get sheets p ≡ Some a → slice_get added q ≡ Some b → a.header.client.number ≡ b.header.client.number → a.header.page < b.header.page
  pub ahead : (client : ℕ) (s : ClientSends) → slice_get sends client ≡ Some s → (j : ℕ) (item : Sent Sheet) → taken (Chunks client) (log ++ step ∷ []) ≤ j → slice_get s.chunks j ≡ Some item → (q : ℕ) (sheet : Sheet)
      → slice_get added q ≡ Some sheet → sheet.header.client.number ≡ client → sheet.header.page < item.item.header.page

quiet_stamps : (log : List Step) (step : Step) → step_stamp step ≡ None → log_stamps (log ++ step ∷ []) ≡ log_stamps log
quiet_stamps log step quiet = filter_map-append step_stamp log (step ∷ []) ∙ ap (λ o. log_stamps log ++ cons_option o []) quiet ∙ append-nil (log_stamps log)

quiet_missed : (log : List Step) (step : Step) → missed_event step ≡ None → filter_map missed_event (log ++ step ∷ []) ≡ filter_map missed_event log
quiet_missed log step quiet = filter_map-append missed_event log (step ∷ []) ∙ ap (λ o. filter_map missed_event log ++ cons_option o []) quiet ∙ append-nil (filter_map missed_event log)

gives_same : (sends : List ClientSends) (sheets added : List Sheet) (given givens : List GivenPlace) → AllByRecursion (GiveAnswers sends sheets given) givens → gives_in sends (sheets ++ added) givens ≡ gives_in sends sheets givens
gives_same sends sheets added given [] all = refl
gives_same sends sheets added given (g ∷ givens) all =
    let a = all.0 in
    let was = event_there sends sheets g a.sheet a.is a.drawn in
    let now = event_there sends (sheets ++ added) g a.sheet (get_front sheets added g.place a.sheet a.is) a.drawn in
    ap (λ o. cons_option o (gives_in sends (sheets ++ added) givens)) (now ∙ sym was) ∙ ap (cons_option (event_at sends sheets g)) (gives_same sends sheets added given givens all.1)

pub all_answers : (sends others : List ClientSends) (sheets more : List Sheet) (given after givens : List GivenPlace) → ((g : GivenPlace) → GiveAnswers sends sheets given g → GiveAnswers others more after g)
    → AllByRecursion (GiveAnswers sends sheets given) givens → AllByRecursion (GiveAnswers others more after) givens
all_answers sends others sheets more given after [] on all = tt
all_answers sends others sheets more given after (g ∷ givens) on all = (on g all.0, all_answers sends others sheets more given after givens on all.1)

module _ (n : ℕ) (sends : List ClientSends) (sheets : List Sheet) (given : List GivenPlace) (log : List Step) (h : Holds n sends sheets given log) where
  module _ (added : List Sheet) (step : Step) (quiet : step_stamp step ≡ None) (unmissed : missed_event step ≡ None) (adds : Adds sends sheets log added step) where
    pub same_events : events_in sends sheets given ≡ events_in sends (sheets ++ added) given
    same_events = ap (λ (gives : List StampedPoolEvent). map drawn_event (pages_in sends) ++ gives) (sym (gives_same sends sheets added given given h.answers))

    given_still : (client page : ℕ) → WasGiven sheets given client page → WasGiven (sheets ++ added) given client page
    given_still client page w =
        record {
          place = w.place;
          give = w.give;
          sheet = w.sheet;
          there = w.there;
          is = get_front sheets added w.give.place w.sheet w.is;
          client_is = w.client_is;
          page_is = w.page_is;
        }

    taken_clients : (client : ℕ) (s : ClientSends) → slice_get sends client ≡ Some s → ClientHolds n sends (sheets ++ added) given (log ++ step ∷ []) client s
    taken_clients client s there =
        let c = h.clients client s there in
        record {
          chunks = c.chunks;
          numbers = c.numbers;
          own = c.own;
          rises = c.rises;
          held = λ k d buffer stamp at got. still_held k buffer stamp (c.held k d buffer stamp at got);
          ahead = λ j item most at q sheet found own. still_ahead c j item most at q sheet own (in_either sheets added q sheet found);
        }
      where
        still_held : (k buffer stamp : ℕ) → WasGiven sheets given client k ⊎ IsOut n (events_in sends sheets given) buffer stamp → WasGiven (sheets ++ added) given client k ⊎ IsOut n (events_in sends (sheets ++ added) given) buffer stamp
        still_held k buffer stamp (inl w) = inl (given_still client k w)
        still_held k buffer stamp (inr o) = inr (subst (λ (es : List StampedPoolEvent). IsOut n es buffer stamp) same_events o)

        still_ahead : ClientHolds n sends sheets given log client s → (j : ℕ) (item : Sent Sheet) → taken (Chunks client) (log ++ step ∷ []) ≤ j → slice_get s.chunks j ≡ Some item → (q : ℕ) (sheet : Sheet)
            → sheet.header.client.number ≡ client → InFront sheets q sheet ⊎ Behind sheets added q sheet → sheet.header.page < item.item.header.page
        still_ahead c j item most at q sheet own (inl f) =
            let both = count_append (takes (Chunks client)) log (step ∷ []) in c.ahead j item (omega (arith, both, most)) at q sheet f.there own
        still_ahead c j item most at q sheet own (inr b) = adds.ahead client s there j item most at b.place sheet b.there own

    taken_apart : (p q : ℕ) (a b : Sheet) → InFront sheets p a ⊎ Behind sheets added p a → InFront sheets q b ⊎ Behind sheets added q b → p < q → a.header.client.number ≡ b.header.client.number → a.header.page < b.header.page
    taken_apart p q a b (inl f) (inl g) low same = h.apart p q a b f.there g.there low same
    taken_apart p q a b (inl f) (inr g) low same = adds.apart p g.place a b f.there g.there same
    taken_apart p q a b (inr f) (inl g) low same = let is = f.is in let high = g.low in absurd (omega (arith, low, is, high))
    taken_apart p q a b (inr f) (inr g) low same =
        let first = f.is in
        let second = g.is in
        let most = get_low added g.place b g.there in
        let few = adds.few in
        absurd (omega (arith, low, first, second, most, few))
      where
        get_low : (xs : List Sheet) (i : ℕ) (x : Sheet) → slice_get xs i ≡ Some x → i < length xs
        get_low [] i x h = let no : None ≡ Some x = h in absurd cc
        get_low (y ∷ xs) zero x h = omega arith
        get_low (y ∷ xs) (suc i) x h = let rest = get_low xs i x h in omega (arith, rest)

    -- it takes, and all is held as before
    pub takes_keep : Holds n sends (sheets ++ added) given (log ++ step ∷ [])
    takes_keep =
        record {
          pooled = subst (IsPooled n) same_events h.pooled;
          missed = quiet_missed log step unmissed ∙ h.missed;
          stamps = quiet_stamps log step quiet ∙ h.stamps;
          rising = ap rise (quiet_stamps log step quiet) ∙ h.rising;
          clients = taken_clients;
          answers =
              all_answers sends sends sheets (sheets ++ added) given given given
              (λ g a.
              record {
                sheet = a.sheet;
                drawn = a.drawn;
                is = get_front sheets added g.place a.sheet a.is;
                answers = subst (λ (es : List StampedPoolEvent). IsAnswered es a.drawn.buffer a.drawn.stamp g.stamp) same_events a.answers;
              })
              h.answers;
          drawn = λ q sheet at. taken_drawn q sheet (in_either sheets added q sheet at);
          apart = λ p q a b f g low same. taken_apart p q a b (in_either sheets added p a f) (in_either sheets added q b g) low same;
        }
      where
        taken_drawn : (q : ℕ) (sheet : Sheet) → InFront sheets q sheet ⊎ Behind sheets added q sheet → IsDrawn sends sheet
        taken_drawn q sheet (inl f) = h.drawn q sheet f.there
        taken_drawn q sheet (inr b) = adds.drawn b.place sheet b.there

-- ---- the agent gives

pub below_given : (n : ℕ) (sends : List ClientSends) (sheets : List Sheet) (given givens : List GivenPlace) → AllByRecursion (GiveAnswers sends sheets given) givens
    → AllByRecursion (λ s. s < length (events_in sends sheets given)) (map (λ (g : GivenPlace). g.stamp) givens)
below_given n sends sheets given [] all = tt
below_given n sends sheets given (g ∷ givens) all = let a = all.0 in (a.answers.past, below_given n sends sheets given givens all.1)

module _ (n : ℕ) (sends : List ClientSends) (sheets : List Sheet) (given : List GivenPlace) (log : List Step) (h : Holds n sends sheets given log) (place : ℕ) (sheet : Sheet) (is : slice_get sheets place ≡ Some sheet)
    (ungiven : (i : ℕ) (g : GivenPlace) → slice_get given i ≡ Some g → g.place ≡ place → ⊥)
  where
    abbrev was : List StampedPoolEvent
    was = events_in sends sheets given

    abbrev stamp : ℕ
    stamp = length was

    abbrev give : GivenPlace
    give = record { place = place; stamp = stamp }

    abbrev now : List StampedPoolEvent
    now = events_in sends sheets (given ++ give ∷ [])

    pub given_drawn : IsDrawn sends sheet
    given_drawn = h.drawn place sheet is

    found : FoundPage sends sheet given_drawn.page
    found = page_found sends sheet given_drawn.page given_drawn.there

    page_low : given_drawn.stamp < stamp
    page_low =
        let low = at_page (λ (e : StampedPoolEvent). e.stamp < stamp) sends (gives_in sends sheets given) sheet.header.client.number sheet.header.page found.client given_drawn.page h.pooled.low found.there found.is in
        let same = ap stamp_of given_drawn.got in
        omega (arith, low, same)

    -- two chunks of one page are one
    same_place : (p q : ℕ) (a b : Sheet) → slice_get sheets p ≡ Some a → slice_get sheets q ≡ Some b → a.header.client.number ≡ b.header.client.number → a.header.page ≡ b.header.page → p ≡ q
    same_place p q a b f g client page = trichotomy (eqb p q) refl
      where
        trichotomy : (c : Bool) → eqb p q ≡ c → p ≡ q
        trichotomy true e = eqb-true p q e
        trichotomy false e = order (lt_or p q)
          where
            lt_or : (p q : ℕ) → (p < q) ⊎ ((p ≡ q) ⊎ (q < p))
            lt_or zero zero = inr (inl refl)
            lt_or zero (suc q) = inl (omega arith)
            lt_or (suc p) zero = inr (inr (omega arith))
            lt_or (suc p) (suc q) = elim (lt_or p q) as (λ _. (suc p < suc q) ⊎ ((suc p ≡ suc q) ⊎ (suc q < suc p))) [
              | inl low ↦ inl (omega (arith, low))
              | inr (inl same) ↦ inr (inl (ap suc same))
              | inr (inr high) ↦ inr (inr (omega (arith, high)))
            ]

            order : (p < q) ⊎ ((p ≡ q) ⊎ (q < p)) → p ≡ q
            order (inl low) = let less = h.apart p q a b f g low client in absurd (omega (arith, less, page))
            order (inr (inl same)) = same
            order (inr (inr high)) = let less = h.apart q p b a g f high (sym client) in absurd (omega (arith, less, page))

    -- its buffer is out
    out : IsOut n was given_drawn.buffer given_drawn.stamp
    out = either ((h.clients sheet.header.client.number found.client found.there).held sheet.header.page given_drawn.page given_drawn.buffer given_drawn.stamp found.is given_drawn.got)
      where
        either : WasGiven sheets given sheet.header.client.number sheet.header.page ⊎ IsOut n was given_drawn.buffer given_drawn.stamp → IsOut n was given_drawn.buffer given_drawn.stamp
        either (inl w) = absurd (ungiven w.place w.give w.there (same_place w.give.place place w.sheet sheet w.is is w.client_is w.page_is))
        either (inr o) = o

    -- the same with nothing behind
    was_is : was ≡ was ++ []
    was_is = sym (append-nil was)

    out_there : IsOut n (was ++ []) given_drawn.buffer given_drawn.stamp
    out_there = subst (λ (es : List StampedPoolEvent). IsOut n es given_drawn.buffer given_drawn.stamp) was_is out

    pooled_there : IsPooled n (was ++ [])
    pooled_there = subst (IsPooled n) was_is h.pooled

    pub now_is : was ++ given_as (length (was ++ [])) given_drawn.buffer ∷ [] ≡ now
    now_is =
        let gives = filter_map-append (event_at sends sheets) given (give ∷ []) ∙ ap (λ o. gives_in sends sheets given ++ cons_option o []) (event_there sends sheets give sheet is given_drawn) in
        ap (λ (es : List StampedPoolEvent). was ++ given_as (length es) given_drawn.buffer ∷ []) (append-nil was)
        ∙ append_assoc (map drawn_event (pages_in sends)) (gives_in sends sheets given) (given_as stamp given_drawn.buffer ∷ [])
        ∙ ap (λ (gives : List StampedPoolEvent). map drawn_event (pages_in sends) ++ gives) (sym gives)

    given_answered : IsAnswered now given_drawn.buffer given_drawn.stamp stamp
    given_answered =
        let low : given_drawn.stamp < length (was ++ []) = let same = ap length was_is in let less = page_low in omega (arith, same, less) in
        subst (λ (es : List StampedPoolEvent). IsAnswered es given_drawn.buffer given_drawn.stamp stamp) now_is
        (subst (λ (t : ℕ). IsAnswered (was ++ given_as (length (was ++ [])) given_drawn.buffer ∷ []) given_drawn.buffer given_drawn.stamp t) (ap length (append-nil was))
        (given_answers n was [] given_drawn.buffer given_drawn.stamp pooled_there out_there low))

    still_answered : (buffer from to : ℕ) → IsAnswered was buffer from to → IsAnswered now buffer from to
    still_answered buffer from to a =
        subst (λ (es : List StampedPoolEvent). IsAnswered es buffer from to) now_is
        (answered n was [] (Given given_drawn.buffer) pooled_there buffer from to (subst (λ (es : List StampedPoolEvent). IsAnswered es buffer from to) was_is a))

    still_out_now : (buffer from : ℕ) → eqb given_drawn.buffer buffer ≡ false → IsOut n was buffer from → IsOut n now buffer from
    still_out_now buffer from ne o =
        subst (λ (es : List StampedPoolEvent). IsOut n es buffer from) now_is
        (given_stays n was [] given_drawn.buffer given_drawn.stamp pooled_there out_there buffer from ne (subst (λ (es : List StampedPoolEvent). IsOut n es buffer from) was_is o))

    still_given : (client page : ℕ) → WasGiven sheets given client page → WasGiven sheets (given ++ give ∷ []) client page
    still_given client page w =
        record {
          place = w.place;
          give = w.give;
          sheet = w.sheet;
          there = get_front given (give ∷ []) w.place w.give w.there;
          is = w.is;
          client_is = w.client_is;
          page_is = w.page_is;
        }

    given_last : WasGiven sheets (given ++ give ∷ []) sheet.header.client.number sheet.header.page
    given_last =
        record {
          place = length given;
          give = give;
          sheet = sheet;
          there = get_mid given give [];
          is = is;
          client_is = refl;
          page_is = refl;
        }

    given_clients : (client : ℕ) (s : ClientSends) → slice_get sends client ≡ Some s → ClientHolds n sends sheets (given ++ give ∷ []) (log ++ steps.Given stamp ∷ []) client s
    given_clients client s there =
        let c = h.clients client s there in
        record {
          chunks = c.chunks;
          numbers = c.numbers;
          own = c.own;
          rises = c.rises;
          held = λ k d buffer from at got. now_held c k d buffer from at got (c.held k d buffer from at got);
          ahead = λ j item most at q sheet found own. let both = count_append (takes (Chunks client)) log (steps.Given stamp ∷ []) in c.ahead j item (omega (arith, both, most)) at q sheet found own;
        }
      where
        now_held : ClientHolds n sends sheets given log client s → (k : ℕ) (d : DrawnPage) (buffer from : ℕ) → slice_get s.drawn k ≡ Some d → d.draw ≡ draws.Got buffer from → WasGiven sheets given client k ⊎ IsOut n was buffer from
            → WasGiven sheets (given ++ give ∷ []) client k ⊎ IsOut n now buffer from
        now_held c k d buffer from at got (inl w) = inl (still_given client k w)
        now_held c k d buffer from at got (inr o) = same_case (eqb given_drawn.buffer buffer) refl
          where
            same_case : (b : Bool) → eqb given_drawn.buffer buffer ≡ b → WasGiven sheets (given ++ give ∷ []) client k ⊎ IsOut n now buffer from
            same_case false ne = inr (still_out_now buffer from ne o)
            same_case true e =
                let equal = eqb-true given_drawn.buffer buffer e in
                let most =
                at_page (λ (v : StampedPoolEvent). has_buffer given_drawn.buffer v.event ≡ true → v.stamp ≤ given_drawn.stamp) sends (gives_in sends sheets given) client k s d out.last there at
                (ap (λ draw. has_buffer given_drawn.buffer (drawn_event (record d { draw = draw })).event) got ∙ eq-eqb buffer given_drawn.buffer (sym equal))
                in
                let least =
                at_page (λ (v : StampedPoolEvent). has_buffer buffer v.event ≡ true → v.stamp ≤ from) sends (gives_in sends sheets given) sheet.header.client.number sheet.header.page found.client given_drawn.page o.last found.there found.is
                (ap (λ draw. has_buffer buffer (drawn_event (record given_drawn.page { draw = draw })).event) given_drawn.got ∙ e)
                in
                let here = ap stamp_of got in
                let other = ap stamp_of given_drawn.got in
                let stamps : stamp_of d.draw ≡ stamp_of given_drawn.page.draw = omega (arith, most, least, here, other) in
                let same : d ≡ given_drawn.page =
                same_page n sends (gives_in sends sheets given) h.pooled client k sheet.header.client.number sheet.header.page s found.client d given_drawn.page there at found.there found.is stamps
                in
                let f = h.clients sheet.header.client.number found.client found.there in
                let client_is : sheet.header.client.number ≡ client = sym (f.own sheet.header.page given_drawn.page found.is) ∙ ap (λ (d : DrawnPage). d.client.number) (sym same) ∙ c.own k d at in
                let page_is : sheet.header.page ≡ k = sym (f.numbers sheet.header.page given_drawn.page found.is) ∙ ap (λ (d : DrawnPage). d.number) (sym same) ∙ c.numbers k d at in
                inl (subst (λ (k : ℕ). WasGiven sheets (given ++ give ∷ []) client k) page_is (subst (λ (c : ℕ). WasGiven sheets (given ++ give ∷ []) c sheet.header.page) client_is given_last))

    pub given_longer : length now ≡ length was + 1
    given_longer =
        let same = ap length (sym now_is) in
        let both = length-append was (given_as (length (was ++ [])) given_drawn.buffer ∷ []) in
        omega (arith, same, both)

    -- it gives, and all is held as before but for this buffer
    pub gives_keep : Holds n sends sheets (given ++ give ∷ []) (log ++ steps.Given stamp ∷ [])
    gives_keep =
        let stamps_more : log_stamps (log ++ steps.Given stamp ∷ []) ≡ log_stamps log ++ stamp ∷ [] = filter_map-append step_stamp log (steps.Given stamp ∷ []) in
        record {
          pooled = subst (IsPooled n) now_is (given_kept n was [] given_drawn.buffer given_drawn.stamp pooled_there out_there);
          missed = quiet_missed log (steps.Given stamp) refl ∙ h.missed;
          stamps = stamps_more ∙ ap (λ (ss : List ℕ). ss ++ stamp ∷ []) h.stamps ∙ sym (map-append (λ (g : GivenPlace). g.stamp) given (give ∷ []));
          rising =
              ap rise stamps_more
              ∙ rises_more (log_stamps log) stamp (subst (AllByRecursion (λ s. s < stamp)) (sym h.stamps) (below_given n sends sheets given given h.answers)) h.rising;
          clients = given_clients;
          answers =
              all_append (GiveAnswers sends sheets (given ++ give ∷ [])) given (give ∷ [])
              (all_answers sends sends sheets sheets given (given ++ give ∷ []) given
              (λ g a. record { sheet = a.sheet; drawn = a.drawn; is = a.is; answers = still_answered a.drawn.buffer a.drawn.stamp g.stamp a.answers }) h.answers)
              (record { sheet = sheet; drawn = given_drawn; is = is; answers = given_answered }, tt);
          drawn = h.drawn;
          apart = h.apart;
        }
