-- Why what is shown to the watchers of a run goes on to be right, round by round, and what it comes to at the end.
use Rattle.std.proofs.Common.{◌≡◌, inl, inr, ℕ, zero, suc, ◌+◌, ◌*◌, ◌-◌, ◌/◌, ◌%◌, ◌<◌, ◌≤◌, List, [], ◌∷◌, length, Option, Some, None, true, false, unwrap_or, ⊎_elim, refl, sym, ap, subst, ◌∙◌, arith, slice_get, div-lt_iff_lt-mul, div-add-mod'}
use Rattle.hs_run.proofs.Prelude.{mod-lt, AllByRecursion, Result, Ok, Err, OnOk, slice_get_within, all_each, get_there, Progress, first, IsLast, PlainRunTally, AreCounts, progress_of, TheseAreAllRounds, IsTotal, IsTotalBehind, PlainCoordinatorActor, Operation, PlainWorkload, AllBegin, PlainNodeActors, RunState, IsBegun, Came, NoRoundsCome, operations_at, place_of, Showing, ActingNode, ActedTo, MetTo, MovedTo, CanBegin, DoneIn, RoundsMade, TellsLeft, FitTotals, MayCount, shown_on, RoundsWatched, AllWatched}
use Rattle.hs_base.proofs.Alls.{all_append}
use Rattle.hs_run.proofs.Seeing.{end_of}
use Rattle.hs_run.specs.Coming.{RoundsKeepWhatCame}
use Rattle.hs_board.specs.Watching.{ShownTotals, WatchStands, BothLookTimes, HaveLookedInAll, KnowLast}
use Rattle.hs_records.specs.declared.setting.Setting.TheVariants as settings
use Rattle.hs_run.specs.Watched.{MayShow, IsNeeded, WatchEnded}
use Rattle.hs_run.proofs.Moments.{site_there}
use Rattle.hs_run.proofs.Rounded.{SendSo, begin_made, few_next, done_next, all_done}

-- ---- a round more, which keeps what came

pub record Follows (W : PlainWorkload) (made : ℕ) (nodes : List ActingNode) (c : PlainCoordinatorActor) (h : RoundsMade W made nodes c) (nodes' : List ActingNode) (c' : PlainCoordinatorActor) : Type 0 where
  pub next : RoundsMade W (suc made) nodes' c'
  pub keeps : (k : ℕ) → k < suc made → next.came.at k ≡ h.came.at k

pub follows : RoundsKeepWhatCame → SendSo → (W : PlainWorkload) (made : ℕ) (nodes nodes1 nodes2 nodes3 : List ActingNode) (c c1 c3 : PlainCoordinatorActor) (h : RoundsMade W made nodes c) (a : ActedTo W h.moment nodes1 c1) (b : MetTo W a.next nodes2 c1)
    (d : MovedTo W b.next nodes3 c3) → Follows W made nodes c h nodes3 c3
follows keep sent_so W made nodes nodes1 nodes2 nodes3 c c1 c3 h a b d =
    let one : made + 1 ≡ suc made = omega arith in
    let (came, keeps) = keep W made h.moment a.next b.next d.next h.came a.acts b.meets d.moves in
    record {
      next = record {
        moment = d.next;
        came = came;
        ends = subst (AllBegin W) (sym (keeps 0 (omega arith))) h.ends;
        here = d.here;
        few = few_next sent_so W h.moment a.next b.next d.next h.here.stands a.acts b.meets d.moves;
        done = subst (λ (k : ℕ). DoneIn W k d.next.standing.nodes) one (done_next sent_so W h.moment a.next b.next d.next h.here.stands a.acts b.meets d.moves made h.done);
      };
      keeps = keeps;
    }

-- ---- the totals that are shown

-- the totals of the counts behind all rounds
total_here : (W : PlainWorkload) (made : ℕ) (m : RunState) (came : Came W made m) (counts : PlainRunTally) → AreCounts W m counts → IsTotalBehind W made m came (progress_of made counts)
total_here W made m came counts are = record { round = made; low = omega arith; counts = counts; are = subst (λ (n : RunState). AreCounts W n counts) (sym came.last) are; is = refl }

total_on : (W : PlainWorkload) (made : ℕ) (m m' : RunState) (came : Came W made m) (came' : Came W (suc made) m') → ((k : ℕ) → k < suc made → came'.at k ≡ came.at k) → (x : Progress) → IsTotal W made m came x
    → IsTotal W (suc made) m' came' x
total_on W made m m' came came' keeps x total =
    ⊎_elim (λ (none : x ≡ first). inl none)
    (λ (t : IsTotalBehind W made m came x).
    let low = t.low in
    inr
    (record {
      round = t.round;
      low = omega (arith, low);
      counts = t.counts;
      are = subst (λ (n : RunState). AreCounts W n t.counts) (sym (keeps t.round (omega (arith, low)))) t.are;
      is = t.is;
    }))
    total

all_on : (P : Progress → Type 0) (made : ℕ) (counts : PlainRunTally) (shown : ShownTotals) → AllByRecursion P shown → (1 ≤ made → P (progress_of made counts)) → AllByRecursion P (shown_on made counts shown)
all_on P zero counts shown all one = all
all_on P (suc k) counts shown all one = all_append P shown (progress_of (suc k) counts ∷ []) all (one (omega arith), tt)

last_on : (made : ℕ) (counts : PlainRunTally) (shown : ShownTotals) → (made ≡ 0 → IsLast first shown) → (x : Progress) × IsLast x (shown_on made counts shown) × (x.rounds ≡ made)
last_on zero counts shown none = (first, none refl, refl)
last_on (suc k) counts shown none = (progress_of (suc k) counts, (shown, refl), refl)

pub may_show : (W : PlainWorkload) (made : ℕ) (nodes : List ActingNode) (c : PlainCoordinatorActor) (counts : PlainRunTally) (watch : Showing) → RoundsWatched W made nodes c counts watch → MayShow made counts watch.shown
may_show W made nodes c counts watch w =
    record {
      fits = w.fits;
      later = λ some last is. let low = end_of (λ (x : Progress). x.rounds ≤ made - 1) watch.shown w.low last is in omega (arith, low, some);
    }

-- ---- what clients need

some_left : (o : Option (List Operation)) (n : ℕ) → n < length (unwrap_or o []) → (ops : List Operation) × (o ≡ Some ops) × (n < length ops)
some_left None n less = absurd (omega (arith, less))
some_left (Some ops) n less = (ops, refl, less)

needs : (W : PlainWorkload) (made : ℕ) (nodes : List ActingNode) (c : PlainCoordinatorActor) → RoundsMade W made nodes c → TellsLeft W nodes true → IsNeeded W made
needs W made nodes c h (n, node, at, (number, caller, found, less)) =
    let place = place_of W.settings.clients n number in
    let done = h.done n number node.site caller (ap (λ (l : List PlainNodeActors). slice_get l n) h.here.nodes_are ∙ site_there nodes n node at) found in
    let (ops, there, left) = some_left (slice_get W.clients place) (made * W.settings.stride) (omega (arith, done, less)) in
    (place, ops, there, left)

-- The operations at a place are done, where all are.
module _ (W : PlainWorkload) (made : ℕ) (nodes : List ActingNode) (c : PlainCoordinatorActor) (h : RoundsMade W made nodes c) (none : TellsLeft W nodes false) where
  low_at : (n number : ℕ) → n < W.settings.nodes → number < W.settings.clients → length (operations_at W (place_of W.settings.clients n number)) ≤ made * W.settings.stride
  low_at n number few own =
      let stands = h.here.stands in
      let count = stands.count in
      let (site, at) = get_there h.moment.standing.nodes n (omega (arith, few, count)) in
      let clients = (stands.each n site at).count in
      let (caller, found) = get_there site.callers number (omega (arith, own, clients)) in
      let done = h.done n number site caller at found in
      let all = all_done W made nodes c h none n number site caller at found in
      omega (arith, done, all)

  low_place : (place : ℕ) (ops : List Operation) → slice_get W.clients place ≡ Some ops → place < length W.clients → length ops ≤ made * W.settings.stride
  low_place place ops at less =
      let valid = h.here.stands.valid in
      let all = valid.count in
      let some = (valid.head settings.Clients).0 in
      let each = W.settings.clients in
      let few : place / each < W.settings.nodes = (div-lt_iff_lt-mul {k = each} {x = place} {y = W.settings.nodes} (omega (arith, some))).1 (omega (arith, less, all)) in
      let own : place % each < each = mod-lt place (omega (arith, some)) in
      let low = low_at (place / each) (place % each) few own in
      let is : operations_at W (place_of each (place / each) (place % each)) ≡ ops =
      ap (operations_at W) (div-add-mod' place each) ∙ ap (λ (o : Option (List Operation)). unwrap_or o []) at in
      let same = ap length is in
      omega (arith, low, same)

-- ---- looks

-- So many looks more.
pub then_look : (m n : ℕ) (s s' : Showing) → HaveLookedInAll m s → BothLookTimes n s s' → HaveLookedInAll (m + n) s'
then_look m n s s' have more = (
  λ none. let (was, is) = more.0 none in let had = have.0 was in omega (arith, is, had),
  λ none. let (was, is) = more.1 none in let had = have.1 was in omega (arith, is, had),
)

-- None before these four, and none behind them.
pub four_more : (m : ℕ) (s s1 s2 s3 : Showing) → HaveLookedInAll m s → BothLookTimes 0 s s1 → BothLookTimes 4 s1 s2 → BothLookTimes 0 s2 s3 → HaveLookedInAll (m + 4) s3
four_more m s s1 s2 s3 have one four last =
    let same : m + 0 + 4 + 0 ≡ m + 4 = omega arith in
    subst (λ (n : ℕ). HaveLookedInAll n s3) same (then_look (m + 0 + 4) 0 s2 s3 (then_look (m + 0) 4 s1 s2 (then_look m 0 s s1 have one) four) last)

-- None before this one.
pub one_more : (s s1 s2 s3 s4 : Showing) → BothLookTimes 0 s s1 → BothLookTimes 0 s1 s2 → BothLookTimes 0 s2 s3 → BothLookTimes 1 s3 s4 → BothLookTimes 1 s s4
one_more s s1 s2 s3 s4 a b c d = (
  λ none. let (n3, e3) = d.0 none in let (n2, e2) = c.0 n3 in let (n1, e1) = b.0 n2 in let (n0, e0) = a.0 n1 in (n0, omega (arith, e0, e1, e2, e3)),
  λ none. let (n3, e3) = d.1 none in let (n2, e2) = c.1 n3 in let (n1, e1) = b.1 n2 in let (n0, e0) = a.1 n1 in (n0, omega (arith, e0, e1, e2, e3)),
)

-- ---- round by round

pub begin_watched : NoRoundsCome → (W : PlainWorkload) (nodes : List ActingNode) (c : PlainCoordinatorActor) → CanBegin W nodes c → (counts : PlainRunTally) (watch : Showing) → watch.shown ≡ first ∷ [] → WatchStands watch → HaveLookedInAll 0 watch → ((m : RunState) → IsBegun W m → AreCounts W m counts)
    → RoundsWatched W 0 nodes c counts watch
begin_watched none W nodes c b counts watch shown stands looks counted =
    let h = begin_made none W nodes c b in
    record {
      rounds = h;
      needed = λ before is. absurd (omega (arith, is));
      counted = counted h.moment (subst (IsBegun W) h.came.last h.came.begun);
      fits = λ some. absurd (omega (arith, some));
      shown = subst (AllByRecursion (IsTotal W 0 h.moment h.came)) (sym shown) (inl refl, tt);
      low = subst (AllByRecursion (λ (x : Progress). x.rounds ≤ 0 - 1)) (sym shown) (omega arith, tt);
      begins = λ is. ([], shown);
      stands = stands;
      knows = λ two. absurd (omega (arith, two));
      looks = looks;
    }

module _ (W : PlainWorkload) (made : ℕ) (nodes : List ActingNode) (c : PlainCoordinatorActor) (counts : PlainRunTally) (watch : Showing) (w : RoundsWatched W made nodes c counts watch) where
  pub may_count : (nodes' : List ActingNode) (c' : PlainCoordinatorActor) → Follows W made nodes c w.rounds nodes' c' → MayCount W nodes' counts
  may_count nodes' c' f =
      record {
        rounds = made;
        coordinator = c';
        made = f.next;
        counted = subst (λ (m : RunState). AreCounts W m counts) (sym (f.keeps made (omega arith) ∙ w.rounds.came.last)) w.counted;
      }

  pub next_watched : (nodes' : List ActingNode) (c' : PlainCoordinatorActor) (f : Follows W made nodes c w.rounds nodes' c') (counts' : PlainRunTally) (watch' : Showing) → TellsLeft W nodes true → AreCounts W f.next.moment counts' → FitTotals counts'
      → watch'.shown ≡ shown_on made counts watch.shown → WatchStands watch' → (1 ≤ made → KnowLast watch') → HaveLookedInAll (4 * made + 4) watch' → RoundsWatched W (suc made) nodes' c' counts' watch'
  next_watched nodes' c' f counts' watch' left counted fits shown stands knows looks =
      let totals = IsTotal W (suc made) f.next.moment f.next.came in
      let here = total_here W made w.rounds.moment w.rounds.came counts w.counted in
      let on = total_on W made w.rounds.moment f.next.moment w.rounds.came f.next.came f.keeps in
      record {
        rounds = f.next;
        needed = λ before is. let same : made ≡ before = omega (arith, is) in subst (IsNeeded W) same (needs W made nodes c w.rounds left);
        counted = counted;
        fits = λ some. fits;
        shown = subst (AllByRecursion totals) (sym shown)
            (all_on totals made counts watch.shown (all_each (IsTotal W made w.rounds.moment w.rounds.came) totals watch.shown on w.shown) (λ some. on (progress_of made counts) (inr here)));
        low = subst (AllByRecursion (λ (x : Progress). x.rounds ≤ suc made - 1)) (sym shown)
            (all_on (λ (x : Progress). x.rounds ≤ suc made - 1) made counts watch.shown
            (all_each (λ (x : Progress). x.rounds ≤ made - 1) (λ (x : Progress). x.rounds ≤ suc made - 1) watch.shown (λ x low. omega (arith, low)) w.low) (λ some. omega arith));
        begins = λ is. absurd (omega (arith, is));
        stands = stands;
        knows = λ two. knows (omega (arith, two));
        looks = let more : 4 * made + 4 ≡ 4 * suc made = omega arith in subst (λ (n : ℕ). HaveLookedInAll n watch') more looks;
      }

  pub all_watched : TheseAreAllRounds → TellsLeft W nodes false → (watch' : Showing) → watch'.shown ≡ shown_on made counts watch.shown → WatchEnded watch' → BothLookTimes 1 watch watch' → AllWatched W nodes c watch'
  all_watched law none watch' shown ended more =
      let totals = IsTotal W made w.rounds.moment w.rounds.came in
      let here = total_here W made w.rounds.moment w.rounds.came counts w.counted in
      record {
        over = record { rounds = made; made = w.rounds; all = all_done W made nodes c w.rounds none };
        all = law W made w.rounds.here.stands.valid (λ place ops at. low_place W made nodes c w.rounds none place ops at (slice_get_within W.clients place ops at)) w.needed;
        shown = subst (AllByRecursion totals) (sym shown) (all_on totals made counts watch.shown w.shown (λ some. inr here));
        last = subst (λ (l : ShownTotals). (x : Progress) × IsLast x l × (x.rounds ≡ made)) (sym shown) (last_on made counts watch.shown w.begins);
        ended = ended;
        looks = then_look (4 * made) 1 watch watch' w.looks more;
      }

-- three facts of an Ok
pub on_three : {T E : Type 0} (r : Result T E) (A B C D : Type 0) → (A → B → C → D) → OnOk r A → OnOk r B → OnOk r C → OnOk r D
on_three (Ok x) A B C D f a b c = f a b c
on_three (Err e) A B C D f a b c = tt
