-- What a watcher has stays of the board, whatever is looked at.
use Rattle.std.proofs.Common.{◌≡◌, ◌⊎◌, inl, inr, ℕ, ◌<◌, ◌≤◌, arith, List, [], ◌∷◌, ◌++◌, Bool, true, false, nat_lt, ltb-true, ltb-false, ⊎_elim, refl, sym, ap, subst}
use Rattle.std.specs.List.{AllByRecursion}
use Rattle.hs_board.specs.declared.progress.Progress.{Progress}
use Rattle.hs_board.specs.Shown.{IsFront, IsAmong, IsLast}
use Rattle.hs_board.proofs.Fronts.{among_front}
use Rattle.hs_board.specs.Looking.{Looking}
use Rattle.std.specs.Prelude.{Result, Ok, Err, OnOk, OnErr}
use Rattle.hs_base.proofs.Alls.{all_push, all_weaker}
use Rattle.hs_board.specs.Watching.{ShownTotals, IsFrom, IsRising, Watching, Watches, KeepsWatching, EndsAtLatest, IsSeenOf, Showing, WatchStands, KnowLast}

module _ (shown known known' : ShownTotals) (front : IsFront known known') where
  pub kept : (x : Progress) → IsFrom shown known x → IsFrom shown known' x
  kept x from = ⊎_elim (λ (a : IsAmong x known). inl (among_front known known' front x a)) (λ (a : IsAmong x shown). inr a) from

  pub all_kept : (xs : List Progress) → AllByRecursion (IsFrom shown known) xs → AllByRecursion (IsFrom shown known') xs
  all_kept xs all = all_weaker (IsFrom shown known) (IsFrom shown known') kept xs all

  pub now_from : (latest now : Progress) → IsFrom shown known latest → IsAmong now known' ⊎ (now ≡ latest) → IsFrom shown known' now
  now_from latest now from seen = ⊎_elim (λ (a : IsAmong now known'). inl a) (λ (same : now ≡ latest). subst (IsFrom shown known') (sym same) (kept latest from)) seen

-- ---- rising lists

pub raised : (m n : ℕ) → m ≤ n → (xs : List Progress) → AllByRecursion (λ (x : Progress). x.rounds ≤ m) xs → AllByRecursion (λ (x : Progress). x.rounds ≤ n) xs
raised m n low xs all = all_weaker (λ (x : Progress). x.rounds ≤ m) (λ (x : Progress). x.rounds ≤ n) (λ x is. omega (arith, low, is)) xs all

pub rising_more : (xs : List Progress) (x : Progress) → IsRising xs → AllByRecursion (λ (y : Progress). y.rounds < x.rounds) xs → IsRising (xs ++ x ∷ [])
rising_more [] x rises all = (tt, tt)
rising_more (y ∷ ys) x rises all = (all_push (λ (z : Progress). y.rounds < z.rounds) ys x rises.0 all.0, rising_more ys x rises.1 all.1)

last_of : (P : Progress → Type 0) (xs : List Progress) (l : Progress) → AllByRecursion P (xs ++ l ∷ []) → P l
last_of P [] l all = all.0
last_of P (x ∷ xs) l all = last_of P xs l all.1

below_last : (before : List Progress) (l : Progress) → IsRising (before ++ l ∷ []) → (n : ℕ) → l.rounds < n → AllByRecursion (λ (x : Progress). x.rounds < n) (before ++ l ∷ [])
below_last [] l rises n less = (less, tt)
below_last (x ∷ before) l rises n less = let first = last_of (λ (y : Progress). x.rounds < y.rounds) before l rises.0 in (omega (arith, first, less), below_last before l rises.1 n less)

pub has_last : (xs : List Progress) → (xs ≡ []) ⊎ ((l : Progress) × IsLast l xs)
has_last [] = inl refl
has_last (x ∷ []) = inr (x, ([], refl))
has_last (x ∷ y ∷ xs) =
    ⊎_elim (λ (none : y ∷ xs ≡ []). absurd (let no : y ∷ xs ≡ [] = none in cc)) (λ (h : (l : Progress) × IsLast l (y ∷ xs)). inr (h.0, (x ∷ h.1.0, ap (λ (l : List Progress). x ∷ l) h.1.1))) (has_last (y ∷ xs))

-- All that was noted has fewer rounds than a look whose rounds differ from those of the last.
pub all_below : (xs : List Progress) (n : ℕ) → IsRising xs → AllByRecursion (λ (x : Progress). x.rounds ≤ n) xs → ((last : Progress) → IsLast last xs → last.rounds ≡ n → ⊥) → AllByRecursion (λ (x : Progress). x.rounds < n) xs
all_below xs n rises most new = ⊎_elim (λ (none : xs ≡ []). subst (AllByRecursion (λ (x : Progress). x.rounds < n)) (sym none) tt) ends (has_last xs)
  where
    ends : ((l : Progress) × IsLast l xs) → AllByRecursion (λ (x : Progress). x.rounds < n) xs
    ends (l, (before, is)) =
        let low = last_of (λ (x : Progress). x.rounds ≤ n) before l (subst (AllByRecursion (λ (x : Progress). x.rounds ≤ n)) is most) in
        subst (AllByRecursion (λ (x : Progress). x.rounds < n)) (sym is) (below_last before l (subst IsRising is rises) n (either low (nat_lt l.rounds n) refl))
      where
        either : l.rounds ≤ n → (b : Bool) → nat_lt l.rounds n ≡ b → l.rounds < n
        either low true e = ltb-true l.rounds n e
        either low false e = let high = ltb-false l.rounds n e in let same : l.rounds ≡ n = omega (arith, low, high) in absurd (new l (before, is) same)

-- ---- a board on which more is shown

pub among_more : (xs more : List Progress) (x : Progress) → IsAmong x xs → IsAmong x (xs ++ more)
among_more xs more x a = among_front xs (xs ++ more) (more, refl) x a

pub shown_more : (shown more : ShownTotals) (w : Watching) → Watches shown w → Watches (shown ++ more) w
shown_more shown more w h =
    record {
      latest = from w.looking.latest h.latest;
      seen = all_weaker (IsFrom shown w.looking.known) (IsFrom (shown ++ more) w.looking.known) from w.seen h.seen;
      rises = h.rises;
      most = h.most;
    }
  where
    from : (x : Progress) → IsFrom shown w.looking.known x → IsFrom (shown ++ more) w.looking.known x
    from x f = ⊎_elim (λ (a : IsAmong x w.looking.known). inl a) (λ (a : IsAmong x shown). inr (among_more shown more x a)) f

-- ---- a watcher that looked or was told

-- The reader knows more, and the latest is the same or one that it knows.
pub watches_more : (shown : ShownTotals) (w w' : Watching) → Watches shown w → IsFront w.looking.known w'.looking.known → IsAmong w'.looking.latest w'.looking.known ⊎ (w'.looking.latest ≡ w.looking.latest)
    → w.looking.latest.rounds ≤ w'.looking.latest.rounds → w'.seen ≡ w.seen → Watches shown w'
watches_more shown w w' h front latest rises same =
    record {
      latest = now_from shown w.looking.known w'.looking.known front w.looking.latest w'.looking.latest h.latest latest;
      seen = subst (AllByRecursion (IsFrom shown w'.looking.known)) (sym same) (all_kept shown w.looking.known w'.looking.known front w.seen h.seen);
      rises = subst IsRising (sym same) h.rises;
      most = subst (AllByRecursion (λ (x : Progress). x.rounds ≤ w'.looking.latest.rounds)) (sym same) (raised w.looking.latest.rounds w'.looking.latest.rounds rises w.seen h.most);
    }

-- And it noted that one, whose rounds differ from those before.
pub watches_noted : (shown : ShownTotals) (w w' : Watching) → Watches shown w → IsFront w.looking.known w'.looking.known → IsAmong w'.looking.latest w'.looking.known ⊎ (w'.looking.latest ≡ w.looking.latest)
    → w.looking.latest.rounds ≤ w'.looking.latest.rounds → ((last : Progress) → IsLast last w.seen → last.rounds ≡ w'.looking.latest.rounds → ⊥) → w'.seen ≡ w.seen ++ w'.looking.latest ∷ [] → Watches shown w'
watches_noted shown w w' h front latest rises new noted =
    let from = now_from shown w.looking.known w'.looking.known front w.looking.latest w'.looking.latest h.latest latest in
    let most = raised w.looking.latest.rounds w'.looking.latest.rounds rises w.seen h.most in
    record {
      latest = from;
      seen = subst (AllByRecursion (IsFrom shown w'.looking.known)) (sym noted)
          (all_push (IsFrom shown w'.looking.known) w.seen w'.looking.latest (all_kept shown w.looking.known w'.looking.known front w.seen h.seen) from);
      rises = subst IsRising (sym noted) (rising_more w.seen w'.looking.latest h.rises (all_below w.seen w'.looking.latest.rounds h.rises most new));
      most = subst (AllByRecursion (λ (x : Progress). x.rounds ≤ w'.looking.latest.rounds)) (sym noted)
          (all_push (λ (x : Progress). x.rounds ≤ w'.looking.latest.rounds) w.seen w'.looking.latest most (omega arith));
    }

-- The same by what a look answers, which is the latest then.
pub look_same : (shown : ShownTotals) (w w' : Watching) (now : Progress) → now ≡ w'.looking.latest → Watches shown w → IsFront w.looking.known w'.looking.known → IsAmong now w'.looking.known ⊎ (now ≡ w.looking.latest)
    → w.looking.latest.rounds ≤ now.rounds → w'.seen ≡ w.seen → Watches shown w'
look_same shown w w' now is h front =
    subst (λ (n : Progress). IsAmong n w'.looking.known ⊎ (n ≡ w.looking.latest) → w.looking.latest.rounds ≤ n.rounds → w'.seen ≡ w.seen → Watches shown w') (sym is) (watches_more shown w w' h front)

pub look_noted : (shown : ShownTotals) (w w' : Watching) (now : Progress) → now ≡ w'.looking.latest → Watches shown w → IsFront w.looking.known w'.looking.known → IsAmong now w'.looking.known ⊎ (now ≡ w.looking.latest)
    → w.looking.latest.rounds ≤ now.rounds → ((last : Progress) → IsLast last w.seen → last.rounds ≡ now.rounds → ⊥) → w'.seen ≡ w.seen ++ now ∷ [] → Watches shown w'
look_noted shown w w' now is h front =
    subst
    (λ (n : Progress). IsAmong n w'.looking.known ⊎ (n ≡ w.looking.latest) → w.looking.latest.rounds ≤ n.rounds → ((last : Progress) → IsLast last w.seen → last.rounds ≡ n.rounds → ⊥) → w'.seen ≡ w.seen ++ n ∷ []
    → Watches shown w')
    (sym is) (watches_noted shown w w' h front)

-- It was told what was shown, and knows no more of the board.
pub watches_told : (shown : ShownTotals) (w w' : Watching) → Watches shown w → w'.looking.known ≡ w.looking.known → (w'.looking.latest ≡ w.looking.latest) ⊎ IsAmong w'.looking.latest shown
    → w.looking.latest.rounds ≤ w'.looking.latest.rounds → w'.seen ≡ w.seen → Watches shown w'
watches_told shown w w' h known latest rises same =
    record {
      latest = subst (λ (k : ShownTotals). IsFrom shown k w'.looking.latest) (sym known)
          (⊎_elim (λ (e : w'.looking.latest ≡ w.looking.latest). subst (IsFrom shown w.looking.known) (sym e) h.latest) (λ (a : IsAmong w'.looking.latest shown). inr a) latest);
      seen = subst (AllByRecursion (IsFrom shown w'.looking.known)) (sym same) (subst (λ (k : ShownTotals). AllByRecursion (IsFrom shown k) w.seen) (sym known) h.seen);
      rises = subst IsRising (sym same) h.rises;
      most = subst (AllByRecursion (λ (x : Progress). x.rounds ≤ w'.looking.latest.rounds)) (sym same) (raised w.looking.latest.rounds w'.looking.latest.rounds rises w.seen h.most);
    }

-- ---- the end

-- Where the reader knows a front of what was shown, all that was noted was shown.
pub seen_among : (shown : ShownTotals) (w : Watching) → Watches shown w → IsFront w.looking.known shown → AllByRecursion (λ (x : Progress). IsAmong x shown) w.seen
seen_among shown w h front =
    all_weaker (IsFrom shown w.looking.known) (λ (x : Progress). IsAmong x shown)
    (λ x f. ⊎_elim (λ (a : IsAmong x w.looking.known). among_front w.looking.known shown front x a) (λ (a : IsAmong x shown). a) f) w.seen h.seen

pub seen_of : (shown : ShownTotals) (w : Watching) → Watches shown w → ((last : Progress) → IsLast last shown → last.rounds ≤ w.looking.latest.rounds) → EndsAtLatest w → IsFront w.looking.known shown → IsSeenOf shown w.seen
seen_of shown w h knows ends front =
    record { among = seen_among shown w h front; rises = h.rises; last = (ends.0, ends.1, λ y is. let low = knows y is in let same = ends.2 in omega (arith, low, same)) }

-- ---- two watchers

pub same_watches : (shown : ShownTotals) (w w' : Watching) → w'.seen ≡ w.seen → w'.looking ≡ w.looking → Watches shown w → Watches shown w'
same_watches shown w w' seen looking h =
    record {
      latest = subst (λ (l : Looking). IsFrom shown l.known l.latest) (sym looking) h.latest;
      seen = subst (λ (l : Looking). AllByRecursion (IsFrom shown l.known) w'.seen) (sym looking) (subst (AllByRecursion (IsFrom shown w.looking.known)) (sym seen) h.seen);
      rises = subst IsRising (sym seen) h.rises;
      most = subst (λ (l : Looking). AllByRecursion (λ (x : Progress). x.rounds ≤ l.latest.rounds) w'.seen) (sym looking)
          (subst (AllByRecursion (λ (x : Progress). x.rounds ≤ w.looking.latest.rounds)) (sym seen) h.most);
    }

pub both : (s s' : Showing) → s'.shown ≡ s.shown → KeepsWatching s.one s'.one → KeepsWatching s.other s'.other → WatchStands s → WatchStands s'
both s s' same one other h =
    record { one = subst (λ (shown : ShownTotals). Watches shown s'.one) (sym same) (one s.shown h.one); other = subst (λ (shown : ShownTotals). Watches shown s'.other) (sym same) (other s.shown h.other) }

pub both_more : (s s' : Showing) (more : ShownTotals) → s'.shown ≡ s.shown ++ more → KeepsWatching s.one s'.one → KeepsWatching s.other s'.other → WatchStands s → WatchStands s'
both_more s s' more same one other h =
    record {
      one = subst (λ (shown : ShownTotals). Watches shown s'.one) (sym same) (one (s.shown ++ more) (shown_more s.shown more s.one h.one));
      other = subst (λ (shown : ShownTotals). Watches shown s'.other) (sym same) (other (s.shown ++ more) (shown_more s.shown more s.other h.other));
    }

pub published : {E : Type 0} (r : Result (Unit {0}) E) (s s' : Showing) (x : Progress) → OnOk r (s'.shown ≡ s.shown ++ x ∷ []) → OnErr r (s'.shown ≡ s.shown) → KeepsWatching s.one s'.one → KeepsWatching s.other s'.other → WatchStands s → WatchStands s'
published (Ok u) s s' x ok err one other h = both_more s s' (x ∷ []) ok one other h
published (Err e) s s' x ok err one other h = both s s' err one other h

pub know_so : (s s' : Showing) → s'.shown ≡ s.shown → s.one.looking.latest.rounds ≤ s'.one.looking.latest.rounds → s.other.looking.latest.rounds ≤ s'.other.looking.latest.rounds → KnowLast s → KnowLast s'
know_so s s' same one other h =
    record {
      one = λ last is. let low = h.one last (subst (IsLast last) same is) in omega (arith, low, one);
      other = λ last is. let low = h.other last (subst (IsLast last) same is) in omega (arith, low, other);
    }
