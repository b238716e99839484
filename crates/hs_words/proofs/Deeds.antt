-- What stays true of the deeds of a pool's ends as further deeds come.
use Rattle.std.proofs.Common.{◌≡◌, ◌≢◌, ◌⊎◌, ℕ, zero, suc, ◌+◌, ◌*◌, ◌<◌, ◌≤◌, Bool, true, false, ◌==◌, List, [], ◌∷◌, ◌++◌, length, refl, sym, ap, ◌∙◌, subst, inl, inr, ⊎_elim, arith, length-append}
use Rattle.std.specs.List.{AllByRecursion}
use Rattle.std.specs.Prelude.{count_by}
use borrow.Author.Tests.{eqb-true, eq-eqb, ne_eqb}
use Rattle.hs_words.specs.PoolHistory.{PoolEvent, Got, Empty, Given, Missed}
use Rattle.hs_words.specs.Ends.{Deed, Answer, GiverTurn, answered, unread, met, got_by, draws, gives, drawn_in, given_in, answer_to, put_if, answers_by, answers_in, told_in, IsDeedAt, IsDraw, IsGot, Names, NoneSince, Spends, EachSpends, SpendsThe, IsUnread, EachUnread, AreAnswers}

-- ---- lists

pub all_of : {A : Type 0} {P Q : A → Type 0} (xs : List A) → ((x : A) → P x → Q x) → AllByRecursion P xs → AllByRecursion Q xs
all_of [] f all = tt
all_of (x ∷ xs) f all = (f x all.0, all_of xs f all.1)

-- ---- deeds at their stamps

pub at_below : (log : List Deed) (stamp : ℕ) (deed : Deed) → IsDeedAt log stamp deed → stamp < length log
at_below [] stamp deed at = absurd at
at_below (last ∷ earlier) stamp deed (inl here) = let e : stamp ≡ length earlier = here.0 in omega arith
at_below (last ∷ earlier) stamp deed (inr before) = let less = at_below earlier stamp deed before in omega arith

pub at_more : (added log : List Deed) (stamp : ℕ) (deed : Deed) → IsDeedAt log stamp deed → IsDeedAt (added ++ log) stamp deed
at_more [] log stamp deed at = at
at_more (x ∷ xs) log stamp deed at = inr (at_more xs log stamp deed at)

pub at_split : (added log : List Deed) (stamp : ℕ) (deed : Deed) → IsDeedAt (added ++ log) stamp deed → IsDeedAt log stamp deed ⊎ (length log ≤ stamp)
at_split [] log stamp deed at = inl at
at_split (x ∷ xs) log stamp deed (inl here) = let e : stamp ≡ length (xs ++ log) = here.0 in inr (omega (arith, length-append xs log))
at_split (x ∷ xs) log stamp deed (inr before) = at_split xs log stamp deed before

pub at_once : (log : List Deed) (stamp : ℕ) (one other : Deed) → IsDeedAt log stamp one → IsDeedAt log stamp other → one ≡ other
at_once [] stamp one other at at' = absurd at
at_once (last ∷ earlier) stamp one other (inl here) (inl here') = sym here.1 ∙ here'.1
at_once (last ∷ earlier) stamp one other (inl here) (inr before) = let e : stamp ≡ length earlier = here.0 in let less = at_below earlier stamp other before in absurd (omega arith)
at_once (last ∷ earlier) stamp one other (inr before) (inl here) = let e : stamp ≡ length earlier = here.0 in let less = at_below earlier stamp one before in absurd (omega arith)
at_once (last ∷ earlier) stamp one other (inr before) (inr before') = at_once earlier stamp one other before before'

pub draw_is_at : (log : List Deed) (number stamp : ℕ) (deed : Deed) → IsDraw log number stamp deed → IsDeedAt log stamp deed
draw_is_at [] number stamp deed draw = draw
draw_is_at (last ∷ earlier) number stamp deed (inl here) = inl (here.2, here.3)
draw_is_at (last ∷ earlier) number stamp deed (inr before) = inr (draw_is_at earlier number stamp deed before)

pub draw_more : (added log : List Deed) (number stamp : ℕ) (deed : Deed) → IsDraw log number stamp deed → IsDraw (added ++ log) number stamp deed
draw_more [] log number stamp deed draw = draw
draw_more (x ∷ xs) log number stamp deed draw = inr (draw_more xs log number stamp deed draw)

pub got_more : (added log : List Deed) (stamp buffer : ℕ) → IsGot log stamp buffer → IsGot (added ++ log) stamp buffer
got_more added log stamp buffer (by, at) = (by, at_more added log stamp (got_by by buffer) at)

pub got_below : (log : List Deed) (stamp buffer : ℕ) → IsGot log stamp buffer → stamp < length log
got_below log stamp buffer (by, at) = at_below log stamp (got_by by buffer) at

-- one draw got one buffer
pub got_once : (log : List Deed) (stamp one other : ℕ) → IsGot log stamp one → IsGot log stamp other → one ≡ other
got_once log stamp one other (by, at) (by', at') = same_buffer (ap (λ (d : Deed). d.event) (at_once log stamp (got_by by one) (got_by by' other) at at'))
  where
    same_buffer : Got one ≡ Got other → one ≡ other
    same_buffer e = cc

-- ---- what comes after

pub none_more : (added log : List Deed) (buffer stamp : ℕ) → AllByRecursion (λ (d : Deed). Names buffer d.event → ⊥) added → NoneSince buffer stamp log → NoneSince buffer stamp (added ++ log)
none_more [] log buffer stamp others none = none
none_more (x ∷ xs) log buffer stamp others none = ((λ _. others.0), none_more xs log buffer stamp others.1 none)

-- nothing comes after what has not come yet
pub none_yet : (log : List Deed) (buffer stamp : ℕ) → length log ≤ suc stamp → NoneSince buffer stamp log
none_yet [] buffer stamp high = tt
none_yet (x ∷ xs) buffer stamp high = ((λ low. absurd (omega arith)), none_yet xs buffer stamp (omega arith))

put_none : (b : Bool) (answer : Answer) (answers : List Answer) → b ≡ false → put_if b answer answers ≡ answers
put_none true answer answers e = absurd cc
put_none false answer answers e = refl

put_one : (b : Bool) (answer : Answer) (answers : List Answer) → b ≡ true → put_if b answer answers ≡ answer ∷ answers
put_one true answer answers e = refl
put_one false answer answers e = absurd cc

pub answers_more : (added log : List Deed) (end : ℕ) → AllByRecursion (λ (d : Deed). d.by ≢ end) added → answers_by end (added ++ log) ≡ answers_by end log
answers_more [] log end others = refl
answers_more (x ∷ xs) log end others =
    put_none (x.by == end) (answer_to x (length (xs ++ log))) (answers_by end (xs ++ log)) (ne_eqb x.by end others.0) ∙ answers_more xs log end others.1

pub answers_and : (deed : Deed) (log : List Deed) (end : ℕ) → deed.by ≡ end → answers_by end (deed ∷ log) ≡ answer_to deed (length log) ∷ answers_by end log
answers_and deed log end by = put_one (deed.by == end) (answer_to deed (length log)) (answers_by end log) (eq-eqb deed.by end by)

put_all : (P : Answer → Type 0) (b : Bool) (answer : Answer) (answers : List Answer) → P answer → AllByRecursion P answers → AllByRecursion P (put_if b answer answers)
put_all P true answer answers one all = (one, all)
put_all P false answer answers one all = all

pub answers_below : (log : List Deed) (end : ℕ) → AllByRecursion (λ (a : Answer). a.stamp < length log) (answers_by end log)
answers_below [] end = tt
answers_below (x ∷ xs) end =
    put_all (λ (a : Answer). a.stamp < suc (length xs)) (x.by == end) (answer_to x (length xs)) (answers_by end xs) (let n : ℕ = length xs in let less : n < suc n = omega arith in less)
    (all_of (answers_by end xs) (λ (a : Answer) (less : a.stamp < length xs). omega arith) (answers_below xs end))

-- an end with a higher number has no answer
pub no_answers : (log : List Deed) (most end : ℕ) → most < end → AllByRecursion (λ (d : Deed). d.by ≤ most) log → answers_by end log ≡ []
no_answers [] most end high all = refl
no_answers (x ∷ xs) most end high all =
    put_none (x.by == end) (answer_to x (length xs)) (answers_by end xs) (ne_eqb x.by end (λ e. let le : x.by ≤ most = all.0 in omega arith)) ∙ no_answers xs most end high all.1

pub are_answers_more : (added log : List Deed) (end : ℕ) (lists : List (List Answer)) → AllByRecursion (λ (d : Deed). d.by < end) added → AreAnswers end log lists → AreAnswers end (added ++ log) lists
are_answers_more added log end [] below are = tt
are_answers_more added log end (answers ∷ others) below are = (
  are.0 ∙ sym (answers_more added log end (all_of added (λ (d : Deed) (less : d.by < end) e. omega arith) below)),
  are_answers_more added log (suc end) others (all_of added (λ (d : Deed) (less : d.by < end). omega arith) below) are.1,
)

-- ---- leases

unspent_from : (log : List Deed) (stamp buffer : ℕ) → EachSpends log → NoneSince buffer stamp log → ((other : ℕ) → IsGot log stamp other → other ≡ buffer)
    → AllByRecursion (λ (a : Answer). SpendsThe stamp a.event a.draw → ⊥) (answers_by 0 log)
unspent_from [] stamp buffer spent none only = tt
unspent_from (x ∷ xs) stamp buffer spent none only =
    put_all (λ (a : Answer). SpendsThe stamp a.event a.draw → ⊥) (x.by == 0) (answer_to x (length xs)) (answers_by 0 xs) (this x.event refl)
    (unspent_from xs stamp buffer spent.1 none.1 (λ other (by, at). only other (by, inr at)))
  where
    this : (event : PoolEvent) → event ≡ x.event → SpendsThe stamp x.event x.draw → ⊥
    this (Got b) e = subst (λ (v : PoolEvent). SpendsThe stamp v x.draw → ⊥) e (λ n. n)
    this Empty e = subst (λ (v : PoolEvent). SpendsThe stamp v x.draw → ⊥) e (λ n. n)
    this (Given b) e =
        let told : Spends xs (Given b) x.draw = subst (λ (v : PoolEvent). Spends xs v x.draw) (sym e) spent.0 in
        let later : stamp < length xs → Names buffer (Given b) → ⊥ = subst (λ (v : PoolEvent). stamp < length xs → Names buffer v → ⊥) (sym e) none.0 in
        subst (λ (v : PoolEvent). SpendsThe stamp v x.draw → ⊥) e
        (λ (same : x.draw ≡ stamp).
        let got : IsGot xs stamp b = subst (λ (s : ℕ). IsGot xs s b) same told.0 in
        later (got_below xs stamp b got) (only b (got.0, inr got.1)))
    this Missed e = subst (λ (v : PoolEvent). SpendsThe stamp v x.draw → ⊥) e (λ n. n)

-- where no event since a draw has its buffer, its lease was not spent
pub unspent : (log : List Deed) (stamp buffer : ℕ) → EachSpends log → NoneSince buffer stamp log → IsGot log stamp buffer
    → AllByRecursion (λ (a : Answer). SpendsThe stamp a.event a.draw → ⊥) (answers_by 0 log)
unspent log stamp buffer spent none got = unspent_from log stamp buffer spent none (λ other got'. got_once log stamp other buffer got' got)

-- ---- gives that were unread

pub unread_more : (n : ℕ) (added log : List Deed) (turns : List GiverTurn) → AllByRecursion (λ (a : Answer). a.stamp < length log) (answers_in turns) → EachUnread n log turns → EachUnread n (added ++ log) turns
unread_more n added log [] below each = tt
unread_more n added log (answered answer ∷ before) below each = unread_more n added log before below.1 each
unread_more n added log (unread ∷ before) below each =
    let u = each.0 in (
      record {
        number = u.number;
        stamp = u.stamp;
        drawer = u.drawer;
        buffer = u.buffer;
        laps = u.laps;
        draw = draw_more added log u.number u.stamp (got_by u.drawer u.buffer) u.draw;
        unspent = u.unspent;
        last = λ later deed at by above.
            ⊎_elim (λ old. u.last later deed old by above) (λ new. all_of (answers_in before) (λ (a : Answer) (less : a.stamp < length log). omega arith) below) (at_split added log later deed at);
        untold = u.untold;
      },
      unread_more n added log before below each.1,
    )
unread_more n added log (met stamps ∷ before) below each = unread_more n added log before below each

-- ---- counts

pub event_counts : (event : PoolEvent) → draws event + gives event ≡ 1
event_counts (Got buffer) = refl
event_counts Empty = refl
event_counts (Given buffer) = refl
event_counts Missed = refl

pub stamp_is : (log : List Deed) → drawn_in log + given_in log ≡ length log
stamp_is [] = refl
stamp_is (x ∷ xs) = omega (arith, event_counts x.event, stamp_is xs)
