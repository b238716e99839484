-- What the calls do to the part of one trace.
use Rattle.std.proofs.Common.{◌≡◌, ◌≢◌, ◌||◌, ℕ, Bool, true, false, cond, List, [], ◌∷◌, ◌++◌, length, Option, Some, None, unwrap_or, refl, sym, ap, subst, ◌∙◌}
use Rattle.std.specs.Prelude.{if◌then◌else◌}
use Rattle.std.specs.Map.{set_value, remove_entry}
use Rattle.hs_base.proofs.Bools.{by_answer}
use Rattle.hs_base.specs.declared.ids.TraceId.{TraceId}
use Rattle.hs_base.specs.Ids.{same_trace}
use Rattle.hs_traces.specs.declared.answers.Added.{Added as Answer}
use Rattle.hs_traces.specs.declared.answers.Added.TheVariants.{Added, Repeated, NoPage, Foreign, Full}
use Rattle.hs_traces.specs.declared.answers.Offered.{Offered}
use Rattle.hs_traces.specs.declared.answers.Offered.TheVariants.{Given, Unknown, Unsaved, Busy}
use Rattle.hs_traces.specs.declared.key.PageKey.{PageKey}
use Rattle.hs_traces.specs.Parts.{Pages, has_key, page_with, with_page}
use Rattle.hs_traces.specs.Traces.{Parts, PlainTraces, part_of, has_page, has_page_in, is_full, answer_to, with_page_in, with_page_of, answer_of_offer}
use Rattle.hs_traces.specs.History.{Coming, TraceDeed, Comes, Offers, Saves, after_answer, after_offer, after, after_all, pages_of, HoldsNothing, HearsAll, Brings, AreSamePages}
use Rattle.hs_traces.proofs.Order.{same_trace-true, same_trace-refl, same_trace_laws}
use Rattle.hs_traces.proofs.Parting.{joined, all_joined, wrapped, wrapped-new, unwrapped, brought_stand, one_part}

-- ---- another trace's part changes

module _ (trace other : TraceId) (apart : same_trace trace other ≡ false) where
  not_both : (x : TraceId) → same_trace other x ≡ true → same_trace trace x ≡ false
  not_both x here = sym (same_trace_laws.symm x trace) ∙ ap (λ (y : TraceId). same_trace y trace) (sym (same_trace-true other x here)) ∙ same_trace_laws.symm other trace ∙ apart

  lookup-set_other : (parts : Parts) (w : Pages) → part_of (set_value (same_trace other) parts w) trace ≡ part_of parts trace
  lookup-set_other [] w = refl
  lookup-set_other (e ∷ parts) w =
      by_answer (same_trace other e.0)
      (λ y. ap (λ b. part_of (cond b ((e.0, w) ∷ parts) (e ∷ set_value (same_trace other) parts w)) trace) y
      ∙ ap (λ b. cond b (Some w) (part_of parts trace)) (not_both e.0 y)
      ∙ sym (ap (λ b. cond b (Some e.1) (part_of parts trace)) (not_both e.0 y)))
      (λ n. ap (λ b. part_of (cond b ((e.0, w) ∷ parts) (e ∷ set_value (same_trace other) parts w)) trace) n
      ∙ ap (λ o. cond (same_trace trace e.0) (Some e.1) o) (lookup-set_other parts w))

  lookup-remove_other : (parts : Parts) → part_of (remove_entry (same_trace other) parts) trace ≡ part_of parts trace
  lookup-remove_other [] = refl
  lookup-remove_other (e ∷ parts) =
      by_answer (same_trace other e.0)
      (λ y. ap (λ b. part_of (cond b parts (e ∷ remove_entry (same_trace other) parts)) trace) y
      ∙ sym (ap (λ b. cond b (Some e.1) (part_of parts trace)) (not_both e.0 y)))
      (λ n. ap (λ b. part_of (cond b parts (e ∷ remove_entry (same_trace other) parts)) trace) n
      ∙ ap (λ o. cond (same_trace trace e.0) (Some e.1) o) (lookup-remove_other parts))

  lookup-push_other : (parts : Parts) (pages : Pages) → part_of (parts ++ (other, pages) ∷ []) trace ≡ part_of parts trace
  lookup-push_other [] pages = ap (λ b. cond b (Some pages) None) apart
  lookup-push_other (e ∷ parts) pages = ap (λ o. cond (same_trace trace e.0) (Some e.1) o) (lookup-push_other parts pages)

  put_other : (parts : Parts) (key : PageKey) (bytes : List ℕ) (o : Option Pages) → part_of (with_page_in parts other key bytes o) trace ≡ part_of parts trace
  put_other parts key bytes None = ap (λ b. cond b (Some ((key, bytes) ∷ [])) (part_of parts trace)) apart
  put_other parts key bytes (Some pages) = lookup-set_other parts (with_page pages key bytes)

-- ---- the trace's own part changes

module _ (trace : TraceId) where
  lookup-remove_none : (other : TraceId) (parts : Parts) → part_of parts trace ≡ None → part_of (remove_entry (same_trace other) parts) trace ≡ None
  lookup-remove_none other [] none = refl
  lookup-remove_none other (e ∷ parts) none = at (same_trace trace e.0) refl none (lookup-remove_none other parts)
    where
      at : (b : Bool) → same_trace trace e.0 ≡ b → cond b (Some e.1) (part_of parts trace) ≡ None → (part_of parts trace ≡ None → part_of (remove_entry (same_trace other) parts) trace ≡ None)
          → part_of (cond (same_trace other e.0) parts (e ∷ remove_entry (same_trace other) parts)) trace ≡ None
      at true y none rest = let never : Some e.1 ≡ None = none in absurd cc
      at false n none rest =
          by_answer (same_trace other e.0)
          (λ here. ap (λ b. part_of (cond b parts (e ∷ remove_entry (same_trace other) parts)) trace) here ∙ none)
          (λ there. ap (λ b. part_of (cond b parts (e ∷ remove_entry (same_trace other) parts)) trace) there ∙ ap (λ b. cond b (Some e.1) (part_of (remove_entry (same_trace other) parts) trace)) n ∙ rest none)

  lookup-set_same : (parts : Parts) (old w : Pages) → part_of parts trace ≡ Some old → part_of (set_value (same_trace trace) parts w) trace ≡ Some w
  lookup-set_same [] old w found = let never : None ≡ Some old = found in absurd cc
  lookup-set_same (e ∷ parts) old w found = at (same_trace trace e.0) refl found (lookup-set_same parts old w)
    where
      at : (b : Bool) → same_trace trace e.0 ≡ b → cond b (Some e.1) (part_of parts trace) ≡ Some old → (part_of parts trace ≡ Some old → part_of (set_value (same_trace trace) parts w) trace ≡ Some w)
          → part_of (cond b ((e.0, w) ∷ parts) (e ∷ set_value (same_trace trace) parts w)) trace ≡ Some w
      at true y found rest = ap (λ b. cond b (Some w) (part_of parts trace)) y
      at false n found rest = ap (λ b. cond b (Some e.1) (part_of (set_value (same_trace trace) parts w) trace)) n ∙ rest found

  put_there : (parts : Parts) (key : PageKey) (bytes : List ℕ) (pages : Pages) → part_of parts trace ≡ wrapped pages
      → part_of (with_page_in parts trace key bytes (part_of parts trace)) trace ≡ Some (with_page pages key bytes)
  put_there parts key bytes [] is =
      ap (λ o. part_of (with_page_in parts trace key bytes o) trace) is ∙ ap (λ b. cond b (Some ((key, bytes) ∷ [])) (part_of parts trace)) (same_trace-refl trace)
  put_there parts key bytes (p ∷ ps) is =
      ap (λ o. part_of (with_page_in parts trace key bytes o) trace) is ∙ lookup-set_same parts (p ∷ ps) (with_page (p ∷ ps) key bytes) is

-- ---- calls, one after another

-- these pages wait of the trace, and none is out
record Follows (trace : TraceId) (s : PlainTraces) (pages : Pages) : Type 0 where
  waiting : part_of s.waiting trace ≡ wrapped pages
  out : part_of s.out trace ≡ None

or_false : (b : Bool) → (b || false) ≡ b
or_false true = refl
or_false false = refl

has_own : (trace : TraceId) (s : PlainTraces) (pages : Pages) (key : PageKey) → Follows trace s pages → has_page s trace key ≡ has_key pages key
has_own trace s pages key follows =
    ap (λ (o : Option Pages). has_page_in s.waiting trace key || has_key (unwrap_or o []) key) follows.out
    ∙ or_false (has_page_in s.waiting trace key)
    ∙ ap (λ (o : Option Pages). has_key (unwrap_or o []) key) follows.waiting
    ∙ ap (λ (p : Pages). has_key p key) (unwrapped pages)

own_page : (page : Coming) (s : PlainTraces) (pages : Pages) → Follows page.trace s pages → answer_to s page.trace page.key (length page.bytes) ≢ Full → Follows page.trace (after s (Comes page)) (joined pages page)
own_page page s pages follows fits =
    by_answer (has_key pages page.key) repeated fresh
  where
    is_answer : (a : Answer) → answer_to s page.trace page.key (length page.bytes) ≡ a → Follows page.trace (after_answer s page a) (joined pages page) → Follows page.trace (after s (Comes page)) (joined pages page)
    is_answer a e is = subst (λ (b : Answer). Follows page.trace (after_answer s page b) (joined pages page)) (sym e) is

    repeated : has_key pages page.key ≡ true → Follows page.trace (after s (Comes page)) (joined pages page)
    repeated y =
        is_answer Repeated
        (ap (λ b. if b then Repeated else (if is_full s page.trace (length page.bytes) then Full else Added)) (has_own page.trace s pages page.key follows ∙ y))
        (subst (Follows page.trace s) (sym (ap (λ b. cond b pages (with_page pages page.key page.bytes)) y)) follows)

    grown : has_key pages page.key ≡ false → Follows page.trace (with_page_of s page.trace page.key page.bytes) (joined pages page)
    grown n = record {
      waiting = put_there page.trace s.waiting page.key page.bytes pages follows.waiting ∙ sym (wrapped-new pages page.key page.bytes) ∙ sym (ap (λ b. wrapped (cond b pages (with_page pages page.key page.bytes))) n);
      out = follows.out;
    }

    new_answer : has_key pages page.key ≡ false → answer_to s page.trace page.key (length page.bytes) ≡ (if is_full s page.trace (length page.bytes) then Full else Added)
    new_answer n = ap (λ b. if b then Repeated else (if is_full s page.trace (length page.bytes) then Full else Added)) (has_own page.trace s pages page.key follows ∙ n)

    fresh : has_key pages page.key ≡ false → Follows page.trace (after s (Comes page)) (joined pages page)
    fresh n =
        by_answer (is_full s page.trace (length page.bytes))
        (λ full. absurd (fits (new_answer n ∙ ap (λ b. if b then Full else Added) full)))
        (λ room. is_answer Added (new_answer n ∙ ap (λ b. if b then Full else Added) room) (grown n))

other_page : (trace : TraceId) (page : Coming) (s : PlainTraces) (pages : Pages) (a : Answer) → same_trace trace page.trace ≡ false → Follows trace s pages → Follows trace (after_answer s page a) pages
other_page trace page s pages Added apart follows = record { waiting = put_other trace page.trace apart s.waiting page.key page.bytes (part_of s.waiting page.trace) ∙ follows.waiting; out = follows.out }
other_page trace page s pages Repeated apart follows = follows
other_page trace page s pages NoPage apart follows = follows
other_page trace page s pages Foreign apart follows = follows
other_page trace page s pages Full apart follows = follows

other_offer : (trace other : TraceId) (s : PlainTraces) (pages : Pages) (a : Offered) → same_trace trace other ≡ false → Follows trace s pages → Follows trace (after_offer s other a) pages
other_offer trace other s pages Given apart follows = record {
  waiting = lookup-remove_other trace other apart s.waiting ∙ follows.waiting;
  out = lookup-push_other trace other apart s.out (unwrap_or (part_of s.waiting other) []) ∙ follows.out;
}
other_offer trace other s pages Unknown apart follows = follows
other_offer trace other s pages Unsaved apart follows = follows
other_offer trace other s pages Busy apart follows = follows

all_follow : (trace : TraceId) (s : PlainTraces) (pages : Pages) (deeds : List TraceDeed) → Follows trace s pages → HearsAll trace s deeds → Follows trace (after_all s deeds) (all_joined pages (pages_of trace deeds))
all_follow trace s pages [] follows heard = follows
all_follow trace s pages (Comes page ∷ deeds) follows heard =
    by_answer (same_trace trace page.trace)
    (λ y. subst (λ b. Follows trace (after_all s (Comes page ∷ deeds)) (all_joined pages (cond b (page ∷ pages_of trace deeds) (pages_of trace deeds)))) (sym y)
    (all_follow trace (after s (Comes page)) (joined pages page) deeds
    (subst (λ (x : TraceId). Follows x (after s (Comes page)) (joined pages page)) (sym (same_trace-true trace page.trace y))
    (own_page page s pages (subst (λ (x : TraceId). Follows x s pages) (same_trace-true trace page.trace y) follows) (heard.0 y)))
    heard.1))
    (λ n. subst (λ b. Follows trace (after_all s (Comes page ∷ deeds)) (all_joined pages (cond b (page ∷ pages_of trace deeds) (pages_of trace deeds)))) (sym n)
    (all_follow trace (after s (Comes page)) pages deeds (other_page trace page s pages (answer_to s page.trace page.key (length page.bytes)) n follows) heard.1))
all_follow trace s pages (Offers other ∷ deeds) follows heard = all_follow trace (after s (Offers other)) pages deeds (other_offer trace other s pages (answer_of_offer s other) heard.0 follows) heard.1
all_follow trace s pages (Saves other ∷ deeds) follows heard =
    all_follow trace (after s (Saves other)) pages deeds (record { waiting = follows.waiting; out = lookup-remove_none trace other s.out follows.out }) heard.1

from_nothing : (trace : TraceId) (s : PlainTraces) → HoldsNothing trace s → Follows trace s []
from_nothing trace s holds = record { waiting = holds.waiting; out = holds.out }

pub pages_decide : (trace : TraceId) (one other : PlainTraces) (deeds others : List TraceDeed) → HoldsNothing trace one → HoldsNothing trace other → HearsAll trace one deeds → HearsAll trace other others
    → AreSamePages (pages_of trace deeds) (pages_of trace others) → part_of (after_all one deeds).waiting trace ≡ part_of (after_all other others).waiting trace
pages_decide trace one other deeds others holds holds' heard heard' same =
    (all_follow trace one [] deeds (from_nothing trace one holds) heard).waiting
    ∙ ap wrapped (one_part (pages_of trace deeds) (pages_of trace others) same)
    ∙ sym (all_follow trace other [] others (from_nothing trace other holds') heard').waiting

-- each page that comes of the trace waits with its bytes, where its key says which these are
pub what_comes_waits : (trace : TraceId) (s : PlainTraces) (deeds : List TraceDeed) → HoldsNothing trace s → HearsAll trace s deeds → (key : PageKey) (bytes : List ℕ)
    → Brings (pages_of trace deeds) key bytes → ((other : List ℕ) → Brings (pages_of trace deeds) key other → other ≡ bytes) → page_with (unwrap_or (part_of (after_all s deeds).waiting trace) []) key ≡ Some bytes
what_comes_waits trace s deeds holds heard key bytes brought alike =
    let stand = brought_stand (pages_of trace deeds) in
    let found = stand.all key bytes brought in
    ap (λ (o : Option Pages). page_with (unwrap_or o []) key) (all_follow trace s [] deeds (from_nothing trace s holds) heard).waiting
    ∙ ap (λ (pages : Pages). page_with pages key) (unwrapped (all_joined [] (pages_of trace deeds)))
    ∙ found.1
    ∙ ap Some (alike found.0 (stand.only key found.0 found.1))
