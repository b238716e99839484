-- What a hub holds are pages in the order of their keys.
use Rattle.std.proofs.Common.{ℕ, Bool, true, false, cond, List, [], ◌∷◌, length, Option, Some, None, nat_le, eqb, refl, sym, subst}
use Rattle.std.specs.Prelude.{◌||◌, unwrap_or}
use Rattle.std.specs.List.{AllByRecursion}
use Rattle.std.specs.Option.{option_and_then}
use Rattle.std.specs.Map.{set_value, remove_entry}
use Rattle.std.specs.BTreeMap.{insert_entry}
use Rattle.std.specs.Ordering.{match_ordering}
use Rattle.std.specs.declared.cmp.Ordering.{Ordering}
use Rattle.std.specs.declared.cmp.Ordering.TheVariants.{Less, Equal, Greater}
use Rattle.hs_base.proofs.Alls.{all_push}
use Rattle.hs_base.specs.declared.ids.TraceId.{TraceId}
use Rattle.hs_base.specs.Ids.{same_trace}
use Rattle.hs_words.specs.Pages.{Sheet}
use Rattle.hs_words.specs.Reading.{Spells}
use Rattle.hs_traces.specs.declared.answers.Added as page_answers
use Rattle.hs_traces.specs.declared.answers.Added.TheVariants as of_page
use Rattle.hs_traces.specs.declared.answers.Offered as offer_answers
use Rattle.hs_traces.specs.declared.answers.Offered.TheVariants as of_offer
use Rattle.hs_traces.specs.declared.key.PageKey.{PageKey}
use Rattle.hs_traces.specs.Keys.{key_cmp}
use Rattle.hs_traces.specs.Parts.{Pages, with_page}
use Rattle.hs_traces.specs.Traces as traces
use Rattle.hs_traces.specs.Traces.{PlainTraces, part_of, with_page_in, with_page_of, offered}
use Rattle.hs_traces.specs.History as history
use Rattle.hs_traces.specs.History.{TraceDeed, Coming, Comes, Offers, Saves, after_all, after_answer, after_offer}
use Rattle.hs_traces.proofs.Pages.{sorted_nil, sorted-insert}
use Rattle.hs_cursor.specs.Walking.{AreInOrder, AreSheets}
use Rattle.hs_cursor.proofs.Walks.{walks}
use Rattle.hs_hub.specs.declared.answers.HubLimits.{HubLimits}
use Rattle.hs_hub.specs.Hub.{PlainHub, no_hub, room, pages_out, answer_to_take}
use Rattle.hs_hub.specs.Life.{HubAct, Hears, Tells, Reports, Says, Asks, Passes, Gives, LetsGo, Names, after, life, deeds_of, offers, saves}
use Rattle.hs_hub.specs.RowsOut.{BringsPages, AllBringPages, GivesRows}
use Rattle.hs_hub.proofs.Lives.{one_call}

abbrev Sheets : Type 0
Sheets = List (PageKey × Sheet)

-- ---- one part

record IsGood (pages : Pages) : Type 0 where
  order : AreInOrder pages
  sheets : Sheets
  are : AreSheets sheets pages

none_good : IsGood []
none_good = record { order = sorted_nil; sheets = []; are = tt }

abbrev SomeSheets : Pages → Type 0
SomeSheets pages = (sheets : Sheets) × AreSheets sheets pages

more_sheets : (key : PageKey) (bytes : List ℕ) (sheet : Sheet) → Spells sheet bytes → (sheets : Sheets) (pages : Pages) → AreSheets sheets pages → SomeSheets (insert_entry key_cmp pages key bytes)
more_sheets key bytes sheet spells [] [] are = ((key, sheet) ∷ [], ((refl, spells), tt))
more_sheets key bytes sheet spells [] (x ∷ pages) are = absurd are
more_sheets key bytes sheet spells (s ∷ sheets) [] are = absurd are
more_sheets key bytes sheet spells (s ∷ sheets) (x ∷ pages) are = at (key_cmp key x.0) (more_sheets key bytes sheet spells sheets pages are.1)
  where
    at : (o : Ordering) → SomeSheets (insert_entry key_cmp pages key bytes) → SomeSheets (match_ordering o ((key, bytes) ∷ x ∷ pages) ((x.0, bytes) ∷ pages) (x ∷ insert_entry key_cmp pages key bytes))
    at Less rest = ((key, sheet) ∷ s ∷ sheets, ((refl, spells), are))
    at Equal rest = ((x.0, sheet) ∷ sheets, ((refl, spells), are.1))
    at Greater rest = (s ∷ rest.0, (are.0, rest.1))

with_good : (pages : Pages) (key : PageKey) (bytes : List ℕ) → (sheet : Sheet) × Spells sheet bytes → IsGood pages → IsGood (with_page pages key bytes)
with_good pages key bytes (sheet, spells) good =
    let more = more_sheets key bytes sheet spells good.sheets pages good.are in
    record { order = sorted-insert key bytes pages good.order; sheets = more.0; are = more.1 }

-- ---- all parts

abbrev AllGood : List (TraceId × Pages) → Type 0
AllGood parts = AllByRecursion (λ part. IsGood part.1) parts

found_good : (trace : TraceId) (parts : List (TraceId × Pages)) → AllGood parts → IsGood (unwrap_or (part_of parts trace) [])
found_good trace [] all = none_good
found_good trace (x ∷ parts) all = at (same_trace trace x.0) (found_good trace parts all.1)
  where
    at : (b : Bool) → IsGood (unwrap_or (part_of parts trace) []) → IsGood (unwrap_or (cond b (Some x.1) (part_of parts trace)) [])
    at true rest = all.0
    at false rest = rest

removed_good : (trace : TraceId) (parts : List (TraceId × Pages)) → AllGood parts → AllGood (remove_entry (same_trace trace) parts)
removed_good trace [] all = tt
removed_good trace (x ∷ parts) all = at (same_trace trace x.0) (removed_good trace parts all.1)
  where
    at : (b : Bool) → AllGood (remove_entry (same_trace trace) parts) → AllGood (cond b parts (x ∷ remove_entry (same_trace trace) parts))
    at true rest = all.1
    at false rest = (all.0, rest)

set_good : (trace : TraceId) (pages : Pages) → IsGood pages → (parts : List (TraceId × Pages)) → AllGood parts → AllGood (set_value (same_trace trace) parts pages)
set_good trace pages good [] all = tt
set_good trace pages good (x ∷ parts) all = at (same_trace trace x.0) (set_good trace pages good parts all.1)
  where
    at : (b : Bool) → AllGood (set_value (same_trace trace) parts pages) → AllGood (cond b ((x.0, pages) ∷ parts) (x ∷ set_value (same_trace trace) parts pages))
    at true rest = (good, all.1)
    at false rest = (all.0, rest)

record AreGood (s : PlainTraces) : Type 0 where
  waiting : AllGood s.waiting
  out : AllGood s.out

joined_good : (s : PlainTraces) (page : Coming) → (sheet : Sheet) × Spells sheet page.bytes → AreGood s → AreGood (with_page_of s page.trace page.key page.bytes)
joined_good s page spelled good = record { waiting = at (part_of s.waiting page.trace) (found_good page.trace s.waiting good.waiting); out = good.out }
  where
    at : (o : Option Pages) → IsGood (unwrap_or o []) → AllGood (with_page_in s.waiting page.trace page.key page.bytes o)
    at None was = (with_good [] page.key page.bytes spelled none_good, good.waiting)
    at (Some pages) was = set_good page.trace (with_page pages page.key page.bytes) (with_good pages page.key page.bytes spelled was) s.waiting good.waiting

-- ---- one deed, and more

abbrev IsPageDeed : TraceDeed → Type 0
IsPageDeed (Comes page) = (sheet : Sheet) × Spells sheet page.bytes
IsPageDeed (Offers trace) = Unit {0}
IsPageDeed (Saves trace) = Unit {0}

one_deed : (s : PlainTraces) (deed : TraceDeed) → IsPageDeed deed → AreGood s → AreGood (history.after s deed)
one_deed s (Comes page) spelled good = at (traces.answer_to s page.trace page.key (length page.bytes))
  where
    at : (a : page_answers.Added) → AreGood (after_answer s page a)
    at of_page.Added = joined_good s page spelled good
    at of_page.Repeated = good
    at of_page.NoPage = good
    at of_page.Foreign = good
    at of_page.Full = good
one_deed s (Offers trace) is good = at (traces.answer_of_offer s trace)
  where
    at : (a : offer_answers.Offered) → AreGood (after_offer s trace a)
    at of_offer.Given = record {
      waiting = removed_good trace s.waiting good.waiting;
      out = all_push (λ part. IsGood part.1) s.out (trace, unwrap_or (part_of s.waiting trace) []) good.out (found_good trace s.waiting good.waiting);
    }
    at of_offer.Unknown = good
    at of_offer.Unsaved = good
    at of_offer.Busy = good
one_deed s (Saves trace) is good = record { waiting = good.waiting; out = removed_good trace s.out good.out }

all_deeds_good : (s : PlainTraces) (deeds : List TraceDeed) → AllByRecursion IsPageDeed deeds → AreGood s → AreGood (after_all s deeds)
all_deeds_good s [] are good = good
all_deeds_good s (deed ∷ deeds) are good = all_deeds_good (history.after s deed) deeds are.1 (one_deed s deed are.0 good)

-- ---- the calls of a hub

comes_once : (b : Bool) (page : Coming) → (sheet : Sheet) × Spells sheet page.bytes → AllByRecursion IsPageDeed (cond b [] (Comes page ∷ []))
comes_once true page spelled = tt
comes_once false page spelled = (spelled, tt)

offers_once : (trace : Option TraceId) → AllByRecursion IsPageDeed (offers trace)
offers_once None = tt
offers_once (Some trace) = (tt, tt)

saves_once : (trace : Option TraceId) → AllByRecursion IsPageDeed (saves trace)
saves_once None = tt
saves_once (Some trace) = (tt, tt)

brought : (h : PlainHub) (act : HubAct) → BringsPages act → AllByRecursion IsPageDeed (deeds_of h act)
brought h (Hears node epoch) is = tt
brought h (Tells message told) is = tt
brought h (Reports message trace key bytes) is = comes_once (nat_le h.limits.nodes message.node || eqb (room h) 0) (record { trace = trace; key = key; bytes = bytes }) is
brought h (Says message standing) is = tt
brought h Asks is = tt
brought h Passes is = tt
brought h Gives is = offers_once (answer_to_take h)
brought h LetsGo is = saves_once h.receipts.out
brought h Names is = tt

life_good : (h : PlainHub) (acts : List HubAct) → AllBringPages acts → AreGood h.traces → AreGood (life h acts).traces
life_good h [] are good = good
life_good h (act ∷ acts) are good = life_good (after h act) acts are.1 (subst AreGood (sym (one_call h act)) (all_deeds_good h.traces (deeds_of h act) (brought h act are.0) good))

out_good : (h : PlainHub) → AreGood h.traces → IsGood (pages_out h)
out_good h good = at h.receipts.out
  where
    at : (o : Option TraceId) → IsGood (unwrap_or (option_and_then (part_of h.traces.out) o) [])
    at None = none_good
    at (Some trace) = found_good trace h.traces.out good.out

pub gives_rows : (epoch : ℕ) (is_fresh : Bool) (limits : HubLimits) (acts : List HubAct) → AllBringPages acts → GivesRows (life (no_hub epoch is_fresh limits) acts)
gives_rows epoch is_fresh limits acts are =
    let h = life (no_hub epoch is_fresh limits) acts in
    let good = out_good h (life_good (no_hub epoch is_fresh limits) acts are (record { waiting = tt; out = tt })) in
    (good.sheets, good.are, λ steps. walks (pages_out h) good.sheets steps good.order good.are)
