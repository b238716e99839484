-- What a message brought that a hub names was saved.
use Rattle.std.proofs.Common.{◌≡◌, ℕ, ◌⊎◌, inl, inr, Bool, true, false, cond, List, [], ◌∷◌, ◌++◌, length, suc, eqb, nat_le, is_none, Option, Some, None, refl, sym, ap, ◌∙◌, append-nil, append_assoc}
use Rattle.std.specs.List.{list_any}
use Rattle.std.proofs.lemmas.Bool.{both_ways, or_parts}
use Rattle.std.proofs.lemmas.List.Folds.{list_any-append}
use Rattle.hs_base.specs.declared.ids.NodeId.{NodeId}
use Rattle.hs_base.specs.declared.ids.TraceId.{TraceId}
use Rattle.hs_base.specs.declared.told.Ask.{Ask}
use Rattle.hs_base.specs.declared.told.Told.{Told}
use Rattle.hs_wire.specs.declared.message.Standing.{Standing}
use Rattle.hs_groups.specs.declared.answers.ToldOutcome as group_answers
use Rattle.hs_groups.specs.declared.answers.ToldOutcome.TheVariants as of_group
use Rattle.hs_groups.specs.Groups as groups
use Rattle.hs_standings.specs.declared.answers.StandingOutcome as standing_answers
use Rattle.hs_standings.specs.declared.answers.StandingOutcome.TheVariants as of_standing
use Rattle.hs_standings.specs.Standing as standings
use Rattle.hs_traces.specs.declared.answers.Added as page_answers
use Rattle.hs_traces.specs.declared.answers.Added.TheVariants as of_page
use Rattle.hs_traces.specs.declared.key.PageKey.{PageKey}
use Rattle.hs_traces.specs.Traces as traces
use Rattle.hs_traces.specs.Traces.{has_page_in}
use Rattle.hs_receipts.specs.declared.answers.MessageId.{MessageId}
use Rattle.hs_receipts.specs.Receipts as receipts
use Rattle.hs_receipts.specs.Receipts.{PlainReceipts, is_message}
use Rattle.hs_hub.specs.declared.answers.Delivered.TheVariants.{Held}
use Rattle.hs_hub.specs.declared.answers.OutReason.{OutReason}
use Rattle.hs_hub.specs.declared.answers.HubLimits.{HubLimits}
use Rattle.hs_hub.specs.Hub.{PlainHub, no_hub, room, node_of, life_of, after_answer_to_told, answer_to_page, after_added, after_page, after_noted, after_ask, goes, after_given, after_saved_of}
use Rattle.hs_hub.specs.Life.{HubAct, Hears, Tells, Reports, Says, Asks, Passes, Gives, LetsGo, Names, after, life}
use Rattle.hs_hub.specs.Named.{named_by, all_named}
use Rattle.hs_hub.specs.Fate.{SayThis, WasSaved}
use Rattle.hs_hub.proofs.Kept as kept_proofs
use Rattle.hs_hub.proofs.Kept.{Holds, AreAmong}
use Rattle.hs_hub.proofs.Named.{waits_come, noted_comes, all_noted_comes, repeat_comes, names, saved_one}
use Rattle.hs_hub.proofs.Restart.{waits_somewhere}
use Rattle.hs_hub.proofs.Fate.{IsIn, IsSavedBy, waits_on, in_on, is_held, stand_on, starts, among_first, among_second}

-- ---- calls that leave what may be acknowledged as it is

abbrev AreSame : PlainHub → PlainHub → Type 0
AreSame h new = new.receipts.done ≡ h.receipts.done

same_if : (b : Bool) (h new : PlainHub) → AreSame h new → AreSame h (cond b h new)
same_if true h new same = refl
same_if false h new same = same

tells : (h : PlainHub) (x : MessageId) (told : Told) (a : group_answers.ToldOutcome) → AreSame h (after_answer_to_told h x told a)
tells h x told (of_group.Taken heard) = (all_noted_comes h.passes x h.receipts told).done
tells h x told of_group.Refused = refl
tells h x told of_group.Full = refl

reports : (h : PlainHub) (x : MessageId) (t : TraceId) (k : PageKey) (bytes : List ℕ) (a : page_answers.Added) → AreSame h (after_added h x t k bytes a)
reports h x t k bytes of_page.Added = (waits_come h.receipts h.passes x t).done
reports h x t k bytes of_page.Repeated = (repeat_comes h x t k).done
reports h x t k bytes of_page.NoPage = refl
reports h x t k bytes of_page.Foreign = refl
reports h x t k bytes of_page.Full = refl

says : (h : PlainHub) (x : MessageId) (standing : Standing) (a : standing_answers.StandingOutcome) → AreSame h (after_noted h x standing a)
says h x standing of_standing.Noted = (noted_comes h.passes x h.receipts standing.trace).done
says h x standing of_standing.Older = (noted_comes h.passes x h.receipts standing.trace).done
says h x standing of_standing.Full = refl

asks : (h : PlainHub) (ask : Option (NodeId × Ask)) → AreSame h (after_ask h ask)
asks h None = refl
asks h (Some ask) = refl

gives : (h : PlainHub) (go : Option (TraceId × OutReason)) → AreSame h (after_given h go)
gives h None = refl
gives h (Some (t, why)) = by (is_none h.receipts.out)
  where
    by : (b : Bool) → (cond b (kept_proofs.given_out h.receipts t) h.receipts).done ≡ h.receipts.done
    by true = refl
    by false = refl

page_comes : (h : PlainHub) (x : MessageId) (t : TraceId) (k : PageKey) (bytes : List ℕ) → AreSame h (after_page h x t k bytes)
page_comes h x t k bytes =
    let answer = traces.answer_to h.traces t k (length bytes) in
    let new = after_added h x t k bytes answer in
    same_if (nat_le h.limits.nodes x.node) h (cond (eqb (room h) 0) h new) (same_if (eqb (room h) 0) h new (reports h x t k bytes answer))

-- ---- while a page is held, its message is none that was named since, or that may be

module _ (message : MessageId) (trace : TraceId) (key : PageKey) where
  abbrev IsFree : List MessageId → PlainHub → Type 0
  IsFree named h = list_any (is_message message) (named ++ h.receipts.done) ≡ false

  free_still : (named : List MessageId) (h new : PlainHub) → AreSame h new → IsFree named h → IsFree (named ++ []) new
  free_still named h new same free =
      ap (λ (all : List MessageId). list_any (is_message message) (all ++ new.receipts.done)) (append-nil named) ∙ ap (λ (done : List MessageId). list_any (is_message message) (named ++ done)) same ∙ free

  abbrev Goes : List MessageId → PlainHub → HubAct → Type 0
  Goes named h act = (IsIn message trace key (after h act) × IsFree (named ++ named_by h act) (after h act)) ⊎ IsSavedBy message trace key h act

  with_free : (named : List MessageId) (h : PlainHub) (act : HubAct) → IsFree (named ++ named_by h act) (after h act) → IsIn message trace key (after h act) ⊎ IsSavedBy message trace key h act → Goes named h act
  with_free named h act free (inl is) = inl (is, free)
  with_free named h act free (inr saved) = inr saved

  saved_as : (h : PlainHub) (out : Option TraceId) → (after_saved_of h out).receipts.done ≡ (receipts.after_saved h.receipts).done
  saved_as h None = refl
  saved_as h (Some t) = refl

  lets_go : (named : List MessageId) (h : PlainHub) → IsFree named h → IsIn message trace key h → Goes named h LetsGo
  lets_go named h free (inl (page, waits)) =
      inl (
        waits_on message trace key h h.receipts.out (page, waits),
        ap (λ (all : List MessageId). list_any (is_message message) (all ++ (after h LetsGo).receipts.done)) (append-nil named)
            ∙ ap (λ (done : List MessageId). list_any (is_message message) (named ++ done)) (saved_as h h.receipts.out)
            ∙ saved_one named h.receipts message (waits_somewhere trace message h.receipts.waiting waits) free,
      )
  lets_go named h free (inr (page, served)) = inr (refl, served.0, page)

  one_call : (all : List HubAct) (named : List MessageId) (h : PlainHub) (act : HubAct) → Holds all h → IsFree named h → IsIn message trace key h → Goes named h act
  one_call all named h (Hears node epoch) holds free is = with_free named h (Hears node epoch) (free_still named h h refl free) (in_on message trace key all h (Hears node epoch) holds is)
  one_call all named h (Tells x told) holds free is =
      let answer = groups.answer_to h.groups (node_of x) x.epoch told in
      with_free named h (Tells x told)
      (free_still named h (after h (Tells x told)) (same_if (nat_le (room h) (length told.laterals)) h (after_answer_to_told h x told answer) (tells h x told answer)) free)
      (in_on message trace key all h (Tells x told) holds is)
  one_call all named h (Reports x t k bytes) holds free is =
      with_free named h (Reports x t k bytes) (free_still named h (after h (Reports x t k bytes)) (page_comes h x t k bytes) free) (in_on message trace key all h (Reports x t k bytes) holds is)
  one_call all named h (Says x standing) holds free is =
      let answer = standings.answer_to h.standings standing.trace (life_of x) x.number in
      let new = after_noted h x standing answer in
      with_free named h (Says x standing)
      (free_still named h (after h (Says x standing)) (same_if (nat_le h.limits.nodes x.node) h (cond (eqb (room h) 0) h new) (same_if (eqb (room h) 0) h new (says h x standing answer))) free)
      (in_on message trace key all h (Says x standing) holds is)
  one_call all named h Asks holds free is = with_free named h Asks (free_still named h (after h Asks) (asks h (groups.next_ask h.groups)) free) (in_on message trace key all h Asks holds is)
  one_call all named h Passes holds free is = with_free named h Passes (free_still named h h refl free) (in_on message trace key all h Passes holds is)
  one_call all named h Gives holds free is = with_free named h Gives (free_still named h (after h Gives) (gives h (goes h)) free) (in_on message trace key all h Gives holds is)
  one_call all named h LetsGo holds free is = lets_go named h free is
  one_call all named h Names holds free is = with_free named h Names (ap (list_any (is_message message)) (names named h.receipts.done) ∙ free) (in_on message trace key all h Names holds is)

  all_calls : (all : List HubAct) (named : List MessageId) (h : PlainHub) (acts : List HubAct) → AreAmong acts all → Holds all h → IsFree named h → IsIn message trace key h
      → IsFree (named ++ all_named h acts) (life h acts) ⊎ WasSaved h acts trace key
  all_calls all named h [] among holds free is = inl (free_still named h h refl free)
  all_calls all named h (act ∷ acts) among holds free is =
      let there = among 0 act refl in
      by (one_call all named h act holds free is) (all_calls all (named ++ named_by h act) (after h act) acts (λ place other e. among (suc place) other e) (kept_proofs.one_call all h act there.0 there.1 holds))
    where
      Rest : Type 0
      Rest = IsFree ((named ++ named_by h act) ++ all_named (after h act) acts) (life (after h act) acts) ⊎ WasSaved (after h act) acts trace key

      later : Rest → IsFree (named ++ all_named h (act ∷ acts)) (life h (act ∷ acts)) ⊎ WasSaved h (act ∷ acts) trace key
      later (inl free) =
          inl (sym (ap (λ (all : List MessageId). list_any (is_message message) (all ++ (life (after h act) acts).receipts.done)) (append_assoc named (named_by h act) (all_named (after h act) acts))) ∙ free)
      later (inr saved) =
          inr (record { before = act ∷ saved.before; later = saved.later; split = ap (λ (xs : List HubAct). act ∷ xs) saved.split; is_out = saved.is_out; has_page = saved.has_page })

      by : Goes named h act → (IsFree (named ++ named_by h act) (after h act) → IsIn message trace key (after h act) → Rest) → IsFree (named ++ all_named h (act ∷ acts)) (life h (act ∷ acts)) ⊎ WasSaved h (act ∷ acts) trace key
      by (inl (still, free)) rest = later (rest free still)
      by (inr (same, out, page)) rest = inr (record { before = []; later = acts; split = ap (λ (x : HubAct). x ∷ acts) same; is_out = out; has_page = page })

pub saved_first : (epoch : ℕ) (is_fresh : Bool) (limits : HubLimits) (before later : List HubAct) (message : MessageId) (trace : TraceId) (key : PageKey) (bytes : List ℕ)
    → SayThis message trace key before → answer_to_page (life (no_hub epoch is_fresh limits) before) message trace key bytes ≡ Held
    → list_any (is_message message) (life (no_hub epoch is_fresh limits) before).receipts.done ≡ false
    → list_any (is_message message) (all_named (after_page (life (no_hub epoch is_fresh limits) before) message trace key bytes) later) ≡ true
    → WasSaved (after_page (life (no_hub epoch is_fresh limits) before) message trace key bytes) later trace key
saved_first epoch is_fresh limits before later message trace key bytes this held new named =
    let report = Reports message trace key bytes in
    let all = before ++ report ∷ later in
    let stands = stand_on message trace key all (no_hub epoch is_fresh limits) before (among_first before (report ∷ later)) this (starts message trace key all epoch is_fresh limits) in
    let there = among_second before (report ∷ later) 0 report refl in
    by
    (all_calls message trace key all [] next later (λ place act e. among_second before (report ∷ later) (suc place) act e) (kept_proofs.one_call all h report there.0 there.1 stands.holds)
    (ap (list_any (is_message message)) (page_comes h message trace key bytes) ∙ new) (is_held message trace key h bytes held stands.holds.shelf stands.ties))
  where
    h : PlainHub
    h = life (no_hub epoch is_fresh limits) before

    next : PlainHub
    next = after_page h message trace key bytes

    by : (list_any (is_message message) (all_named next later ++ (life next later).receipts.done) ≡ false) ⊎ WasSaved next later trace key → WasSaved next later trace key
    by (inl free) =
        absurd (both_ways (list_any (is_message message) (all_named next later))
        (or_parts (list_any (is_message message) (all_named next later)) (list_any (is_message message) (life next later).receipts.done)
        (sym (list_any-append (is_message message) (all_named next later) (life next later).receipts.done) ∙ free)).0 named)
    by (inr saved) = saved
