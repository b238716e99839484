-- The gives of a followed node answer their draws exactly where its events, in the order of stamps, say so.
use Rattle.std.proofs.Common.{◌≡◌, ℕ, zero, suc, ◌+◌, ◌*◌, ◌<◌, ◌≤◌, Bool, true, false, eqb, ltb, List, [], ◌∷◌, ◌++◌, length, map, take, Option, Some, None, refl, sym, ap, ◌∙◌, subst, arith}
use Rattle.hs_check_follow.proofs.Prelude.{slice_get, option_map, filter_map, count_by, not, ◌&&◌, ◌||◌, flat_map, range_with_len, list_all, list_any, IsPermutation, IsNonDecreasingBy, option_and_then, option_to_list, option_map_or, and_parts, and_from, eq-eqb, length-map, append_assoc, count_cons, count_append, one_if, Draw, Step, PlainJournal, Taken, GivenPlace, PlainWorkload, DrawnPage, stamp_of, draws_at, place_of, NodeRun, log_at, given_stamp, GivesAreNoted, FollowingPlaysOut, played, nodes_of, StampedPoolEvent, given_page, page_of, gives_answer, pool_events, is_touched, draw_stamps, log_stamps, node_stamps, node_draws, node_has_stamps, has_stamps, are_numbered, rise, FoundClient, FoundNode, FoundPage, NotedEvent, StampedEvent, answers_through, is_got, named, given_name, event_of, pool_event, timed_draw, timed_miss, timed_give, timed_gives, node_timed, draw_at, drawn_from}
use Rattle.std.proofs.lemmas.List.Folds.{list_all-append, list_any-append}
use Rattle.std.proofs.lemmas.List.Sorted.{list_any-IsPermutation}
use Rattle.hs_base.proofs.Tests.{list_any_map}
use Rattle.hs_records.specs.declared.journal.Draw.TheVariants as draws
use Rattle.hs_records.specs.declared.journal.Step.TheVariants as steps
use Rattle.hs_law_journal.specs.Pooled.{answers_draw, has_buffer}
use Rattle.hs_law_journal.specs.Shape.{step_stamp}
use Rattle.hs_check_follow.specs.declared.happened.NotedEvent.TheVariants as happenings
use Rattle.hs_check_follow.proofs.Answered.{touches, Before, Rising, rising_from, answers_all, has_draw, through_is, any_weaker, all-permutation, count-permutation}
use Rattle.hs_check_follow.proofs.Bared.{clients_counted}
use Rattle.hs_check_follow.proofs.Knowing.{KnownAt}
use Rattle.hs_check_follow.proofs.NodeEvents.{drawn_lists, lists_are, page_draw}
use Rattle.hs_check_follow.proofs.Numbered.{numbered_once}
use Rattle.hs_check_follow.proofs.Pooling.{noted, told_events}
use Rattle.hs_check_follow.proofs.Ranges.{each_holds}
use Rattle.hs_check_follow.proofs.Sorting.{sorted_from}

-- ---- no stamp comes twice

abbrev has_stamp : ℕ → StampedEvent → Bool
has_stamp s t = eqb t.stamp s

draw_stamp : (d : Draw) → (timed_draw d).stamp ≡ stamp_of d
draw_stamp (draws.Got buffer stamp) = refl
draw_stamp (draws.Empty stamp) = refl

taken_few : (s k : ℕ) (ds : List Draw) → count_by (λ (t : StampedEvent). eqb t.stamp s) (map timed_draw (take k ds)) ≤ count_by (λ v. eqb v s) (draw_stamps ds)
taken_few s zero ds = omega arith
taken_few s (suc k) [] = omega arith
taken_few s (suc k) (d ∷ ds) =
    let a = count_cons (λ (t : StampedEvent). eqb t.stamp s) (timed_draw d) (map timed_draw (take k ds)) in
    let b = count_cons (λ v. eqb v s) (stamp_of d) (draw_stamps ds) in
    let same = ap (λ v. one_if (eqb v s)) (draw_stamp d) in
    let rest = taken_few s k ds in
    omega (arith, a, b, same, rest)

drawn_few : (s : ℕ) (J : PlainJournal) (p a m : ℕ) (clients : List FoundClient) → length clients ≡ m
    → count_by (λ (t : StampedEvent). eqb t.stamp s) (flat_map (map timed_draw) (drawn_from J (p + a) clients)) ≤ count_by (λ v. eqb v s) (flat_map draw_stamps (map (λ number. draws_at J (p + number)) (range_with_len a m)))
drawn_few s J p a zero [] many = omega arith
drawn_few s J p a (suc m) [] many = absurd (omega arith)
drawn_few s J p a zero (c ∷ clients) many = absurd (omega arith)
drawn_few s J p a (suc m) (c ∷ clients) many =
    let ds = draws_at J (p + a) in
    let x = count_append (λ (t : StampedEvent). eqb t.stamp s) (map timed_draw (take (length c.started.items) ds)) (flat_map (map timed_draw) (drawn_from J (p + a + 1) clients)) in
    let y = count_append (λ v. eqb v s) (draw_stamps ds) (flat_map draw_stamps (map (λ number. draws_at J (p + number)) (range_with_len (a + 1) m))) in
    let first = taken_few s (length c.started.items) ds in
    let next : p + a + 1 ≡ p + (a + 1) = omega arith in
    let moved = ap (λ k. count_by (λ (t : StampedEvent). eqb t.stamp s) (flat_map (map timed_draw) (drawn_from J k clients))) next in
    let rest = drawn_few s J p (a + 1) m clients (omega arith) in
    omega (arith, x, y, first, moved, rest)

give_few : (s stamp : ℕ) (o : Option Draw) → count_by (λ (t : StampedEvent). eqb t.stamp s) (option_to_list (timed_give stamp o)) ≤ one_if (eqb stamp s)
give_few s stamp (Some (draws.Got buffer drawn)) = let a = count_cons (λ (t : StampedEvent). eqb t.stamp s) (record { stamp = stamp; event = happenings.Given buffer drawn }) [] in omega (arith, a)
give_few s stamp (Some (draws.Empty drawn)) = omega arith
give_few s stamp None = omega arith

logged_few : (s : ℕ) (lists : List (List Draw)) (log : List Step) (pages : List FoundPage)
    → count_by (λ (t : StampedEvent). eqb t.stamp s) (timed_gives lists log pages) + count_by (λ (t : StampedEvent). eqb t.stamp s) (filter_map timed_miss log) ≤ count_by (λ v. eqb v s) (log_stamps log)
logged_few s lists [] pages = omega arith
logged_few s lists (steps.Given stamp ∷ log) [] = let rest = logged_few s lists log [] in let b = count_cons (λ v. eqb v s) stamp (log_stamps log) in omega (arith, rest, b)
logged_few s lists (steps.Given stamp ∷ log) (page ∷ pages) =
    let o = draw_at lists page in
    let a = count_append (λ (t : StampedEvent). eqb t.stamp s) (option_to_list (timed_give stamp o)) (timed_gives lists log pages) in
    let b = count_cons (λ v. eqb v s) stamp (log_stamps log) in
    let one = give_few s stamp o in
    let rest = logged_few s lists log pages in
    omega (arith, a, b, one, rest)
logged_few s lists (steps.Missed stamp ∷ log) pages =
    let a = count_cons (λ (t : StampedEvent). eqb t.stamp s) (record { stamp = stamp; event = happenings.Missed }) (filter_map timed_miss log) in
    let b = count_cons (λ v. eqb v s) stamp (log_stamps log) in
    let rest = logged_few s lists log pages in
    omega (arith, a, b, rest)
logged_few s lists (steps.Chunk c ∷ log) pages = logged_few s lists log pages
logged_few s lists (steps.Crumb c ∷ log) pages = logged_few s lists log pages
logged_few s lists (steps.Trigger c ∷ log) pages = logged_few s lists log pages
logged_few s lists (steps.Ask ∷ log) pages = logged_few s lists log pages
logged_few s lists (steps.Turn ∷ log) pages = logged_few s lists log pages
logged_few s lists (steps.Unread ∷ log) pages = logged_few s lists log pages

-- ---- gives

module _ (xs : List StampedEvent) where
  abbrev among : (StampedEvent → Bool) → Bool
  among p = list_any p xs

  abbrev answers : StampedEvent → Bool
  answers t = answers_all (λ p. list_any p xs) t.stamp t.event

  answers_opt : ℕ → Option Draw → Bool
  answers_opt stamp (Some draw) = answers_draw (map pool_event xs) stamp draw
  answers_opt stamp None = false

  opt_is : (stamp : ℕ) (o : Option DrawnPage) → option_map_or (λ (d : DrawnPage). answers_draw (map pool_event xs) stamp d.draw) o false ≡ answers_opt stamp (option_map (λ (d : DrawnPage). d.draw) o)
  unfolding answers_opt
  opt_is stamp (Some d) = refl
  opt_is stamp None = refl

  touched_is : (buffer drawn stamp : ℕ) → is_touched (map pool_event xs) buffer drawn stamp ≡ list_any (λ t. touches buffer t && ltb drawn t.stamp && ltb t.stamp stamp) xs
  touched_is buffer drawn stamp = list_any_map (λ (e : StampedPoolEvent). has_buffer buffer e.event && ltb drawn e.stamp && ltb e.stamp stamp) pool_event xs

  and_true : (b : Bool) → b ≡ (b && true)
  and_true true = refl
  and_true false = refl

  give_is : (stamp : ℕ) (o : Option Draw) → answers_opt stamp o ≡ (is_got o && list_all (λ (t : StampedEvent). answers_all (λ p. list_any p xs) t.stamp t.event) (option_to_list (timed_give stamp o)))
  unfolding answers_opt
  give_is stamp (Some (draws.Got buffer drawn)) = ap (λ b. ltb drawn stamp && not b) (touched_is buffer drawn stamp) ∙ and_true (ltb drawn stamp && not (list_any (λ t. touches buffer t && ltb drawn t.stamp && ltb t.stamp stamp) xs))
  give_is stamp (Some (draws.Empty drawn)) = refl
  give_is stamp None = refl

  module _ (run : NodeRun) where
    named_draw : (taken : Option Taken) (page : FoundPage) → option_map named taken ≡ Some page
        → option_map (λ (d : DrawnPage). d.draw) (option_and_then (λ (chunk : Taken). page_of run chunk.sheet) taken) ≡ draw_at (drawn_lists run.sends) page
    named_draw None page e = let none : None ≡ Some page = e in absurd cc
    named_draw (Some chunk) page e =
        let same : named chunk ≡ page = cc in
        sym (page_draw run run.sends chunk.sheet.header.client.number chunk.sheet.header.page) ∙ ap (draw_at (drawn_lists run.sends)) same

    given_answers : (g : GivenPlace) (page : FoundPage) → given_name run g ≡ Some page
        → option_map_or (λ (d : DrawnPage). answers_draw (map pool_event xs) g.stamp d.draw) (given_page run run.state g.place) false ≡ answers_opt g.stamp (draw_at (drawn_lists run.sends) page)
    given_answers g page e = opt_is g.stamp (given_page run run.state g.place) ∙ ap (answers_opt g.stamp) (named_draw (slice_get run.state.taken g.place) page e)

    rearranged : (a b c d : Bool) → ((a && b) && (c && d)) ≡ ((a && c) && (b && d))
    rearranged true true c d = refl
    rearranged true false true d = refl
    rearranged true false false d = refl
    rearranged false b c d = refl

    gives_are : (log : List Step) (given : List GivenPlace) (pages : List FoundPage) → map (λ (g : GivenPlace). g.stamp) given ≡ filter_map given_stamp log → map (given_name run) given ≡ map (λ page. Some page) pages
        → list_all (λ (g : GivenPlace). option_map_or (λ (d : DrawnPage). answers_draw (map pool_event xs) g.stamp d.draw) (given_page run run.state g.place) false) given
        ≡ (list_all (λ page. is_got (draw_at (drawn_lists run.sends) page)) pages && list_all (λ (t : StampedEvent). answers_all (λ p. list_any p xs) t.stamp t.event) (timed_gives (drawn_lists run.sends) log pages))
    gives_are [] [] [] noted names = refl
    gives_are [] [] (page ∷ pages) noted names = let none = ap length names in absurd (omega (arith, none))
    gives_are [] (g ∷ given) pages noted names = let none = ap length noted in absurd (omega (arith, none))
    gives_are (steps.Given stamp ∷ log) [] pages noted names = let none = ap length noted in absurd (omega (arith, none))
    gives_are (steps.Given stamp ∷ log) (g ∷ given) [] noted names = let none = ap length names in absurd (omega (arith, none))
    gives_are (steps.Given stamp ∷ log) (g ∷ given) (page ∷ pages) noted names =
        let stamps : g.stamp ≡ stamp = cc in
        let rest : map (λ (x : GivenPlace). x.stamp) given ≡ filter_map given_stamp log = cc in
        let name : given_name run g ≡ Some page = cc in
        let others : map (given_name run) given ≡ map (λ page. Some page) pages = cc in
        let lists = drawn_lists run.sends in
        let o = draw_at lists page in
        let A : StampedEvent → Bool = λ (t : StampedEvent). answers_all (λ p. list_any p xs) t.stamp t.event in
        ap (λ b. b && list_all (λ (g : GivenPlace). option_map_or (λ (d : DrawnPage). answers_draw (map pool_event xs) g.stamp d.draw) (given_page run run.state g.place) false) given)
        (given_answers g page name ∙ ap (λ s. answers_opt s o) stamps ∙ give_is stamp o)
        ∙ ap (λ b. (is_got o && list_all A (option_to_list (timed_give stamp o))) && b) (gives_are log given pages rest others)
        ∙ rearranged (is_got o) (list_all A (option_to_list (timed_give stamp o))) (list_all (λ page. is_got (draw_at lists page)) pages) (list_all A (timed_gives lists log pages))
        ∙ sym (ap (λ b. (is_got o && list_all (λ page. is_got (draw_at lists page)) pages) && b) (list_all-append A (option_to_list (timed_give stamp o)) (timed_gives lists log pages)))
    gives_are (steps.Chunk c ∷ log) (g ∷ given) pages noted names = gives_are log (g ∷ given) pages noted names
    gives_are (steps.Chunk c ∷ log) [] pages noted names = gives_are log [] pages noted names
    gives_are (steps.Crumb c ∷ log) (g ∷ given) pages noted names = gives_are log (g ∷ given) pages noted names
    gives_are (steps.Crumb c ∷ log) [] pages noted names = gives_are log [] pages noted names
    gives_are (steps.Trigger c ∷ log) (g ∷ given) pages noted names = gives_are log (g ∷ given) pages noted names
    gives_are (steps.Trigger c ∷ log) [] pages noted names = gives_are log [] pages noted names
    gives_are (steps.Ask ∷ log) (g ∷ given) pages noted names = gives_are log (g ∷ given) pages noted names
    gives_are (steps.Ask ∷ log) [] pages noted names = gives_are log [] pages noted names
    gives_are (steps.Turn ∷ log) (g ∷ given) pages noted names = gives_are log (g ∷ given) pages noted names
    gives_are (steps.Turn ∷ log) [] pages noted names = gives_are log [] pages noted names
    gives_are (steps.Missed s ∷ log) (g ∷ given) pages noted names = gives_are log (g ∷ given) pages noted names
    gives_are (steps.Missed s ∷ log) [] pages noted names = gives_are log [] pages noted names
    gives_are (steps.Unread ∷ log) (g ∷ given) pages noted names = gives_are log (g ∷ given) pages noted names
    gives_are (steps.Unread ∷ log) [] pages noted names = gives_are log [] pages noted names

-- ---- draws and misses are no gives

drawn_hold : (p : StampedEvent → Bool) → ((d : Draw) → p (timed_draw d) ≡ true) → (lists : List (List Draw)) → list_all p (flat_map (map timed_draw) lists) ≡ true
drawn_hold p h [] = refl
drawn_hold p h (ds ∷ lists) = list_all-append p (map timed_draw ds) (flat_map (map timed_draw) lists) ∙ and_from (list_all p (map timed_draw ds)) (list_all p (flat_map (map timed_draw) lists)) (each ds) (drawn_hold p h lists)
  where
    each : (ds : List Draw) → list_all p (map timed_draw ds) ≡ true
    each [] = refl
    each (d ∷ ds) = and_from (p (timed_draw d)) (list_all p (map timed_draw ds)) (h d) (each ds)

missed_hold : (p : StampedEvent → Bool) → ((s : ℕ) → p (record { stamp = s; event = happenings.Missed }) ≡ true) → (log : List Step) → list_all p (filter_map timed_miss log) ≡ true
missed_hold p h [] = refl
missed_hold p h (steps.Missed s ∷ log) = and_from (p (record { stamp = s; event = happenings.Missed })) (list_all p (filter_map timed_miss log)) (h s) (missed_hold p h log)
missed_hold p h (steps.Chunk c ∷ log) = missed_hold p h log
missed_hold p h (steps.Crumb c ∷ log) = missed_hold p h log
missed_hold p h (steps.Trigger c ∷ log) = missed_hold p h log
missed_hold p h (steps.Ask ∷ log) = missed_hold p h log
missed_hold p h (steps.Turn ∷ log) = missed_hold p h log
missed_hold p h (steps.Given s ∷ log) = missed_hold p h log
missed_hold p h (steps.Unread ∷ log) = missed_hold p h log

-- ---- the draw of each give is there

got_in : (buffer drawn : ℕ) (ds : List Draw) (i : ℕ) → slice_get ds i ≡ Some (draws.Got buffer drawn) → list_any (λ t. touches buffer t && eqb t.stamp drawn) (map timed_draw ds) ≡ true
got_in buffer drawn [] i e = let none : None ≡ Some (draws.Got buffer drawn) = e in absurd cc
got_in buffer drawn (d ∷ ds) zero e =
    let same : d ≡ draws.Got buffer drawn = cc in
    ap (λ (x : Draw). (touches buffer (timed_draw x) && eqb (timed_draw x).stamp drawn) || list_any (λ t. touches buffer t && eqb t.stamp drawn) (map timed_draw ds)) same
    ∙ ap (λ b. b || list_any (λ t. touches buffer t && eqb t.stamp drawn) (map timed_draw ds)) (and_from (eqb buffer buffer) (eqb drawn drawn) (eq-eqb buffer buffer refl) (eq-eqb drawn drawn refl))
got_in buffer drawn (d ∷ ds) (suc i) e = or_true (touches buffer (timed_draw d) && eqb (timed_draw d).stamp drawn) _ (got_in buffer drawn ds i e)
  where
    or_true : (a b : Bool) → b ≡ true → (a || b) ≡ true
    or_true true b h = refl
    or_true false b h = h

got_there : (buffer drawn : ℕ) (lists : List (List Draw)) (client page : ℕ) → option_and_then (λ (ds : List Draw). slice_get ds page) (slice_get lists client) ≡ Some (draws.Got buffer drawn)
    → list_any (λ t. touches buffer t && eqb t.stamp drawn) (flat_map (map timed_draw) lists) ≡ true
got_there buffer drawn [] client page e = let none : None ≡ Some (draws.Got buffer drawn) = e in absurd cc
got_there buffer drawn (ds ∷ lists) zero page e =
    list_any-append (λ t. touches buffer t && eqb t.stamp drawn) (map timed_draw ds) (flat_map (map timed_draw) lists)
    ∙ ap (λ b. b || list_any (λ t. touches buffer t && eqb t.stamp drawn) (flat_map (map timed_draw) lists)) (got_in buffer drawn ds page e)
got_there buffer drawn (ds ∷ lists) (suc client) page e =
    list_any-append (λ t. touches buffer t && eqb t.stamp drawn) (map timed_draw ds) (flat_map (map timed_draw) lists)
    ∙ or_true (list_any (λ t. touches buffer t && eqb t.stamp drawn) (map timed_draw ds)) _ (got_there buffer drawn lists client page e)
  where
    or_true : (a b : Bool) → b ≡ true → (a || b) ≡ true
    or_true true b h = refl
    or_true false b h = h

module _ (lists : List (List Draw)) (later : List StampedEvent) where
  abbrev all_timed : List StampedEvent
  all_timed = flat_map (map timed_draw) lists ++ later

  give_has : (stamp : ℕ) (page : FoundPage) (o : Option Draw) → draw_at lists page ≡ o → list_all (λ (t : StampedEvent). has_draw (λ p. list_any p all_timed) t.event) (option_to_list (timed_give stamp o)) ≡ true
  give_has stamp page (Some (draws.Got buffer drawn)) e =
      and_from (list_any (λ t. touches buffer t && eqb t.stamp drawn) all_timed) true
      (list_any-append (λ t. touches buffer t && eqb t.stamp drawn) (flat_map (map timed_draw) lists) later
      ∙ ap (λ b. b || list_any (λ t. touches buffer t && eqb t.stamp drawn) later) (got_there buffer drawn lists page.client page.page e)) refl
  give_has stamp page (Some (draws.Empty drawn)) e = refl
  give_has stamp page None e = refl

  gives_have : (log : List Step) (pages : List FoundPage) → list_all (λ (t : StampedEvent). has_draw (λ p. list_any p all_timed) t.event) (timed_gives lists log pages) ≡ true
  gives_have [] pages = refl
  gives_have (steps.Given stamp ∷ log) [] = refl
  gives_have (steps.Given stamp ∷ log) (page ∷ pages) =
      list_all-append (λ (t : StampedEvent). has_draw (λ p. list_any p all_timed) t.event) (option_to_list (timed_give stamp (draw_at lists page))) (timed_gives lists log pages)
      ∙ and_from (list_all (λ (t : StampedEvent). has_draw (λ p. list_any p all_timed) t.event) (option_to_list (timed_give stamp (draw_at lists page)))) _ (give_has stamp page (draw_at lists page) refl) (gives_have log pages)
  gives_have (steps.Missed s ∷ log) pages = gives_have log pages
  gives_have (steps.Chunk c ∷ log) pages = gives_have log pages
  gives_have (steps.Crumb c ∷ log) pages = gives_have log pages
  gives_have (steps.Trigger c ∷ log) pages = gives_have log pages
  gives_have (steps.Ask ∷ log) pages = gives_have log pages
  gives_have (steps.Turn ∷ log) pages = gives_have log pages
  gives_have (steps.Unread ∷ log) pages = gives_have log pages

-- ---- a followed node

module _ (W : PlainWorkload) (J : PlainJournal) (gives : GivesAreNoted) (plays : FollowingPlaysOut) (i : ℕ) (f : FoundNode) (k : KnownAt W J i f) where
  -- its events as the code has them
  abbrev timed : List StampedEvent
  timed = node_timed (drawn_lists k.run.sends) k.run.state.log f.gives.items

  timed_told : node_timed (drawn_from J (i * W.settings.clients) f.clients.items) (log_at J i) f.gives.items ≡ node_timed (drawn_lists k.run.sends) k.run.state.log f.gives.items
  timed_told =
      ap (λ (l : List (List Draw)). node_timed l (log_at J i) f.gives.items) (lists_are W J i f k)
      ∙ sym (ap (λ (l : List Step). node_timed (drawn_lists k.run.sends) l f.gives.items) k.log)

  once : has_stamps (played W J) ≡ true → i < W.settings.nodes → (s : ℕ) → count_by (λ (t : StampedEvent). eqb t.stamp s) (node_timed (drawn_lists k.run.sends) k.run.state.log f.gives.items) ≤ 1
  once stamps low s =
      let here = each_holds (node_has_stamps W J) W.settings.nodes i stamps low in
      let parts = and_parts (are_numbered (node_stamps W J i) && list_all (λ draws. rise (draw_stamps draws)) (node_draws W J i)) (rise (log_stamps (log_at J i))) here in
      let numbered = and_parts (are_numbered (node_stamps W J i)) (list_all (λ draws. rise (draw_stamps draws)) (node_draws W J i)) parts.0 in
      let few = numbered_once (node_stamps W J i) numbered.0 s in
      let lists = drawn_lists k.run.sends in
      let log = k.run.state.log in
      let p = i * W.settings.clients in
      let none : p + 0 ≡ p = omega arith in
      let D : List StampedEvent = flat_map (map timed_draw) lists in
      let a = count_append (λ (t : StampedEvent). eqb t.stamp s) (D ++ timed_gives lists log f.gives.items) (filter_map timed_miss log) in
      let b = count_append (λ (t : StampedEvent). eqb t.stamp s) D (timed_gives lists log f.gives.items) in
      let c = count_append (λ v. eqb v s) (flat_map draw_stamps (node_draws W J i)) (log_stamps (log_at J i)) in
      let d = drawn_few s J p 0 W.settings.clients f.clients.items (clients_counted W J i f k) in
      let e = ap (λ (l : List (List Draw)). count_by (λ (t : StampedEvent). eqb t.stamp s) (flat_map (map timed_draw) l)) (ap (λ q. drawn_from J q f.clients.items) none ∙ lists_are W J i f k) in
      let g = logged_few s lists log f.gives.items in
      let h = ap (λ (l : List Step). count_by (λ v. eqb v s) (log_stamps l)) k.log in
      omega (arith, few, a, b, c, d, e, g, h)

  abbrev all_got : Bool
  all_got = list_all (λ page. is_got (draw_at (drawn_lists k.run.sends) page)) f.gives.items

  parted : gives_answer k.run ≡ (list_all (λ page. is_got (draw_at (drawn_lists k.run.sends) page)) f.gives.items
      && list_all (λ (t : StampedEvent). answers_all (λ p. list_any p (node_timed (drawn_lists k.run.sends) k.run.state.log f.gives.items)) t.stamp t.event) (node_timed (drawn_lists k.run.sends) k.run.state.log f.gives.items))
  parted =
      let run = k.run in
      let lists = drawn_lists run.sends in
      let log = run.state.log in
      let xs : List StampedEvent = node_timed lists log f.gives.items in
      let A : StampedEvent → Bool = λ t. answers_all (λ p. list_any p xs) t.stamp t.event in
      let D : List StampedEvent = flat_map (map timed_draw) lists in
      let G = timed_gives lists log f.gives.items in
      let told : map pool_event xs ≡ pool_events run = ap (map pool_event) (sym timed_told) ∙ told_events W J gives plays i f k _ refl in
      sym (ap (λ (l : List StampedPoolEvent). list_all (λ (g : GivenPlace). option_map_or (λ (d : DrawnPage). answers_draw l g.stamp d.draw) (given_page run run.state g.place) false) run.state.given) told)
      ∙ gives_are xs run log run.state.given f.gives.items (noted W J gives plays i f k) k.is.gives
      ∙ ap (λ b. list_all (λ page. is_got (draw_at lists page)) f.gives.items && b)
      (sym (list_all-append A (D ++ G) (filter_map timed_miss log)
      ∙ ap (λ b. b && list_all A (filter_map timed_miss log)) (list_all-append A D G)
      ∙ ap (λ b. (b && list_all A G) && list_all A (filter_map timed_miss log)) (drawn_hold A (no_give (λ p. list_any p xs)) lists)
      ∙ ap (λ b. list_all A G && b) (missed_hold A (λ s. refl) log)
      ∙ true_right (list_all A G)))
    where
      no_give : (whole : (StampedEvent → Bool) → Bool) (d : Draw) → answers_all whole (timed_draw d).stamp (timed_draw d).event ≡ true
      no_give whole (draws.Got buffer stamp) = refl
      no_give whole (draws.Empty stamp) = refl

      true_right : (b : Bool) → (b && true) ≡ b
      true_right true = refl
      true_right false = refl

  has_draws : list_all (λ (t : StampedEvent). has_draw (λ p. list_any p (node_timed (drawn_lists k.run.sends) k.run.state.log f.gives.items)) t.event) (node_timed (drawn_lists k.run.sends) k.run.state.log f.gives.items) ≡ true
  has_draws =
      let lists = drawn_lists k.run.sends in
      let log = k.run.state.log in
      let D : List StampedEvent = flat_map (map timed_draw) lists in
      let G = timed_gives lists log f.gives.items in
      let M : List StampedEvent = filter_map timed_miss log in
      let xs : List StampedEvent = node_timed lists log f.gives.items in
      let joined_up : xs ≡ D ++ (G ++ M) = append_assoc D G M in
      let H : StampedEvent → Bool = λ t. has_draw (λ p. list_any p xs) t.event in
      let of_gives : list_all H G ≡ true = subst (λ (l : List StampedEvent). list_all (λ (t : StampedEvent). has_draw (λ p. list_any p l) t.event) G ≡ true) (sym joined_up) (gives_have lists (G ++ M) log f.gives.items) in
      list_all-append H (D ++ G) M
      ∙ and_from (list_all H (D ++ G)) (list_all H M) (list_all-append H D G ∙ and_from (list_all H D) (list_all H G) (drawn_hold H (no_give (λ p. list_any p xs)) lists) of_gives) (missed_hold H (λ s. refl) log)
    where
      no_give : (whole : (StampedEvent → Bool) → Bool) (d : Draw) → has_draw whole (timed_draw d).event ≡ true
      no_give whole (draws.Got buffer stamp) = refl
      no_give whole (draws.Empty stamp) = refl

  -- some page had no buffer
  pub not_got : list_all (λ page. is_got (draw_at (drawn_from J (i * W.settings.clients) f.clients.items) page)) f.gives.items ≡ false → gives_answer k.run ≡ false
  not_got none =
      parted ∙ ap (λ b. b && list_all (λ (t : StampedEvent). answers_all (λ p. list_any p (node_timed (drawn_lists k.run.sends) k.run.state.log f.gives.items)) t.stamp t.event) (node_timed (drawn_lists k.run.sends) k.run.state.log f.gives.items))
      (sym (ap (λ (l : List (List Draw)). list_all (λ page. is_got (draw_at l page)) f.gives.items) (lists_are W J i f k)) ∙ none)

  -- all pages had, and the events say the rest
  pub answered_is : has_stamps (played W J) ≡ true → i < W.settings.nodes → (items sorted : List StampedEvent) (result : Bool)
      → items ≡ node_timed (drawn_from J (i * W.settings.clients) f.clients.items) (log_at J i) f.gives.items
      → list_all (λ page. is_got (draw_at (drawn_from J (i * W.settings.clients) f.clients.items) page)) f.gives.items ≡ true
      → IsPermutation items sorted → IsNonDecreasingBy (λ (t : StampedEvent). t.stamp) sorted → result ≡ answers_through [] sorted → result ≡ gives_answer k.run
  answered_is stamps low items sorted result told got same rises answer =
      let xs : List StampedEvent = node_timed (drawn_lists k.run.sends) k.run.state.log f.gives.items in
      let whole : (StampedEvent → Bool) → Bool = λ p. list_any p xs in
      let moved : IsPermutation xs sorted = subst (λ (l : List StampedEvent). IsPermutation l sorted) (told ∙ timed_told) same in
      let up = rising_from sorted (sorted_from (λ (t : StampedEvent). t.stamp) sorted rises) (λ s. let few = once stamps low s in let e = count-permutation (λ (t : StampedEvent). eqb t.stamp s) xs sorted moved in omega (arith, few, e)) in
      let H : StampedEvent → Bool = λ t. has_draw whole t.event in
      let A : StampedEvent → Bool = λ t. answers_all whole t.stamp t.event in
      answer
      ∙ through_is whole [] sorted (λ p. list_any-IsPermutation p xs sorted moved) tt (nothing_before sorted) up (sym (all-permutation H xs sorted moved) ∙ has_draws)
      ∙ sym (all-permutation A xs sorted moved)
      ∙ sym (parted ∙ ap (λ b. b && list_all A xs) (sym (ap (λ (l : List (List Draw)). list_all (λ page. is_got (draw_at l page)) f.gives.items) (lists_are W J i f k)) ∙ got))
    where
      nothing_before : (later : List StampedEvent) → Before [] later
      nothing_before [] = tt
      nothing_before (t ∷ later) = (tt, nothing_before later)

  -- both together
  pub answers_told : has_stamps (played W J) ≡ true → i < W.settings.nodes → (sorted : List StampedEvent) (result : Bool)
      → IsPermutation (node_timed (drawn_from J (i * W.settings.clients) f.clients.items) (log_at J i) f.gives.items) sorted → IsNonDecreasingBy (λ (t : StampedEvent). t.stamp) sorted
      → result ≡ (list_all (λ page. is_got (draw_at (drawn_from J (i * W.settings.clients) f.clients.items) page)) f.gives.items && answers_through [] sorted) → result ≡ gives_answer k.run
  answers_told stamps low sorted result same rises answer =
      at (list_all (λ page. is_got (draw_at (drawn_from J (i * W.settings.clients) f.clients.items) page)) f.gives.items) refl
    where
      at : (b : Bool) → list_all (λ page. is_got (draw_at (drawn_from J (i * W.settings.clients) f.clients.items) page)) f.gives.items ≡ b → result ≡ gives_answer k.run
      at true got = answered_is stamps low _ sorted result refl got same rises (answer ∙ ap (λ b. b && answers_through [] sorted) got)
      at false got = answer ∙ ap (λ b. b && answers_through [] sorted) got ∙ sym (not_got got)
