-- Gives stand beside draws where the stamps of the log, counted pass by pass, say so of each page.
use Rattle.std.proofs.Common.{◌≡◌, ℕ, ◌+◌, ◌-◌, ◌/◌, ◌<◌, ◌≤◌, Bool, true, false, cond, eqb, ltb, min, List, [], ◌∷◌, ◌++◌, length, map, take, drop, get_or, refl, sym, ap, ◌∙◌, inl, inr, arith}
use Rattle.hs_check.proofs.Prelude.{count_by, zip, ◌&&◌, ◌||◌, flat_map, range_with_len, list_all, min-le_right, take-append_seam, cases_lt, and_parts, drop_all, length-append, take-append-drop, take_min, filter_map-append, list_all-append, count_cons, Draw, Step, PlainJournal, NodeRun, log_at, gives_in_pace, ends_between, put_step, passes_of, played, node_pages, step_stamp, log_stamps, rise, has_stamps, node_has_stamps, node_stamps, node_draws, draw_stamps, are_numbered, PlainWorkload, DrawnPage, stamp_of, ClientSends, FoundClient, AreFound, IsFoundClient, starts_of, each_holds, all_beside, clients_beside, behind_each, is_of}
use Rattle.std.proofs.Math.Seq.{drop-append_seam}
use Rattle.std.proofs.lemmas.Grind.{flat_map-append}
use Rattle.hs_records.specs.declared.journal.Step.TheVariants as steps
use Rattle.hs_law_journal.specs.Pace.{is_beside}
use Rattle.hs_check.specs.Besides.{stamps_behind, stands_beside, draws_by}
use Rattle.hs_check.specs.declared.kinds.Kind.TheVariants as kinds
use Rattle.hs_check.proofs.Passing.{counts_at, counts_many}
use Rattle.hs_check.proofs.Sides.{all_alike, all_swapped, beside, stamps_of, sides, first_tells, last_tells}

-- ---- the stamps of passes

passes_join : (log : List Step) → flat_map (λ pass. pass) (passes_of log) ≡ log
passes_join [] = refl
passes_join (step ∷ log) = put (passes_of log) ∙ ap (λ (l : List Step). step ∷ l) (passes_join log)
  where
    put : (passes : List (List Step)) → flat_map (λ pass. pass) (put_step step passes) ≡ step ∷ flat_map (λ pass. pass) passes
    put [] = refl
    put ([] ∷ passes) = refl
    put ((next ∷ pass) ∷ passes) = at (ends_between step next)
      where
        at : (b : Bool) → flat_map (λ pass. pass) (cond b ((step ∷ []) ∷ (next ∷ pass) ∷ passes) ((step ∷ next ∷ pass) ∷ passes)) ≡ step ∷ flat_map (λ pass. pass) ((next ∷ pass) ∷ passes)
        at true = refl
        at false = refl

stamps_join : (passes : List (List Step)) → log_stamps (flat_map (λ pass. pass) passes) ≡ stamps_of passes
stamps_join [] = refl
stamps_join (pass ∷ passes) = filter_map-append step_stamp pass (flat_map (λ pass. pass) passes) ∙ ap (λ (l : List ℕ). log_stamps pass ++ l) (stamps_join passes)

stamped_count : (log : List Step) → count_by (is_of kinds.Stamped) log ≡ length (log_stamps log)
stamped_count [] = refl
stamped_count (steps.Given s ∷ log) = let a = count_cons (is_of kinds.Stamped) (steps.Given s) log in omega (arith, a, stamped_count log)
stamped_count (steps.Missed s ∷ log) = let a = count_cons (is_of kinds.Stamped) (steps.Missed s) log in omega (arith, a, stamped_count log)
stamped_count (steps.Chunk n ∷ log) = let a = count_cons (is_of kinds.Stamped) (steps.Chunk n) log in omega (arith, a, stamped_count log)
stamped_count (steps.Crumb n ∷ log) = let a = count_cons (is_of kinds.Stamped) (steps.Crumb n) log in omega (arith, a, stamped_count log)
stamped_count (steps.Trigger n ∷ log) = let a = count_cons (is_of kinds.Stamped) (steps.Trigger n) log in omega (arith, a, stamped_count log)
stamped_count (steps.Ask ∷ log) = let a = count_cons (is_of kinds.Stamped) steps.Ask log in omega (arith, a, stamped_count log)
stamped_count (steps.Turn ∷ log) = let a = count_cons (is_of kinds.Stamped) steps.Turn log in omega (arith, a, stamped_count log)
stamped_count (steps.Unread ∷ log) = let a = count_cons (is_of kinds.Stamped) steps.Unread log in omega (arith, a, stamped_count log)

-- ---- one page

module _ (log : List Step) where
  abbrev counts : List ℕ
  counts = 0 ∷ behind_each (is_of kinds.Stamped) 0 log

  number_in : (k : ℕ) → stamps_behind counts k ≡ length (stamps_of (take k (passes_of log)))
  number_in k =
      let passes = passes_of log in
      let many : length counts - 1 ≡ length passes = (let e = counts_many (is_of kinds.Stamped) log in omega (arith, e)) in
      ap (λ n. get_or counts (min k n) 0) many ∙ counts_at (is_of kinds.Stamped) log (min k (length passes)) (min-le_right k (length passes))
      ∙ ap (λ (l : List (List Step)). count_by (is_of kinds.Stamped) (flat_map (λ pass. pass) l)) (take_min k passes)
      ∙ stamped_count (flat_map (λ pass. pass) (take k passes)) ∙ ap length (stamps_join (take k passes))

  parted_at : (k : ℕ) → log_stamps log ≡ stamps_of (take k (passes_of log)) ++ stamps_of (drop k (passes_of log))
  parted_at k =
      let passes = passes_of log in
      sym (ap log_stamps (passes_join log)) ∙ stamps_join passes ∙ sym (ap stamps_of (take-append-drop k passes)) ∙ flat_map-append log_stamps (take k passes) (drop k passes)

  front_is : (k : ℕ) → stamps_of (take k (passes_of log)) ≡ take (stamps_behind counts k) (log_stamps log)
  front_is k =
      let front = stamps_of (take k (passes_of log)) in
      let back = stamps_of (drop k (passes_of log)) in
      sym (take-append_seam front back) ∙ sym (ap (λ n. take n (front ++ back)) (number_in k)) ∙ sym (ap (take (stamps_behind counts k)) (parted_at k))

  back_is : (k : ℕ) → stamps_of (drop k (passes_of log)) ≡ drop (stamps_behind counts k) (log_stamps log)
  back_is k =
      let front = stamps_of (take k (passes_of log)) in
      let back = stamps_of (drop k (passes_of log)) in
      sym (drop-append_seam front back) ∙ sym (ap (λ n. drop n (front ++ back)) (number_in k)) ∙ sym (ap (drop (stamps_behind counts k)) (parted_at k))

  number_few : (k : ℕ) → stamps_behind counts k ≤ length (log_stamps log)
  number_few k =
      let front = stamps_of (take k (passes_of log)) in
      let back = stamps_of (drop k (passes_of log)) in
      let e = ap length (parted_at k) in
      let both = length-append front back in
      let n = number_in k in
      omega (arith, e, both, n)

  -- a draw stands beside all passes
  abbrev passed : ℕ → ℕ → Bool
  passed round draw = list_all (λ (p : ℕ × List Step). list_all (beside round draw p.0) (log_stamps p.1)) (zip (range_with_len 1 (length (passes_of log))) (passes_of log))

  stands_is : rise (log_stamps log) ≡ true → (rounds draw : ℕ) → stands_beside (log_stamps log) counts rounds draw ≡ passed (rounds + 1) draw
  stands_is rises rounds draw =
      let stamps = log_stamps log in
      let before : rounds + 1 - 1 ≡ rounds = omega arith in
      let behind : rounds + 1 + 1 - 1 ≡ rounds + 1 = omega arith in
      let low = ap (list_all (λ s. ltb s draw)) (front_is rounds) ∙ last_tells draw stamps (stamps_behind counts rounds) rises (number_few rounds) in
      let high = ap (list_all (λ s. ltb draw s)) (back_is (rounds + 1)) ∙ first_tells draw stamps (stamps_behind counts (rounds + 1)) rises (number_few (rounds + 1)) in
      sym (sides (rounds + 1) draw 1 (passes_of log)
      ∙ ap (λ n. list_all (λ s. ltb s draw) (stamps_of (take n (passes_of log))) && list_all (λ s. ltb draw s) (stamps_of (drop (rounds + 1 + 1 - 1) (passes_of log)))) before
      ∙ ap (λ n. list_all (λ s. ltb s draw) (stamps_of (take rounds (passes_of log))) && list_all (λ s. ltb draw s) (stamps_of (drop n (passes_of log)))) behind
      ∙ ap (λ b. b && list_all (λ s. ltb draw s) (stamps_of (drop (rounds + 1) (passes_of log)))) low
      ∙ ap (λ b. (eqb (stamps_behind counts rounds) 0 || ltb (get_or stamps (stamps_behind counts rounds - 1) 0) draw) && b) high)

  -- ---- all pages

  module _ (stride : ℕ) (rises : rise (log_stamps log) ≡ true) where
    abbrev page_passed : DrawnPage → Bool
    page_passed page = passed (page.started / stride + 1) (stamp_of page.draw)

    pages_are : (pages : List DrawnPage) → all_beside stride (log_stamps log) counts (starts_of pages) (map (λ (page : DrawnPage). page.draw) pages) ≡ list_all page_passed pages
    pages_are [] = refl
    pages_are (page ∷ pages) =
        ap (λ b. b && all_beside stride (log_stamps log) counts (starts_of pages) (map (λ (page : DrawnPage). page.draw) pages)) (stands_is rises (page.started / stride) (stamp_of page.draw))
        ∙ ap (λ b. page_passed page && b) (pages_are pages)

    clients_are : (sends : List ClientSends) (founds : List FoundClient) → AreFound IsFoundClient sends founds
        → clients_beside stride (log_stamps log) counts (draws_by sends) founds ≡ list_all page_passed (flat_map (λ (s : ClientSends). s.drawn) sends)
    clients_are [] [] all = refl
    clients_are [] (found ∷ founds) all = absurd all
    clients_are (s ∷ sends) [] all = absurd all
    clients_are (s ∷ sends) (found ∷ founds) all =
        ap (λ (l : List ℕ). all_beside stride (log_stamps log) counts l (map (λ (page : DrawnPage). page.draw) s.drawn) && clients_beside stride (log_stamps log) counts (draws_by sends) founds) all.0.started
        ∙ ap (λ b. b && clients_beside stride (log_stamps log) counts (draws_by sends) founds) (pages_are s.drawn)
        ∙ ap (λ b. list_all page_passed s.drawn && b) (clients_are sends founds all.1)
        ∙ sym (list_all-append page_passed s.drawn (flat_map (λ (s : ClientSends). s.drawn) sends))

    pages_swapped : (pages : List DrawnPage)
        → list_all page_passed pages
        ≡ list_all (λ (pass : ℕ × List Step). list_all (λ stamp. list_all (is_beside stride pass.0 stamp) pages) (log_stamps pass.1)) (zip (range_with_len 1 (length (passes_of log))) (passes_of log))
    pages_swapped pages =
        let numbered = zip (range_with_len 1 (length (passes_of log))) (passes_of log) in
        sym (all_swapped (λ (pass : ℕ × List Step) (page : DrawnPage). list_all (λ stamp. is_beside stride pass.0 stamp page) (log_stamps pass.1)) numbered pages)
        ∙ all_alike (λ (pass : ℕ × List Step). list_all (λ (page : DrawnPage). list_all (λ stamp. is_beside stride pass.0 stamp page) (log_stamps pass.1)) pages)
        (λ (pass : ℕ × List Step). list_all (λ stamp. list_all (is_beside stride pass.0 stamp) pages) (log_stamps pass.1))
        (λ (pass : ℕ × List Step). sym (all_swapped (λ stamp (page : DrawnPage). is_beside stride pass.0 stamp page) (log_stamps pass.1) pages)) numbered

-- ---- a node

rising : (W : PlainWorkload) (J : PlainJournal) (node : ℕ) → has_stamps (played W J) ≡ true → node < W.settings.nodes → rise (log_stamps (log_at J node)) ≡ true
rising W J node all low =
    let here = each_holds (node_has_stamps W J) W.settings.nodes node all low in
    let clients = list_all (λ (draws : List Draw). rise (draw_stamps draws)) (node_draws W J node) in
    (and_parts (are_numbered (node_stamps W J node) && clients) (rise (log_stamps (log_at J node))) here).1

pub node_gives : (W : PlainWorkload) (J : PlainJournal) (node : ℕ) (run : NodeRun) (founds : List FoundClient) → has_stamps (played W J) ≡ true → node < W.settings.nodes → run.state.log ≡ log_at J node
    → AreFound IsFoundClient run.sends founds
    → clients_beside W.settings.stride (log_stamps (log_at J node)) (0 ∷ behind_each (is_of kinds.Stamped) 0 (log_at J node)) (draws_by run.sends) founds ≡ gives_in_pace W.settings run
node_gives W J node run founds all low same is =
    let log = log_at J node in
    let rises = rising W J node all low in
    clients_are log W.settings.stride rises run.sends founds is ∙ pages_swapped log W.settings.stride rises (node_pages run)
    ∙ sym (ap (λ (l : List Step). list_all (λ (pass : ℕ × List Step). list_all (λ stamp. list_all (is_beside W.settings.stride pass.0 stamp) (node_pages run)) (log_stamps pass.1))
    (zip (range_with_len 1 (length (passes_of l))) (passes_of l))) same)

-- ---- the end of the pages

none_drawn : (stride : ℕ) (stamps told started : List ℕ) → all_beside stride stamps told started [] ≡ true
none_drawn stride stamps told [] = refl
none_drawn stride stamps told (number ∷ started) = refl

pub pages_done : (stride : ℕ) (stamps told started : List ℕ) (draws : List Draw) (i : ℕ) → min (length started) (length draws) ≤ i → all_beside stride stamps told (drop i started) (drop i draws) ≡ true
pages_done stride stamps told started draws i past =
    elim (cases_lt i (length started)) [
      | inl low ↦ ap (all_beside stride stamps told (drop i started)) (drop_all i draws (omega (arith, past, low))) ∙ none_drawn stride stamps told (drop i started)
      | inr high ↦ ap (λ (l : List ℕ). all_beside stride stamps told l (drop i draws)) (drop_all i started high)
    ]
