-- Going through a log step by step says of each pass whether all of its offers are made.
use Rattle.std.proofs.Common.{◌≡◌, ℕ, zero, suc, ◌+◌, ◌-◌, ◌<◌, ◌≤◌, Bool, true, false, cond, eqb, List, [], ◌∷◌, length, map, take, drop, get_or, refl, sym, ap, ◌∙◌, arith}
use Rattle.hs_check_follow.proofs.Prelude.{not, zip, ◌&&◌, ◌||◌, list_all, list_any, range_with_len, nil_from_length, length-map, drop_more, length-range_with_len, one_if, Step, NodeRun, ends_between, put_step, passes_of, offers_end, PlainSettings, ends_front, ends_through, may_stand}
use Rattle.std.proofs.Math.Bool.{or-false}
use Rattle.hs_law_journal.specs.Passes.{is_unread, but_last, last_of}
use Rattle.hs_check_follow.specs.Finding.{hand_behind, behind_passes}
use Rattle.hs_check_follow.proofs.PassFronts.{Begins, begins}

-- whether the offers of a pass are made that leaves so many buffers in the hand
abbrev pub pass_done : ℕ → List Step → Bool
pass_done hand pass = not (list_any is_unread (but_last pass)) && (list_any is_unread (last_of pass) || eqb hand 0)

abbrev pub all_done : List ℕ → List (List Step) → Bool
all_done hands passes = list_all (λ (p : ℕ × List Step). pass_done p.0 p.1) (zip hands passes)

-- a step before a pass is not its last one
pass_longer : (hand : ℕ) (step next : Step) (pass : List Step) → pass_done hand (step ∷ next ∷ pass) ≡ (not (is_unread step) && pass_done hand (next ∷ pass))
pass_longer hand step next pass =
    let m = length pass in
    let two : suc (suc m) - 1 ≡ suc m = omega arith in
    let one : suc m - 1 ≡ m = omega arith in
    ap (λ n. not (list_any is_unread (take n (step ∷ next ∷ pass))) && (list_any is_unread (drop n (step ∷ next ∷ pass)) || eqb hand 0)) two
    ∙ apart (is_unread step) (list_any is_unread (take m (next ∷ pass))) (list_any is_unread (drop m (next ∷ pass)) || eqb hand 0)
    ∙ sym (ap (λ n. not (is_unread step) && (not (list_any is_unread (take n (next ∷ pass))) && (list_any is_unread (drop n (next ∷ pass)) || eqb hand 0))) one)
  where
    apart : (u a b : Bool) → (not (u || a) && b) ≡ (not u && (not a && b))
    apart true a b = refl
    apart false a b = refl

-- how many passes there are
pub passes_counted : (step : Step) (log : List Step) → length (passes_of (step ∷ log)) ≡ one_if (ends_front (step ∷ log)) + length (passes_of log)
passes_counted step [] = refl
passes_counted step (next ∷ log) =
    let h = begins next log in
    ap (λ (l : List (List Step)). length (put_step step l)) h.is ∙ at (ends_between step next) h.pass h.later ∙ sym (ap (λ (l : List (List Step)). one_if (ends_between step next) + length l) h.is)
  where
    at : (b : Bool) (pass : List Step) (later : List (List Step)) → length (cond b ((step ∷ []) ∷ (next ∷ pass) ∷ later) ((step ∷ next ∷ pass) ∷ later)) ≡ one_if b + length ((next ∷ pass) ∷ later)
    at true pass later = omega arith
    at false pass later = omega arith

pub some_passes : (step : Step) (log : List Step) → 1 ≤ length (passes_of (step ∷ log))
some_passes step log = let h = begins step log in let e = ap length h.is in omega (arith, e)

-- there is a number for each pass
pub hands_counted : (settings : PlainSettings) (run : NodeRun) (log : List Step) (hands : List ℕ) → run.state.log ≡ log → hands ≡ behind_passes run (hand_behind settings run) → length hands ≡ length (passes_of log)
hands_counted settings run log hands same are =
    ap length are ∙ length-map (range_with_len 1 (length (passes_of run.state.log))) (hand_behind settings run) ∙ length-range_with_len 1 (length (passes_of run.state.log))
    ∙ ap (λ (l : List Step). length (passes_of l)) same

pub ends_is : (log : List Step) (hands : List ℕ) → length hands ≡ length (passes_of log) → ends_through log hands ≡ all_done hands (passes_of log)
ends_is [] [] many = refl
ends_is [] (hand ∷ hands) many = absurd (omega arith)
ends_is (step ∷ []) [] many = absurd (omega arith)
ends_is (step ∷ []) (hand ∷ hands) many =
    ap (λ b. (b || eqb hand 0) && true) (sym (or-false (is_unread step))) ∙ ap (λ (l : List ℕ). pass_done hand (step ∷ []) && all_done l []) (sym (nil_from_length hands (omega arith)))
ends_is (step ∷ next ∷ log) [] many = let count = passes_counted step (next ∷ log) in let some = some_passes next log in absurd (omega (arith, many, count, some))
ends_is (step ∷ next ∷ log) (hand ∷ hands) many =
    at (ends_between step next) refl h.pass h.later h.is (λ hs few. ends_is (next ∷ log) hs few)
    ∙ sym (ap (λ (l : List (List Step)). all_done (hand ∷ hands) (put_step step l)) h.is)
  where
    h : Begins next log
    h = begins next log

    and_assoc : (a b c : Bool) → (a && (b && c)) ≡ ((a && b) && c)
    and_assoc true b c = refl
    and_assoc false b c = refl

    at : (b : Bool) → ends_between step next ≡ b → (pass : List Step) (later : List (List Step)) → passes_of (next ∷ log) ≡ (next ∷ pass) ∷ later
        → ((hs : List ℕ) → length hs ≡ length (passes_of (next ∷ log)) → ends_through (next ∷ log) hs ≡ all_done hs (passes_of (next ∷ log)))
        → (may_stand b step hand && ends_through (next ∷ log) (cond b hands (hand ∷ hands)))
        ≡ all_done (hand ∷ hands) (cond b ((step ∷ []) ∷ (next ∷ pass) ∷ later) ((step ∷ next ∷ pass) ∷ later))
    at true e pass later is rest =
        let count = passes_counted step (next ∷ log) in
        let one = ap one_if e in
        ap (λ b. (is_unread step || eqb hand 0) && b) (rest hands (omega (arith, many, count, one)))
        ∙ ap (λ (l : List (List Step)). (is_unread step || eqb hand 0) && all_done hands l) is
        ∙ ap (λ b. (b || eqb hand 0) && all_done hands ((next ∷ pass) ∷ later)) (sym (or-false (is_unread step)))
    at false e pass later is rest =
        let count = passes_counted step (next ∷ log) in
        let none = ap one_if e in
        ap (λ b. not (is_unread step) && b) (rest (hand ∷ hands) (omega (arith, many, count, none)))
        ∙ ap (λ (l : List (List Step)). not (is_unread step) && all_done (hand ∷ hands) l) is
        ∙ and_assoc (not (is_unread step)) (pass_done hand (next ∷ pass)) (all_done hands later)
        ∙ ap (λ b. b && all_done hands later) (sym (pass_longer hand step next pass))

-- ---- of a node

by_number : {A : Type 0} (g : ℕ → A → Bool) (h : ℕ → ℕ) (ks : List ℕ) (xs : List A) → list_all (λ (p : ℕ × A). g (h p.0) p.1) (zip ks xs) ≡ list_all (λ (p : ℕ × A). g p.0 p.1) (zip (map h ks) xs)
by_number g h [] xs = refl
by_number g h (k ∷ ks) [] = refl
by_number g h (k ∷ ks) (x ∷ xs) = ap (λ b. g (h k) x && b) (by_number g h ks xs)

pub offers_are : (settings : PlainSettings) (run : NodeRun) (log : List Step) (hands : List ℕ) → run.state.log ≡ log → hands ≡ behind_passes run (hand_behind settings run) → ends_through log hands ≡ offers_end settings run
offers_are settings run log hands same are =
    ends_is log hands (hands_counted settings run log hands same are)
    ∙ sym (ap (λ (l : List Step). all_done hands (passes_of l)) same)
    ∙ ap (λ (l : List ℕ). all_done l (passes_of run.state.log)) are
    ∙ sym (by_number pass_done (hand_behind settings run) (range_with_len 1 (length (passes_of run.state.log))) (passes_of run.state.log))

-- ---- one step more of a walk

module _ (log : List Step) (hands : List ℕ) (place pass : ℕ) (step : Step) (less : place < length log) (is : step ≡ get_or log place step) where
  from : drop place log ≡ step ∷ drop (place + 1) log
  from = drop_more log place step less ∙ sym (ap (λ (s : Step). s ∷ drop (place + 1) log) is)

  -- there is a pass that it stands in
  pub pass_is_there : length (passes_of (drop place log)) + pass ≡ length hands → pass < length hands
  pass_is_there many = let some = some_passes step (drop (place + 1) log) in let e = ap (λ (l : List Step). length (passes_of l)) from in omega (arith, many, some, e)

  pub passes_left : (b : Bool) → ends_front (drop place log) ≡ b → length (passes_of (drop place log)) + pass ≡ length hands → length (passes_of (drop (place + 1) log)) + (pass + one_if b) ≡ length hands
  passes_left b ends many =
      let e = ap (λ (l : List Step). length (passes_of l)) from in
      let count = passes_counted step (drop (place + 1) log) in
      let one = ap one_if (sym (ap ends_front from) ∙ ends) in
      omega (arith, many, e, count, one)

  next : pass < length hands → (b : Bool) → ends_front (drop place log) ≡ b
      → ends_through (drop place log) (drop pass hands) ≡ (may_stand b step (get_or hands pass 0) && ends_through (drop (place + 1) log) (drop (pass + one_if b) hands))
  next few b ends =
      ap (λ (xs : List Step). ends_through xs (drop pass hands)) from ∙ ap (ends_through (step ∷ drop (place + 1) log)) (drop_more hands pass 0 few)
      ∙ ap (λ t. may_stand t step (get_or hands pass 0) && ends_through (drop (place + 1) log) (cond t (drop (pass + 1) hands) (get_or hands pass 0 ∷ drop (pass + 1) hands))) (sym (ap ends_front from) ∙ ends)
      ∙ at b
    where
      at : (t : Bool) → (may_stand t step (get_or hands pass 0) && ends_through (drop (place + 1) log) (cond t (drop (pass + 1) hands) (get_or hands pass 0 ∷ drop (pass + 1) hands)))
          ≡ (may_stand t step (get_or hands pass 0) && ends_through (drop (place + 1) log) (drop (pass + one_if t) hands))
      at true = refl
      at false =
          let none : pass ≡ pass + 0 = omega arith in
          ap (λ (l : List ℕ). may_stand false step (get_or hands pass 0) && ends_through (drop (place + 1) log) l) (sym (drop_more hands pass 0 few) ∙ ap (λ k. drop k hands) none)

  pub stands_more : (whole b : Bool) → pass < length hands → ends_front (drop place log) ≡ b → may_stand b step (get_or hands pass 0) ≡ true → ends_through (drop place log) (drop pass hands) ≡ whole
      → ends_through (drop (place + 1) log) (drop (pass + one_if b) hands) ≡ whole
  stands_more whole b few ends may e = sym (ap (λ t. t && ends_through (drop (place + 1) log) (drop (pass + one_if b) hands)) may) ∙ sym (next few b ends) ∙ e

  pub stands_not : (whole b : Bool) → pass < length hands → ends_front (drop place log) ≡ b → may_stand b step (get_or hands pass 0) ≡ false → ends_through (drop place log) (drop pass hands) ≡ whole → false ≡ whole
  stands_not whole b few ends may e = sym (ap (λ t. t && ends_through (drop (place + 1) log) (drop (pass + one_if b) hands)) may) ∙ sym (next few b ends) ∙ e

-- the last step ends a pass
pub last_ends : (log : List Step) (place : ℕ) → place + 1 ≡ length log → ends_front (drop place log) ≡ true
last_ends [] place end = absurd (omega arith)
last_ends (step ∷ []) zero end = refl
last_ends (step ∷ next ∷ log) zero end = absurd (omega arith)
last_ends (step ∷ log) (suc place) end = last_ends log place (omega arith)
