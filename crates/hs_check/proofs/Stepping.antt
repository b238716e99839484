-- The unread offers of a log, step by step.
use Rattle.std.proofs.Common.{◌≡◌, ℕ, ◌+◌, ◌<◌, ◌≤◌, Bool, true, false, cond, List, [], ◌∷◌, ◌++◌, length, map, take, drop, get_or, refl, sym, ap, ◌∙◌}
use Rattle.hs_check.proofs.Prelude.{filter, zip, not, ◌&&◌, ◌||◌, list_all, list_any, range_with_len, take-append_seam, append_assoc, length-append, drop_more, drop_all, Step, is_unread, before_unreads}
use Rattle.std.proofs.lemmas.List.{take_more}

module _ (f : List Step → Bool) where
  -- whether each unread offer of these later steps passes a test of what came before it
  abbrev pub through : List Step → List Step → Bool
  through earlier [] = true
  through earlier (step ∷ later) = (not (is_unread step) || f earlier) && through (earlier ++ step ∷ []) later

  -- the same of a log, whose later steps have numbers from this one on
  abbrev numbered : List Step → ℕ → List Step → Bool
  numbered log a later = list_all f (map (λ (at : ℕ × Step). take at.0 log) (filter (λ (at : ℕ × Step). is_unread at.1) (zip (range_with_len a (length later)) later)))

  numbered_is : (earlier later : List Step) → numbered (earlier ++ later) (length earlier) later ≡ through earlier later
  numbered_is earlier [] = refl
  numbered_is earlier (step ∷ later) =
      at (is_unread step)
      (ap (λ n. numbered (earlier ++ step ∷ later) n later) (sym (length-append earlier (step ∷ [])))
      ∙ ap (λ (l : List Step). numbered l (length (earlier ++ step ∷ [])) later) (sym (append_assoc earlier (step ∷ []) later))
      ∙ numbered_is (earlier ++ step ∷ []) later)
    where
      at : (b : Bool) → numbered (earlier ++ step ∷ later) (length earlier + 1) later ≡ through (earlier ++ step ∷ []) later
          → list_all f (map (λ (at : ℕ × Step). take at.0 (earlier ++ step ∷ later)) (cond b ((length earlier, step) ∷ filter (λ (at : ℕ × Step). is_unread at.1) (zip (range_with_len (length earlier + 1) (length later)) later)) (filter (λ (at : ℕ × Step). is_unread at.1) (zip (range_with_len (length earlier + 1) (length later)) later))))
          ≡ ((not b || f earlier) && through (earlier ++ step ∷ []) later)
      at true e = ap (λ (l : List Step). f l && numbered (earlier ++ step ∷ later) (length earlier + 1) later) (take-append_seam earlier (step ∷ later)) ∙ ap (λ b. f earlier && b) e
      at false e = e

  pub through_is : (log : List Step) → through [] log ≡ list_all f (before_unreads log)
  through_is log = sym (numbered_is [] log)

  -- ---- one step

  module _ (log : List Step) (i : ℕ) (step : Step) (less : i < length log) (is : step ≡ get_or log i step) where
    here : drop i log ≡ step ∷ drop (i + 1) log
    here = drop_more log i step less ∙ sym (ap (λ (s : Step). s ∷ drop (i + 1) log) is)

    pub noted : take (i + 1) log ≡ take i log ++ step ∷ []
    noted = take_more log i step less ∙ sym (ap (λ (s : Step). take i log ++ s ∷ []) is)

    next : through (take i log) (drop i log) ≡ ((not (is_unread step) || f (take i log)) && through (take (i + 1) log) (drop (i + 1) log))
    next = ap (through (take i log)) here ∙ ap (λ (l : List Step). (not (is_unread step) || f (take i log)) && through l (drop (i + 1) log)) (sym noted)

    pub goes_on : (whole : Bool) → (not (is_unread step) || f (take i log)) ≡ true → through (take i log) (drop i log) ≡ whole → through (take (i + 1) log) (drop (i + 1) log) ≡ whole
    goes_on whole holds e = sym (ap (λ b. b && through (take (i + 1) log) (drop (i + 1) log)) holds) ∙ sym next ∙ e

    pub ends : (whole : Bool) → is_unread step ≡ true → f (take i log) ≡ false → through (take i log) (drop i log) ≡ whole → false ≡ whole
    ends whole unread fails e =
        sym (ap (λ b. (not b || f (take i log)) && through (take (i + 1) log) (drop (i + 1) log)) unread ∙ ap (λ b. b && through (take (i + 1) log) (drop (i + 1) log)) fails) ∙ sym next ∙ e

  pub at_end : (log : List Step) (i : ℕ) → length log ≤ i → (whole : Bool) → through (take i log) (drop i log) ≡ whole → true ≡ whole
  at_end log i all whole e = sym (ap (through (take i log)) (drop_all i log all)) ∙ e

-- ---- no unread offer

none_unread : (f : List Step → Bool) (earlier later : List Step) → list_any is_unread later ≡ false → true ≡ through f earlier later
none_unread f earlier [] none = refl
none_unread f earlier (step ∷ later) none = at (is_unread step) none (none_unread f (earlier ++ step ∷ []) later)
  where
    at : (b : Bool) → (b || list_any is_unread later) ≡ false → (list_any is_unread later ≡ false → true ≡ through f (earlier ++ step ∷ []) later) → true ≡ ((not b || f earlier) && through f (earlier ++ step ∷ []) later)
    at true quiet rest = let differ : true ≡ false = quiet in absurd cc
    at false quiet rest = rest quiet

pub none_of : (f : List Step → Bool) (log of : List Step) → log ≡ of → list_any is_unread log ≡ false → true ≡ list_all f (before_unreads of)
none_of f log of same quiet = none_unread f [] log quiet ∙ through_is f log ∙ ap (λ (l : List Step). list_all f (before_unreads l)) same

-- ---- two tests that agree on the beginnings of a log

module _ (f g : List Step → Bool) (log : List Step) (agree : (earlier later : List Step) → earlier ++ later ≡ log → f earlier ≡ g earlier) where
  through_same : (earlier later : List Step) → earlier ++ later ≡ log → through f earlier later ≡ through g earlier later
  through_same earlier [] is = refl
  through_same earlier (step ∷ later) is =
      ap (λ b. (not (is_unread step) || b) && through f (earlier ++ step ∷ []) later) (agree earlier (step ∷ later) is)
      ∙ ap (λ b. (not (is_unread step) || g earlier) && b) (through_same (earlier ++ step ∷ []) later (append_assoc earlier (step ∷ []) later ∙ is))

  pub unreads_same : list_all f (before_unreads log) ≡ list_all g (before_unreads log)
  unreads_same = sym (through_is f log) ∙ through_same [] log refl ∙ through_is g log
