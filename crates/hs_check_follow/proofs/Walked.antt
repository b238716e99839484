-- A walk goes through a log exactly where its passes are whole.
use Rattle.std.proofs.Common.{◌≡◌, ℕ, zero, suc, ◌+◌, ◌*◌, ◌<◌, ◌≤◌, Bool, true, false, cond, eqb, leb, ltb, List, [], ◌∷◌, ◌++◌, length, Option, Some, None, refl, sym, ap, ◌∙◌, subst, inl, inr, ◌⊎◌, arith}
use Rattle.hs_check_follow.proofs.Prelude.{count_by, not, ◌&&◌, ◌||◌, unwrap_or, list_all, range_with_len, AllByRecursion, eqb-true, eqb-false, ltb-true, ltb-false, eq-eqb, ne_eqb, lt-ltb, le-ltb, cases_eq, cases_lt, and_left, append_assoc, append-nil, one_if, count_append, count_cons, all_each, all_append, MAX_TAKEN, Step, Queue, is_turn, is_offer, is_whole_pass, passes_of, IsTake, PassWalk, walk_behind, goes_through, at_start}
use Rattle.hs_records.specs.declared.journal.Step.TheVariants as steps
use Rattle.hs_check_follow.specs.declared.passes.PassWalk.TheVariants as walks
use Rattle.hs_check_follow.specs.Walking.{place_of, walk_taking, walk_at}
use Rattle.hs_check_follow.proofs.PassFronts.{offers_of, behind_offers, offers_are_offers, begins, items_join, items_alone, closes}
use Rattle.hs_check_follow.proofs.QueuePlaces.{queue_count, place, Match}
use Rattle.hs_check_follow.proofs.Sorting.{Sorted, Sorted-append}
use Rattle.hs_check_follow.proofs.WholePasses.{count_none, is_whole, no_turn, no_queue, no_order, too_many}

-- ---- where a walk stands

-- the items of a pass so far, the last of which is of the queue at a place, of which so many were taken
record Stands (clients : ℕ) (its : List Step) (q k : ℕ) : Type 0 where
  items : AllByRecursion IsTake its
  low : AllByRecursion (λ step. place clients step < queue_count clients) its
  sorted : Sorted (place clients) its
  top : AllByRecursion (λ step. place clients step ≤ q) its
  few : (s : ℕ) → count_by (λ step. eqb (place clients step) s) its ≤ MAX_TAKEN
  now : count_by (λ step. eqb (place clients step) q) its ≡ k
  reached : (q ≡ 0) ⊎ (1 ≤ k)

module _ (clients : ℕ) where
  nothing : Stands clients [] 0 0
  nothing = record { items = tt; low = tt; sorted = tt; top = tt; few = λ s. omega arith; now = refl; reached = inl refl }

  -- one item more
  one_more : (its : List Step) (q k : ℕ) (x : Step) (p more : ℕ) → Stands clients its q k → IsTake x → place clients x ≡ p → p < queue_count clients → q ≤ p
      → count_by (λ step. eqb (place clients step) p) its + 1 ≡ more → more ≤ MAX_TAKEN → Stands clients (its ++ x ∷ []) p more
  one_more its q k x p more was item at low high count few =
      record {
        items = all_append IsTake its (x ∷ []) was.items (item, tt);
        low = all_append (λ step. place clients step < queue_count clients) its (x ∷ []) was.low (omega (arith, at, low), tt);
        sorted = Sorted-append (place clients) q its (x ∷ []) was.sorted was.top (tt, tt) (omega (arith, at, high), tt);
        top = all_append (λ step. place clients step ≤ p) its (x ∷ []) (all_each (λ step. place clients step ≤ q) (λ step. place clients step ≤ p) its (λ step h. omega (arith, h, high)) was.top) (omega (arith, at), tt);
        few = λ s.
            let parts = count_append (λ step. eqb (place clients step) s) its (x ∷ []) in
            let last : count_by (λ step. eqb (place clients step) s) (x ∷ []) ≡ one_if (eqb (place clients x) s) = count_cons (λ step. eqb (place clients step) s) x [] ∙ omega arith in
            let before = was.few s in
            elim (cases_eq p s) [
              | inl same ↦ (let one = ap one_if (eq-eqb (place clients x) s (at ∙ same)) in let here = ap (λ t. count_by (λ step. eqb (place clients step) t) its) same in omega (arith, parts, last, one, here, count, few))
              | inr other ↦ (let none = ap one_if (ne_eqb (place clients x) s (λ e. other (sym at ∙ e))) in omega (arith, parts, last, none, before))
            ];
        now =
            (let parts = count_append (λ step. eqb (place clients step) p) its (x ∷ []) in
            let last : count_by (λ step. eqb (place clients step) p) (x ∷ []) ≡ one_if (eqb (place clients x) p) = count_cons (λ step. eqb (place clients step) p) x [] ∙ omega arith in
            let one = ap one_if (eq-eqb (place clients x) p at) in
            omega (arith, parts, last, one, count));
        reached = inr (omega (arith, count));
      }

  -- the place of an item
  placed : (x : Step) (p : ℕ) → place_of clients x ≡ Some p → place clients x ≡ p
  placed x p e = ap (λ (o : Option ℕ). unwrap_or o (queue_count clients)) e

  unplaced : (x : Step) → place_of clients x ≡ None → place clients x ≡ queue_count clients
  unplaced x e = ap (λ (o : Option ℕ). unwrap_or o (queue_count clients)) e

  low_at : (c p q : ℕ) (b : Bool) → ltb c clients ≡ b → (c < clients → p < queue_count clients) → cond b (Some p) None ≡ Some q → q < queue_count clients
  low_at c p q true e low is = let same : p ≡ q = cc in let h = low (ltb-true c clients e) in omega (arith, h, same)
  low_at c p q false e low is = let none : None ≡ Some q = is in absurd cc

  placed_low : (x : Step) (p : ℕ) → place_of clients x ≡ Some p → p < queue_count clients
  placed_low (steps.Chunk c) p e = low_at c (3 * c) p (ltb c clients) refl (λ h. omega (arith, h)) e
  placed_low (steps.Crumb c) p e = low_at c (3 * c + 1) p (ltb c clients) refl (λ h. omega (arith, h)) e
  placed_low (steps.Trigger c) p e = low_at c (3 * c + 2) p (ltb c clients) refl (λ h. omega (arith, h)) e
  placed_low steps.Ask p e = let same : 3 * clients ≡ p = cc in omega (arith, same)
  placed_low steps.Turn p e = let none : None ≡ Some p = e in absurd cc
  placed_low (steps.Given s) p e = let none : None ≡ Some p = e in absurd cc
  placed_low (steps.Missed s) p e = let none : None ≡ Some p = e in absurd cc
  placed_low steps.Unread p e = let none : None ≡ Some p = e in absurd cc

  module _ (queues : List Queue) (match : Match clients queues (range_with_len 0 (queue_count clients))) where
    abbrev whole : List Step → Bool
    whole log = list_all (is_whole_pass queues) (passes_of log)

    -- what a walk does behind a step
    abbrev goes_on : Option PassWalk → List Step → Bool
    goes_on walk log = elim walk [ Some next ↦ goes_through clients next log | None ↦ false ]

    -- a first pass that is not whole
    first_fails : (its : List Step) (x : Step) (log : List Step) → AllByRecursion IsTake its → ((tail : List Step) → is_whole_pass queues (its ++ x ∷ tail) ≡ false) → whole (its ++ x ∷ log) ≡ false
    first_fails its x log items fails =
        let first = begins x log in
        ap (list_all (is_whole_pass queues)) (items_join its x log first.pass first.later items first.is)
        ∙ and_left (is_whole_pass queues (its ++ x ∷ first.pass)) (list_all (is_whole_pass queues) first.later) (fails first.pass)

    taking_at : (its : List Step) (q k : ℕ) (x : Step) (log : List Step) (p : ℕ) → Stands clients its q k → IsTake x → place_of clients x ≡ Some p
        → ((r m : ℕ) → Stands clients (its ++ x ∷ []) r m → whole ((its ++ x ∷ []) ++ log) ≡ goes_through clients (walks.Taking r m) log)
        → (a b c : Bool) → eqb p q ≡ a → ltb k MAX_TAKEN ≡ b → ltb q p ≡ c
        → whole (its ++ x ∷ log) ≡ goes_on (cond a (cond b (Some (walks.Taking q (k + 1))) None) (cond c (Some (walks.Taking p 1)) None)) log
    taking_at its q k x log p was item at later true true c ea eb ec =
        let same = eqb-true p q ea in
        let here = placed x p at ∙ same in
        let low = placed_low x p at in
        let room = ltb-true k MAX_TAKEN eb in
        ap whole (sym (append_assoc its (x ∷ []) log))
        ∙ later q (k + 1) (one_more its q k x q (k + 1) was item here (omega (arith, same, low)) (omega arith) (ap (λ m. m + 1) was.now) (omega (arith, room)))
    taking_at its q k x log p was item at later true false c ea eb ec =
        let same = eqb-true p q ea in
        let here = placed x p at in
        let low = placed_low x p at in
        let full = ltb-false k MAX_TAKEN eb in
        let count : count_by (λ step. eqb (place clients step) (place clients x)) its ≡ k = ap (λ s. count_by (λ step. eqb (place clients step) s) its) (here ∙ same) ∙ was.now in
        first_fails its x log was.items (λ tail. too_many clients queues match its x tail (omega (arith, here, low)) (omega (arith, count, full)))
    taking_at its q k x log p was item at later false b true ea eb ec =
        let above = ltb-true q p ec in
        let here = placed x p at in
        let low = placed_low x p at in
        let none = count_none (λ step. eqb (place clients step) p) its (all_each (λ step. place clients step ≤ q) (λ step. eqb (place clients step) p ≡ false) its (λ step h. ne_eqb (place clients step) p (λ e. omega (arith, e, h, above))) was.top) in
        ap whole (sym (append_assoc its (x ∷ []) log))
        ∙ later p 1 (one_more its q k x p 1 was item here low (omega (arith, above)) (omega (arith, none)) (omega arith))
    taking_at its q k x log p was item at later false b false ea eb ec =
        let not_above = ltb-false q p ec in
        let other = eqb-false p q ea in
        let here = placed x p at in
        let below : p < q = elim (cases_eq p q) [ inl e ↦ absurd (other e) | inr differ ↦ omega (arith, differ, not_above) ] in
        let some : 1 ≤ count_by (λ step. eqb (place clients step) q) its = elim was.reached [ inl none ↦ omega (arith, none, below) | inr some ↦ omega (arith, some, was.now) ] in
        first_fails its x log was.items (λ tail. no_order clients queues match its x tail q (omega (arith, here, below)) some)

    item_at : (its : List Step) (q k : ℕ) (x : Step) (log : List Step) (o : Option ℕ) → Stands clients its q k → IsTake x → place_of clients x ≡ o
        → ((r m : ℕ) → Stands clients (its ++ x ∷ []) r m → whole ((its ++ x ∷ []) ++ log) ≡ goes_through clients (walks.Taking r m) log)
        → whole (its ++ x ∷ log) ≡ goes_on (walk_at o (walks.Taking q k)) log
    item_at its q k x log None was item at later =
        let here = unplaced x at in first_fails its x log was.items (λ tail. no_queue clients queues match its x tail item (omega (arith, here)))
    item_at its q k x log (Some p) was item at later = taking_at its q k x log p was item at later (eqb p q) (ltb k MAX_TAKEN) (ltb q p) refl refl refl

    first_at : (x : Step) (log : List Step) (o : Option ℕ) → IsTake x → place_of clients x ≡ o
        → ((r m : ℕ) → Stands clients (x ∷ []) r m → whole ((x ∷ []) ++ log) ≡ goes_through clients (walks.Taking r m) log)
        → whole (x ∷ log) ≡ goes_on (walk_at o walks.Turned) log
    first_at x log None item at later = let here = unplaced x at in first_fails [] x log tt (λ tail. no_queue clients queues match [] x tail item (omega (arith, here)))
    first_at x log (Some p) item at later = later p 1 (one_more [] 0 0 x p 1 nothing item (placed x p at) (placed_low x p at) (omega arith) refl (omega arith))

    -- a pass that ends with a turn is whole
    turn_at : (its : List Step) (log : List Step) (q k : ℕ) → Stands clients its q k → whole (its ++ steps.Turn ∷ log) ≡ whole (behind_offers log)
    turn_at its log q k was =
        let os = offers_of log in
        ap (list_all (is_whole_pass queues)) (items_join its steps.Turn log os (passes_of (behind_offers log)) was.items (closes steps.Turn log refl))
        ∙ ap (λ b. b && whole (behind_offers log)) (is_whole clients queues match its os was.items was.low was.sorted was.few (offers_are_offers log))

    items_turn_not : (its : List Step) → AllByRecursion IsTake its → count_by is_turn its ≡ 0
    items_turn_not its items = count_none is_turn its (all_each IsTake (λ step. is_turn step ≡ false) its (λ step h. h.turn) items)

    offer_no_turn : (step : Step) → is_offer step ≡ true → is_turn step ≡ false
    offer_no_turn (steps.Given s) e = refl
    offer_no_turn (steps.Missed s) e = refl
    offer_no_turn steps.Unread e = refl
    offer_no_turn steps.Turn e = let differ : false ≡ true = e in absurd cc
    offer_no_turn (steps.Chunk c) e = refl
    offer_no_turn (steps.Crumb c) e = refl
    offer_no_turn (steps.Trigger c) e = refl
    offer_no_turn steps.Ask e = refl

    -- a pass in which an offer comes before the turn is not
    offer_at : (its : List Step) (x : Step) (log : List Step) (q k : ℕ) → Stands clients its q k → is_offer x ≡ true → (is_turn x || is_offer x) ≡ true → whole (its ++ x ∷ log) ≡ false
    offer_at its x log q k was offer closing =
        let os = offers_of log in
        let pass : List Step = its ++ x ∷ os in
        let a = count_append is_turn its (x ∷ os) in
        let b = count_cons is_turn x os in
        let one = ap one_if (offer_no_turn x offer) in
        let front = items_turn_not its was.items in
        let back = count_none is_turn os (all_each (λ step. is_offer step ≡ true) (λ step. is_turn step ≡ false) os (λ step h. offer_no_turn step h) (offers_are_offers log)) in
        ap (list_all (is_whole_pass queues)) (items_join its x log os (passes_of (behind_offers log)) was.items (closes x log closing))
        ∙ and_left (is_whole_pass queues pass) (whole (behind_offers log)) (no_turn clients queues match pass (omega (arith, a, b, one, front, back)))

    -- the log ends within a pass
    end_at : (its : List Step) (q k : ℕ) → Stands clients its q k → 0 < length its → whole (its ++ []) ≡ false
    end_at [] q k was some = absurd (omega arith)
    end_at (x ∷ its) q k was some =
        ap whole (append-nil (x ∷ its)) ∙ ap (list_all (is_whole_pass queues)) (items_alone x its was.items)
        ∙ and_left (is_whole_pass queues (x ∷ its)) true (no_turn clients queues match (x ∷ its) (items_turn_not (x ∷ its) was.items))

    grown : (its : List Step) (x : Step) (log : List Step) → 0 < length (its ++ x ∷ []) + length log
    grown [] x log = omega arith
    grown (y ∷ its) x log = omega arith

    mutual
      taking : (log its : List Step) (q k : ℕ) → Stands clients its q k → 0 < length its + length log → whole (its ++ log) ≡ goes_through clients (walks.Taking q k) log
      taking [] its q k was some = end_at its q k was (omega arith)
      taking (steps.Turn ∷ log) its q k was some = turn_at its log q k was ∙ turned log
      taking (steps.Given s ∷ log) its q k was some = offer_at its (steps.Given s) log q k was refl refl
      taking (steps.Missed s ∷ log) its q k was some = offer_at its (steps.Missed s) log q k was refl refl
      taking (steps.Unread ∷ log) its q k was some = offer_at its steps.Unread log q k was refl refl
      taking (steps.Chunk c ∷ log) its q k was some =
          item_at its q k (steps.Chunk c) log (place_of clients (steps.Chunk c)) was (record { turn = refl; offer = refl }) refl (λ r m st. taking log (its ++ steps.Chunk c ∷ []) r m st (grown its (steps.Chunk c) log))
      taking (steps.Crumb c ∷ log) its q k was some =
          item_at its q k (steps.Crumb c) log (place_of clients (steps.Crumb c)) was (record { turn = refl; offer = refl }) refl (λ r m st. taking log (its ++ steps.Crumb c ∷ []) r m st (grown its (steps.Crumb c) log))
      taking (steps.Trigger c ∷ log) its q k was some =
          item_at its q k (steps.Trigger c) log (place_of clients (steps.Trigger c)) was (record { turn = refl; offer = refl }) refl (λ r m st. taking log (its ++ steps.Trigger c ∷ []) r m st (grown its (steps.Trigger c) log))
      taking (steps.Ask ∷ log) its q k was some =
          item_at its q k steps.Ask log (place_of clients steps.Ask) was (record { turn = refl; offer = refl }) refl (λ r m st. taking log (its ++ steps.Ask ∷ []) r m st (grown its steps.Ask log))

      turned : (log : List Step) → whole (behind_offers log) ≡ goes_through clients walks.Turned log
      turned [] = refl
      turned (steps.Turn ∷ log) = turn_at [] log 0 0 nothing ∙ turned log
      turned (steps.Given s ∷ log) = turned log
      turned (steps.Missed s ∷ log) = turned log
      turned (steps.Unread ∷ log) = turned log
      turned (steps.Chunk c ∷ log) = first_at (steps.Chunk c) log (place_of clients (steps.Chunk c)) (record { turn = refl; offer = refl }) refl (λ r m st. taking log (steps.Chunk c ∷ []) r m st (omega arith))
      turned (steps.Crumb c ∷ log) = first_at (steps.Crumb c) log (place_of clients (steps.Crumb c)) (record { turn = refl; offer = refl }) refl (λ r m st. taking log (steps.Crumb c ∷ []) r m st (omega arith))
      turned (steps.Trigger c ∷ log) = first_at (steps.Trigger c) log (place_of clients (steps.Trigger c)) (record { turn = refl; offer = refl }) refl (λ r m st. taking log (steps.Trigger c ∷ []) r m st (omega arith))
      turned (steps.Ask ∷ log) = first_at steps.Ask log (place_of clients steps.Ask) (record { turn = refl; offer = refl }) refl (λ r m st. taking log (steps.Ask ∷ []) r m st (omega arith))

    pub walked : (log : List Step) → 0 < length log → whole log ≡ goes_through clients at_start log
    walked log some = taking log [] 0 0 nothing (omega arith)
