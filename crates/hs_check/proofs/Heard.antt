-- How many messages are to be heard by each pass is counted node by node.
use Rattle.std.proofs.Common.{◌≡◌, ℕ, zero, suc, ◌+◌, ◌-◌, ◌<◌, ◌≤◌, Bool, true, false, cond, eqb, leb, min, max, List, [], ◌∷◌, length, map, take, drop, get_or, refl, sym, ap, ◌∙◌, inl, inr, arith}
use Rattle.hs_check.proofs.Prelude.{count_by, range_with_len, list_all, flat_map, min-le_right, le-leb, lt-leb, ne_eqb, cases_lt, and_parts, and_from, length-map, take-map, take_min, drop_more, get_or-map-range_with_len, length-map-range_with_len, count_map, one_if, count_cons, NodeId, MAX_TAKEN, Message, Messages, NodeRun, due_of, said_in, passes_of, state_behind, Step, PlainSettings, FoundNode, AreFound, IsFoundNode, said_behind, places_behind, heard_with, heard_until, heard_for, most_passes}
use Rattle.std.proofs.Math.Nat.{le-max_left, le-max_right}
use Rattle.std.proofs.lemmas.Bool.{leb-true}
use Rattle.hs_law_journal.specs.Following.{is_from}
use Rattle.hs_law_journal.specs.Pace.{due_by}
use Rattle.hs_check_follow.specs.Finding.{behind_passes}
use Rattle.hs_check.proofs.Firsts.{first_of, first_next, first_congr, first_always, first_both, Rises}

-- ---- counts of a beginning

grows : {A : Type 0} (p : A → Bool) (xs : List A) (k : ℕ) → count_by p (take k xs) ≤ count_by p (take (suc k) xs)
grows p [] zero = omega arith
grows p [] (suc k) = omega arith
grows p (x ∷ xs) zero = omega arith
grows p (x ∷ xs) (suc k) = let a = count_cons p x (take k xs) in let b = count_cons p x (take (suc k) xs) in omega (arith, a, b, grows p xs k)

enough_rises : {A : Type 0} (p : A → Bool) (due : ℕ) (xs : List A) → Rises (λ n. leb due (count_by p (take n xs)))
enough_rises p due xs = λ k e. let few = leb-true due (count_by p (take k xs)) e in le-leb due (count_by p (take (suc k) xs)) (omega (arith, few, grows p xs k))

-- ---- one node

abbrev enough : ℕ → ℕ → List NodeId → ℕ → Bool
enough i due told n = leb due (count_by (λ (o : NodeId). eqb o.0 i) (take n told))

one_less : (due n : ℕ) → leb (suc due) (1 + n) ≡ leb due n
one_less due n =
    elim (cases_lt n due) [
      | inl low ↦ lt-leb (suc due) (1 + n) (omega (arith, low)) ∙ sym (lt-leb due n low)
      | inr high ↦ le-leb (suc due) (1 + n) (omega (arith, high)) ∙ sym (le-leb due n high)
    ]

due_behind : (i due : ℕ) (o : NodeId) (told : List NodeId) → leb (suc due) (count_by (λ (o : NodeId). eqb o.0 i) (o ∷ told)) ≡ leb (cond (eqb o.0 i) due (suc due)) (count_by (λ (o : NodeId). eqb o.0 i) told)
due_behind i due o told = ap (leb (suc due)) (count_cons (λ (o : NodeId). eqb o.0 i) o told) ∙ at (eqb o.0 i)
  where
    at : (b : Bool) → leb (suc due) (one_if b + count_by (λ (o : NodeId). eqb o.0 i) told) ≡ leb (cond b due (suc due)) (count_by (λ (o : NodeId). eqb o.0 i) told)
    at true = one_less due (count_by (λ (o : NodeId). eqb o.0 i) told)
    at false = ap (leb (suc due)) (let same : 0 + count_by (λ (o : NodeId). eqb o.0 i) told ≡ count_by (λ (o : NodeId). eqb o.0 i) told = omega arith in same)

until_is : (i due : ℕ) (told : List NodeId) → first_of (enough i due told) (length told) ≡ heard_until i due told
until_is i zero [] = refl
until_is i zero (o ∷ told) = first_next (enough i zero (o ∷ told)) (length told) ∙ ap (λ b. cond b 0 (suc (first_of (λ k. enough i zero (o ∷ told) (suc k)) (length told)))) (le-leb 0 0 (omega arith))
until_is i (suc due) [] = refl
until_is i (suc due) (o ∷ told) =
    let left = cond (eqb o.0 i) due (suc due) in
    first_next (enough i (suc due) (o ∷ told)) (length told)
    ∙ ap (λ b. cond b 0 (suc (first_of (λ k. enough i (suc due) (o ∷ told) (suc k)) (length told)))) (lt-leb (suc due) 0 (omega arith))
    ∙ ap suc (first_congr (λ k. enough i (suc due) (o ∷ told) (suc k)) (enough i left told) (length told) (λ k. due_behind i due o (take k told)) ∙ until_is i left told)

-- by the places of its messages
places_are : (i before j : ℕ) (told : List NodeId) → get_or (places_behind i before told) j (before + length told) ≡ before + heard_until i (suc j) told
places_are i before j [] = refl
places_are i before j (o ∷ told) = at (eqb o.0 i) j (λ k. ap (get_or (places_behind i (before + 1) told) k) all ∙ places_are i (before + 1) k told)
  where
    all : before + suc (length told) ≡ before + 1 + length told
    all = omega arith

    at : (b : Bool) (j : ℕ) → ((k : ℕ) → get_or (places_behind i (before + 1) told) k (before + suc (length told)) ≡ before + 1 + heard_until i (suc k) told)
        → get_or (cond b ((before + 1) ∷ places_behind i (before + 1) told) (places_behind i (before + 1) told)) j (before + suc (length told)) ≡ before + suc (heard_until i (cond b j (suc j)) told)
    at true zero rest = let same : before + 1 ≡ before + suc 0 = omega arith in same
    at true (suc j) rest = let e = rest j in omega (arith, e)
    at false j rest = let e = rest j in omega (arith, e)

pub with_is : (i : ℕ) (told : List NodeId) (due : ℕ) → heard_with (places_behind i 0 told) (length told) due ≡ heard_until i due told
with_is i told zero = refl
with_is i told (suc due) =
    let back : suc due - 1 ≡ due = omega arith in
    let all : length told ≡ 0 + length told = omega arith in
    let none : 0 + heard_until i (suc due) told ≡ heard_until i (suc due) told = omega arith in
    ap (λ b. cond b 0 (get_or (places_behind i 0 told) (suc due - 1) (length told))) (ne_eqb (suc due) 0 (λ e. absurd (omega (arith, e))))
    ∙ ap (λ k. get_or (places_behind i 0 told) k (length told)) back ∙ ap (get_or (places_behind i 0 told) due) all ∙ places_are i 0 due told ∙ none

-- ---- what was said

due_congr : (f g : ℕ → ℕ) (pass : ℕ) → ((k : ℕ) → f k ≡ g k) → due_of f pass ≡ due_of g pass
due_congr f g zero same = refl
due_congr f g (suc pass) same = ap (λ n. min (n + MAX_TAKEN) (f (suc pass))) (due_congr f g pass same) ∙ ap (min (due_of g pass + MAX_TAKEN)) (same (suc pass))

said_is : (settings : PlainSettings) (run : NodeRun) (said : List ℕ) → said ≡ behind_passes run (said_in settings run) → (k : ℕ) → said_behind said k ≡ said_in settings run k
said_is settings run said is k =
    let passes = passes_of run.state.log in
    let many : length said ≡ length passes = ap length is ∙ length-map-range_with_len (said_in settings run) 1 (length passes) in
    ap (λ n. cond (eqb (min k n) 0) 0 (get_or said (min k n - 1) 0)) many
    ∙ ap (λ (l : List ℕ). cond (eqb (min k (length passes)) 0) 0 (get_or l (min k (length passes) - 1) 0)) is
    ∙ at (min k (length passes)) (min-le_right k (length passes))
    ∙ ap (λ (l : List (List Step)). length (state_behind settings run (length (flat_map (λ pass. pass) l))).said) (take_min k passes)
  where
    at : (m : ℕ) → m ≤ length (passes_of run.state.log) → cond (eqb m 0) 0 (get_or (behind_passes run (said_in settings run)) (m - 1) 0) ≡ said_in settings run m
    at zero few = refl
    at (suc m) few =
        let back : suc m - 1 ≡ m = omega arith in
        ap (λ b. cond b 0 (get_or (behind_passes run (said_in settings run)) (suc m - 1) 0)) (ne_eqb (suc m) 0 (λ e. absurd (omega (arith, e))))
        ∙ ap (λ j. get_or (behind_passes run (said_in settings run)) j 0) back
        ∙ get_or-map-range_with_len (said_in settings run) 1 (length (passes_of run.state.log)) m (suc m) 0 (omega (arith, few)) (omega arith)

-- ---- all nodes

abbrev pub due_heard : PlainSettings → Messages → ℕ → NodeRun → ℕ → Bool
due_heard settings heard k node n = leb (due_by settings k node) (count_by (is_from (record { 0 = node.node })) (take n heard))

abbrev pub all_heard : PlainSettings → Messages → ℕ → List NodeRun → ℕ → Bool
all_heard settings heard k nodes n = list_all (λ (node : NodeRun). due_heard settings heard k node n) nodes

all_rise : (settings : PlainSettings) (heard : Messages) (k : ℕ) (nodes : List NodeRun) → Rises (all_heard settings heard k nodes)
all_rise settings heard k [] = λ n e. refl
all_rise settings heard k (node ∷ nodes) =
    λ n e.
    let both = and_parts (due_heard settings heard k node n) (all_heard settings heard k nodes n) e in
    and_from (due_heard settings heard k node (suc n)) (all_heard settings heard k nodes (suc n)) (enough_rises (is_from (record { 0 = node.node })) (due_by settings k node) heard n both.0) (all_rise settings heard k nodes n both.1)

one_heard : (settings : PlainSettings) (heard : Messages) (k i : ℕ) (node : NodeRun) (found : FoundNode) → node.node ≡ i → IsFoundNode settings node found
    → first_of (due_heard settings heard k node) (length heard) ≡ heard_until i (due_of (said_behind found.said.items) (k - 1)) (map (λ (m : Message). m.node) heard)
one_heard settings heard k i node found number is =
    let told = map (λ (m : Message). m.node) heard in
    let due = due_of (said_behind found.said.items) (k - 1) in
    let dues : due_by settings k node ≡ due = due_congr (said_in settings node) (said_behind found.said.items) (k - 1) (λ j. sym (said_is settings node found.said.items is.said j)) in
    first_congr (due_heard settings heard k node) (enough i due told) (length heard)
    (λ n.
    ap (λ d. leb d (count_by (is_from (record { 0 = node.node })) (take n heard))) dues
    ∙ ap (leb due) (ap (λ j. count_by (λ (m : Message). eqb m.node.0 j) (take n heard)) number
    ∙ sym (count_map (λ (o : NodeId). eqb o.0 i) (λ (m : Message). m.node) (take n heard)) ∙ sym (ap (count_by (λ (o : NodeId). eqb o.0 i)) (take-map (λ (m : Message). m.node) n heard))))
    ∙ ap (first_of (enough i due told)) (sym (length-map heard (λ (m : Message). m.node))) ∙ until_is i due told

pub heard_is : (settings : PlainSettings) (heard : Messages) (k i : ℕ) (nodes : List NodeRun) (founds : List FoundNode) → AreFound (IsFoundNode settings) nodes founds
    → map (λ (node : NodeRun). node.node) nodes ≡ range_with_len i (length nodes)
    → first_of (all_heard settings heard k nodes) (length heard) ≡ heard_for (map (λ (m : Message). m.node) heard) (k - 1) i founds
heard_is settings heard k i [] [] all numbers = first_always (length heard)
heard_is settings heard k i [] (found ∷ founds) all numbers = absurd all
heard_is settings heard k i (node ∷ nodes) [] all numbers = absurd all
heard_is settings heard k i (node ∷ nodes) (found ∷ founds) all numbers =
    let number : node.node ≡ i = cc in
    let later : map (λ (node : NodeRun). node.node) nodes ≡ range_with_len (i + 1) (length nodes) = cc in
    let told = map (λ (m : Message). m.node) heard in
    first_both (due_heard settings heard k node) (all_heard settings heard k nodes) (length heard) (enough_rises (is_from (record { 0 = node.node })) (due_by settings k node) heard) (all_rise settings heard k nodes)
    ∙ ap (λ n. max n (first_of (all_heard settings heard k nodes) (length heard))) (one_heard settings heard k i node found number all.0)
    ∙ ap (max (heard_until i (due_of (said_behind found.said.items) (k - 1)) told)) (heard_is settings heard k (i + 1) nodes founds all.1 later)

max_assoc : (a b d : ℕ) → max (max a b) d ≡ max a (max b d)
max_assoc a b d = omega arith

-- one node more, in the order in which the code takes them
pub hear_more : (told : List NodeId) (nodes : List FoundNode) (i pass most due : ℕ) (found : FoundNode) → i < length nodes → found ≡ get_or nodes i found
    → due ≡ heard_until i (due_of (said_behind found.said.items) pass) told
    → max (max most due) (heard_for told pass (i + 1) (drop (i + 1) nodes)) ≡ max most (heard_for told pass i (drop i nodes))
hear_more told nodes i pass most due found less is dues =
    max_assoc most due (heard_for told pass (i + 1) (drop (i + 1) nodes))
    ∙ ap (λ n. max most (max n (heard_for told pass (i + 1) (drop (i + 1) nodes)))) dues
    ∙ ap (λ (f : FoundNode). max most (max (heard_until i (due_of (said_behind f.said.items) pass) told) (heard_for told pass (i + 1) (drop (i + 1) nodes)))) is
    ∙ sym (ap (λ (l : List FoundNode). max most (heard_for told pass i l)) (drop_more nodes i found less))

-- no node made more passes than the most
pub most_is : (nodes : List FoundNode) (i : ℕ) (found : FoundNode) → i < length nodes → found ≡ get_or nodes i found → length found.said.items ≤ most_passes nodes
most_is [] i found less is = absurd (omega arith)
most_is (f ∷ nodes) zero found less is = let e = ap (λ (f : FoundNode). length f.said.items) is in let a = le-max_left (length f.said.items) (most_passes nodes) in omega (arith, e, a)
most_is (f ∷ nodes) (suc i) found less is = let rest = most_is nodes i found (omega arith) is in let a = le-max_right (length f.said.items) (most_passes nodes) in omega (arith, rest, a)
