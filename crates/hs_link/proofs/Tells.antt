-- The making of the ends, and what they tell each other, keep the rule.
use Rattle.std.proofs.Common.{◌≡◌, ℕ, zero, suc, ◌+◌, ◌*◌, ◌%◌, ◌<◌, ◌≤◌, List, [], ◌∷◌, ◌++◌, map, length, replicate, get_or, set, sym, refl, ap, ◌∙◌, subst, mod-lt, arith, Option, None}
use mathlib.Core.Option.{none, some, some-ne-none}
use mathlib.Core.Option as maybe
use lib.ListN.{get_elem?, length-map, length-replicate, get_or-replicate}
use Rattle.atomic_table.specs.Table.{State, Me, step, keeps, Allows, Splits, Joins, opening}
use Rattle.atomic_table.proofs.Lists.{set_else}
use Rattle.hs_link.specs.declared.board.View.{View}
use Rattle.hs_link.specs.declared.board.View.TheVariants.{Nobody, Whole, Sending, Meeting, Receiving, TellsPut, TellsTaken}
use Rattle.hs_link.specs.Contents.{IsBeginning}
use Rattle.hs_link.specs.Ring.{Begins, Knows, LinkRule, first_sender, first_receiver, told_put, told_taken, heard, met, passed, settled}
use Rattle.hs_link.proofs.Lists.{begins_taken}
use Rattle.hs_link.proofs.Stays.{beside_whole, seats_stay, seats_grow, Seats, reviewed, unmoved}

vacant : {A : Type 0} (n i : ℕ) (a : A) → i < n → get_elem? (map some (replicate n a)) i ≡ some (some a)
vacant zero i a h = absurd (omega arith)
vacant (suc n) zero a h = refl
vacant (suc n) (suc i) a h = vacant n i a (omega arith)

module _ {T F : Type 0} (holds : F → T → Type 0) (key : F) where
  abbrev V : Type 0
  V = View T F

  abbrev St : Type 0
  St = State (Option T) V

  abbrev M : Type 0
  M = Me (Option T) V

  abbrev Rule : St → Type 0
  Rule = LinkRule holds key

  starts : (n : ℕ) (words : List ℕ) → 0 < n → length words ≡ 16 * n → ((i : ℕ) → i < 16 * n → get_or words i 0 ≡ 0) → Rule (opening words (replicate n None) (Whole key))
  starts n words pos wide blank = let xs : List (Option T) = replicate n None in let homes : List (maybe.Option (Option T)) = map some xs in let m : ℕ = length homes in let is : m ≡ n = length-map xs some ∙ length-replicate n None in record {
    log = [];
    taken = 0;
    laying = 0;
    taking = 0;
    sender = 0;
    receiver = 0;
    some_entry = omega arith;
    wide = wide ∙ ap (λ (z : ℕ). 16 * z) (sym is);
    behind = omega arith;
    within = omega arith;
    few = omega arith;
    all_hold = λ p x e. absurd (some-ne-none x (sym e));
    each_entry = λ p low high. let near : p % m < m = mod-lt p (let h : 0 < m = omega arith in h) in record {
      full = λ lt. absurd (omega arith);
      free = λ _. blank (16 * (p % m)) (omega arith);
      item = λ _ x e. absurd (some-ne-none x (sym e));
      empty = λ _. vacant n (p % m) None (omega arith);
    };
    each_seat = seats_grow (Knows key [] 0 0 0 0 0) [] (Whole key) (refl, refl, refl, refl, refl, refl) (λ j v e. absurd (some-ne-none v (sym e)));
  }

  pub starts_blank : (n : ℕ) (words : List ℕ) → 0 < n → words ≡ replicate (16 * n) 0 → Rule (opening words (replicate n None) (Whole key))
  starts_blank n words pos is = starts n words pos (ap length is ∙ length-replicate (16 * n) 0) (λ i h. ap (λ (z : List ℕ). get_or z i 0) is ∙ get_or-replicate (16 * n) i 0 0 h)

  makes_two : (id : ℕ) (k : F) → Splits Rule id (Whole k) (Sending k [] 0) (Receiving k [] [])
  makes_two id k s r at = let kn = r.each_seat id (Whole k) at in let vs : List V = set s.views id (Sending k [] 0) in let none_put : length r.log ≡ 0 = ap length kn.3 in let behind : r.taken + r.taking ≤ length r.log = r.behind in
      let idle : r.taking ≡ 0 = kn.5 in let none_taken : 0 ≡ r.taken = omega arith in let nothing : Begins [] r.log = λ p x e. absurd (some-ne-none x (sym e)) in let K : ℕ → V → Type 0 = Knows key r.log r.taken r.laying r.taking r.sender (length vs) in record {
        log = r.log;
        taken = r.taken;
        laying = r.laying;
        taking = r.taking;
        sender = r.sender;
        receiver = length vs;
        some_entry = r.some_entry;
        wide = r.wide;
        behind = r.behind;
        within = r.within;
        few = r.few;
        all_hold = r.all_hold;
        each_entry = r.each_entry;
        each_seat = seats_grow K vs (Receiving k [] []) (refl, kn.2, nothing, none_taken, nothing, idle)
            (seats_stay K s.views id (Sending k [] 0) (kn.0, kn.2, sym kn.3, (let h : 0 ≤ r.taken = omega arith in h), kn.4)
            (λ j v other e. beside_whole key r.log r.taken r.laying r.taking r.sender r.receiver (length vs) j (λ f. other (f ∙ sym kn.0)) (λ f. other (f ∙ sym kn.1)) v (r.each_seat j v e)));
      }

  pub makes_ends : (id : ℕ) (v : V) (k : F) → v ≡ Whole k → Splits Rule id v (first_sender v) (first_receiver v)
  makes_ends id v k is = subst (λ (u : V). Splits Rule id u (first_sender u) (first_receiver u)) (sym is) (makes_two id k)

  -- a seat writes a note, and stays as it is
  noted : (id : ℕ) (v note : V) (s : St) (r : Rule s) → get_elem? s.views id ≡ some v → ((j : ℕ) → Seats holds key s r j note) → Rule record { words = s.words; homes = s.homes; views = set s.views id v ++ note ∷ [] }
  noted id v note s r at true_note = let K = Seats holds key s r in reviewed holds key s r (set s.views id v ++ note ∷ [])
      (seats_grow K (set s.views id v) note (true_note (length (set s.views id v))) (seats_stay K s.views id v (r.each_seat id v at) (λ j u _. r.each_seat j u)))

  pub notes_put : (id : ℕ) (v : V) (k : F) (put : List T) (h : ℕ) → v ≡ Sending k put h → Splits Rule id v v (told_put v)
  notes_put id v k put h is = subst (λ (u : V). Splits Rule id u u (told_put u)) (sym is) (λ s r at. let kn = r.each_seat id (Sending k put h) at in
      noted id (Sending k put h) (TellsPut k put) s r at (λ j. (kn.1, λ p x e. ap (λ (z : List T). get_elem? z p) (sym kn.2) ∙ e)))

  pub notes_taken : (id : ℕ) (v : V) (k : F) (got told : List T) → v ≡ Receiving k got told → Splits Rule id v v (told_taken v)
  notes_taken id v k got told is = subst (λ (u : V). Splits Rule id u u (told_taken u)) (sym is) (λ s r at. let kn = r.each_seat id (Receiving k got told) at in
      noted id (Receiving k got told) (TellsTaken k got) s r at (λ j. (kn.1, kn.2, let e : length got ≡ r.taken = kn.3 in let h : length got ≤ r.taken = omega arith in h)))

  -- a seat reads a note, and the note is spent
  read_note : (id : ℕ) (v : V) (other : ℕ) (note both : V) (s : St) (r : Rule s) → get_elem? s.views id ≡ some v → ¬ (other ≡ id) → get_elem? (set s.views id both) other ≡ some note
      → (Seats holds key s r id v → Seats holds key s r other note → Seats holds key s r id both) → Rule record { words = s.words; homes = s.homes; views = set (set s.views id both) other Nobody }
  read_note id v other note both s r at apart there now = let K = Seats holds key s r in let vs : List V = set s.views id both in
      let mine = now (r.each_seat id v at) (r.each_seat other note (sym (set_else s.views id other both apart) ∙ there)) in
      reviewed holds key s r (set vs other Nobody) (seats_stay K vs other Nobody tt (λ j u _. seats_stay K s.views id both mine (λ i w _. r.each_seat i w) j u))

  pub hears : (id : ℕ) (v : V) (other : ℕ) (note : V) (k k' : F) (got told put : List T) → v ≡ Receiving k got told → note ≡ TellsPut k' put → Joins Rule id v other note (heard v note) Nobody
  hears id v other note k k' got told put is wrote = subst (λ (u : V × V). Joins Rule id u.0 other u.1 (heard u.0 u.1) Nobody) (λ i. (sym is i, sym wrote i))
      (λ s r at apart there. read_note id (Receiving k got told) other (TellsPut k' put) (Receiving k got put) s r at apart there (λ a b. (a.0, a.1, a.2, a.3, b.1, a.5)))

  pub meets : (id : ℕ) (v : V) (other : ℕ) (note : V) (k k' : F) (put got : List T) (h : ℕ) → v ≡ Sending k put h → note ≡ TellsTaken k' got → Joins Rule id v other note (met v note) Nobody
  meets id v other note k k' put got h is wrote = subst (λ (u : V × V). Joins Rule id u.0 other u.1 (met u.0 u.1) Nobody) (λ i. (sym is i, sym wrote i))
      (λ s r at apart there. read_note id (Sending k put h) other (TellsTaken k' got) (Meeting k put h k' got) s r at apart there (λ a b. (a.0, a.1, a.2, a.3, a.4, b.0, b.1, b.2)))

  -- what the sender learns of a receiver that it met
  fits : (s : St) (r : Rule s) (id : ℕ) (k k' : F) (put got : List T) (h : ℕ) → Seats holds key s r id (Meeting k put h k' got) → (k' ≡ k) × IsBeginning got put
  fits s r id k k' put got h kn = (kn.5 ∙ sym kn.1, begins_taken got put (subst (Begins got) (sym kn.2) kn.6))

  pub parts : (slots id i : ℕ) (me : M) (k k' : F) (put got : List T) (h : ℕ) → me ≡ (Meeting k put h k' got, []) → Allows Rule slots id me i (λ n. n) (passed (step slots i 0 0 none) me)
  parts slots id i me k k' put got h is = subst (λ (m : M). Allows Rule slots id m i (λ n. n) (passed (step slots i 0 0 none) m)) (sym is) (λ s r deep at small. let kn = r.each_seat id (Meeting k put h k' got) at in (
    Sending k put h,
    keeps,
    tt,
    unmoved holds key s r i id [] (Sending k put h) (kn.0, kn.1, kn.2, kn.3, kn.4),
    (refl, fits s r id k k' put got h kn),
  ))

  pub parts_wiser : (slots id i : ℕ) (me : M) (k k' : F) (put got : List T) (h : ℕ) → me ≡ (Meeting k put h k' got, []) → Allows Rule slots id me i (λ n. n) (settled (step slots i 0 0 none) me)
  parts_wiser slots id i me k k' put got h is = subst (λ (m : M). Allows Rule slots id m i (λ n. n) (settled (step slots i 0 0 none) m)) (sym is) (λ s r deep at small. let kn = r.each_seat id (Meeting k put h k' got) at in (
    Sending k put (length got),
    keeps,
    tt,
    unmoved holds key s r i id [] (Sending k put (length got)) (kn.0, kn.1, kn.2, kn.7, kn.4),
    (refl, fits s r id k k' put got h kn),
  ))
