-- The steps of a put and of a take keep the rule.
use Rattle.std.proofs.Common.{◌≡◌, ℕ, ◌+◌, ◌*◌, ◌%◌, ◌^◌, ◌<◌, ◌≤◌, ◌≢◌, List, [], ◌∷◌, ◌++◌, length, get_or, set, sym, refl, ap, ◌∙◌, subst, mod-lt, lt_of_not-le, arith, length-append, length-set, get_or-set_other, get_or-set_same, inl, inr, Option, Some, None}
use mathlib.Core.Option.{none, some, some-injective}
use mathlib.Core.Option as maybe
use mathlib.Core.Logic.{dite}
use native.Mathlib.Nat.{add-mod_right}
use native.Mathlib.Decide.{ℕ_discrete, dec_le}
use lib.ListN.{get_elem?}
use lib.Seq.{set-get_or}
use Rattle.atomic_table.specs.Table.{State, Me, step, keeps, takes, gives, stepped, Allows}
use Rattle.atomic_table.proofs.Lists.{set_here, set_else, at_last}
use Rattle.hs_base.proofs.Places.{elem_push_cases}
use Rattle.hs_link.specs.declared.board.View.{View}
use Rattle.hs_link.specs.declared.board.View.TheVariants.{Sending, Laying, Receiving, Taking}
use Rattle.hs_link.specs.Ring.{EntryOk, Knows, LinkRule, looked_to_put, did_put, looked_to_take, did_take}
use Rattle.hs_link.proofs.Lists.{at_below, at_place, begins_grown, grown_begins, begins_length, shorter_begins, one_begins, apart}
use Rattle.hs_link.proofs.Stays.{beside_sender, beside_receiver, seats_stay, unmoved}

module _ {T F : Type 0} (holds : F → T → Type 0) (key : F) where
  abbrev V : Type 0
  V = View T F

  abbrev St : Type 0
  St = State (Option T) V

  abbrev M : Type 0
  M = Me (Option T) V

  abbrev Homes : Type 0
  Homes = List (maybe.Option (Option T))

  abbrev Rule : St → Type 0
  Rule = LinkRule holds key

  -- the sender takes the slot of its next entry
  reaches : (s : St) (r : Rule s) (id i : ℕ) (k : F) (put : List T) (h : ℕ) → get_elem? s.views id ≡ some (Sending k put h) → i ≡ length put % length s.homes → length put < r.taken + length s.homes
      → (get_elem? s.homes i ≡ some (some None)) × Rule (stepped s (16 * i) (get_or s.words (16 * i) 0) id [] (Laying k put h) (takes i None))
  reaches s r id i k put h at next room =
      let kn = r.each_seat id (Sending k put h) at in let n : ℕ = length s.homes in let a : ℕ = length r.log in let t : ℕ = r.taken in let is : length put ≡ a = ap length kn.2 in let at_a : i ≡ a % n = next ∙ ap (λ (z : ℕ). z % n) is in
      let idle : r.laying ≡ 0 = kn.4 in let behind : t + r.taking ≤ a = r.behind in let ok = r.each_entry a (omega arith) (omega arith) in let blank = ok.empty (omega arith) in let home : get_elem? s.homes i ≡ some (some None) = ap (get_elem? s.homes) at_a ∙ blank in
      let w : V = Laying k put h in let homes' : Homes = set s.homes i none in let same : length homes' ≡ n = length-set s.homes i none in (
        home,
        subst (λ (ws : List ℕ). Rule record { words = ws; homes = homes'; views = set s.views id w }) (sym (set-get_or s.words (16 * i) 0)) record {
          log = r.log;
          taken = t;
          laying = 1;
          taking = r.taking;
          sender = r.sender;
          receiver = r.receiver;
          some_entry = let pos = r.some_entry in omega arith;
          wide = r.wide ∙ ap (λ (z : ℕ). 16 * z) (sym same);
          behind = behind;
          within = omega arith;
          few = r.few;
          all_hold = r.all_hold;
          each_entry = λ p low high. let high' : p < t + n = omega arith in let old = r.each_entry p low high' in
              subst (λ (m : ℕ). EntryOk m r.log t 1 r.taking s.words homes' p) (sym same) (dite (ℕ_discrete p a)
              (λ here. record {
                full = old.full;
                free = old.free;
                item = λ _ x e. let below = at_below r.log x p e in absurd (omega arith);
                empty = λ le. absurd (omega arith);
              })
              (λ other. let away : p % n ≢ i = λ e. apart n t a p (omega arith) (omega arith) low high' other (e ∙ at_a) in let still = set_else s.homes i (p % n) none away in record {
                full = old.full;
                free = old.free;
                item = λ le x e. still ∙ old.item le x e;
                empty = λ le. still ∙ old.empty (omega arith);
              }));
          each_seat = seats_stay (Knows key r.log t 1 r.taking r.sender r.receiver) s.views id w (kn.0, kn.1, kn.2, kn.3, refl)
              (λ j v other e. beside_sender key r.log r.log t r.laying 1 r.taking r.sender r.receiver j (λ p x f. f) (λ f. other (f ∙ sym kn.0)) v (r.each_seat j v e));
        },
      )

  looks_at_free : (slots id i : ℕ) (k : F) (put : List T) (h : ℕ) → i ≡ length put % slots → Allows Rule slots id (Sending k put h, []) (16 * i) (λ n. n) (looked_to_put (step slots (16 * i) 0 0 none) (Sending k put h, []))
  looks_at_free slots id i k put h next s r deep at small =
      let kn = r.each_seat id (Sending k put h) at in let found : ℕ = get_or s.words (16 * i) 0 in let n : ℕ = length s.homes in let a : ℕ = length r.log in let t : ℕ = r.taken in let is : length put ≡ a = ap length kn.2 in
      let next' : i ≡ length put % n = next ∙ ap (λ (z : ℕ). length put % z) (sym deep) in let at_a : i ≡ a % n = next' ∙ ap (λ (z : ℕ). z % n) is in let behind : t + r.taking ≤ a = r.behind in let within : a + r.laying ≤ t + n = r.within in let pos : 0 < n = r.some_entry in
      let heard : h ≤ t = kn.3 in
      dite (ℕ_discrete found 0)
      (λ hit. let room : length put < t + n = dite (dec_le (t + n) a)
      (λ full. let ok = r.each_entry t (omega arith) (omega arith) in let turn : a ≡ t + n = omega arith in let at_t : t % n ≡ i = sym (at_a ∙ (ap (λ (z : ℕ). z % n) turn ∙ add-mod_right t n)) in
      let one : get_or s.words (16 * i) 0 ≡ 1 = ap (λ (z : ℕ). get_or s.words (16 * z) 0) (sym at_t) ∙ ok.full (omega arith) in absurd (omega arith))
      (λ not. let lt = lt_of_not-le not in omega arith) in
      let got = reaches s r id i k put h at next' room in (Laying k put h, takes i None, got.0, got.1, ((λ _. ap (λ (z : ℕ). let m : M = (Laying k put h, (z, None) ∷ []) in m) next), λ miss. absurd (miss hit))))
      (λ miss. let full : h + slots ≤ length put = dite (dec_le (t + n) a) (λ le. omega arith)
      (λ not. let lt = lt_of_not-le not in let ok = r.each_entry a (omega arith) (omega arith) in let zero_there : get_or s.words (16 * i) 0 ≡ 0 = ap (λ (z : ℕ). get_or s.words (16 * z) 0) at_a ∙ ok.free (omega arith) in absurd (miss zero_there)) in
      (Sending k put h, keeps, tt, unmoved holds key s r (16 * i) id [] (Sending k put h) kn, ((λ hit. absurd (miss hit)), λ _. (refl, full))))

  pub looks_to_put : (slots id i : ℕ) (me : M) (k : F) (put : List T) (h : ℕ) → me ≡ (Sending k put h, []) → i ≡ length put % slots → Allows Rule slots id me (16 * i) (λ n. n) (looked_to_put (step slots (16 * i) 0 0 none) me)
  looks_to_put slots id i me k put h is next = subst (λ (m : M). Allows Rule slots id m (16 * i) (λ n. n) (looked_to_put (step slots (16 * i) 0 0 none) m)) (sym is) (looks_at_free slots id i k put h next)

  gives_full : (slots id i : ℕ) (k : F) (put : List T) (h : ℕ) (x : T) → i ≡ length put % slots → length put + 1 < 2 ^ 64 → (k ≡ key → holds key x)
      → Allows Rule slots id (Laying k put h, (i, Some x) ∷ []) (16 * i) (λ _. 1) (λ _. did_put (step slots (16 * i) 1 0 none) (Laying k put h, (i, Some x) ∷ []) 1)
  gives_full slots id i k put h x next few ok_item s r deep at small =
      let kn = r.each_seat id (Laying k put h) at in let n : ℕ = length s.homes in let a : ℕ = length r.log in let t : ℕ = r.taken in let is : length put ≡ a = ap length kn.2 in
      let at_a : i ≡ a % n = next ∙ (ap (λ (z : ℕ). length put % z) (sym deep) ∙ ap (λ (z : ℕ). z % n) is) in let behind : t + r.taking ≤ a = r.behind in let within : a + r.laying ≤ t + n = r.within in let pos : 0 < n = r.some_entry in let one : r.laying ≡ 1 = kn.4 in
      let near : i < n = subst (λ (z : ℕ). z < n) (sym at_a) (mod-lt a pos) in let wide : length s.words ≡ 16 * n = r.wide in
      let w : V = Sending k (put ++ x ∷ []) h in let homes' : Homes = set s.homes i (some (Some x)) in let words' : List ℕ = set s.words (16 * i) 1 in let log' : List T = r.log ++ x ∷ [] in
      let same : length homes' ≡ n = length-set s.homes i (some (Some x)) in let more : length log' ≡ a + 1 = length-append r.log (x ∷ []) ∙ (omega arith) in
      let word_here : get_or words' (16 * i) 0 ≡ 1 = get_or-set_same s.words (16 * i) 1 0 (omega arith) in let home_here : get_elem? homes' i ≡ some (some (Some x)) = set_here s.homes i (some (Some x)) near in (
        w,
        gives,
        tt,
        record {
          log = log';
          taken = t;
          laying = 0;
          taking = r.taking;
          sender = r.sender;
          receiver = r.receiver;
          some_entry = omega arith;
          wide = length-set s.words (16 * i) 1 ∙ (wide ∙ ap (λ (z : ℕ). 16 * z) (sym same));
          behind = omega arith;
          within = omega arith;
          few = omega arith;
          all_hold = λ p y e. elim (elem_push_cases r.log x y p e) [ inl old ↦ r.all_hold p y old | inr new ↦ subst (holds key) new.1 (ok_item kn.1) ];
          each_entry = λ p low high. let high' : p < t + n = omega arith in let old = r.each_entry p low high' in
              subst (λ (m : ℕ). EntryOk m log' t 0 r.taking words' homes' p) (sym same) (dite (ℕ_discrete p a)
              (λ here. let there : p % n ≡ i = ap (λ (z : ℕ). z % n) here ∙ sym at_a in record {
                full = λ _. ap (λ (z : ℕ). get_or words' (16 * z) 0) there ∙ word_here;
                free = λ le. absurd (omega arith);
                item = λ _ y e. let y_is : x ≡ y = some-injective x y (sym (ap (get_elem? log') here ∙ at_last r.log x a refl) ∙ e) in ap (get_elem? homes') there ∙ (home_here ∙ ap (λ (z : T). some (some (Some z))) y_is);
                empty = λ le. absurd (omega arith);
              })
              (λ other. let away : p % n ≢ i = λ e. apart n t a p (omega arith) (omega arith) low high' other (e ∙ at_a) in let still = set_else s.homes i (p % n) (some (Some x)) away in
              let word = get_or-set_other s.words (16 * i) (16 * (p % n)) 1 0 (λ e. away (omega arith)) in record {
                full = λ lt. word ∙ old.full (omega arith);
                free = λ le. word ∙ old.free (omega arith);
                item = λ le y e. elim (elem_push_cases r.log x y p e) [ inl there ↦ still ∙ old.item le y there | inr new ↦ absurd (other new.0) ];
                empty = λ le. still ∙ old.empty (omega arith);
              }));
          each_seat = seats_stay (Knows key log' t 0 r.taking r.sender r.receiver) s.views id w (kn.0, kn.1, ap (λ (z : List T). z ++ x ∷ []) kn.2, kn.3, refl)
              (λ j v other e. beside_sender key r.log log' t r.laying 0 r.taking r.sender r.receiver j (begins_grown r.log r.log x (λ p y f. f)) (λ f. other (f ∙ sym kn.0)) v (r.each_seat j v e));
        },
        refl,
      )

  pub puts : (slots id i : ℕ) (me : M) (k : F) (put : List T) (h : ℕ) (x : T) → me ≡ (Laying k put h, (i, Some x) ∷ []) → i ≡ length put % slots → length put + 1 < 2 ^ 64 → (k ≡ key → holds key x)
      → Allows Rule slots id me (16 * i) (λ _. 1) (λ _. did_put (step slots (16 * i) 1 0 none) me 1)
  puts slots id i me k put h x is next few ok_item = subst (λ (m : M). Allows Rule slots id m (16 * i) (λ _. 1) (λ _. did_put (step slots (16 * i) 1 0 none) m 1)) (sym is) (gives_full slots id i k put h x next few ok_item)

  -- the receiver takes the slot of its next item
  grasps : (s : St) (r : Rule s) (id i : ℕ) (k : F) (got told : List T) → get_elem? s.views id ≡ some (Receiving k got told) → i ≡ length got % length s.homes → r.taken < length r.log
      → (x : T) × (get_elem? s.homes i ≡ some (some (Some x))) × (get_elem? r.log r.taken ≡ some x) × Rule (stepped s (16 * i) (get_or s.words (16 * i) 0) id [] (Taking k got told x) (takes i (Some x)))
  grasps s r id i k got told at next more =
      let kn = r.each_seat id (Receiving k got told) at in let n : ℕ = length s.homes in let a : ℕ = length r.log in let t : ℕ = r.taken in let is : length got ≡ t = kn.3 in let at_t : i ≡ t % n = next ∙ ap (λ (z : ℕ). z % n) is in
      let idle : r.taking ≡ 0 = kn.5 in let within : a + r.laying ≤ t + n = r.within in let pos : 0 < n = r.some_entry in let behind : t + r.taking ≤ a = r.behind in let ok = r.each_entry t (omega arith) (omega arith) in let there = at_place r.log t more in let x : T = there.0 in
      let full = ok.item (omega arith) x there.1 in
      let home : get_elem? s.homes i ≡ some (some (Some x)) = ap (get_elem? s.homes) at_t ∙ full in
      let w : V = Taking k got told x in let homes' : Homes = set s.homes i none in let same : length homes' ≡ n = length-set s.homes i none in (
        x,
        home,
        there.1,
        subst (λ (ws : List ℕ). Rule record { words = ws; homes = homes'; views = set s.views id w }) (sym (set-get_or s.words (16 * i) 0)) record {
          log = r.log;
          taken = t;
          laying = r.laying;
          taking = 1;
          sender = r.sender;
          receiver = r.receiver;
          some_entry = omega arith;
          wide = r.wide ∙ ap (λ (z : ℕ). 16 * z) (sym same);
          behind = omega arith;
          within = omega arith;
          few = r.few;
          all_hold = r.all_hold;
          each_entry = λ p low high. let high' : p < t + n = omega arith in let old = r.each_entry p low high' in
              subst (λ (m : ℕ). EntryOk m r.log t r.laying 1 s.words homes' p) (sym same) (dite (ℕ_discrete p t)
              (λ here. record {
                full = old.full;
                free = old.free;
                item = λ le. absurd (omega arith);
                empty = λ le. absurd (omega arith);
              })
              (λ other. let away : p % n ≢ i = λ e. apart n t t p (omega arith) (omega arith) low high' other (e ∙ at_t) in let still = set_else s.homes i (p % n) none away in record {
                full = old.full;
                free = old.free;
                item = λ le y e. still ∙ old.item (omega arith) y e;
                empty = λ le. still ∙ old.empty le;
              }));
          each_seat = seats_stay (Knows key r.log t r.laying 1 r.sender r.receiver) s.views id w (kn.0, kn.1, kn.2, kn.3, kn.4, refl, there.1)
              (λ j v other e. beside_receiver key r.log t t r.laying r.taking 1 r.sender r.receiver j (omega arith) (λ f. other (f ∙ sym kn.0)) v (r.each_seat j v e));
        },
      )

  looks_at_full : (slots id i : ℕ) (k : F) (got told : List T) → k ≡ key → i ≡ length got % slots
      → Allows Rule slots id (Receiving k got told, []) (16 * i) (λ n. n) (looked_to_take holds (step slots (16 * i) 0 0 none) (Receiving k got told, []))
  looks_at_full slots id i k got told same_key next s r deep at small =
      let kn = r.each_seat id (Receiving k got told) at in let found : ℕ = get_or s.words (16 * i) 0 in let n : ℕ = length s.homes in let a : ℕ = length r.log in let t : ℕ = r.taken in let is : length got ≡ t = kn.3 in
      let next' : i ≡ length got % n = next ∙ ap (λ (z : ℕ). length got % z) (sym deep) in let at_t : i ≡ t % n = next' ∙ ap (λ (z : ℕ). z % n) is in let behind : t + r.taking ≤ a = r.behind in let within : a + r.laying ≤ t + n = r.within in let pos : 0 < n = r.some_entry in
      let few : a < 2 ^ 64 = r.few in let ok = r.each_entry t (omega arith) (omega arith) in
      dite (ℕ_discrete found 0)
      (λ hit. let all : a ≤ t = dite (dec_le a t) (λ le. le) (λ not. let gt = lt_of_not-le not in let one : get_or s.words (16 * i) 0 ≡ 1 = ap (λ (z : ℕ). get_or s.words (16 * z) 0) at_t ∙ ok.full (omega arith) in absurd (omega arith)) in
      let told_short = begins_length told r.log kn.4 in
      (Receiving k got told, keeps, tt, unmoved holds key s r (16 * i) id [] (Receiving k got told) kn, ((λ miss. absurd (miss hit)), λ _. (refl, shorter_begins told got r.log kn.4 kn.2 (omega arith)))))
      (λ miss. let more : t < a = dite (dec_le a t) (λ le. let zero_there : get_or s.words (16 * i) 0 ≡ 0 = ap (λ (z : ℕ). get_or s.words (16 * z) 0) at_t ∙ ok.free (omega arith) in absurd (miss zero_there)) (λ not. lt_of_not-le not) in
      let got' = grasps s r id i k got told at next' more in let x : T = got'.0 in
      let here : get_elem? r.log (length got) ≡ some x = ap (get_elem? r.log) is ∙ got'.2 in
      (Taking k got told x, takes i (Some x), got'.1, got'.3, ((λ _. (x, ap (λ (z : ℕ). let m : M = (Taking k got told x, (z, Some x) ∷ []) in m) next, subst (λ (z : F). holds z x) (sym same_key) (r.all_hold t x got'.2), one_begins (got ++ x ∷ []) told r.log (grown_begins got r.log x kn.2 here) kn.4, omega arith)), λ hit. absurd (miss hit))))

  pub looks_to_take : (slots id i : ℕ) (me : M) (k : F) (got told : List T) → me ≡ (Receiving k got told, []) → k ≡ key → i ≡ length got % slots
      → Allows Rule slots id me (16 * i) (λ n. n) (looked_to_take holds (step slots (16 * i) 0 0 none) me)
  looks_to_take slots id i me k got told is same_key next = subst (λ (m : M). Allows Rule slots id m (16 * i) (λ n. n) (looked_to_take holds (step slots (16 * i) 0 0 none) m)) (sym is) (looks_at_full slots id i k got told same_key next)

  gives_empty : (slots id i : ℕ) (k : F) (got told : List T) (x : T) → i ≡ length got % slots
      → Allows Rule slots id (Taking k got told x, (i, None) ∷ []) (16 * i) (λ _. 0) (λ _. did_take (step slots (16 * i) 0 0 none) (Taking k got told x, (i, None) ∷ []) 0)
  gives_empty slots id i k got told x next s r deep at small =
      let kn = r.each_seat id (Taking k got told x) at in let n : ℕ = length s.homes in let a : ℕ = length r.log in let t : ℕ = r.taken in let is : length got ≡ t = kn.3 in
      let at_t : i ≡ t % n = next ∙ (ap (λ (z : ℕ). length got % z) (sym deep) ∙ ap (λ (z : ℕ). z % n) is) in let behind : t + r.taking ≤ a = r.behind in let within : a + r.laying ≤ t + n = r.within in let pos : 0 < n = r.some_entry in let one : r.taking ≡ 1 = kn.5 in
      let near : i < n = subst (λ (z : ℕ). z < n) (sym at_t) (mod-lt t pos) in let wide : length s.words ≡ 16 * n = r.wide in
      let w : V = Receiving k (got ++ x ∷ []) told in let homes' : Homes = set s.homes i (some None) in let words' : List ℕ = set s.words (16 * i) 0 in
      let same : length homes' ≡ n = length-set s.homes i (some None) in let here : get_elem? r.log (length got) ≡ some x = ap (get_elem? r.log) is ∙ kn.6 in
      let word_here : get_or words' (16 * i) 0 ≡ 0 = get_or-set_same s.words (16 * i) 0 0 (omega arith) in let home_here : get_elem? homes' i ≡ some (some None) = set_here s.homes i (some None) near in
      let turn : (t + n) % n ≡ i = add-mod_right t n ∙ sym at_t in let longer : length (got ++ x ∷ []) ≡ t + 1 = length-append got (x ∷ []) ∙ (omega arith) in (
        w,
        gives,
        tt,
        record {
          log = r.log;
          taken = t + 1;
          laying = r.laying;
          taking = 0;
          sender = r.sender;
          receiver = r.receiver;
          some_entry = omega arith;
          wide = length-set s.words (16 * i) 0 ∙ (wide ∙ ap (λ (z : ℕ). 16 * z) (sym same));
          behind = omega arith;
          within = omega arith;
          few = r.few;
          all_hold = r.all_hold;
          each_entry = λ p low high. let high' : p < t + 1 + n = omega arith in
              subst (λ (m : ℕ). EntryOk m r.log (t + 1) r.laying 0 words' homes' p) (sym same) (dite (ℕ_discrete p (t + n))
              (λ there. let at_i : p % n ≡ i = ap (λ (z : ℕ). z % n) there ∙ turn in record {
                full = λ lt. absurd (omega arith);
                free = λ _. ap (λ (z : ℕ). get_or words' (16 * z) 0) at_i ∙ word_here;
                item = λ _ y e. let below = at_below r.log y p e in absurd (omega arith);
                empty = λ _. ap (get_elem? homes') at_i ∙ home_here;
              })
              (λ other. let old = r.each_entry p (omega arith) (omega arith) in
              let away : p % n ≢ i = λ e. apart n (t + 1) (t + n) p (omega arith) (omega arith) low high' other (e ∙ sym turn) in let still = set_else s.homes i (p % n) (some None) away in
              let word = get_or-set_other s.words (16 * i) (16 * (p % n)) 0 0 (λ e. away (omega arith)) in record {
                full = λ lt. word ∙ old.full lt;
                free = λ le. word ∙ old.free le;
                item = λ le y e. still ∙ old.item (omega arith) y e;
                empty = λ le. still ∙ old.empty le;
              }));
          each_seat = seats_stay (Knows key r.log (t + 1) r.laying 0 r.sender r.receiver) s.views id w (kn.0, kn.1, grown_begins got r.log x kn.2 here, longer, kn.4, refl)
              (λ j v other e. beside_receiver key r.log t (t + 1) r.laying r.taking 0 r.sender r.receiver j (omega arith) (λ f. other (f ∙ sym kn.0)) v (r.each_seat j v e));
        },
        refl,
      )

  pub takes_it : (slots id i : ℕ) (me : M) (k : F) (got told : List T) (x : T) → me ≡ (Taking k got told x, (i, None) ∷ []) → i ≡ length got % slots
      → Allows Rule slots id me (16 * i) (λ _. 0) (λ _. did_take (step slots (16 * i) 0 0 none) me 0)
  takes_it slots id i me k got told x is next = subst (λ (m : M). Allows Rule slots id m (16 * i) (λ _. 0) (λ _. did_take (step slots (16 * i) 0 0 none) m 0)) (sym is) (gives_empty slots id i k got told x next)
