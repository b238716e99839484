-- Parties that go with their claims: how what is noted changes, and what stays claimed.
use Rattle.std.proofs.Common.{◌≡◌, ◌≢◌, ℕ, ◌+◌, ◌<◌, ◌≤◌, Bool, true, false, cond, not, List, [], ◌∷◌, length, map, refl, sym, ap, subst, ◌∙◌, arith, true≢false, ◌++◌, ◌||◌, Some}
use Rattle.std.proofs.lemmas.Bool.{eqb-false}
use Rattle.std.proofs.Math.Bool.{or-true}
use Rattle.std.proofs.Math.Numerals.{lt_of_le_of_ne}
use Rattle.std.specs.Map.Calls.{RetainsPairs}
use Rattle.hs_base.proofs.Bools.{by_answer}
use Rattle.hs_base.proofs.Numbers.{nat_eq_below, nat_eq_above}
use Rattle.hs_pins.proofs.Prelude.{◌==◌, filter, eqb-true, eq-eqb, TraceId, ClaimNote, Group, Claim, same_group, party_at, claim_from, AreNoted, AreNamed, is_named, lookup, set_value, same_trace}
use Rattle.hs_pins.specs.declared.claims.Party.{Party}
use Rattle.hs_pins.specs.Remembered.{is_of_group}
use Rattle.hs_pins.specs.ClaimsLayout.{claim_by, note_moved, LastTakes}
use Rattle.hs_pins.proofs.Noted.{Notes}

-- what `retain` leaves, where the closure keeps no state and makes each value anew
module _ {K X F : Type 0} (T : F → K → X → Bool → X → F → Type 0) (test : K × X → Bool) (h : X → X) (f : F)
    (says : (k : K) (v : X) (b : Bool) (w : X) (g : F) → T f k v b w g → (b ≡ test (k, v)) × (w ≡ h v) × (g ≡ f)) where
  pub mapped-RetainsPairs : (es kept : List (K × X)) → RetainsPairs T f es kept → kept ≡ map (λ (e : K × X). (e.0, h e.1)) (filter test es)
  mapped-RetainsPairs [] kept r = r
  mapped-RetainsPairs (e ∷ es) kept r =
      let s = says e.0 e.1 r.0 r.1 r.2 r.4 in
      let rest = mapped-RetainsPairs es r.3 (subst (λ g. RetainsPairs T g es r.3) s.2 r.5) in
      r.6 ∙ (λ j. cond {A = List (K × X)} (s.0 j) ((e.0, s.1 j) ∷ rest j) (rest j)) ∙ by (test e)
    where
      by : (b : Bool) → cond {A = List (K × X)} b ((e.0, h e.1) ∷ map (λ (x : K × X). (x.0, h x.1)) (filter test es)) (map (λ (x : K × X). (x.0, h x.1)) (filter test es)) ≡ map (λ (x : K × X). (x.0, h x.1)) (cond b (e ∷ filter test es) (filter test es))
      by true = refl
      by false = refl

-- ---- the last party takes a place

-- whether the claim is not of the party at the place
abbrev pub is_another : ℕ → TraceId × ClaimNote → Bool
is_another place noted = not (noted.1.party == place)

abbrev pub noted_anew : ℕ → ℕ → TraceId × ClaimNote → TraceId × ClaimNote
noted_anew place last noted = (noted.0, note_moved place last noted.1)

module _ (place last : ℕ) (old new : List Party) (t : LastTakes place old new) (within : place < length old) (is_last : last ≡ length new) where
  abbrev moved : ℕ → ℕ
  moved k = cond (k == last) place k

  moved_within : (k : ℕ) → k < length old → (k == place) ≡ false → moved k < length new
  moved_within k below other = by_answer (k == last) at_last elsewhere
    where
      at_last : (k == last) ≡ true → moved k < length new
      at_last e =
          let same : k ≡ last = eqb-true k last e in
          let differ : place ≢ length new = λ p. eqb-false k place other (same ∙ is_last ∙ sym p) in
          let most : place ≤ length new = let shorter = t.shorter in omega (arith, shorter, within) in
          subst (λ b. cond b place k < length new) (sym e) (lt_of_le_of_ne most differ)

      elsewhere : (k == last) ≡ false → moved k < length new
      elsewhere e =
          let differ : k ≢ length new = λ p. eqb-false k last e (p ∙ sym is_last) in
          let most : k ≤ length new = let shorter = t.shorter in omega (arith, shorter, below) in
          subst (λ b. cond b place k < length new) (sym e) (lt_of_le_of_ne most differ)

  same_party : (k : ℕ) → k < length old → (k == place) ≡ false → party_at new (moved k) ≡ party_at old k
  same_party k below other = t.at (moved k) (moved_within k below other) ∙ ap (party_at old) (by_answer (k == last) at_last elsewhere)
    where
      at_last : (k == last) ≡ true → cond (moved k == place) (length new) (moved k) ≡ k
      at_last e =
          ap (λ b. cond (cond b place k == place) (length new) (cond b place k)) e
          ∙ ap (λ b. cond b (length new) place) (eq-eqb place place refl)
          ∙ sym is_last
          ∙ sym (eqb-true k last e)

      elsewhere : (k == last) ≡ false → cond (moved k == place) (length new) (moved k) ≡ k
      elsewhere e = ap (λ b. cond (cond b place k == place) (length new) (cond b place k)) e ∙ ap (λ b. cond b (length new) k) other

  another : (noted : TraceId × ClaimNote) → is_another place noted ≡ true → (noted.1.party == place) ≡ false
  another noted e = by_answer (noted.1.party == place) (λ y. absurd (true≢false (sym e ∙ ap not y))) (λ n. n)

  pub noted_after : (notes : Notes) → AreNoted old notes → AreNoted new (map (noted_anew place last) (filter (is_another place) notes))
  noted_after [] all = tt
  noted_after (n ∷ notes) all =
      by_answer (is_another place n)
      (λ y. subst (λ b. AreNoted new (map (noted_anew place last) (cond b (n ∷ filter (is_another place) notes) (filter (is_another place) notes)))) (sym y)
      (moved_within n.1.party all.0 (another n y), noted_after notes all.1))
      (λ no. subst (λ b. AreNoted new (map (noted_anew place last) (cond b (n ∷ filter (is_another place) notes) (filter (is_another place) notes)))) (sym no) (noted_after notes all.1))

  pub claims_after : (notes : Notes) → AreNoted old notes → map (claim_from new) (map (noted_anew place last) (filter (is_another place) notes)) ≡ map (claim_from old) (filter (is_another place) notes)
  claims_after [] all = refl
  claims_after (n ∷ notes) all =
      by_answer (is_another place n)
      (λ y. subst (λ b. map (claim_from new) (map (noted_anew place last) (cond b (n ∷ filter (is_another place) notes) (filter (is_another place) notes))) ≡ map (claim_from old) (cond b (n ∷ filter (is_another place) notes) (filter (is_another place) notes))) (sym y)
      (λ i. claim_by (same_party n.1.party all.0 (another n y) i) n.0 n.1.crumbs ∷ claims_after notes all.1 i))
      (λ no. subst (λ b. map (claim_from new) (map (noted_anew place last) (cond b (n ∷ filter (is_another place) notes) (filter (is_another place) notes))) ≡ map (claim_from old) (cond b (n ∷ filter (is_another place) notes) (filter (is_another place) notes))) (sym no)
      (claims_after notes all.1))

  -- which party comes to a place
  abbrev came : ℕ → ℕ
  came k = cond (k == place) (length new) k

  came_other : (k : ℕ) → k < length new → (came k == place) ≡ false
  came_other k below = by_answer (k == place) at_place elsewhere
    where
      at_place : (k == place) ≡ true → (came k == place) ≡ false
      at_place e =
          let same : k ≡ place = eqb-true k place e in
          ap (λ b. cond b (length new) k == place) e ∙ nat_eq_above (length new) place (omega (arith, same, below))

      elsewhere : (k == place) ≡ false → (came k == place) ≡ false
      elsewhere e = ap (λ b. cond b (length new) k == place) e ∙ e

  moved_came : (k : ℕ) → k < length new → moved (came k) ≡ k
  moved_came k below = by_answer (k == place) at_place elsewhere
    where
      at_place : (k == place) ≡ true → moved (came k) ≡ k
      at_place e =
          ap (λ b. cond (cond b (length new) k == last) place (cond b (length new) k)) e
          ∙ ap (λ b. cond b place (length new)) (eq-eqb (length new) last (sym is_last))
          ∙ sym (eqb-true k place e)

      elsewhere : (k == place) ≡ false → moved (came k) ≡ k
      elsewhere e =
          ap (λ b. cond (cond b (length new) k == last) place (cond b (length new) k)) e
          ∙ ap (λ b. cond b place k) (nat_eq_below k last (omega (arith, below, is_last)))

  still_named : (notes : Notes) (k : ℕ) → (k == place) ≡ false → is_named notes k ≡ true → is_named (map (noted_anew place last) (filter (is_another place) notes)) (moved k) ≡ true
  still_named [] k other named = named
  still_named (n ∷ notes) k other named =
      by_answer (n.1.party == k)
      (λ y.
      let same : n.1.party ≡ k = eqb-true n.1.party k y in
      let stays : is_another place n ≡ true = ap (λ j. not (j == place)) same ∙ ap not other in
      ap (λ b. is_named (map (noted_anew place last) (cond b (n ∷ filter (is_another place) notes) (filter (is_another place) notes))) (moved k)) stays
      ∙ ap (λ b. b || is_named (map (noted_anew place last) (filter (is_another place) notes)) (moved k)) (eq-eqb (moved n.1.party) (moved k) (ap moved same)))
      (λ no.
      let rest = still_named notes k other (sym (ap (λ b. b || is_named notes k) no) ∙ named) in
      by_answer (is_another place n)
      (λ y.
      ap (λ b. is_named (map (noted_anew place last) (cond b (n ∷ filter (is_another place) notes) (filter (is_another place) notes))) (moved k)) y
      ∙ ap (λ b. (moved n.1.party == moved k) || b) rest
      ∙ or-true (moved n.1.party == moved k))
      (λ out. ap (λ b. is_named (map (noted_anew place last) (cond b (n ∷ filter (is_another place) notes) (filter (is_another place) notes))) (moved k)) out ∙ rest))

  pub named_after : (notes : Notes) → AreNamed old notes → AreNamed new (map (noted_anew place last) (filter (is_another place) notes))
  named_after notes named k below =
      subst (λ j. is_named (map (noted_anew place last) (filter (is_another place) notes)) j ≡ true) (moved_came k below)
      (still_named notes (came k) (came_other k below) (named (came k) (within_came k below)))
    where
      within_came : (k : ℕ) → k < length new → came k < length old
      within_came k below =
          by_answer (k == place)
          (λ y. let shorter = t.shorter in subst (λ b. cond b (length new) k < length old) (sym y) (omega (arith, shorter)))
          (λ no. let shorter = t.shorter in subst (λ b. cond b (length new) k < length old) (sym no) (omega (arith, shorter, below)))

-- ---- a note more, and a note anew

-- the place is named by what is noted more
named-more : (notes : Notes) (n : TraceId × ClaimNote) (k : ℕ) → (n.1.party == k) ≡ true → is_named (notes ++ n ∷ []) k ≡ true
named-more [] n k e = ap (λ b. b || false) e
named-more (m ∷ notes) n k e = ap (λ b. (m.1.party == k) || b) (named-more notes n k e) ∙ or-true (m.1.party == k)

-- or as before
named-before : (notes : Notes) (n : TraceId × ClaimNote) (k : ℕ) → is_named notes k ≡ true → is_named (notes ++ n ∷ []) k ≡ true
named-before [] n k e = absurd (true≢false (sym e))
named-before (m ∷ notes) n k e =
    by_answer (m.1.party == k)
    (λ y. ap (λ b. b || is_named (notes ++ n ∷ []) k) y)
    (λ no. ap (λ b. b || is_named (notes ++ n ∷ []) k) no ∙ named-before notes n k (sym (ap (λ b. b || is_named notes k) no) ∙ e))

pub are_named-more : (old new : List Party) (notes : Notes) (n : TraceId × ClaimNote) → AreNamed old notes → ((k : ℕ) → k < length new → k ≢ n.1.party → k < length old) → AreNamed new (notes ++ n ∷ [])
are_named-more old new notes n named others k below =
    by_answer (n.1.party == k)
    (λ y. named-more notes n k y)
    (λ no. named-before notes n k (named k (others k below (λ e. eqb-false n.1.party k no (sym e)))))

named-set : (notes : Notes) (trace : TraceId) (was now : ClaimNote) (k : ℕ) → lookup (same_trace trace) notes ≡ Some was → now.party ≡ was.party → is_named (set_value (same_trace trace) notes now) k ≡ is_named notes k
named-set [] trace was now k found same = refl
named-set (n ∷ notes) trace was now k found same = at (same_trace trace n.0) found (λ f. named-set notes trace was now k f same)
  where
    at : (b : Bool) → cond b (Some n.1) (lookup (same_trace trace) notes) ≡ Some was → (lookup (same_trace trace) notes ≡ Some was → is_named (set_value (same_trace trace) notes now) k ≡ is_named notes k)
        → is_named (cond b ((n.0, now) ∷ notes) (n ∷ set_value (same_trace trace) notes now)) k ≡ is_named (n ∷ notes) k
    at true found rest = let own : was ≡ n.1 = cc in ap (λ p. (p == k) || is_named notes k) (same ∙ ap (λ (m : ClaimNote). m.party) own)
    at false found rest = ap (λ b. (n.1.party == k) || b) (rest found)

pub are_named-set : (parties : List Party) (notes : Notes) (trace : TraceId) (was now : ClaimNote) → AreNamed parties notes → lookup (same_trace trace) notes ≡ Some was → now.party ≡ was.party → AreNamed parties (set_value (same_trace trace) notes now)
are_named-set parties notes trace was now named found same k below = named-set notes trace was now k found same ∙ named k below

-- ---- the parties of a group

abbrev pub stays : Group → Claim → Bool
stays group claim = not (is_of_group group claim)

-- where the party is of the group, none of its claims stays
pub none_of_party : (group : Group) (parties : List Party) (place : ℕ) (notes : Notes) → same_group group (party_at parties place).group ≡ true
    → filter (stays group) (map (claim_from parties) (filter (is_another place) notes)) ≡ filter (stays group) (map (claim_from parties) notes)
none_of_party group parties place [] own = refl
none_of_party group parties place (n ∷ notes) own =
    by_answer (n.1.party == place)
    (λ y. ap (λ b. filter (stays group) (map (claim_from parties) (cond (not b) (n ∷ filter (is_another place) notes) (filter (is_another place) notes)))) y
    ∙ none_of_party group parties place notes own
    ∙ sym (ap (λ b. cond (not b) (claim_from parties n ∷ filter (stays group) (map (claim_from parties) notes)) (filter (stays group) (map (claim_from parties) notes)))
    (ap (λ k. same_group group (party_at parties k).group) (eqb-true n.1.party place y) ∙ own)))
    (λ no. ap (λ b. filter (stays group) (map (claim_from parties) (cond (not b) (n ∷ filter (is_another place) notes) (filter (is_another place) notes)))) no
    ∙ ap (λ rest. cond (stays group (claim_from parties n)) (claim_from parties n ∷ rest) rest) (none_of_party group parties place notes own))

-- no party at this place or later is of the group
abbrev pub NoneFrom : Group → List Party → ℕ → Type 0
NoneFrom group parties place = (k : ℕ) → place ≤ k → k < length parties → same_group group (party_at parties k).group ≡ false

-- where no party is of the group, all claims stay
pub all_stay : (group : Group) (parties : List Party) (notes : Notes) → AreNoted parties notes → NoneFrom group parties 0 → filter (stays group) (map (claim_from parties) notes) ≡ map (claim_from parties) notes
all_stay group parties [] all none = refl
all_stay group parties (n ∷ notes) all none =
    ap (λ b. cond (not b) (claim_from parties n ∷ filter (stays group) (map (claim_from parties) notes)) (filter (stays group) (map (claim_from parties) notes))) (none n.1.party (omega arith) all.0)
    ∙ ap (λ l. claim_from parties n ∷ l) (all_stay group parties notes all.1 none)

-- one place earlier, where the party there is not of the group
pub none_earlier : (group : Group) (parties : List Party) (place before : ℕ) → place ≡ before + 1 → same_group group (party_at parties before).group ≡ false → NoneFrom group parties place → NoneFrom group parties before
none_earlier group parties place before next own none = λ k from below.
    by_answer (k == before)
    (λ y. ap (λ j. same_group group (party_at parties j).group) (eqb-true k before y) ∙ own)
    (λ no.
    let more : before < k = lt_of_le_of_ne from (λ e. eqb-false k before no (sym e)) in
    none k (omega (arith, more, next)) below)

-- and where the last party took the place of the one there
pub none_left : (group : Group) (old new : List Party) (place before : ℕ) → place ≡ before + 1 → LastTakes before old new → NoneFrom group old place → NoneFrom group new before
none_left group old new place before next t none = λ k from below.
    ap (λ (p : Party). same_group group p.group) (t.at k below)
    ∙ by_answer (k == before)
    (λ y.
    let same : k ≡ before = eqb-true k before y in
    let shorter = t.shorter in
    ap (λ b. same_group group (party_at old (cond b (length new) k)).group) y ∙ none (length new) (omega (arith, next, same, below)) (omega (arith, shorter)))
    (λ no.
    let more : before < k = lt_of_le_of_ne from (λ e. eqb-false k before no (sym e)) in
    let shorter = t.shorter in
    ap (λ b. same_group group (party_at old (cond b (length new) k)).group) no ∙ none k (omega (arith, next, more)) (omega (arith, below, shorter)))
