-- The claims as they are noted: each with the place of its party.
use Rattle.std.proofs.Common.{◌≡◌, ℕ, zero, suc, ◌-◌, ◌<◌, ◌≤◌, Bool, true, false, cond, List, [], ◌∷◌, ◌++◌, length, map, take, Option, Some, None, IsSome, refl, sym, ap, subst, ◌∙◌, arith, true≢false}
use Rattle.hs_pins.proofs.Prelude.{◌==◌, slice_get, option_map, option_map_or, lookup, set_value, eqb-true, eq-eqb, and_parts, map-append, TraceId, NodeId, NodeSet, Group, with_node, same_trace, ClaimNote, Claim, claim_of, with_crumb, party_at, claim_from, AreNoted}
use Rattle.std.specs.Prelude.{◌&&◌, replicate}
use Rattle.std.specs.Cmp.Lexicographic.{pointwise, pointwise_decides}
use Rattle.std.proofs.lemmas.List.{take_at}
use Rattle.hs_base.specs.declared.limits.TheConstants.{MAX_LATERALS}
use Rattle.hs_base.specs.Laterals.{no_trace}
use Rattle.hs_base.specs.NodeSets.{has_node}
use Rattle.hs_pins.specs.declared.claims.Party.{Party}
use Rattle.hs_pins.specs.Remembered.{has_crumb}
use Rattle.hs_pins.specs.ClaimsLayout.{claim_by}

abbrev pub Notes : Type 0
Notes = List (TraceId × ClaimNote)

-- ---- parties

trace_decides : (x y : TraceId) → (same_trace x y ≡ true → x ≡ y) × (x ≡ y → same_trace x y ≡ true)
trace_decides x y = ((λ e. let same : x.0 ≡ y.0 = eqb-true x.0 y.0 e in λ i. record { 0 = same i }), (λ e. eq-eqb x.0 y.0 (ap (λ (t : TraceId). t.0) e)))

pub laterals_same : (xs ys : List TraceId)
    → (pointwise same_trace (xs ++ replicate (MAX_LATERALS - length xs) no_trace) (ys ++ replicate (MAX_LATERALS - length ys) no_trace) && (length xs == length ys)) ≡ true → xs ≡ ys
laterals_same xs ys e =
    let parts = and_parts (pointwise same_trace (xs ++ replicate (MAX_LATERALS - length xs) no_trace) (ys ++ replicate (MAX_LATERALS - length ys) no_trace)) (length xs == length ys) e in
    let all = (pointwise_decides trace_decides (xs ++ replicate (MAX_LATERALS - length xs) no_trace) (ys ++ replicate (MAX_LATERALS - length ys) no_trace)).0 parts.0 in
    let long : length xs ≡ length ys = eqb-true (length xs) (length ys) parts.1 in
    sym (take_at xs (replicate (MAX_LATERALS - length xs) no_trace) (length xs) refl) ∙ ap (take (length xs)) all ∙ take_at ys (replicate (MAX_LATERALS - length ys) no_trace) (length xs) (sym long)

group_tested : (a b : Group) → ((a.id.node == b.id.node && a.id.number == b.id.number) && (a.trigger.0 == b.trigger.0 && a.lead.0 == b.lead.0)) ≡ true → a ≡ b
group_tested a b e =
    let both = and_parts (a.id.node == b.id.node && a.id.number == b.id.number) (a.trigger.0 == b.trigger.0 && a.lead.0 == b.lead.0) e in
    let id = and_parts (a.id.node == b.id.node) (a.id.number == b.id.number) both.0 in
    let rest = and_parts (a.trigger.0 == b.trigger.0) (a.lead.0 == b.lead.0) both.1 in
    let node : a.id.node ≡ b.id.node = eqb-true _ _ id.0 in
    let number : a.id.number ≡ b.id.number = eqb-true _ _ id.1 in
    let trigger : a.trigger.0 ≡ b.trigger.0 = eqb-true _ _ rest.0 in
    let lead : a.lead.0 ≡ b.lead.0 = eqb-true _ _ rest.1 in
    λ i. record { id = record { node = node i; number = number i }; trigger = record { 0 = trigger i }; lead = record { 0 = lead i } }

pub party_same : (a b : Party)
    → ((a.group.id.node == b.group.id.node && a.group.id.number == b.group.id.number) && (a.group.trigger.0 == b.group.trigger.0 && a.group.lead.0 == b.group.lead.0)) ≡ true
    → (pointwise same_trace (a.laterals ++ replicate (MAX_LATERALS - length a.laterals) no_trace) (b.laterals ++ replicate (MAX_LATERALS - length b.laterals) no_trace) && (length a.laterals == length b.laterals)) ≡ true
    → a ≡ b
party_same a b group laterals =
    let g = group_tested a.group b.group group in
    let l = laterals_same a.laterals b.laterals laterals in
    λ i. record { group = g i; laterals = l i }

-- the other way round
pub party_alike : (a b : Party) → a ≡ b
    → (pointwise same_trace (a.laterals ++ replicate (MAX_LATERALS - length a.laterals) no_trace) (b.laterals ++ replicate (MAX_LATERALS - length b.laterals) no_trace) && (length a.laterals == length b.laterals)) ≡ true
party_alike a b same =
    let xs = a.laterals ++ replicate (MAX_LATERALS - length a.laterals) no_trace in
    let all : pointwise same_trace xs xs ≡ true = (pointwise_decides trace_decides xs xs).1 refl in
    let long : (length a.laterals == length a.laterals) ≡ true = eq-eqb (length a.laterals) (length a.laterals) refl in
    subst (λ (p : Party). (pointwise same_trace xs (p.laterals ++ replicate (MAX_LATERALS - length p.laterals) no_trace) && (length a.laterals == length p.laterals)) ≡ true) same (λ i. all i && long i)

-- ---- look-ups

pub noted_get : {X : Type 0} (f : Claim → X) (h : ClaimNote → X) (parties : List Party) (notes : Notes) (trace : TraceId) → ((key : TraceId) (note : ClaimNote) → f (claim_from parties (key, note)) ≡ h note)
    → option_map f (claim_of (map (claim_from parties) notes) trace) ≡ option_map h (lookup (same_trace trace) notes)
noted_get f h parties [] trace e = refl
noted_get f h parties (n ∷ notes) trace e = at (same_trace trace n.0) (noted_get f h parties notes trace e)
  where
    at : (b : Bool) → option_map f (claim_of (map (claim_from parties) notes) trace) ≡ option_map h (lookup (same_trace trace) notes)
        → option_map f (cond b (Some (claim_from parties n)) (claim_of (map (claim_from parties) notes) trace)) ≡ option_map h (cond b (Some n.1) (lookup (same_trace trace) notes))
    at true rest = ap Some (e n.0 n.1)
    at false rest = rest

pub noted_within : (parties : List Party) (notes : Notes) (trace : TraceId) (note : ClaimNote) → AreNoted parties notes → lookup (same_trace trace) notes ≡ Some note → note.party < length parties
noted_within parties [] trace note all found = absurd cc
noted_within parties (n ∷ notes) trace note all found = at (same_trace trace n.0) found (noted_within parties notes trace note all.1)
  where
    at : (b : Bool) → cond b (Some n.1) (lookup (same_trace trace) notes) ≡ Some note → (lookup (same_trace trace) notes ≡ Some note → note.party < length parties) → note.party < length parties
    at true found rest = let same : n.1 ≡ note = cc in subst (λ (m : ClaimNote). m.party < length parties) same all.0
    at false found rest = rest found

no_party : (parties : List Party) (place : ℕ) → place < length parties → slice_get parties place ≡ None → ⊥
no_party [] place within none = omega arith
no_party (p ∷ parties) zero within none = cc
no_party (p ∷ parties) (suc place) within none = no_party parties place (omega arith) none

pub party_there : (parties : List Party) (notes : Notes) (trace : TraceId) (note : ClaimNote) → AreNoted parties notes → lookup (same_trace trace) notes ≡ Some note → slice_get parties note.party ≡ None → ⊥
party_there parties notes trace note all found none = no_party parties note.party (noted_within parties notes trace note all found) none

-- the claim of a trace by its note
pub noted_some : {X : Type 0} (f : Claim → X) (h : ClaimNote → X) (parties : List Party) (notes : Notes) (claims : List Claim) (trace : TraceId) (note : ClaimNote) (x : X) → map (claim_from parties) notes ≡ claims
    → ((key : TraceId) (note : ClaimNote) → f (claim_from parties (key, note)) ≡ h note) → lookup (same_trace trace) notes ≡ Some note → h note ≡ x → Some x ≡ option_map f (claim_of claims trace)
noted_some f h parties notes claims trace note x same e found is =
    ap Some (sym is) ∙ sym (ap (option_map h) found) ∙ sym (noted_get f h parties notes trace e) ∙ ap (λ cs. option_map f (claim_of cs trace)) same

pub noted_none : {X : Type 0} (f : Claim → X) (h : ClaimNote → X) (parties : List Party) (notes : Notes) (claims : List Claim) (trace : TraceId) → map (claim_from parties) notes ≡ claims
    → ((key : TraceId) (note : ClaimNote) → f (claim_from parties (key, note)) ≡ h note) → lookup (same_trace trace) notes ≡ None → None ≡ option_map f (claim_of claims trace)
noted_none f h parties notes claims trace same e none =
    sym (ap (option_map h) none) ∙ sym (noted_get f h parties notes trace e) ∙ ap (λ cs. option_map f (claim_of cs trace)) same

-- ---- a claim more

notes_kept : (old new : List Party) (notes : Notes) → AreNoted old notes → ((k : ℕ) → k < length old → party_at new k ≡ party_at old k) → map (claim_from new) notes ≡ map (claim_from old) notes
notes_kept old new [] all kept = refl
notes_kept old new (n ∷ notes) all kept =
    let same : claim_from new n ≡ claim_from old n = ap (λ (p : Party). claim_by p n.0 n.1.crumbs) (kept n.1.party all.0) in
    (λ i. same i ∷ map (claim_from new) notes) ∙ ap (λ cs. claim_from old n ∷ cs) (notes_kept old new notes all.1 kept)

pub are_noted-more : (old new : List Party) (notes : Notes) (n : TraceId × ClaimNote) → AreNoted old notes → length old ≤ length new → n.1.party < length new → AreNoted new (notes ++ n ∷ [])
are_noted-more old new [] n all long within = (within, tt)
are_noted-more old new (m ∷ notes) n all long within = (let less : m.1.party < length old = all.0 in omega arith, are_noted-more old new notes n all.1 long within)

party_place : (parties : List Party) (place : ℕ) (party : Party) → slice_get parties place ≡ Some party → (place < length parties) × (party_at parties place ≡ party)
party_place [] place party e = absurd cc
party_place (p ∷ parties) zero party e = (omega arith, cc)
party_place (p ∷ parties) (suc place) party e = let rest = party_place parties place party e in (let less = rest.0 in omega arith, rest.1)

pub place_within : (parties : List Party) (place : ℕ) (party : Party) → slice_get parties place ≡ Some party → place < length parties
place_within parties place party e = (party_place parties place party e).0

pub note_added : (old new : List Party) (notes : Notes) (claims : List Claim) (trace : TraceId) (party : Party) (place : ℕ) (crumbs : NodeSet) → AreNoted old notes → map (claim_from old) notes ≡ claims
    → ((k : ℕ) → k < length old → party_at new k ≡ party_at old k) → slice_get new place ≡ Some party
    → map (claim_from new) (notes ++ (trace, record { party = place; crumbs = crumbs }) ∷ []) ≡ claims ++ claim_by party trace crumbs ∷ []
note_added old new notes claims trace party place crumbs all same kept there =
    map-append (claim_from new) notes ((trace, record { party = place; crumbs = crumbs }) ∷ [])
    ∙ ap (λ cs. cs ++ claim_by (party_at new place) trace crumbs ∷ []) (notes_kept old new notes all kept ∙ same)
    ∙ ap (λ p. claims ++ claim_by p trace crumbs ∷ []) (party_place new place party there).1

pub unclaimed_note : (parties : List Party) (notes : Notes) (claims : List Claim) (trace : TraceId) → map (claim_from parties) notes ≡ claims → claim_of claims trace ≡ None → lookup (same_trace trace) notes ≡ None
unclaimed_note parties notes claims trace same none = at (lookup (same_trace trace) notes) refl
  where
    at : (o : Option ClaimNote) → lookup (same_trace trace) notes ≡ o → o ≡ None
    at None e = refl
    at (Some note) e =
        let some = noted_some (λ claim. claim.crumbs) (λ n. n.crumbs) parties notes claims trace note note.crumbs same (λ key n. refl) e refl in
        let nothing = ap (option_map (λ (claim : Claim). claim.crumbs)) none in absurd cc

-- ---- a crumb more

pub crumb_noted : (parties : List Party) (notes : Notes) (claims : List Claim) (trace : TraceId) (node : NodeId) (note : ClaimNote) → map (claim_from parties) notes ≡ claims → lookup (same_trace trace) notes ≡ Some note
    → map (claim_from parties) (set_value (same_trace trace) notes (record note { crumbs = with_node note.crumbs node })) ≡ with_crumb claims trace node
crumb_noted parties notes claims trace node note same found = at_notes notes found ∙ ap (λ cs. with_crumb cs trace node) same
  where
    at_notes : (notes : Notes) → lookup (same_trace trace) notes ≡ Some note
        → map (claim_from parties) (set_value (same_trace trace) notes (record note { crumbs = with_node note.crumbs node })) ≡ with_crumb (map (claim_from parties) notes) trace node
    at_notes [] found = absurd cc
    at_notes (n ∷ notes) found = at (same_trace trace n.0) found (at_notes notes)
      where
        at : (b : Bool) → cond b (Some n.1) (lookup (same_trace trace) notes) ≡ Some note
            → (lookup (same_trace trace) notes ≡ Some note → map (claim_from parties) (set_value (same_trace trace) notes (record note { crumbs = with_node note.crumbs node })) ≡ with_crumb (map (claim_from parties) notes) trace node)
            → map (claim_from parties) (cond b ((n.0, record note { crumbs = with_node note.crumbs node }) ∷ notes) (n ∷ set_value (same_trace trace) notes (record note { crumbs = with_node note.crumbs node })))
            ≡ cond b (record (claim_from parties n) { crumbs = with_node n.1.crumbs node } ∷ map (claim_from parties) notes) (claim_from parties n ∷ with_crumb (map (claim_from parties) notes) trace node)
        at true found rest =
            let own : note ≡ n.1 = cc in
            ap (λ (m : ClaimNote). claim_from parties (n.0, record m { crumbs = with_node m.crumbs node }) ∷ map (claim_from parties) notes) own
        at false found rest = ap (λ cs. claim_from parties n ∷ cs) (rest found)

pub are_noted-set : (parties : List Party) (notes : Notes) (trace : TraceId) (old new : ClaimNote) → AreNoted parties notes → lookup (same_trace trace) notes ≡ Some old → new.party ≡ old.party → AreNoted parties (set_value (same_trace trace) notes new)
are_noted-set parties [] trace old new all found same = tt
are_noted-set parties (n ∷ notes) trace old new all found same = at (same_trace trace n.0) found (λ f. are_noted-set parties notes trace old new all.1 f same)
  where
    at : (b : Bool) → cond b (Some n.1) (lookup (same_trace trace) notes) ≡ Some old → (lookup (same_trace trace) notes ≡ Some old → AreNoted parties (set_value (same_trace trace) notes new))
        → AreNoted parties (cond b ((n.0, new) ∷ notes) (n ∷ set_value (same_trace trace) notes new))
    at true found rest =
        let own : n.1 ≡ old = cc in
        (let less : n.1.party < length parties = all.0 in let k = ap (λ (m : ClaimNote). m.party) own in omega arith, all.1)
    at false found rest = (all.0, rest found)

pub crumb_there : (parties : List Party) (notes : Notes) (claims : List Claim) (trace : TraceId) (node : ℕ) (note : ClaimNote) → map (claim_from parties) notes ≡ claims → lookup (same_trace trace) notes ≡ Some note
    → has_crumb claims trace node ≡ has_node note.crumbs node
crumb_there parties notes claims trace node note same found =
    let some = noted_some (λ claim. has_node claim.crumbs node) (λ n. has_node n.crumbs node) parties notes claims trace note (has_node note.crumbs node) same (λ key n. refl) found refl in
    at (claim_of claims trace) (sym some)
  where
    at : (o : Option Claim) → option_map (λ (claim : Claim). has_node claim.crumbs node) o ≡ Some (has_node note.crumbs node) → option_map_or (λ (claim : Claim). has_node claim.crumbs node) o false ≡ has_node note.crumbs node
    at None e = absurd cc
    at (Some claim) e = cc

-- a claimed trace is noted
pub claimed_note : (parties : List Party) (notes : Notes) (claims : List Claim) (trace : TraceId) → map (claim_from parties) notes ≡ claims → IsSome (claim_of claims trace) → lookup (same_trace trace) notes ≡ None → ⊥
claimed_note parties notes claims trace same some none =
    let f = noted_none (λ claim. claim.crumbs) (λ n. n.crumbs) parties notes claims trace same (λ key n. refl) none in
    at (claim_of claims trace) some (sym f)
  where
    at : (o : Option Claim) → IsSome o → option_map (λ (claim : Claim). claim.crumbs) o ≡ None → ⊥
    at None some e = true≢false (sym some)
    at (Some claim) some e = cc
