-- The nodes that a message names are those to which a crumb of one of its traces leads.
use Rattle.std.proofs.Common.{◌≡◌, ℕ, Bool, true, false, cond, ◌||◌, ◌&&◌, List, [], ◌∷◌, filter, fold, Option, Some, None, nat_eq, eq-eqb, refl, sym, ap, ◌∙◌, true≢false}
use Rattle.hs_agent.proofs.Prelude.{list_any, AllByRecursion, option_map, option_map_or, IsSome, or-false, eqb-true, ne_eqb, TraceId, NodeSet, Crumb, has_node, no_nodes, with_node, has-no_nodes, has-with_node, same_trace, Claim, claim_of, Indexed, noted_of, same_crumb, has_crumb, crumb_nodes, Tagged, crumbs_known}
use Rattle.hs_base.proofs.Bools.{or_assoc}
use Rattle.hs_pins.specs.Remembered as pins

abbrev crumb_to : TraceId → ℕ → Crumb
crumb_to trace node = record { trace = trace; node = record { 0 = node } }

or_swap : (a b c d : Bool) → ((a || b) || (c || d)) ≡ ((a || c) || (b || d))
or_swap true b c d = refl
or_swap false true true d = refl
or_swap false true false d = refl
or_swap false false c d = refl

-- the order of two numbers in a comparison is nothing
eq_swap : (a b : ℕ) → nat_eq a b ≡ nat_eq b a
eq_swap a b = by (nat_eq a b) refl
  where
    by : (r : Bool) → nat_eq a b ≡ r → nat_eq a b ≡ nat_eq b a
    by true e = e ∙ sym (eq-eqb b a (sym (eqb-true a b e)))
    by false e = e ∙ sym (ne_eqb b a (λ f. absurd (true≢false (sym (eq-eqb a b (sym f)) ∙ e))))

-- a set that these crumbs' nodes were put into
folded : (nodes : NodeSet) (crumbs : List Crumb) (n : ℕ) → has_node (fold (λ (s : NodeSet) (crumb : Crumb). with_node s crumb.node) nodes crumbs) n ≡ (has_node nodes n || list_any (λ (crumb : Crumb). nat_eq n crumb.node.0) crumbs)
folded nodes [] n = sym (or-false (has_node nodes n))
folded nodes (crumb ∷ crumbs) n =
    folded (with_node nodes crumb.node) crumbs n
    ∙ ap (λ b. b || list_any (λ (c : Crumb). nat_eq n c.node.0) crumbs) (has-with_node nodes crumb.node n)
    ∙ or_assoc (has_node nodes n) (nat_eq n crumb.node.0) (list_any (λ (c : Crumb). nat_eq n c.node.0) crumbs)

any_passing : {A : Type 0} (p q : A → Bool) (xs : List A) → list_any q (filter p xs) ≡ list_any (λ x. p x && q x) xs
any_passing p q [] = refl
any_passing p q (x ∷ xs) = by (p x) (any_passing p q xs)
  where
    by : (b : Bool) → list_any q (filter p xs) ≡ list_any (λ y. p y && q y) xs → list_any q (cond b (x ∷ filter p xs) (filter p xs)) ≡ ((b && q x) || list_any (λ y. p y && q y) xs)
    by true rest = ap (λ r. q x || r) rest
    by false rest = rest

none_of : {A : Type 0} (xs : List A) → list_any (λ x. false) xs ≡ false
none_of [] = refl
none_of (x ∷ xs) = none_of xs

any_or : {A : Type 0} (p q : A → Bool) (xs : List A) → list_any (λ x. p x || q x) xs ≡ (list_any p xs || list_any q xs)
any_or p q [] = refl
any_or p q (x ∷ xs) = ap (λ r. (p x || q x) || r) (any_or p q xs) ∙ or_swap (p x) (q x) (list_any p xs) (list_any q xs)

and_or : (a b c : Bool) → ((a || b) && c) ≡ ((a && c) || (b && c))
and_or true b true = refl
and_or true true false = refl
and_or true false false = refl
and_or false b c = refl

any_same : {A : Type 0} (p q : A → Bool) (xs : List A) → ((x : A) → p x ≡ q x) → list_any p xs ≡ list_any q xs
any_same p q [] h = refl
any_same p q (x ∷ xs) h = ap (λ b. b || list_any p xs) (h x) ∙ ap (λ r. q x || r) (any_same p q xs h)

-- a crumb of one of the traces leads to the node
leads : (crumbs : List Crumb) (n : ℕ) (traces : List TraceId)
    → list_any (λ (crumb : Crumb). list_any (same_trace crumb.trace) traces && nat_eq n crumb.node.0) crumbs ≡ list_any (λ trace. has_crumb crumbs (crumb_to trace n)) traces
leads crumbs n [] = none_of crumbs
leads crumbs n (trace ∷ traces) =
    any_same (λ (crumb : Crumb). (same_trace crumb.trace trace || list_any (same_trace crumb.trace) traces) && nat_eq n crumb.node.0)
    (λ (crumb : Crumb). same_crumb (crumb_to trace n) crumb || (list_any (same_trace crumb.trace) traces && nat_eq n crumb.node.0)) crumbs
    (λ crumb.
    and_or (same_trace crumb.trace trace) (list_any (same_trace crumb.trace) traces) (nat_eq n crumb.node.0)
    ∙ ap (λ b. (b && nat_eq n crumb.node.0) || (list_any (same_trace crumb.trace) traces && nat_eq n crumb.node.0)) (eq_swap crumb.trace.0 trace.0))
    ∙ any_or (same_crumb (crumb_to trace n)) (λ (crumb : Crumb). list_any (same_trace crumb.trace) traces && nat_eq n crumb.node.0) crumbs
    ∙ ap (λ b. has_crumb crumbs (crumb_to trace n) || b) (leads crumbs n traces)

-- a node is named exactly where a crumb of one of the traces leads there
pub has-crumb_nodes : (crumbs : List Crumb) (traces : List TraceId) (n : ℕ) → has_node (crumb_nodes crumbs traces) n ≡ list_any (λ trace. has_crumb crumbs (crumb_to trace n)) traces
has-crumb_nodes crumbs traces n =
    folded no_nodes (filter (λ (crumb : Crumb). list_any (same_trace crumb.trace) traces) crumbs) n
    ∙ ap (λ b. b || list_any (λ (crumb : Crumb). nat_eq n crumb.node.0) (filter (λ (crumb : Crumb). list_any (same_trace crumb.trace) traces) crumbs)) (has-no_nodes n)
    ∙ any_passing (λ (crumb : Crumb). list_any (same_trace crumb.trace) traces) (λ (crumb : Crumb). nat_eq n crumb.node.0) crumbs
    ∙ leads crumbs n traces

-- ---- of claimed traces

-- the crumbs that pins answer
pub crumb_in : (n : ℕ) (found : Option Claim) (nodes : NodeSet) → option_map (λ (claim : Claim). claim.crumbs) found ≡ Some nodes → has_node nodes n ≡ option_map_or (λ (claim : Claim). has_node claim.crumbs n) found false
crumb_in n None nodes e = cc
crumb_in n (Some claim) nodes e = let same : nodes ≡ claim.crumbs = cc in ap (λ (s : NodeSet). has_node s n) same

pub known-claimed : {L : Type 0} → (claims : List Claim) (touched : List (Indexed (Tagged L))) (trace : TraceId) (n : ℕ) → IsSome (claim_of claims trace) → has_node (crumbs_known claims touched trace) n ≡ pins.has_crumb claims trace n
known-claimed claims touched trace n found = by (claim_of claims trace) found
  where
    by : (o : Option Claim) → IsSome o → has_node (option_map_or (λ (claim : Claim). claim.crumbs) o (noted_of trace touched).crumbs) n ≡ option_map_or (λ (claim : Claim). has_node claim.crumbs n) o false
    by None h = absurd (true≢false (sym h))
    by (Some claim) h = refl

any_alike : {A : Type 0} (p q : A → Bool) (xs : List A) → AllByRecursion (λ x. p x ≡ q x) xs → list_any p xs ≡ list_any q xs
any_alike p q [] h = refl
any_alike p q (x ∷ xs) h = ap (λ b. b || list_any p xs) h.0 ∙ ap (λ r. q x || r) (any_alike p q xs h.1)

all_alike : {A : Type 0} (P : A → Type 0) (p q : A → Bool) → ((x : A) → P x → p x ≡ q x) → (xs : List A) → AllByRecursion P xs → AllByRecursion (λ x. p x ≡ q x) xs
all_alike P p q f [] h = tt
all_alike P p q f (x ∷ xs) h = (f x h.0, all_alike P p q f xs h.1)

-- where all of the traces are claimed, a message names the nodes of their claims
pub has-crumbs_claimed : {L : Type 0} → (claims : List Claim) (touched : List (Indexed (Tagged L))) (crumbs : List Crumb) (traces : List TraceId) (n : ℕ)
    → ((trace : TraceId) (n : ℕ) → has_crumb crumbs (crumb_to trace n) ≡ has_node (crumbs_known claims touched trace) n)
    → AllByRecursion (λ trace. IsSome (claim_of claims trace)) traces
    → has_node (crumb_nodes crumbs traces) n ≡ list_any (λ trace. pins.has_crumb claims trace n) traces
has-crumbs_claimed claims touched crumbs traces n same found =
    has-crumb_nodes crumbs traces n
    ∙ any_alike (λ trace. has_crumb crumbs (crumb_to trace n)) (λ trace. pins.has_crumb claims trace n) traces
    (all_alike (λ trace. IsSome (claim_of claims trace)) (λ trace. has_crumb crumbs (crumb_to trace n)) (λ trace. pins.has_crumb claims trace n)
    (λ trace is. same trace n ∙ known-claimed claims touched trace n is) traces found)
