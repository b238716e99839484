-- The group that is next to go.
use Rattle.std.proofs.Common.{◌≡◌, ℕ, ◌<◌, Bool, true, false, cond, ◌||◌, List, [], ◌∷◌, map, refl, sym, ap, ◌∙◌, arith, inl, inr, Option, Some, None, subst, true≢false}
use Rattle.hs_law_agent.proofs.Prelude.{◌⊎◌, ◌==◌, filter, AllByRecursion, list_any, option_map_or, option_and_then, is_le, tied_itself, eqb-true, eq-eqb, or_right, Group, same_group, MatchNextToGo}
use Rattle.std.specs.Cmp.{IsTotalOrder}
use Rattle.std.specs.declared.cmp.Ordering.{Ordering}
use Rattle.std.specs.declared.cmp.Ordering.TheVariants.{Less, Equal, Greater}
use Rattle.std.specs.Ordering.{nat_cmp, ordering_then, ordering_reverse, is_gt, MatchOrdering}
use Rattle.std.proofs.lemmas.Cmp.{upto, nat_cmp_total, on_total, then_total, ranked}
use Rattle.hs_pins.specs.Priorities.{priority_of}
use Rattle.hs_pins.proofs.Order.{same_group-refl}
use Rattle.hs_pins.proofs.Choice.{id_order}
use Rattle.hs_law_agent.specs.Abandoning.{least, count_of_id, id_cmp, fullest_id, group_cmp, is_no_greater, least_of_id}
use Rattle.hs_law_agent.specs.Laws.{GoesBefore, TheLeastGoes}

-- ---- least elements

le_not_gt : (o : Ordering) → is_le o ≡ true → is_gt o ≡ false
le_not_gt Less e = refl
le_not_gt Equal e = refl
le_not_gt Greater e = absurd (true≢false (sym e))

not_gt_le : (o : Ordering) → is_gt o ≡ false → is_le o ≡ true
not_gt_le Less e = refl
not_gt_le Equal e = refl
not_gt_le Greater e = absurd (true≢false e)

back_le : (o p : Ordering) → p ≡ ordering_reverse o → is_le o ≡ false → is_le p ≡ true
back_le Less p r e = absurd (true≢false e)
back_le Equal p r e = absurd (true≢false e)
back_le Greater p r e = ap is_le r

-- x is one of these
abbrev pub Among : {X : Type 0} → List X → X → Type 0
Among [] x = ⊥
Among (y ∷ ys) x = (x ≡ y) ⊎ Among ys x

pub record IsLeast {X : Type 0} (cmp : X → X → Ordering) (xs : List X) (x : X) : Type 0 where
  pub among : Among xs x
  pub below : AllByRecursion (λ y. is_le (cmp x y) ≡ true) xs

abbrev pub MatchLeast : {X : Type 0} → (X → X → Ordering) → List X → Option X → Type 0
MatchLeast cmp xs None = xs ≡ []
MatchLeast cmp xs (Some x) = IsLeast cmp xs x

module _ {X : Type 0} (cmp : X → X → Ordering) (order : IsTotalOrder cmp) where
  below_all : (x y : X) (ys : List X) → is_le (cmp x y) ≡ true → AllByRecursion (λ z. is_le (cmp y z) ≡ true) ys → AllByRecursion (λ z. is_le (cmp x z) ≡ true) ys
  below_all x y [] e all = tt
  below_all x y (z ∷ zs) e all =
      (not_gt_le (cmp x z) (upto order x y z (le_not_gt (cmp x y) e) (le_not_gt (cmp y z) all.0)), below_all x y zs e all.1)

  itself : (x : X) → is_le (cmp x x) ≡ true
  itself x = rw (tied_itself order x) refl

  least_step : (x : X) (xs : List X) (y : X) → IsLeast cmp xs y → (b : Bool) → is_le (cmp x y) ≡ b → IsLeast cmp (x ∷ xs) (cond b x y)
  least_step x xs y l true e = record { among = inl refl; below = (itself x, below_all x y xs e l.below) }
  least_step x xs y l false e = record { among = inr l.among; below = (back_le (cmp x y) (cmp y x) (order.antisymm y x) e, l.below) }

  least_here : (x : X) (xs : List X) (o : Option X) → MatchLeast cmp xs o → IsLeast cmp (x ∷ xs) (option_map_or (λ y. cond (is_le (cmp x y)) x y) o x)
  least_here x xs None e = rw e (record { among = inl refl; below = (itself x, tt) })
  least_here x xs (Some y) l = least_step x xs y l (is_le (cmp x y)) refl

  pub least_matches : (xs : List X) → MatchLeast cmp xs (least cmp xs)
  least_matches [] = refl
  least_matches (x ∷ xs) = least_here x xs (least cmp xs) (least_matches xs)

-- ---- ids and groups

pub group_order : IsTotalOrder group_cmp
group_order =
    then_total (on_total (λ (g : Group). (priority_of g).word) nat_cmp_total)
    (then_total (on_total (λ (g : Group). g.lead.0) nat_cmp_total)
    (then_total (on_total (λ (g : Group). g.id.node) nat_cmp_total) (on_total (λ (g : Group). g.id.number) nat_cmp_total)))

-- what an order of ids says
goes_before : (groups : List Group) (g other : Group) → is_le (id_cmp groups g.trigger.0 other.trigger.0) ≡ true → GoesBefore groups g other
goes_before groups g other e =
    let a = count_of_id groups other.trigger.0 in
    let b = count_of_id groups g.trigger.0 in
    go (nat_cmp a b) (nat_cmp g.trigger.0 other.trigger.0) (ranked a b (nat_cmp a b) refl) (ranked g.trigger.0 other.trigger.0 (nat_cmp g.trigger.0 other.trigger.0) refl) e
  where
    go : (o p : Ordering) → MatchOrdering o (count_of_id groups other.trigger.0 < count_of_id groups g.trigger.0) (count_of_id groups other.trigger.0 ≡ count_of_id groups g.trigger.0) (count_of_id groups g.trigger.0 < count_of_id groups other.trigger.0)
        → MatchOrdering p (g.trigger.0 < other.trigger.0) (g.trigger.0 ≡ other.trigger.0) (other.trigger.0 < g.trigger.0) → is_le (ordering_then o p) ≡ true → GoesBefore groups g other
    go Less p h k e = inl h
    go Equal Less h k e = inr (h, omega arith)
    go Equal Equal h k e = inr (h, omega arith)
    go Equal Greater h k e = absurd (true≢false (sym e))
    go Greater p h k e = absurd (true≢false (sym e))

ids_below : (groups rest : List Group) (id : ℕ) (g : Group) → g.trigger.0 ≡ id → AllByRecursion (λ other. is_le (id_cmp groups id other) ≡ true) (map (λ (h : Group). h.trigger.0) rest)
    → AllByRecursion (λ (other : Group). GoesBefore groups g other) rest
ids_below groups [] id g e all = tt
ids_below groups (h ∷ rest) id g e all = (goes_before groups g h (subst (λ n. is_le (id_cmp groups n h.trigger.0) ≡ true) (sym e) all.0), ids_below groups rest id g e all.1)

-- a group that a filter keeps
among_filtered : (id : ℕ) (groups : List Group) (g : Group) → Among (filter (λ (h : Group). h.trigger.0 == id) groups) g → (list_any (same_group g) groups ≡ true) × (g.trigger.0 ≡ id)
among_filtered id [] g a = absurd a
among_filtered id (h ∷ groups) g a = go (h.trigger.0 == id) refl a (among_filtered id groups g)
  where
    go : (b : Bool) → (h.trigger.0 == id) ≡ b → Among (cond b (h ∷ filter (λ (k : Group). k.trigger.0 == id) groups) (filter (λ (k : Group). k.trigger.0 == id) groups)) g
        → (Among (filter (λ (k : Group). k.trigger.0 == id) groups) g → (list_any (same_group g) groups ≡ true) × (g.trigger.0 ≡ id))
        → ((same_group g h || list_any (same_group g) groups) ≡ true) × (g.trigger.0 ≡ id)
    go true e (inl here) next = (rw (subst (λ k. same_group g k ≡ true) here (same_group-refl g)) refl, ap (λ (k : Group). k.trigger.0) here ∙ eqb-true h.trigger.0 id e)
    go true e (inr there) next = let n = next there in (or_right (same_group g h) _ n.0, n.1)
    go false e a next = let n = next a in (or_right (same_group g h) _ n.0, n.1)

least_below : (id : ℕ) (groups : List Group) (g : Group) → g.trigger.0 ≡ id → AllByRecursion (λ h. is_le (group_cmp g h) ≡ true) (filter (λ (h : Group). h.trigger.0 == id) groups)
    → AllByRecursion (λ (other : Group). g.trigger.0 ≡ other.trigger.0 → is_no_greater g other ≡ true) groups
least_below id [] g e all = tt
least_below id (h ∷ groups) g e all = go (h.trigger.0 == id) refl all (least_below id groups g e)
  where
    go : (b : Bool) → (h.trigger.0 == id) ≡ b → AllByRecursion (λ k. is_le (group_cmp g k) ≡ true) (cond b (h ∷ filter (λ (k : Group). k.trigger.0 == id) groups) (filter (λ (k : Group). k.trigger.0 == id) groups))
        → (AllByRecursion (λ k. is_le (group_cmp g k) ≡ true) (filter (λ (k : Group). k.trigger.0 == id) groups) → AllByRecursion (λ (other : Group). g.trigger.0 ≡ other.trigger.0 → is_no_greater g other ≡ true) groups)
        → AllByRecursion (λ (other : Group). g.trigger.0 ≡ other.trigger.0 → is_no_greater g other ≡ true) (h ∷ groups)
    go true f all next = ((λ same. all.0), next all.1)
    go false f all next = ((λ same. absurd (true≢false (sym (eq-eqb h.trigger.0 id (sym same ∙ e)) ∙ f))), next all)

-- an id of these groups keeps one of them
none_filtered : (id : ℕ) (groups : List Group) → filter (λ (h : Group). h.trigger.0 == id) groups ≡ [] → Among (map (λ (h : Group). h.trigger.0) groups) id → ⊥
none_filtered id [] e a = a
none_filtered id (h ∷ groups) e a = go (h.trigger.0 == id) refl e a (none_filtered id groups)
  where
    go : (b : Bool) → (h.trigger.0 == id) ≡ b → cond b (h ∷ filter (λ (k : Group). k.trigger.0 == id) groups) (filter (λ (k : Group). k.trigger.0 == id) groups) ≡ []
        → (id ≡ h.trigger.0) ⊎ Among (map (λ (k : Group). k.trigger.0) groups) id
        → (filter (λ (k : Group). k.trigger.0 == id) groups ≡ [] → Among (map (λ (k : Group). k.trigger.0) groups) id → ⊥) → ⊥
    go true f e a next = cc
    go false f e (inl here) next = true≢false (sym (eq-eqb h.trigger.0 id (sym here)) ∙ f)
    go false f e (inr there) next = next e there

next_of_id : (groups : List Group) (id : ℕ) → IsLeast (id_cmp groups) (map (λ (h : Group). h.trigger.0) groups) id → (o : Option Group)
    → MatchLeast group_cmp (filter (λ (h : Group). h.trigger.0 == id) groups) o → MatchNextToGo groups o
next_of_id groups id l None e = absurd (none_filtered id groups e l.among)
next_of_id groups id l (Some g) m =
    let in_groups = among_filtered id groups g m.among in
    record {
      among = in_groups.0;
      fullest = ids_below groups groups id g in_groups.1 l.below;
      least = least_below id groups g in_groups.1 m.below;
    }

no_ids : (groups : List Group) → map (λ (h : Group). h.trigger.0) groups ≡ [] → groups ≡ []
no_ids [] e = refl
no_ids (g ∷ groups) e = absurd cc

next_matches : (groups : List Group) (o : Option ℕ) → MatchLeast (id_cmp groups) (map (λ (h : Group). h.trigger.0) groups) o → MatchNextToGo groups (option_and_then (least_of_id groups) o)
next_matches groups None e = no_ids groups e
next_matches groups (Some id) l = next_of_id groups id l (least_of_id groups id) (least_matches group_cmp group_order (filter (λ (h : Group). h.trigger.0 == id) groups))

pub the_least_goes : TheLeastGoes
the_least_goes groups = next_matches groups (fullest_id groups) (least_matches (id_cmp groups) (id_order groups) (map (λ (h : Group). h.trigger.0) groups))
