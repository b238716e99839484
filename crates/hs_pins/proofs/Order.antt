-- The order of priorities: it is total, and tells all of them apart. So do the tests of groups.
use Rattle.std.proofs.Common.{◌≡◌, true, refl, sym, ap, subst, true≢false}
use Rattle.hs_pins.proofs.Prelude.{◌==◌, IsTotalOrder, IsEquivalence, eq_by_cmp_equiv, Ordering, Less, Equal, Greater, nat_cmp, ordering_then, is_eq, nat_cmp_total, on_total, then_total, exact_unsigned, eqb-true, eq-eqb, and_parts, bool_same, Group, Priority, Mark, priority_cmp, priority_of, same_priority, group_cmp, same_group, mark_of, same_mark}

then_equal : (o p : Ordering) → ordering_then o p ≡ Equal → (o ≡ Equal) × (p ≡ Equal)
then_equal Less p e = absurd cc
then_equal Equal p e = (refl, e)
then_equal Greater p e = absurd cc

is_equal : (o : Ordering) → is_eq o ≡ true → o ≡ Equal
is_equal Less e = absurd (true≢false (sym e))
is_equal Equal e = refl
is_equal Greater e = absurd (true≢false (sym e))

pub priority_total : IsTotalOrder priority_cmp
priority_total =
    then_total (on_total (λ (p : Priority). p.word) nat_cmp_total)
    (then_total (on_total (λ (p : Priority). p.lead) nat_cmp_total)
    (then_total (on_total (λ (p : Priority). p.node) nat_cmp_total) (on_total (λ (p : Priority). p.number) nat_cmp_total)))

pub group_total : IsTotalOrder group_cmp
group_total = on_total priority_of priority_total

pub priority_laws : IsEquivalence same_priority
priority_laws = eq_by_cmp_equiv priority_total

pub priority_exact : (a b : Priority) → priority_cmp a b ≡ Equal → a ≡ b
priority_exact a b e =
    let word = then_equal (nat_cmp a.word b.word) _ e in
    let lead = then_equal (nat_cmp a.lead b.lead) _ word.1 in
    let node = then_equal (nat_cmp a.node b.node) _ lead.1 in
    let same_word : a.word ≡ b.word = exact_unsigned a.word b.word word.0 in
    let same_lead : a.lead ≡ b.lead = exact_unsigned a.lead b.lead lead.0 in
    let same_node : a.node ≡ b.node = exact_unsigned a.node b.node node.0 in
    let same_number : a.number ≡ b.number = exact_unsigned a.number b.number node.1 in
    λ i. record { word = same_word i; lead = same_lead i; node = same_node i; number = same_number i }

pub same_exact : (a b : Priority) → same_priority a b ≡ true → a ≡ b
same_exact a b e = priority_exact a b (is_equal (priority_cmp a b) e)

-- ---- groups

pub group_exact : (a b : Group) → a.trigger.0 ≡ b.trigger.0 → priority_of a ≡ priority_of b → a ≡ b
group_exact a b trigger e =
    let lead : a.lead.0 ≡ b.lead.0 = ap (λ (p : Priority). p.lead) e in
    let node : a.id.node ≡ b.id.node = ap (λ (p : Priority). p.node) e in
    let number : a.id.number ≡ b.id.number = ap (λ (p : Priority). p.number) e in
    λ i. record { id = record { node = node i; number = number i }; trigger = record { 0 = trigger i }; lead = record { 0 = lead i } }

pub same_group-refl : (g : Group) → same_group g g ≡ true
same_group-refl g = rw (eq-eqb g.id.node g.id.node refl, eq-eqb g.id.number g.id.number refl, eq-eqb g.trigger.0 g.trigger.0 refl) (eq-eqb g.lead.0 g.lead.0 refl)

pub same_group-true : (a b : Group) → same_group a b ≡ true → a ≡ b
same_group-true a b e =
    let node = and_parts (a.id.node == b.id.node) _ e in
    let number = and_parts (a.id.number == b.id.number) _ node.1 in
    let trigger = and_parts (a.trigger.0 == b.trigger.0) _ number.1 in
    let same_node : a.id.node ≡ b.id.node = eqb-true _ _ node.0 in
    let same_number : a.id.number ≡ b.id.number = eqb-true _ _ number.0 in
    let same_trigger : a.trigger.0 ≡ b.trigger.0 = eqb-true _ _ trigger.0 in
    let same_lead : a.lead.0 ≡ b.lead.0 = eqb-true _ _ trigger.1 in
    λ i. record { id = record { node = same_node i; number = same_number i }; trigger = record { 0 = same_trigger i }; lead = record { 0 = same_lead i } }

-- groups of one id are told apart by their priorities
pub same_group-priority : (a b : Group) → a.trigger.0 ≡ b.trigger.0 → same_group a b ≡ same_priority (priority_of a) (priority_of b)
same_group-priority a b trigger =
    bool_same (same_group a b) (same_priority (priority_of a) (priority_of b))
    (λ e. subst (λ (h : Group). same_priority (priority_of a) (priority_of h) ≡ true) (same_group-true a b e) (priority_laws.refl (priority_of a)))
    (λ e. subst (λ (h : Group). same_group a h ≡ true) (group_exact a b trigger (same_exact (priority_of a) (priority_of b) e)) (same_group-refl a))

mark_parts : (a b : Mark) → same_mark a b ≡ true → a ≡ b
mark_parts a b e =
    let trigger = and_parts (a.trigger.0 == b.trigger.0) _ e in
    let word = and_parts (a.priority.word == b.priority.word) _ trigger.1 in
    let lead = and_parts (a.priority.lead == b.priority.lead) _ word.1 in
    let node = and_parts (a.priority.node == b.priority.node) _ lead.1 in
    let same_trigger : a.trigger.0 ≡ b.trigger.0 = eqb-true _ _ trigger.0 in
    let same_word : a.priority.word ≡ b.priority.word = eqb-true _ _ word.0 in
    let same_lead : a.priority.lead ≡ b.priority.lead = eqb-true _ _ lead.0 in
    let same_node : a.priority.node ≡ b.priority.node = eqb-true _ _ node.0 in
    let same_number : a.priority.number ≡ b.priority.number = eqb-true _ _ node.1 in
    λ i. record { trigger = record { 0 = same_trigger i }; priority = record { word = same_word i; lead = same_lead i; node = same_node i; number = same_number i } }

mark_itself : (m : Mark) → same_mark m m ≡ true
mark_itself m =
    rw (eq-eqb m.trigger.0 m.trigger.0 refl, eq-eqb m.priority.word m.priority.word refl, eq-eqb m.priority.lead m.priority.lead refl, eq-eqb m.priority.node m.priority.node refl)
    (eq-eqb m.priority.number m.priority.number refl)

-- groups are told apart by their marks
pub same_mark-group : (a b : Group) → same_mark (mark_of a) (mark_of b) ≡ same_group a b
same_mark-group a b =
    bool_same (same_mark (mark_of a) (mark_of b)) (same_group a b)
    (λ e. let m = mark_parts (mark_of a) (mark_of b) e in
    subst (λ (h : Group). same_group a h ≡ true) (group_exact a b (ap (λ (k : Mark). k.trigger.0) m) (ap (λ (k : Mark). k.priority) m)) (same_group-refl a))
    (λ e. subst (λ (h : Group). same_mark (mark_of a) (mark_of h) ≡ true) (same_group-true a b e) (mark_itself (mark_of a)))

pub same_mark-exact : (a b : Mark) → same_mark a b ≡ true → a ≡ b
same_mark-exact = mark_parts
