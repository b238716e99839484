-- The inboxes of the coordinator, one for each node.
use Rattle.std.proofs.Common.{◌≡◌, ℕ, zero, suc, ◌+◌, ◌<◌, ◌≤◌, Bool, true, false, ◌&&◌, List, [], ◌∷◌, ◌++◌, length, replicate, Option, Some, None, refl, sym, ap, ap₂, ◌∙◌, arith, ◌⊎◌, inl, inr}
use Rattle.hs_run_actors.proofs.Prelude.{slice_get, slice_set, same_Some, Told, IsTakenOut}
use Rattle.hs_run_actors.specs.Coordinators.{IsTaken, is_empty, all_empty}
use Rattle.hs_run_actors.proofs.Handing.{set_same}

pub taken_out : (inboxes : List (List Told)) (node : ℕ) (before after : List Told) (told : Option Told) → slice_get inboxes node ≡ Some before → IsTaken before told after → IsTakenOut node inboxes told (slice_set inboxes node after)
taken_out inboxes node before after (Some told) at taken = (after, at ∙ ap (λ (l : List Told). Some l) taken, refl)
taken_out inboxes node before after None at taken = (at ∙ ap (λ (l : List Told). Some l) taken.0, set_same inboxes node after (at ∙ ap (λ (l : List Told). Some l) (sym taken.1)))

abbrev pub nothing_told : List Told
nothing_told = []

pub empty_more : (nodes : ℕ) → replicate (nodes + 1) nothing_told ≡ replicate nodes nothing_told ++ nothing_told ∷ []
empty_more nodes = let one_more : nodes + 1 ≡ suc nodes = omega arith in ap (λ n. replicate n nothing_told) one_more ∙ grown nodes
  where
    grown : (nodes : ℕ) → replicate (suc nodes) nothing_told ≡ replicate nodes nothing_told ++ nothing_told ∷ []
    grown zero = refl
    grown (suc nodes) = ap (λ (l : List (List Told)). nothing_told ∷ l) (grown nodes)

-- the first so many are empty
abbrev pub EmptyBelow : ℕ → List (List Told) → Type 0
EmptyBelow count inboxes = (node : ℕ) (inbox : List Told) → node < count → slice_get inboxes node ≡ Some inbox → is_empty inbox ≡ true

pub none_waits : (inboxes : List (List Told)) (count : ℕ) → length inboxes ≤ count → EmptyBelow count inboxes → all_empty inboxes ≡ true
none_waits [] count high each = refl
none_waits (inbox ∷ inboxes) count high each =
    let first : is_empty inbox ≡ true = each 0 inbox (omega (arith, high)) refl in
    let rest : all_empty inboxes ≡ true = none_waits inboxes (length inboxes) (omega arith) (λ node x low at. each (suc node) x (omega (arith, low, high)) at) in
    ap₂ (λ (a b : Bool). a && b) first rest

pub one_waits : (inboxes : List (List Told)) (node : ℕ) (inbox : List Told) → slice_get inboxes node ≡ Some inbox → is_empty inbox ≡ false → all_empty inboxes ≡ false
one_waits [] node inbox at e = let none : None ≡ Some inbox = at in absurd cc
one_waits (x ∷ inboxes) zero inbox at e = ap (λ (a : Bool). a && all_empty inboxes) (ap is_empty (same_Some x inbox at) ∙ e)
one_waits (x ∷ inboxes) (suc node) inbox at e = ap (λ (b : Bool). is_empty x && b) (one_waits inboxes node inbox at e) ∙ and_false (is_empty x)
  where
    and_false : (b : Bool) → (b && false) ≡ false
    and_false true = refl
    and_false false = refl

pub below_more : (count : ℕ) (inboxes : List (List Told)) (inbox : List Told) → EmptyBelow count inboxes → slice_get inboxes count ≡ Some inbox → is_empty inbox ≡ true → EmptyBelow (count + 1) inboxes
below_more count inboxes inbox each at e = λ node x low found. here_or node x low found (nat_below node count)
  where
    nat_below : (a b : ℕ) → ((a < b) ⊎ (b ≤ a))
    nat_below zero zero = inr (omega arith)
    nat_below zero (suc b) = inl (omega arith)
    nat_below (suc a) zero = inr (omega arith)
    nat_below (suc a) (suc b) = elim (nat_below a b) [ inl low ↦ inl (omega (arith, low)) | inr high ↦ inr (omega (arith, high)) ]

    here_or : (node : ℕ) (x : List Told) → node < count + 1 → slice_get inboxes node ≡ Some x → ((node < count) ⊎ (count ≤ node)) → is_empty x ≡ true
    here_or node x low found (inl less) = each node x less found
    here_or node x low found (inr high) =
        let same : count ≡ node = omega (arith, low, high) in
        ap is_empty (same_Some x inbox (sym found ∙ ap (λ n. slice_get inboxes n) (sym same) ∙ at)) ∙ e
