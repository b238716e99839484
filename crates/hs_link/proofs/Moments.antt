-- Where the items of a link are between two steps.
use Rattle.std.proofs.Common.{◌≡◌, ℕ, zero, suc, ◌+◌, ◌%◌, ◌<◌, ◌≤◌, List, [], ◌∷◌, ◌++◌, length, drop, sym, ap, ◌∙◌, subst, length-append, arith, Option, Some}
use mathlib.Core.Option.{some, some-ne-none}
use lib.ListN.{get_elem?}
use Rattle.atomic_table.specs.Table.{State}
use Rattle.hs_link.specs.declared.board.View.{View}
use Rattle.hs_link.specs.declared.board.View.TheVariants.{Nobody, Whole, Sending, Laying, Meeting, Receiving, Taking, TellsPut, TellsTaken}
use Rattle.hs_link.specs.Ring.{Begins, LinkRule, put_by}
use Rattle.hs_link.specs.Moments.{Sends, Receives, taken_by, AreTakenOrLie}
use Rattle.hs_link.proofs.Lists.{at_below, grown_begins, begins_taken, after_beginning}

module _ {T : Type 0} where
  at_dropped : (n : ℕ) (xs : List T) (p : ℕ) (x : T) → get_elem? (drop n xs) p ≡ some x → get_elem? xs (n + p) ≡ some x
  at_dropped zero xs p x e = ap (get_elem? xs) (let z : 0 + p ≡ p = omega arith in z) ∙ e
  at_dropped (suc n) [] p x e = absurd (some-ne-none x (sym e))
  at_dropped (suc n) (y ∷ xs) p x e = ap (get_elem? (y ∷ xs)) (let z : suc n + p ≡ suc (n + p) = omega arith in z) ∙ at_dropped n xs p x e

module _ {T F : Type 0} (holds : F → T → Type 0) (key : F) (s : State (Option T) (View T F)) (r : LinkRule holds key s) where
  put_is : (i : ℕ) (v : View T F) → get_elem? s.views i ≡ some v → Sends v → put_by v ≡ r.log
  put_is i (Sending k put h) at sends = (r.each_seat i (Sending k put h) at).2
  put_is i (Laying k put h) at sends = (r.each_seat i (Laying k put h) at).2
  put_is i (Meeting k put h k' got) at sends = (r.each_seat i (Meeting k put h k' got) at).2
  put_is i Nobody at sends = absurd sends
  put_is i (Whole k) at sends = absurd sends
  put_is i (Receiving k got told) at sends = absurd sends
  put_is i (Taking k got told x) at sends = absurd sends
  put_is i (TellsPut k told) at sends = absurd sends
  put_is i (TellsTaken k got) at sends = absurd sends

  taken_is : (j : ℕ) (v : View T F) → get_elem? s.views j ≡ some v → Receives v → Begins (taken_by v) r.log × (length (taken_by v) ≡ r.taken + r.taking)
  taken_is j (Receiving k got told) at receives = let kn = r.each_seat j (Receiving k got told) at in (kn.2, (let a = kn.3 in let b = kn.5 in omega arith))
  taken_is j (Taking k got told x) at receives =
      let kn = r.each_seat j (Taking k got told x) at in
      (grown_begins got r.log x kn.2 (ap (get_elem? r.log) kn.3 ∙ kn.6), (let a = kn.3 in let b = kn.5 in let l = length-append got (x ∷ []) in omega arith))
  taken_is j Nobody at receives = absurd receives
  taken_is j (Whole k) at receives = absurd receives
  taken_is j (Sending k put h) at receives = absurd receives
  taken_is j (Laying k put h) at receives = absurd receives
  taken_is j (Meeting k put h k' got) at receives = absurd receives
  taken_is j (TellsPut k told) at receives = absurd receives
  taken_is j (TellsTaken k got) at receives = absurd receives

  pub are_taken_or_lie : (i j : ℕ) (sender receiver : View T F) → get_elem? s.views i ≡ some sender → get_elem? s.views j ≡ some receiver → Sends sender → Receives receiver → AreTakenOrLie s sender receiver
  are_taken_or_lie i j sender receiver at_i at_j sends receives =
      let (begins, count) = taken_is j receiver at_j receives in
      let taken = taken_by receiver in
      let whole : r.log ≡ taken ++ drop (length taken) r.log = after_beginning taken r.log (begins_taken taken r.log begins) in
      (drop (length taken) r.log, put_is i sender at_i sends ∙ whole, λ p x e. lies (length taken) count p x (at_dropped (length taken) r.log p x e))
    where
      lies : (number : ℕ) → number ≡ r.taken + r.taking → (p : ℕ) (x : T) → get_elem? r.log (number + p) ≡ some x → get_elem? s.homes ((number + p) % length s.homes) ≡ some (some (Some x))
      lies number count p x e =
          let below = at_below r.log x (number + p) e in
          let within = r.within in
          (r.each_entry (number + p) (omega arith) (omega arith)).item (omega arith) x e
