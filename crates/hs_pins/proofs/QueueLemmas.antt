-- The queues of a node with the groups of one trigger id changed: how many chunks there are.
use Rattle.std.proofs.Common.{◌≡◌, ℕ, ◌+◌, ◌≤◌, Bool, true, false, cond, [], ◌∷◌, Option, Some, None, unwrap_or, refl, sym, ap, ◌∙◌, arith}
use Rattle.hs_pins.proofs.Prelude.{OnOk, IfSome, IfNone, Result, Ok, Err, lookup, set_value, remove_entry, sum_by-set_value, sum_by-remove_entry, option_map, set_value_same, TriggerId, Groups, count_of, Queues, total_of}
use Rattle.std.specs.Prelude.{OnSome, IfOk}

module _ {L : Type 0} where
  pub total-set : (test : TriggerId → Bool) (es : Queues L) (old w : Groups L) → lookup test es ≡ Some old
      → total_of (set_value test es w) + count_of old ≡ total_of es + count_of w
  total-set test es old w e = sum_by-set_value (λ (groups : Groups L). count_of groups) test es old w e

  -- an id has no more chunks than there are
  pub count-total : (test : TriggerId → Bool) (es : Queues L) (old : Groups L) → lookup test es ≡ Some old → count_of old ≤ total_of es
  count-total test es old e =
      let left : total_of (remove_entry test es) + count_of old ≡ total_of es =
      ap (λ o. total_of (remove_entry test es) + unwrap_or (option_map (λ (groups : Groups L). count_of groups) o) 0) (sym e)
      ∙ sum_by-remove_entry (λ (groups : Groups L). count_of groups) test es in
      omega (arith, left)

  pub total-more : {A B : Type 0} (r : Result A B) (test : TriggerId → Bool) (es written : Queues L) (old new : Groups L) (more : ℕ) → lookup test es ≡ Some old
      → written ≡ set_value test es new → OnOk r (count_of new ≡ count_of old + more) → OnOk r (total_of written ≡ total_of es + more)
  total-more (Ok a) test es written old new more found e counted =
      let t = total-set test es old new found in
      let w = ap total_of e in
      let c : count_of new ≡ count_of old + more = counted in omega arith
  total-more (Err b) test es written old new more found e counted = tt

  pub total-less : {A : Type 0} (r : Option A) (test : TriggerId → Bool) (es written : Queues L) (old new : Groups L) → lookup test es ≡ Some old
      → written ≡ set_value test es new → OnSome r (count_of new + 1 ≡ count_of old) → OnSome r (total_of written + 1 ≡ total_of es)
  total-less (Some a) test es written old new found e counted =
      let t = total-set test es old new found in
      let w = ap total_of e in
      let c : count_of new + 1 ≡ count_of old = counted in omega arith
  total-less None test es written old new found e counted = tt

  pub nothing-taken : {A : Type 0} (r : Option A) (test : TriggerId → Bool) (es written : Queues L) (old new : Groups L) → lookup test es ≡ Some old
      → written ≡ set_value test es new → IfNone r (new ≡ old) → IfNone r (written ≡ es)
  nothing-taken (Some a) test es written old new found e same = tt
  nothing-taken None test es written old new found e same = e ∙ ap (set_value test es) same ∙ set_value_same test es old found

  -- an id that is not there is not written
  pub set_value-none : (test : TriggerId → Bool) (es : Queues L) (w : Groups L) → lookup test es ≡ None → set_value test es w ≡ es
  set_value-none test [] w none = refl
  set_value-none test (x ∷ es) w none = at (test x.0) none (set_value-none test es w)
    where
      at : (b : Bool) → cond b (Some x.1) (lookup test es) ≡ None → (lookup test es ≡ None → set_value test es w ≡ es) → cond b ((x.0, w) ∷ es) (x ∷ set_value test es w) ≡ x ∷ es
      at true none rest = absurd cc
      at false none rest = ap (λ (gs : Queues L). x ∷ gs) (rest none)

  pub total-least : {A : Type 0} (r : Option A) (size : A → ℕ) (test : TriggerId → Bool) (es written : Queues L) (old new : Groups L) → lookup test es ≡ Some old
      → written ≡ set_value test es new → IfSome r (λ a. count_of new + size a ≡ count_of old) → IfSome r (λ a. total_of written + size a ≡ total_of es)
  total-least (Some a) size test es written old new found e counted =
      let t = total-set test es old new found in
      let w = ap total_of e in
      let c : count_of new + size a ≡ count_of old = counted in omega arith
  total-least None size test es written old new found e counted = tt

  -- the groups of an id were taken out
  pub total-opened : {A B : Type 0} (r : Result A B) (groups : A → Groups L) (test : TriggerId → Bool) (es written : Queues L) (old new : Groups L) → lookup test es ≡ Some old
      → written ≡ set_value test es new → OnOk r (new ≡ []) → IfOk r (λ a. groups a ≡ old) → IfOk r (λ a. total_of written + count_of (groups a) ≡ total_of es)
  total-opened (Ok a) groups test es written old new found e none same =
      let t = total-set test es old new found in
      let w = ap total_of e in
      let n : count_of new ≡ 0 = ap (λ (gs : Groups L). count_of gs) none in
      let s = ap (λ (gs : Groups L). count_of gs) same in omega arith
  total-opened (Err b) groups test es written old new found e none same = tt
