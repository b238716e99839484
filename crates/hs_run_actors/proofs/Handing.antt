-- Lines that give items out.
use Rattle.std.proofs.Common.{◌≡◌, ℕ, zero, suc, ◌+◌, ◌<◌, ◌≤◌, List, [], ◌∷◌, ◌++◌, length, Option, Some, None, refl, sym, ap, subst, ◌∙◌, arith, append_assoc, append-nil, length-append, length-set}
use Rattle.hs_run_actors.proofs.Prelude.{slice_get, slice_set, same_Some, get_there, MAX_TAKEN, PlainWorkload, PoolName, Intake, linked, closed, HandsAt, HandsOutAt, AreIntakesFor, IsIntakeAt, key_of}
use Rattle.hs_run_actors.specs.Intakes.{Hands, due}

-- ---- an item that was set

module _ {A : Type 0} where
  pub get_set : (xs : List A) (i : ℕ) (x y : A) → slice_get xs i ≡ Some x → slice_get (slice_set xs i y) i ≡ Some y
  get_set [] i x y at = let none : None ≡ Some x = at in absurd cc
  get_set (z ∷ xs) zero x y at = refl
  get_set (z ∷ xs) (suc i) x y at = get_set xs i x y at

  pub set_set : (xs : List A) (i : ℕ) (y z : A) → slice_set (slice_set xs i y) i z ≡ slice_set xs i z
  set_set [] i y z = refl
  set_set (x ∷ xs) zero y z = refl
  set_set (x ∷ xs) (suc i) y z = ap (λ (l : List A). x ∷ l) (set_set xs i y z)

  pub set_same : (xs : List A) (i : ℕ) (x : A) → slice_get xs i ≡ Some x → slice_set xs i x ≡ xs
  set_same [] i x at = refl
  set_same (y ∷ xs) zero x at = ap (λ (z : A). z ∷ xs) (sym (same_Some y x at))
  set_same (y ∷ xs) (suc i) x at = ap (λ (l : List A). y ∷ l) (set_same xs i x at)

-- ---- one line

module _ {T : Type 0} where
  pub hands_none : (l : Intake T) → Hands [] l l
  hands_none (linked r) = ((refl, refl, refl), sym (append-nil r.received))
  hands_none (closed r) = (refl, refl)

  pub hands_more : (xs ys : List T) (a b c : Intake T) → Hands xs a b → Hands ys b c → Hands (xs ++ ys) a c
  hands_more xs ys (linked a) (linked b) (linked c) h k =
      ((k.0.0 ∙ h.0.0, k.0.1 ∙ h.0.1, k.0.2 ∙ h.0.2), k.1 ∙ ap (λ (l : List T). l ++ ys) h.1 ∙ append_assoc a.received xs ys)
  hands_more xs ys (closed a) (closed b) (closed c) h k = (k.0 ∙ h.0, h.1 ∙ ap (λ (l : List T). xs ++ l) k.1 ∙ sym (append_assoc xs ys c.items))
  hands_more xs ys (linked a) (linked b) (closed c) h k = absurd k
  hands_more xs ys (linked a) (closed b) c h k = absurd h
  hands_more xs ys (closed a) (linked b) c h k = absurd h
  hands_more xs ys (closed a) (closed b) (linked c) h k = absurd k

  pub due_after : (xs : List T) (a b : Intake T) → Hands xs a b → due a ≤ length xs + due b
  due_after xs (linked a) (linked b) h =
      let told = ap length h.0.2 in
      let received = ap length h.1 ∙ length-append a.received xs in
      omega (arith, told, received)
  due_after xs (closed a) (closed b) h = let items = ap length h.1 ∙ length-append xs b.items in omega (arith, items)
  due_after xs (linked a) (closed b) h = absurd h
  due_after xs (closed a) (linked b) h = absurd h

  pub key_kept : (xs : List T) (a b : Intake T) → Hands xs a b → key_of b ≡ key_of a
  key_kept xs (linked a) (linked b) h = h.0.1
  key_kept xs (closed a) (closed b) h = h.0
  key_kept xs (linked a) (closed b) h = absurd h
  key_kept xs (closed a) (linked b) h = absurd h

  -- ---- the line of a client

  -- so far the line gave these items out, and the others are as they were
  pub record HandsSoFar (client : ℕ) (items : List T) (old new : List (Intake T)) : Type 0 where
    pub before : Intake T
    pub after : Intake T
    pub at : IsIntakeAt client old before
    pub set_is : new ≡ slice_set old client after
    pub hands : Hands items before after

  pub none_so_far : (client : ℕ) (lines : List (Intake T)) → client < length lines → HandsSoFar client [] lines lines
  none_so_far client lines low =
      let (l, at) = get_there lines client low in
      record {
        before = l;
        after = l;
        at = at;
        set_is = sym (set_same lines client l at);
        hands = hands_none l;
      }

  module _ (client : ℕ) (items : List T) (old mid new : List (Intake T)) (so_far : HandsSoFar client items old mid) where
    now_at : IsIntakeAt client mid so_far.after
    now_at = ap (λ (l : List (Intake T)). slice_get l client) so_far.set_is ∙ get_set old client so_far.before so_far.after so_far.at

    pub more_so_far : (item : T) → HandsAt client mid (Some item) new → HandsSoFar client (items ++ item ∷ []) old new
    more_so_far item h =
        let same : so_far.after ≡ h.0 = same_Some so_far.after h.0 (sym now_at ∙ h.2) in
        record {
          before = so_far.before;
          after = h.1;
          at = so_far.at;
          set_is = h.3 ∙ ap (λ (l : List (Intake T)). slice_set l client h.1) so_far.set_is ∙ set_set old client so_far.after h.1;
          hands = hands_more items (item ∷ []) so_far.before so_far.after h.1 so_far.hands (subst (λ (l : Intake T). Hands (item ∷ []) l h.1) (sym same) h.4);
        }

    pub all_out : length items ≤ MAX_TAKEN → HandsAt client mid None new → HandsOutAt client items old new
    all_out few h =
        let same : so_far.after ≡ h.0 = same_Some so_far.after h.0 (sym now_at ∙ h.1) in
        let none : due so_far.after ≡ 0 = ap due same ∙ h.3 in
        let most = due_after items so_far.before so_far.after so_far.hands in
        record {
          before = so_far.before;
          after = so_far.after;
          at = so_far.at;
          set = h.2 ∙ so_far.set_is;
          out = record { hands = so_far.hands; few = few; all = omega (arith, none, most) };
        }

    pub full_out : length items ≡ MAX_TAKEN → HandsOutAt client items old mid
    full_out full =
        record {
          before = so_far.before;
          after = so_far.after;
          at = so_far.at;
          set = so_far.set_is;
          out = record { hands = so_far.hands; few = omega (arith, full); all = omega (arith, full) };
        }

  -- ---- keys

  found_set : (lines : List (Intake T)) (client other : ℕ) (l l' x : Intake T) → IsIntakeAt client lines l → key_of l' ≡ key_of l → IsIntakeAt other (slice_set lines client l') x → (y : Intake T) × IsIntakeAt other lines y × (key_of x ≡ key_of y)
  found_set [] client other l l' x at same found = let none : None ≡ Some l = at in absurd cc
  found_set (y ∷ lines) zero zero l l' x at same found = (y, refl, ap key_of (sym (same_Some l' x found)) ∙ same ∙ ap key_of (sym (same_Some y l at)))
  found_set (y ∷ lines) zero (suc other) l l' x at same found = (x, found, refl)
  found_set (y ∷ lines) (suc client) zero l l' x at same found = (x, found, refl)
  found_set (y ∷ lines) (suc client) (suc other) l l' x at same found = found_set lines client other l l' x at same found

  module _ (W : PlainWorkload) (node : ℕ) (pool : PoolName) where
    pub lines_set : (client : ℕ) (old : List (Intake T)) (l l' : Intake T) → IsIntakeAt client old l → key_of l' ≡ key_of l → AreIntakesFor W node pool old → AreIntakesFor W node pool (slice_set old client l')
    lines_set client old l l' at same are =
        record {
          count = length-set old client l' ∙ are.count;
          keys = λ other x found. let (y, stood, key) = found_set old client other l l' x at same found in key ∙ are.keys other y stood;
        }

    pub lines_at : (client : ℕ) (item : Option T) (old new : List (Intake T)) → HandsAt client old item new → AreIntakesFor W node pool old → AreIntakesFor W node pool new
    lines_at client (Some item) old new h are =
        subst (λ (l : List (Intake T)). AreIntakesFor W node pool l) (sym h.3) (lines_set client old h.0 h.1 h.2 (key_kept (item ∷ []) h.0 h.1 h.4) are)
    lines_at client None old new h are = subst (λ (l : List (Intake T)). AreIntakesFor W node pool l) (sym h.2) are
