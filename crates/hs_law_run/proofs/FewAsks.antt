-- A node gets one ask of a group at most. So where the groups that were spoken of are numbered at their nodes, there are no more asks than
-- groups.
use Rattle.std.proofs.Common.{◌≡◌, ℕ, zero, suc, ◌+◌, ◌<◌, ◌≤◌, Bool, true, false, ◌&&◌, ◌||◌, not, cond, [], ◌∷◌, ◌++◌, length, refl, ap, ◌∙◌, Some, arith, find, eqb, append-nil, append_assoc, length-append}
use Rattle.hs_law_run.proofs.Prelude.{AllByRecursion, option_map_or, and_parts, one_if, Ask, Message, Messages, ask_by, asks_behind, asks_to, sum_le, sum_lt, sum_to}
use Rattle.std.proofs.lemmas.Bool.{not-true}
use Rattle.hs_base.proofs.Counts.{one_few, one_le}
use Rattle.hs_base.specs.declared.ids.GroupId.{GroupId}
use Rattle.hs_base.specs.NodeSets.{has_node}
use Rattle.hs_coord.specs.Following.{is_of, is_first_sender, has_crumb, has_ask, first_of, is_newly_asked}

-- ---- sums

pub sum_most : (f : ℕ → ℕ) (n : ℕ) → ((i : ℕ) → f i ≤ 1) → sum_to f n ≤ n
sum_most f zero each = omega arith
sum_most f (suc n) each = let rest = sum_most f n each in let here = each n in omega (arith, rest, here)

-- ---- asks of a group

crumb_more : (g : GroupId) (ms more : Messages) (v : ℕ) → has_crumb g ms v ≡ true → has_crumb g (ms ++ more) v ≡ true
crumb_more g [] more v h = let never : false ≡ true = h in absurd cc
crumb_more g (m ∷ ms) more v h = either (is_of g m && has_node m.told.crumbs v) h (λ h. crumb_more g ms more v h)
  where
    either : (b : Bool) → (b || has_crumb g ms v) ≡ true → (has_crumb g ms v ≡ true → has_crumb g (ms ++ more) v ≡ true) → (b || has_crumb g (ms ++ more) v) ≡ true
    either true h on = refl
    either false h on = on h

-- the first message of a group that has one stays the first
first_more : (g : GroupId) (ms more : Messages) (v : ℕ) → has_crumb g ms v ≡ true → is_first_sender g (ms ++ more) v ≡ is_first_sender g ms v
first_more g [] more v h = let never : false ≡ true = h in absurd cc
first_more g (m ∷ ms) more v h = either (is_of g m) h (λ h. first_more g ms more v h)
  where
    either : (b : Bool) → ((b && has_node m.told.crumbs v) || has_crumb g ms v) ≡ true → (has_crumb g ms v ≡ true → is_first_sender g (ms ++ more) v ≡ is_first_sender g ms v)
        → option_map_or (λ (m : Message). eqb v m.node.0) (cond b (Some m) (find (is_of g) (ms ++ more))) false ≡ option_map_or (λ (m : Message). eqb v m.node.0) (cond b (Some m) (find (is_of g) ms)) false
    either true h on = refl
    either false h on = on h

ask_more : (g : GroupId) (ms more : Messages) (v : ℕ) → has_ask g ms v ≡ true → has_ask g (ms ++ more) v ≡ true
ask_more g ms more v h =
    let parts = and_parts (has_crumb g ms v) (not (is_first_sender g ms v)) h in
    ap (λ b. b && not (is_first_sender g (ms ++ more) v)) (crumb_more g ms more v parts.0) ∙ ap not (first_more g ms more v parts.0) ∙ parts.1

-- ---- all groups

module _ (limit : ℕ → ℕ) (nodes v : ℕ) where
  -- how many groups have asked the node
  abbrev asked_groups : Messages → ℕ
  asked_groups ms = sum_to (λ u. sum_to (λ n. one_if (has_ask (record { node = u; number = n }) ms v)) (limit u)) nodes

  -- a message is of a group that is numbered so
  abbrev pub IsNumbered : Message → Type 0
  IsNumbered m = (m.told.group.id.node < nodes) × (m.told.group.id.number < limit m.told.group.id.node)

  asked_more : (ms more : Messages) → asked_groups ms ≤ asked_groups (ms ++ more)
  asked_more ms more =
      sum_le (λ u. sum_to (λ n. one_if (has_ask (record { node = u; number = n }) ms v)) (limit u)) (λ u. sum_to (λ n. one_if (has_ask (record { node = u; number = n }) (ms ++ more) v)) (limit u)) nodes
      (λ u low.
      sum_le (λ n. one_if (has_ask (record { node = u; number = n }) ms v)) (λ n. one_if (has_ask (record { node = u; number = n }) (ms ++ more) v)) (limit u)
      (λ n low. one_le (has_ask (record { node = u; number = n }) ms v) (has_ask (record { node = u; number = n }) (ms ++ more) v) (ask_more (record { node = u; number = n }) ms more v)))

  -- a node that is newly asked is asked of one group more
  asked_one : (before : Messages) (m : Message) → IsNumbered m → is_newly_asked before m v ≡ true → asked_groups before < asked_groups (before ++ m ∷ [])
  asked_one before m numbered newly =
      let g = m.told.group.id in
      let parts = and_parts (has_ask g (before ++ m ∷ []) v) (not (has_ask g before v)) newly in
      let was = ap one_if (not-true (has_ask g before v) parts.1) in
      let now = ap one_if parts.0 in
      let f = λ (u : ℕ) (n : ℕ). one_if (has_ask (record { node = u; number = n }) before v) in
      let h = λ (u : ℕ) (n : ℕ). one_if (has_ask (record { node = u; number = n }) (before ++ m ∷ []) v) in
      let each : (u n : ℕ) → f u n ≤ h u n = λ u n. one_le (has_ask (record { node = u; number = n }) before v) (has_ask (record { node = u; number = n }) (before ++ m ∷ []) v) (ask_more (record { node = u; number = n }) before (m ∷ []) v) in
      sum_lt (λ u. sum_to (f u) (limit u)) (λ u. sum_to (h u) (limit u)) nodes g.node (λ u low. sum_le (f u) (h u) (limit u) (λ n low. each u n)) numbered.0
      (sum_lt (f g.node) (h g.node) (limit g.node) g.number (λ n low. each g.node n) numbered.1 (omega (arith, was, now)))

  ask_case : (before : Messages) (m : Message) (b : Bool) → is_newly_asked before m v ≡ b → IsNumbered m → one_if b + asked_groups before ≤ asked_groups (before ++ m ∷ [])
  ask_case before m true e numbered = let more = asked_one before m numbered e in omega (arith, more)
  ask_case before m false e numbered = let more = asked_more before (m ∷ []) in omega (arith, more)

  ask_length : (before : Messages) (m : Message) → length (ask_by v before m) ≡ one_if (is_newly_asked before m v)
  ask_length before m = either (is_newly_asked before m v)
    where
      either : (b : Bool) → length {A = Ask} (cond b (record { group = (first_of before m).told.group; laterals = (first_of before m).told.laterals } ∷ []) []) ≡ one_if b
      either true = refl
      either false = refl

  asks_counted : (before ms : Messages) → AllByRecursion IsNumbered ms → length (asks_behind v before ms) + asked_groups before ≤ asked_groups (before ++ ms)
  asks_counted before [] all = let same = ap asked_groups (append-nil before) in omega (arith, same)
  asks_counted before (m ∷ ms) all =
      let both = length-append (ask_by v before m) (asks_behind v (before ++ m ∷ []) ms) in
      let first = ask_length before m in
      let here = ask_case before m (is_newly_asked before m v) refl all.0 in
      let rest = asks_counted (before ++ m ∷ []) ms all.1 in
      let same = ap asked_groups (append_assoc before (m ∷ []) ms) in
      omega (arith, both, first, here, rest, same)

  -- so there are no more asks than groups
  pub asks_few : (heard : Messages) → AllByRecursion IsNumbered heard → length (asks_to v heard) ≤ sum_to limit nodes
  asks_few heard all =
      let counted = asks_counted [] heard all in
      let few =
      sum_le (λ u. sum_to (λ n. one_if (has_ask (record { node = u; number = n }) heard v)) (limit u)) limit nodes
      (λ u low. sum_most (λ n. one_if (has_ask (record { node = u; number = n }) heard v)) (limit u) (λ n. one_few (has_ask (record { node = u; number = n }) heard v)))
      in
      omega (arith, counted, few)
