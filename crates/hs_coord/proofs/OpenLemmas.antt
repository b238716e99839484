-- How the number of open groups changes when one group's entry is written, and that it is 0 exactly where no node waits.
use Rattle.std.proofs.Common.{◌≡◌, ℕ, ◌+◌, ◌-◌, ◌≤◌, Bool, true, false, cond, not, List, [], ◌∷◌, length, Some, unwrap_or, All, refl, ap, ◌∙◌, true≢false, arith, nat_eq}
use Rattle.std.specs.Map.{lookup}
use Rattle.std.proofs.lemmas.Bool.{eqb-true}
use Rattle.std.proofs.lemmas.List.Elements.{All-cons, All-nil, All-head, All-tail}
use Rattle.std.proofs.lemmas.List.Sums.{sum_by-cons, count_by-le-length}
use Rattle.std.proofs.lemmas.Nat.Bits.{bit_at-zero}
use Rattle.indexmap.specs.IndexMap.{insert_entry}
use Rattle.hs_base.proofs.Counts.{one_if}
use Rattle.hs_base.specs.declared.ids.GroupId.{GroupId}
use Rattle.hs_base.specs.declared.node_set.NodeSet.{NodeSet}
use Rattle.hs_base.specs.NodeSets.{has_node}
use Rattle.hs_base.specs.NodeSetLaws.{no_nodes-from_has}
use Rattle.hs_coord.specs.declared.followed.Followed.{Followed}
use Rattle.hs_coord.specs.declared.asks.Led.{Led}
use Rattle.hs_coord.specs.Following.{Message, same_group}
use Rattle.hs_coord.specs.Kept.{is_open, count_open, IsCounted}
use Rattle.hs_coord.specs.Leading.{Leads}

abbrev Entry : Type 0
Entry = GroupId × Followed

count-cons : (e : Entry) (es : List Entry) → count_open (e ∷ es) ≡ one_if (is_open e.1) + count_open es
count-cons e es = sum_by-cons (λ (x : Entry). one_if (is_open x.1)) e es

-- ---- writing one entry

-- an entry where no node waits is not open
pub closed_if_quiet : (entry : Followed) → ((node : ℕ) → has_node entry.waiting node ≡ false) → is_open entry ≡ false
closed_if_quiet entry quiet = ap (λ (s : NodeSet). not (nat_eq s.0 0)) (no_nodes-from_has entry.waiting quiet)

module _ (group : GroupId) (begun : Followed) (new : is_open begun ≡ false) where
  -- the entry's bit before
  abbrev pub was : List Entry → ℕ
  was es = one_if (is_open (unwrap_or (lookup (same_group group) es) begun))

  abbrev written : Followed → List Entry → List Entry
  written entry es = insert_entry same_group es group entry

  pub count-insert : (entry : Followed) (es : List Entry) → count_open (written entry es) + was es ≡ count_open es + one_if (is_open entry)
  count-insert entry [] =
      let here = count-cons (group, entry) [] in
      let none : one_if (is_open begun) ≡ 0 = ap one_if new in
      omega (arith, here, none)
  count-insert entry (e ∷ es) = by (same_group group e.0) (count-insert entry es)
    where
      by : (same : Bool) → count_open (written entry es) + was es ≡ count_open es + one_if (is_open entry)
          → count_open (cond same ((e.0, entry) ∷ es) (e ∷ written entry es)) + one_if (is_open (unwrap_or (cond same (Some e.1) (lookup (same_group group) es)) begun))
          ≡ count_open (e ∷ es) + one_if (is_open entry)
      by true rest =
          let before = count-cons e es in
          let after = count-cons (e.0, entry) es in
          omega (arith, before, after)
      by false rest =
          let before = count-cons e es in
          let after = count-cons e (written entry es) in
          omega (arith, before, after, rest)

  pub was-le : (es : List Entry) → was es ≤ count_open es
  was-le es =
      let same = count-insert begun es in
      let none : one_if (is_open begun) ≡ 0 = ap one_if new in
      omega (arith, same, none)

-- the number that a message leaves
module _ (old new : List Entry) (m : Message) (led : Led) (l : Leads old new m led) where
  begun_closed : is_open l.begun ≡ false
  begun_closed = closed_if_quiet l.begun l.begins.waiting

  pub no_less : (n w : ℕ) → IsCounted n old → w ≡ one_if led.was_open → w ≤ n
  no_less n w counted w-is =
      let some = was-le m.told.group.id l.begun begun_closed old in
      let all = counted.count in
      let before = ap one_if l.was in
      omega (arith, some, all, w-is, before)

  pub counted_led : (n w i : ℕ) → IsCounted n old → w ≡ one_if led.was_open → i ≡ one_if led.is_open → IsCounted (n - w + i) new
  counted_led n w i counted w-is i-is = record {
    count =
        let change = count-insert m.told.group.id l.begun begun_closed l.next old in
        let some = was-le m.told.group.id l.begun begun_closed old in
        let all = counted.count in
        let before = ap one_if l.was in
        let now = ap one_if l.is in
        let entries = ap count_open l.entries in
        omega (arith, change, some, all, before, now, entries, w-is, i-is);
    distinct = l.distinct;
  }

pub few : (es : List Entry) (n : ℕ) → IsCounted n es → n ≤ length es
few es n counted = let some = count_by-le-length (λ (e : Entry). is_open e.1) es in let all = counted.count in omega (arith, some, all)

-- ---- no group is open

quiet_if_closed : (entry : Followed) → is_open entry ≡ false → (node : ℕ) → has_node entry.waiting node ≡ false
quiet_if_closed entry closed node = by (nat_eq entry.waiting.0 0) refl closed
  where
    by : (empty : Bool) → nat_eq entry.waiting.0 0 ≡ empty → not empty ≡ false → has_node entry.waiting node ≡ false
    by true is c = ap (λ (n : ℕ). has_node (record { 0 = n }) node) (eqb-true entry.waiting.0 0 is) ∙ ap (λ m. nat_eq m 1) (bit_at-zero node)
    by false is c = absurd (true≢false c)

abbrev pub IsQuiet : Entry → Type 0
IsQuiet e = (node : ℕ) → has_node e.1.waiting node ≡ false

pub quiet_if_none_open : (es : List Entry) → count_open es ≡ 0 → All IsQuiet es
quiet_if_none_open [] none = All-nil IsQuiet
quiet_if_none_open (e ∷ es) none = by (is_open e.1) refl (quiet_if_none_open es (let here = count-cons e es in omega (arith, here, none)))
  where
    by : (b : Bool) → is_open e.1 ≡ b → All IsQuiet es → All IsQuiet (e ∷ es)
    by true is rest = absurd (let here = count-cons e es in let one : one_if (is_open e.1) ≡ 1 = ap one_if is in omega (arith, here, one, none))
    by false is rest = All-cons IsQuiet e es (quiet_if_closed e.1 is) rest

pub none_open_if_quiet : (es : List Entry) → All IsQuiet es → count_open es ≡ 0
none_open_if_quiet [] quiet = refl
none_open_if_quiet (e ∷ es) quiet =
    let here = count-cons e es in
    let closed : one_if (is_open e.1) ≡ 0 = ap one_if (closed_if_quiet e.1 (All-head IsQuiet e es quiet)) in
    let rest = none_open_if_quiet es (All-tail IsQuiet e es quiet) in
    omega (arith, here, closed, rest)
