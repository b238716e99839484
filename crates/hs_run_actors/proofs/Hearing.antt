-- The coordinator hears messages.
use Rattle.std.proofs.Common.{◌≡◌, ℕ, zero, suc, ◌+◌, ◌<◌, ◌≤◌, min, Bool, true, false, cond, List, [], ◌∷◌, ◌++◌, length, map, filter, Option, Some, None, ◌⊎◌, inl, inr, refl, sym, ap, ap₂, subst, ◌∙◌, arith, append_assoc, append-nil, length-append, length-set, eq-eqb}
use Rattle.hs_run_actors.proofs.Prelude.{ne_eqb, flat_map-append, map-append, same_Some, slice_get_within, slice_get, slice_set, AllByRecursion, all_append, all_each, is_declared, MAX_TAKEN, Ask, Told, Messages, PlainWorkload, IsAskable, IsTellable, PlainCoordinatorActor, Tellings, Askings, IsCoordinatorActor, HearsNode}
use Rattle.std.specs.Prelude.{find, unwrap_or}
use Rattle.hs_base.specs.declared.ids.NodeId.{NodeId}
use Rattle.hs_coord.specs.Following.{AreAsks, first_of}
use Rattle.hs_coord.specs.Kept.{PlainCoordinator, HasTaken}
use Rattle.hs_coord.specs.Messages.{Message, message, is_of}
use Rattle.hs_coord.specs.declared.asks.Asks.{Asks}
use Rattle.hs_law_journal.specs.Following.{asks_to, ask_by, is_from}
use Rattle.hs_law_journal.proofs.Hearing.{heard_both}
use Rattle.hs_law_journal.proofs.Logs.{behind_more}
use Rattle.hs_run_actors.specs.Coordinators.{IsHearable, Hears, AreInTurn, AreMoved, Brings, AreFetched, ArePutBehind, heard_of, ask_for, asks_for}

-- ---- lists

module _ {A : Type 0} where
  -- what stands in a list at another place than the one that was set, or at it
  pub found_set : (xs : List A) (place other : ℕ) (y x : A) → slice_get (slice_set xs place y) other ≡ Some x → ((place ≡ other) × (y ≡ x)) ⊎ ((place ≡ other → ⊥) × (slice_get xs other ≡ Some x))
  found_set [] place other y x found = let none : None ≡ Some x = found in absurd cc
  found_set (z ∷ xs) zero zero y x found = inl (refl, same_Some y x found)
  found_set (z ∷ xs) zero (suc other) y x found = inr ((λ e. omega (arith, e)), found)
  found_set (z ∷ xs) (suc place) zero y x found = inr ((λ e. omega (arith, e)), found)
  found_set (z ∷ xs) (suc place) (suc other) y x found = elim (found_set xs place other y x found) [ inl h ↦ inl (ap suc h.0, h.1) | inr h ↦ inr ((λ e. h.0 (omega (arith, e))), h.1) ]

-- ---- what was heard of a node

abbrev pub name : ℕ → NodeId
name n = record { 0 = n }

heard_own : (node : ℕ) (told : List Told) → heard_of node (map (message (name node)) told) ≡ told
heard_own node [] = refl
heard_own node (x ∷ told) =
    ap (λ (b : Bool). map (λ (m : Message). m.told) (cond b (message (name node) x ∷ filter (is_from (name node)) (map (message (name node)) told)) (filter (is_from (name node)) (map (message (name node)) told)))) (eq-eqb node node refl)
    ∙ ap (λ (l : List Told). x ∷ l) (heard_own node told)

heard_other : (node other : ℕ) (told : List Told) → (node ≡ other → ⊥) → heard_of other (map (message (name node)) told) ≡ []
heard_other node other [] apart = refl
heard_other node other (x ∷ told) apart =
    ap (λ (b : Bool). map (λ (m : Message). m.told) (cond b (message (name node) x ∷ filter (is_from (name other)) (map (message (name node)) told)) (filter (is_from (name other)) (map (message (name node)) told)))) (ne_eqb node other apart)
    ∙ heard_other node other told apart

-- ---- asks

-- the asks to which a message leads are those that were answered
ask_is : (node : ℕ) (before : Messages) (m : Message) (asks : Asks) → AreAsks before m asks → ask_by node before m ≡ ask_for node asks
ask_is node before m asks are =
    let ask : asks.ask ≡ record { group = (first_of before m).told.group; laterals = (first_of before m).told.laterals } = ap₂ (λ g l. record { group = g; laterals = l }) are.group are.laterals in
    ap₂ (λ (b : Bool) (a : Ask). cond b (a ∷ []) []) (sym (are.to node)) (sym ask)

asks_more : (node : ℕ) (heard : Messages) (m : Message) (asks : Asks) → AreAsks heard m asks → asks_to node (heard ++ m ∷ []) ≡ asks_to node heard ++ ask_for node asks
asks_more node heard m asks are = behind_more node [] heard m ∙ ap (λ (l : List Ask). asks_to node heard ++ l) (ask_is node heard m asks are)

-- the first message of a group is one that may be heard
first_hearable : (W : PlainWorkload) (heard : Messages) (m : Message) → AllByRecursion (IsHearable W) heard → IsHearable W m → IsHearable W (first_of heard m)
first_hearable W heard m all here = found_in heard all
  where
    step : (b : Bool) (x : Message) (rest : Option Message) → IsHearable W x → IsHearable W (unwrap_or rest m) → IsHearable W (unwrap_or (cond b (Some x) rest) m)
    step true x rest is later = is
    step false x rest is later = later

    found_in : (xs : Messages) → AllByRecursion (IsHearable W) xs → IsHearable W (unwrap_or (find (is_of m.told.group.id) xs) m)
    found_in [] every = here
    found_in (x ∷ xs) every = step (is_of m.told.group.id x) x (find (is_of m.told.group.id) xs) every.0 (found_in xs every.1)

-- ---- a message

module _ (W : PlainWorkload) (heard : Messages) (moved : Tellings) (asked : Askings) (c : PlainCoordinatorActor) (is : IsCoordinatorActor W heard moved asked c) where
  -- the message that waits first at a node may be heard
  pub next_hearable : (node : ℕ) (told : Told) (rest : List Told) → slice_get c.told node ≡ Some (told ∷ rest) → IsHearable W (message (name node) told)
  next_hearable node told rest at =
      let within = slice_get_within c.told node (told ∷ rest) at in
      let count = is.count in
      let low : node < W.settings.nodes = omega (arith, within, count) in
      let all = is.tellable node low in
      record { from = low; told = all_mid (heard_of node heard) rest (subst (λ (l : List Told). AllByRecursion (IsTellable W) l) (sym (is.waits node (told ∷ rest) at)) all) }
    where
      all_mid : (xs ys : List Told) → AllByRecursion (IsTellable W) (xs ++ told ∷ ys) → IsTellable W told
      all_mid [] ys all = all.0
      all_mid (x ∷ xs) ys all = all_mid xs ys all.1

  module _ (node : ℕ) (told : Told) (rest : List Told) (at : slice_get c.told node ≡ Some (told ∷ rest)) where
    abbrev m : Message
    m = message (name node) told

    waits_more : (other : ℕ) (queue : List Told) → slice_get (slice_set c.told node rest) other ≡ Some queue → heard_of other (heard ++ m ∷ []) ++ queue ≡ moved other
    waits_more other queue found =
        elim (found_set c.told node other rest queue found) [
          | inl h ↦
              let here : heard_of node (heard ++ m ∷ []) ≡ heard_of node heard ++ told ∷ [] = heard_both (name node) heard (m ∷ []) ∙ ap (λ (l : List Told). heard_of node heard ++ l) (heard_own node (told ∷ [])) in
              ap₂ (λ (n : ℕ) (l : List Told). heard_of n (heard ++ m ∷ []) ++ l) (sym h.0) (sym h.1) ∙ ap (λ (l : List Told). l ++ rest) here ∙ append_assoc (heard_of node heard) (told ∷ []) rest ∙ is.waits node (told ∷ rest) at
              ∙ ap moved h.0
          | inr h ↦
              ap (λ (l : List Told). l ++ queue) (heard_both (name other) heard (m ∷ []) ∙ ap (λ (l : List Told). heard_of other heard ++ l) (heard_other node other (told ∷ []) h.0) ∙ append-nil (heard_of other heard))
              ∙ is.waits other queue h.1
        ]

    -- it was heard, and its asks wait
    pub hears_one : (kept : PlainCoordinator) (asks : Asks) → HasTaken kept (heard ++ m ∷ []) → kept.nodes ≡ c.kept.nodes → AreAsks heard m asks
        → IsCoordinatorActor W (heard ++ m ∷ []) moved asked (record { kept = kept; told = slice_set c.told node rest; asks = c.asks ++ asks ∷ [] })
    hears_one kept asks taken nodes are =
        let hearable = next_hearable node told rest at in
        let first = first_hearable W heard m is.hearable hearable in
        record {
          few = is.few;
          taken = taken;
          nodes = nodes ∙ is.nodes;
          count = length-set c.told node rest ∙ is.count;
          waits = waits_more;
          hearable = all_append (IsHearable W) heard (m ∷ []) is.hearable (hearable, tt);
          tellable = is.tellable;
          askable = all_append (λ (a : Asks). IsAskable W a.ask) c.asks (asks ∷ []) is.askable (ap (λ g. is_declared W.settings.triggers g.trigger) are.group ∙ first.told.trigger, tt);
          asks_are = λ n low.
              asks_more n heard m asks are ∙ ap (λ (l : List Ask). l ++ ask_for n asks) (is.asks_are n low) ∙ append_assoc (asked n) (asks_for n c.asks) (ask_for n asks)
              ∙ ap (λ (l : List Ask). asked n ++ l) (sym (flat_map-append (ask_for n) c.asks (asks ∷ []) ∙ ap (λ (l : List Ask). asks_for n c.asks ++ l) (append-nil (ask_for n asks))));
        }

    pub hears_so : (kept : PlainCoordinator) (asks : Asks) (told' : List (List Told)) (asks' : List Asks) → told' ≡ slice_set c.told node rest → asks' ≡ c.asks ++ asks ∷ [] → HasTaken kept (heard ++ m ∷ []) → kept.nodes ≡ c.kept.nodes → AreAsks heard m asks
        → IsCoordinatorActor W (heard ++ m ∷ []) moved asked (record { kept = kept; told = told'; asks = asks' })
    hears_so kept asks told' asks' same_told same_asks taken nodes are =
        subst (λ (l : List (List Told)). IsCoordinatorActor W (heard ++ m ∷ []) moved asked (record { kept = kept; told = l; asks = asks' })) (sym same_told)
        (subst (λ (l : List Asks). IsCoordinatorActor W (heard ++ m ∷ []) moved asked (record { kept = kept; told = slice_set c.told node rest; asks = l })) (sym same_asks) (hears_one kept asks taken nodes are))

-- ---- the messages of a node

module _ (W : PlainWorkload) (heard : Messages) (moved : Tellings) (asked : Askings) (node : ℕ) where
  -- so many were heard
  pub record HeardSome (count : ℕ) (c : PlainCoordinatorActor) : Type 0 where
    pub more : List Told
    pub number : length more ≡ count
    pub stands : IsCoordinatorActor W (heard ++ map (message (record { 0 = node })) more) moved asked c

  pub heard_none : (c : PlainCoordinatorActor) → IsCoordinatorActor W heard moved asked c → HeardSome 0 c
  heard_none c is = record { more = []; number = refl; stands = subst (λ (h : Messages). IsCoordinatorActor W h moved asked c) (sym (append-nil heard)) is }

  module _ (count : ℕ) (c : PlainCoordinatorActor) (some : HeardSome count c) where
    abbrev pub heard_now : Messages
    heard_now = heard ++ map (message (record { 0 = node })) some.more

    pub heard_one : (told : Told) (rest : List Told) → slice_get c.told node ≡ Some (told ∷ rest) → (c' : PlainCoordinatorActor) → IsCoordinatorActor W (heard_now ++ message (record { 0 = node }) told ∷ []) moved asked c' → HeardSome (count + 1) c'
    heard_one told rest at c' is =
        let all = append_assoc heard (map (message (name node)) some.more) (message (name node) told ∷ []) ∙ ap (λ (l : Messages). heard ++ l) (sym (map-append (message (name node)) some.more (told ∷ []))) in
        record {
          more = some.more ++ told ∷ [];
          number = length-append some.more (told ∷ []) ∙ ap (λ n. n + 1) some.number;
          stands = subst (λ (h : Messages). IsCoordinatorActor W h moved asked c') all is;
        }

    counted : length (heard_of node heard_now) ≡ length (heard_of node heard) + length some.more
    counted = ap length (heard_both (name node) heard (map (message (name node)) some.more) ∙ ap (λ (l : List Told). heard_of node heard ++ l) (heard_own node some.more)) ∙ length-append (heard_of node heard) some.more

    pub heard_out : count < MAX_TAKEN → slice_get c.told node ≡ Some [] → HearsNode W heard moved asked node c
    heard_out low at =
        let number = some.number in
        let all = ap length (sym (some.stands.waits node [] at) ∙ append-nil (heard_of node heard_now)) in
        let both = counted in
        record { more = some.more; few = omega (arith, number, low); all = omega (arith, all, both); stands = some.stands }

    pub heard_full : count ≡ MAX_TAKEN → HearsNode W heard moved asked node c
    heard_full full =
        let number = some.number in
        record { more = some.more; few = omega (arith, number, full); all = omega (arith, number, full); stands = some.stands }

-- ---- all nodes

-- messages of one node, behind those of lower ones
module _ (n : ℕ) where
  from_one : (told : List Told) → AllByRecursion (λ (m : Message). m.node.0 ≡ n) (map (message (name n)) told)
  from_one [] = tt
  from_one (t ∷ told) = (refl, from_one told)

  one_in_turn : (told : List Told) → AreInTurn (map (message (name n)) told)
  one_in_turn [] = tt
  one_in_turn (t ∷ told) = (all_each (λ (m : Message). m.node.0 ≡ n) (λ (m : Message). n ≤ m.node.0) (map (message (name n)) told) (λ m e. omega (arith, e)) (from_one told), one_in_turn told)

  behind_lower : (lower own : Messages) → AreInTurn lower → AllByRecursion (λ (m : Message). m.node.0 < n) lower → AreInTurn own → AllByRecursion (λ (m : Message). m.node.0 ≡ n) own → AreInTurn (lower ++ own)
  behind_lower [] own turns low at turn = at
  behind_lower (m ∷ lower) own turns low at turn = (
    all_append (λ (later : Message). m.node.0 ≤ later.node.0) lower own turns.0 (all_each (λ (later : Message). later.node.0 ≡ n) (λ (later : Message). m.node.0 ≤ later.node.0) own (λ later e. (let l = low.0 in omega (arith, e, l))) turn),
    behind_lower lower own turns.1 low.1 at turn,
  )

module _ (W : PlainWorkload) (heard : Messages) (moved : Tellings) (asked : Askings) where
  -- The messages of the first so many nodes were heard.
  pub record HeardFirst (first : ℕ) (c : PlainCoordinatorActor) : Type 0 where
    pub more : Messages
    pub stands : IsCoordinatorActor W (heard ++ more) moved asked c
    pub few : (node : ℕ) → node < first → length (heard_of node more) ≤ MAX_TAKEN
    pub all : (node : ℕ) → node < first → min (length (heard_of node heard) + MAX_TAKEN) (length (moved node)) ≤ length (heard_of node heard) + length (heard_of node more)
    pub none : (node : ℕ) → first ≤ node → heard_of node more ≡ []
    pub turns : AreInTurn more
    pub low : AllByRecursion (λ (m : Message). m.node.0 < first) more

  pub none_first : (c : PlainCoordinatorActor) → IsCoordinatorActor W heard moved asked c → HeardFirst 0 c
  none_first c is =
      record {
        more = [];
        stands = subst (λ (h : Messages). IsCoordinatorActor W h moved asked c) (sym (append-nil heard)) is;
        few = λ node low. absurd (omega (arith, low));
        all = λ node low. absurd (omega (arith, low));
        none = λ node low. refl;
        turns = tt;
        low = tt;
      }

  module _ (first : ℕ) (c : PlainCoordinatorActor) (h : HeardFirst first c) where
    pub first_more : (c' : PlainCoordinatorActor) → HearsNode W (heard ++ h.more) moved asked first c' → HeardFirst (first + 1) c'
    first_more c' n =
        let told = map (message (name first)) n.more in
        let other : (node : ℕ) → (first ≡ node → ⊥) → heard_of node (h.more ++ told) ≡ heard_of node h.more = λ node apart.
        heard_both (name node) h.more told ∙ ap (λ (l : List Told). heard_of node h.more ++ l) (heard_other first node n.more apart) ∙ append-nil (heard_of node h.more)
        in
        let here : heard_of first (h.more ++ told) ≡ n.more = heard_both (name first) h.more told ∙ ap₂ (λ (x y : List Told). x ++ y) (h.none first (omega arith)) (heard_own first n.more) in
        let before : length (heard_of first (heard ++ h.more)) ≡ length (heard_of first heard) =
        ap length (heard_both (name first) heard h.more ∙ ap (λ (l : List Told). heard_of first heard ++ l) (h.none first (omega arith)) ∙ append-nil (heard_of first heard))
        in
        record {
          more = h.more ++ told;
          stands = subst (λ (l : Messages). IsCoordinatorActor W l moved asked c') (append_assoc heard h.more told) n.stands;
          few = λ node low. elim (below first node low) [
            | inl less ↦ (let same = ap length (other node (λ e. omega (arith, e, less))) in let few = h.few node less in omega (arith, same, few))
            | inr e ↦ (let same = ap length (ap (λ k. heard_of k (h.more ++ told)) e ∙ here) in let few = n.few in omega (arith, same, few))
          ];
          all = λ node low. elim (below first node low) [
            | inl less ↦ (let same = ap length (other node (λ e. omega (arith, e, less))) in let all = h.all node less in omega (arith, same, all))
            | inr e ↦
                (let same = ap length (ap (λ k. heard_of k (h.more ++ told)) e ∙ here) in
                let all = n.all in
                let a = ap (λ k. length (heard_of k heard)) e in
                let b = ap (λ k. length (moved k)) e in
                omega (arith, same, all, a, b, before))
          ];
          none = λ node high. other node (λ e. omega (arith, e, high)) ∙ h.none node (omega (arith, high));
          turns = behind_lower first h.more told h.turns h.low (one_in_turn first n.more) (from_one first n.more);
          low = all_append (λ (m : Message). m.node.0 < first + 1) h.more told (all_each (λ (m : Message). m.node.0 < first) (λ (m : Message). m.node.0 < first + 1) h.more (λ m l. omega (arith, l)) h.low)
              (all_each (λ (m : Message). m.node.0 ≡ first) (λ (m : Message). m.node.0 < first + 1) told (λ m e. omega (arith, e)) (from_one first n.more));
        }
      where
        below : (first node : ℕ) → node < first + 1 → (node < first) ⊎ (node ≡ first)
        below zero zero low = inr refl
        below zero (suc node) low = absurd (omega (arith, low))
        below (suc first) zero low = inl (omega arith)
        below (suc first) (suc node) low = elim (below first node (omega (arith, low))) [ inl less ↦ inl (omega (arith, less)) | inr e ↦ inr (ap suc e) ]

    pub first_all : W.settings.nodes ≤ first → (more : Messages) × Hears W heard more moved asked c
    first_all high = (
      h.more,
      record {
        stands = h.stands;
        few = λ node low. h.few node (omega (arith, low, high));
        all = λ node low.
            (let all = h.all node (omega (arith, low, high)) in
            let both = ap length (heard_both (name node) heard h.more) ∙ length-append (heard_of node heard) (heard_of node h.more) in
            omega (arith, all, both));
        turns = h.turns;
      },
    )

-- ---- between rounds

-- messages were brought
pub brings : (W : PlainWorkload) (old : PlainCoordinatorActor) (told' : List (List Told)) (node : ℕ) (told : List Told) → ArePutBehind node told old.told told' → AllByRecursion (IsTellable W) told → Brings W node told old (record old { told = told' })
brings W old told' node told put tellable =
    record {
      by = λ heard moved moved' asked is more. subst (λ (l : List (List Told)). IsCoordinatorActor W heard moved' asked (record old { told = l })) (sym put.2) (brought heard moved asked is put.0 put.1 moved' more);
    }
  where
    same_or_not : (a b : ℕ) → (a ≡ b) ⊎ (a ≡ b → ⊥)
    same_or_not zero zero = inl refl
    same_or_not zero (suc b) = inr (λ e. omega (arith, e))
    same_or_not (suc a) zero = inr (λ e. omega (arith, e))
    same_or_not (suc a) (suc b) = elim (same_or_not a b) [ inl e ↦ inl (ap suc e) | inr apart ↦ inr (λ e. apart (omega (arith, e))) ]

    brought : (heard : Messages) (moved : Tellings) (asked : Askings) → IsCoordinatorActor W heard moved asked old → (queue : List Told) → slice_get old.told node ≡ Some queue → (moved' : Tellings) → AreMoved node told moved moved'
        → IsCoordinatorActor W heard moved' asked (record old { told = slice_set old.told node (queue ++ told) })
    brought heard moved asked is queue at moved' more =
        record {
          few = is.few;
          taken = is.taken;
          nodes = is.nodes;
          count = length-set old.told node (queue ++ told) ∙ is.count;
          waits = λ other q found. elim (found_set old.told node other (queue ++ told) q found) [
            | inl h ↦ ap₂ (λ (n : ℕ) (l : List Told). heard_of n heard ++ l) (sym h.0) (sym h.1) ∙ sym (append_assoc (heard_of node heard) queue told) ∙ ap (λ (l : List Told). l ++ told) (is.waits node queue at) ∙ sym more.here ∙ ap moved' h.0
            | inr h ↦ is.waits other q h.1 ∙ sym (more.others other (λ e. h.0 (sym e)))
          ];
          hearable = is.hearable;
          tellable = λ other low. elim (same_or_not node other) [
            | inl e ↦
                let low_here : node < W.settings.nodes = omega (arith, e, low) in
                subst (λ (l : List Told). AllByRecursion (IsTellable W) l) (sym more.here ∙ ap moved' e) (all_append (IsTellable W) (moved node) told (is.tellable node low_here) tellable)
            | inr apart ↦ subst (λ (l : List Told). AllByRecursion (IsTellable W) l) (sym (more.others other (λ e. apart (sym e)))) (is.tellable other low)
          ];
          askable = is.askable;
          asks_are = is.asks_are;
        }

-- all asks were fetched
pub fetched : (W : PlainWorkload) (heard : Messages) (moved : Tellings) (asked asked' : Askings) (old new : PlainCoordinatorActor) → IsCoordinatorActor W heard moved asked old → AreFetched W old.asks asked asked' → new ≡ record old { asks = [] }
    → IsCoordinatorActor W heard moved asked' new
fetched W heard moved asked asked' old new is are e =
    subst (IsCoordinatorActor W heard moved asked') (sym e)
    (record {
      few = is.few;
      taken = is.taken;
      nodes = is.nodes;
      count = is.count;
      waits = is.waits;
      hearable = is.hearable;
      tellable = is.tellable;
      askable = tt;
      asks_are = λ node low. is.asks_are node low ∙ sym (are node low) ∙ sym (append-nil (asked' node));
    })
