-- Pages collect one collection.
use Rattle.std.proofs.Common.{◌≡◌, ℕ, List, [], ◌∷◌, All, Some, inl, inr, refl, sym, ap, ap₂, ◌∙◌, subst, arith}
use Rattle.hs_collect.proofs.Prelude.{Any, All-head, All-tail, pairs_head, pairs_tail, RecordId, Sheet, Placed, Precedes, pieces_of, AreInOrder, IsWhole, AreWholes, AreCollected, Collection}
use Rattle.hs_collect.proofs.Listed.{any_cases, all_at_any}
use Rattle.hs_collect.proofs.Ids.{precedes_on}
use Rattle.hs_collect.proofs.Lower.{found_holds}
use Rattle.hs_collect.proofs.Adding.{InOrder}
use Rattle.hs_collect.proofs.Collecting.{HasWholes, traces_of}

abbrev HasId : RecordId → Placed → Type 0
HasId id whole = whole.id ≡ id

-- each record of the first list has its id among the second
abbrev AreAmong : List Placed → List Placed → Type 0
AreAmong wholes others = All (λ whole. Any (HasId whole.id) others) wholes

abbrev placed : RecordId → ℕ → List ℕ → Placed
placed id moment payload = record { id = id; moment = moment; payload = payload }

same_whole : (pieces : List Placed) (a b : Placed) → a.id ≡ b.id → IsWhole pieces a → IsWhole pieces b → a ≡ b
same_whole pieces a b same is that =
    let other : IsWhole pieces (placed b.id a.moment a.payload) = subst (λ (id : RecordId). IsWhole pieces (placed id a.moment a.payload)) same is in
    let somes : Some a.moment ≡ Some b.moment = sym other.moment ∙ that.moment in
    let moments : a.moment ≡ b.moment = cc in
    let payloads : a.payload ≡ b.payload = other.payload ∙ sym that.payload in
    ap (λ id. placed id a.moment a.payload) same ∙ ap₂ (λ moment payload. placed b.id moment payload) moments payloads

never : (a b : RecordId) → Precedes a b → Precedes b a → a ≡ b
never a b h k = absurd (not_itself a (precedes_on a b a h k))
  where
    not_itself : (c : RecordId) → Precedes c c → ⊥
    not_itself c h = grind arith

-- the first record of each list has an id of the other
same_first : (first : Placed) (wholes : List Placed) (other : Placed) (others : List Placed) → AreInOrder (first ∷ wholes) → AreInOrder (other ∷ others) → Any (HasId first.id) (other ∷ others)
    → Any (HasId other.id) (first ∷ wholes) → first.id ≡ other.id
same_first first wholes other others order order' here there =
    elim (any_cases (HasId first.id) other others here.0 here.1 here.2 here.3 here.4) [
      | inl same ↦ sym same
      | inr later ↦
          elim (any_cases (HasId other.id) first wholes there.0 there.1 there.2 there.3 there.4) [
            | inl same ↦ same
            | inr also ↦
                let a = all_at_any (InOrder other) (HasId first.id) others (pairs_head InOrder other others order') later in
                let b = all_at_any (InOrder first) (HasId other.id) wholes (pairs_head InOrder first wholes order) also in
                never first.id other.id (subst (Precedes first.id) b.2 b.1) (subst (Precedes other.id) a.2 a.1)
          ]
    ]

-- those behind the first are among those behind the other
rest_among : (first : Placed) (wholes : List Placed) (other : Placed) (others : List Placed) → first.id ≡ other.id → AreInOrder (first ∷ wholes) → AreAmong (first ∷ wholes) (other ∷ others) → AreAmong wholes others
rest_among first wholes other others same order among = λ k d lt.
    let found = All-tail (λ whole. Any (HasId whole.id) (other ∷ others)) first wholes among k d lt in
    elim (any_cases (HasId _) other others found.0 found.1 found.2 found.3 found.4) [
      | inl here ↦ absurd (apart first.id _ (pairs_head InOrder first wholes order k d lt) (same ∙ here))
      | inr later ↦ later
    ]
  where
    apart : (a b : RecordId) → Precedes a b → a ≡ b → ⊥
    apart a b h e = not_itself b (subst (λ (c : RecordId). Precedes c b) e h)
      where
        not_itself : (c : RecordId) → Precedes c c → ⊥
        not_itself c h = grind arith

same_wholes : (pieces a b : List Placed) → AreInOrder a → AreInOrder b → AreAmong a b → AreAmong b a → All (IsWhole pieces) a → All (IsWhole pieces) b → a ≡ b
same_wholes pieces [] [] order order' among among' each each' = refl
same_wholes pieces [] (other ∷ others) order order' among among' each each' =
    let found = All-head (λ whole. Any (HasId whole.id) []) other others among' in
    absurd (omega (arith, found.2))
same_wholes pieces (first ∷ wholes) [] order order' among among' each each' =
    let found = All-head (λ whole. Any (HasId whole.id) []) first wholes among in
    absurd (omega (arith, found.2))
same_wholes pieces (first ∷ wholes) (other ∷ others) order order' among among' each each' =
    let same : first.id ≡ other.id =
    same_first first wholes other others order order' (All-head (λ whole. Any (HasId whole.id) (other ∷ others)) first wholes among)
    (All-head (λ whole. Any (HasId whole.id) (first ∷ wholes)) other others among') in
    ap₂ (λ x xs. x ∷ xs) (same_whole pieces first other same (All-head (IsWhole pieces) first wholes each) (All-head (IsWhole pieces) other others each'))
    (same_wholes pieces wholes others (pairs_tail InOrder first wholes order) (pairs_tail InOrder other others order') (rest_among first wholes other others same order among)
    (rest_among other others first wholes (sym same) order' among') (All-tail (IsWhole pieces) first wholes each) (All-tail (IsWhole pieces) other others each'))

-- pieces make one list of records
pub wholes_are_one : (pieces a b : List Placed) → AreWholes pieces a → AreWholes pieces b → a ≡ b
wholes_are_one pieces a b are those =
    same_wholes pieces a b are.ordered those.ordered (λ k d lt. found_holds (λ id. Any (HasId id) b) _ pieces _ those.all (are.each k d lt).moment)
    (λ k d lt. found_holds (λ id. Any (HasId id) a) _ pieces _ are.all (those.each k d lt).moment) are.each those.each

same_entries : (sheets : List Sheet) (a b : Collection) → traces_of a ≡ traces_of b → All (HasWholes sheets) a → All (HasWholes sheets) b → a ≡ b
same_entries sheets [] [] traces each each' = refl
same_entries sheets [] (other ∷ others) traces each each' = absurd (cc)
same_entries sheets (entry ∷ entries) [] traces each each' = absurd (cc)
same_entries sheets (entry ∷ entries) (other ∷ others) traces each each' =
    let trace : entry.0 ≡ other.0 = cc in
    let rest : traces_of entries ≡ traces_of others = cc in
    let here : AreWholes (pieces_of other.0 sheets) entry.1 = subst (λ t. AreWholes (pieces_of t sheets) entry.1) trace (All-head (HasWholes sheets) entry entries each) in
    let wholes : entry.1 ≡ other.1 = wholes_are_one (pieces_of other.0 sheets) entry.1 other.1 here (All-head (HasWholes sheets) other others each') in
    ap₂ (λ e es. e ∷ es) (ap₂ (λ t ws. (t, ws)) trace wholes) (same_entries sheets entries others rest (All-tail (HasWholes sheets) entry entries each) (All-tail (HasWholes sheets) other others each'))

pub collected_is_one : (sheets : List Sheet) (a b : Collection) → AreCollected sheets a → AreCollected sheets b → a ≡ b
collected_is_one sheets a b collected also = same_entries sheets a b (collected.seen ∙ sym also.seen) collected.each also.each
