-- Operations of which none may send a trigger name nothing.
use Rattle.std.proofs.Common.{◌≡◌, ℕ, ◌+◌, Bool, true, false, ◌||◌, List, [], ◌∷◌, ◌++◌, map, Option, Some, None, refl, sym, ap, ap₂, ◌∙◌}
use Rattle.hs_compare.proofs.Prelude.{list_any, TraceId, AutoRule, Operation, Begin, Point, Crumb, End, Fire, Sample, NumberedOperation, numbered_from, open_behind, trigger_in, triggers_behind, operation_of, names_of, sent_names}
use Rattle.std.proofs.lemmas.Bool.{or_parts}
use Rattle.hs_records.specs.declared.operation.Op.{Op}
use Rattle.hs_compare.specs.Scripts.{may_trigger}

none_at : (autos : List AutoRule) (earlier : List NumberedOperation) (trace : Option TraceId) (op : Operation) → may_trigger op ≡ false → trigger_in autos earlier trace op ≡ []
none_at autos earlier None (Begin t) h = refl
none_at autos earlier (Some trace) (Begin t) h = refl
none_at autos earlier None (Point moment payload) h = refl
none_at autos earlier (Some trace) (Point moment payload) h = refl
none_at autos earlier None (Crumb node) h = refl
none_at autos earlier (Some trace) (Crumb node) h = refl
none_at autos earlier None End h = refl
none_at autos earlier (Some trace) End h = refl
none_at autos earlier trace (Fire trigger) h = let never : true ≡ false = h in absurd cc
none_at autos earlier trace (Sample moment auto value) h = let never : true ≡ false = h in absurd cc

none_here : (op : Operation) (ops : List Operation) → list_any may_trigger (op ∷ ops) ≡ false → (may_trigger op ≡ false) × (list_any may_trigger ops ≡ false)
none_here op ops h = or_parts (may_trigger op) (list_any may_trigger ops) h

no_triggers : (autos : List AutoRule) (earlier : List NumberedOperation) (number : ℕ) (trace : Option TraceId) (ops : List Operation)
    → list_any may_trigger ops ≡ false → triggers_behind autos earlier (numbered_from number trace ops) ≡ []
no_triggers autos earlier number trace [] h = refl
no_triggers autos earlier number trace (op ∷ ops) h =
    let (here, rest) = none_here op ops h in
    ap₂ (λ first later. map (λ trigger. record { number = number; item = trigger }) first ++ later) (none_at autos earlier trace op here)
    (no_triggers autos (record { number = number; trace = trace; operation = op } ∷ earlier) (number + 1) (open_behind trace op) ops rest)

any_seen : (ops : List Op) → list_any (λ (op : Op). may_trigger (operation_of op)) ops ≡ list_any may_trigger (map operation_of ops)
any_seen [] = refl
any_seen (op ∷ ops) = ap (λ (b : Bool). may_trigger (operation_of op) || b) (any_seen ops)

pub names_nothing : (autos : List AutoRule) (ops : List Op) → list_any (λ (op : Op). may_trigger (operation_of op)) ops ≡ false → [] ≡ names_of autos (map operation_of ops)
names_nothing autos ops h = ap sent_names (sym (no_triggers autos [] 0 None (map operation_of ops) (sym (any_seen ops) ∙ h)))
