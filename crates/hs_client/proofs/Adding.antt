-- What one operation more adds to what a client sends, to the page that is open and to what its autotriggers saw, by its kind.
use Rattle.std.proofs.Common.{◌≡◌, ℕ, Bool, true, false, List, [], ◌∷◌, ◌++◌, length, reverse, Option, Some, None, refl, sym, subst}
use Rattle.hs_client.proofs.Prelude.{TraceId, Trigger, AutoRule, Operation, Begin, Point, End, Fire, Sample, NumberedOperation, numbered_of, coming, Watch, HasSampled, AreWatching, has_open_page, crumb_in, samples_of, trigger_in}
use Rattle.hs_base.specs.declared.ids.NodeId.{NodeId}
use Rattle.hs_records.specs.Plain as plain
use Rattle.hs_auto.specs.Firing as firing
use Rattle.hs_client.specs.OneMore.{OneMoreOperation, OneMoreCrumb, OneMoreTrigger}
use Rattle.hs_client.specs.Sending.{sample_in}

-- what is known of one operation more
pub record OneMore : Type 0 where
  pub numbered : OneMoreOperation
  pub crumbs : OneMoreCrumb
  pub triggers : OneMoreTrigger

pub page_more : (page : Bool) (ops : List Operation) (op : Operation) → has_open_page page (ops ++ op ∷ []) ≡ has_open_page (has_open_page page ops) (op ∷ [])
page_more page [] op = refl
page_more page (Begin trace ∷ ops) op = page_more false ops op
page_more page (Point moment payload ∷ ops) op = page_more true ops op
page_more page (plain.Crumb node ∷ ops) op = page_more page ops op
page_more page (End ∷ ops) op = page_more false ops op
page_more page (Fire trigger ∷ ops) op = page_more page ops op
page_more page (Sample moment auto value ∷ ops) op = page_more page ops op

-- the operation behind these, where this trace is open
abbrev pub at : List Operation → Option TraceId → Operation → NumberedOperation
at ops trace op = record { number = length ops; trace = trace; operation = op }

-- ---- operations that no autotrigger sees

pub record IsUnseen (op : Operation) : Type 0 where
  pub samples : (auto : ℕ) (trace : Option TraceId) → sample_in auto trace op ≡ []

pub unseen : (rules : List AutoRule) (ops : List Operation) (op : Operation) (trace : Option TraceId) (autos : List Watch) → IsUnseen op → AreWatching rules (reverse (numbered_of ops)) autos
    → AreWatching rules (at ops trace op ∷ reverse (numbered_of ops)) autos
unseen rules ops op trace autos hidden w =
    record {
      rules_are = w.rules_are;
      each = λ auto watch found.
          subst (λ (l : List firing.Sample). HasSampled watch (l ++ samples_of auto (reverse (numbered_of ops)))) (sym (hidden.samples auto trace)) (w.each auto watch found);
    }

pub begin_unseen : (trace : TraceId) → IsUnseen (Begin trace)
begin_unseen trace = record { samples = none }
  where
    none : (auto : ℕ) (found : Option TraceId) → sample_in auto found (Begin trace) ≡ []
    none auto None = refl
    none auto (Some other) = refl

pub point_unseen : (moment : ℕ) (payload : List ℕ) → IsUnseen (Point moment payload)
point_unseen moment payload = record { samples = none }
  where
    none : (auto : ℕ) (found : Option TraceId) → sample_in auto found (Point moment payload) ≡ []
    none auto None = refl
    none auto (Some other) = refl

pub end_unseen : IsUnseen End
end_unseen = record { samples = none }
  where
    none : (auto : ℕ) (found : Option TraceId) → sample_in auto found End ≡ []
    none auto None = refl
    none auto (Some other) = refl

pub crumb_unseen : (node : NodeId) → IsUnseen (plain.Crumb node)
crumb_unseen node = record { samples = none }
  where
    none : (auto : ℕ) (found : Option TraceId) → sample_in auto found (plain.Crumb node) ≡ []
    none auto None = refl
    none auto (Some other) = refl

pub fire_unseen : (trigger : Trigger) → IsUnseen (Fire trigger)
fire_unseen trigger = record { samples = none }
  where
    none : (auto : ℕ) (found : Option TraceId) → sample_in auto found (Fire trigger) ≡ []
    none auto None = refl
    none auto (Some other) = refl

-- ---- begin

pub begin_no_crumb : (trace : TraceId) (found : Option TraceId) → crumb_in found (Begin trace) ≡ []
begin_no_crumb trace None = refl
begin_no_crumb trace (Some other) = refl

pub begin_no_trigger : (autos : List AutoRule) (earlier : List NumberedOperation) (trace : TraceId) (found : Option TraceId) → trigger_in autos earlier found (Begin trace) ≡ []
begin_no_trigger autos earlier trace None = refl
begin_no_trigger autos earlier trace (Some other) = refl

-- ---- point

pub point_no_crumb : (moment : ℕ) (payload : List ℕ) (found : Option TraceId) → crumb_in found (Point moment payload) ≡ []
point_no_crumb moment payload None = refl
point_no_crumb moment payload (Some trace) = refl

pub point_no_trigger : (autos : List AutoRule) (earlier : List NumberedOperation) (moment : ℕ) (payload : List ℕ) (found : Option TraceId) → trigger_in autos earlier found (Point moment payload) ≡ []
point_no_trigger autos earlier moment payload None = refl
point_no_trigger autos earlier moment payload (Some trace) = refl

-- ---- end

pub end_no_crumb : (found : Option TraceId) → crumb_in found End ≡ []
end_no_crumb None = refl
end_no_crumb (Some trace) = refl

pub end_no_trigger : (autos : List AutoRule) (earlier : List NumberedOperation) (found : Option TraceId) → trigger_in autos earlier found End ≡ []
end_no_trigger autos earlier None = refl
end_no_trigger autos earlier (Some trace) = refl

-- ---- crumb and trigger

pub coming_crumb : (size number : ℕ) (node : NodeId) (found : Option TraceId) (rest : List Operation) → coming size number found (plain.Crumb node ∷ rest) ≡ coming size number found rest
coming_crumb size number node None rest = refl
coming_crumb size number node (Some trace) rest = refl

pub crumb_no_trigger : (autos : List AutoRule) (earlier : List NumberedOperation) (node : NodeId) (found : Option TraceId) → trigger_in autos earlier found (plain.Crumb node) ≡ []
crumb_no_trigger autos earlier node None = refl
crumb_no_trigger autos earlier node (Some trace) = refl

pub coming_fire : (size number : ℕ) (trigger : Trigger) (found : Option TraceId) (rest : List Operation) → coming size number found (Fire trigger ∷ rest) ≡ coming size number found rest
coming_fire size number trigger None rest = refl
coming_fire size number trigger (Some trace) rest = refl

pub fire_no_crumb : (trigger : Trigger) (found : Option TraceId) → crumb_in found (Fire trigger) ≡ []
fire_no_crumb trigger None = refl
fire_no_crumb trigger (Some trace) = refl

pub trigger_of_fire : (autos : List AutoRule) (earlier : List NumberedOperation) (trigger : Trigger) (found : Option TraceId) → trigger ∷ [] ≡ trigger_in autos earlier found (Fire trigger)
trigger_of_fire autos earlier trigger None = refl
trigger_of_fire autos earlier trigger (Some trace) = refl
