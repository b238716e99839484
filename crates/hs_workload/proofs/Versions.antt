-- A valid workload is valid in each version that its traces fit, and they fit version 2.
use Rattle.std.proofs.Common.{ℕ, ◌^◌, ◌<◌, Bool, true, false, cond, nat_eq, List, [], ◌∷◌, arith}
use Rattle.hs_workload.proofs.Prelude.{AllByRecursion, TraceId, Within, Operation, Begin, Point, Crumb, End, Fire, Sample, PlainSettings, PlainWorkload, Setting, least, most, setting_of, HasDigits, IsOperation, IsClient, IsValid}
use Rattle.hs_records.specs.declared.setting.Setting.TheVariants as settings
use Rattle.hs_workload.specs.Versions.{HasTraces, FitsVersion}

-- ---- each version that the traces fit

operation_in : (from to : ℕ) (given : PlainSettings) (op : Operation) → IsOperation from given op → HasTraces to op → IsOperation to given op
operation_in from to given (Begin t) is has = has
operation_in from to given (Point m bytes) is has = is
operation_in from to given (Crumb node) is has = is
operation_in from to given End is has = tt
operation_in from to given (Fire t) is has = (is.0, is.1, has.0, is.3, has.1)
operation_in from to given (Sample m a v) is has = is

operations_in : (from to : ℕ) (given : PlainSettings) (ops : List Operation) → AllByRecursion (IsOperation from given) ops → AllByRecursion (HasTraces to) ops → AllByRecursion (IsOperation to given) ops
operations_in from to given [] is has = tt
operations_in from to given (op ∷ ops) is has = (operation_in from to given op is.0 has.0, operations_in from to given ops is.1 has.1)

clients_in : (from to : ℕ) (given : PlainSettings) (clients : List (List Operation)) → AllByRecursion (IsClient from given) clients → AllByRecursion (AllByRecursion (HasTraces to)) clients
    → AllByRecursion (IsClient to given) clients
clients_in from to given [] is has = tt
clients_in from to given (ops ∷ clients) is has =
    (record { words = operations_in from to given ops is.0.words has.0; bracketed = is.0.bracketed }, clients_in from to given clients is.1 has.1)

head_in : (version : ℕ) (W : PlainWorkload) → Within 1 2 version → IsValid W → (s : Setting) → Within (least s) (most s) (setting_of (record W { version = version }) s)
head_in version W within v settings.Version = within
head_in version W within v settings.Nodes = v.head settings.Nodes
head_in version W within v settings.Clients = v.head settings.Clients
head_in version W within v settings.Buffers = v.head settings.Buffers
head_in version W within v settings.Size = v.head settings.Size
head_in version W within v settings.Threshold = v.head settings.Threshold
head_in version W within v settings.Traces = v.head settings.Traces
head_in version W within v settings.Pins = v.head settings.Pins
head_in version W within v settings.Stride = v.head settings.Stride

pub in_version : (version : ℕ) (W : PlainWorkload) → Within 1 2 version → IsValid W → FitsVersion version W → IsValid (record W { version = version })
in_version version W within v fits =
    record {
      head = head_in version W within v;
      rules = v.rules;
      autos = v.autos;
      count = v.count;
      each = clients_in W.version version W.settings W.clients v.each fits;
      few = v.few;
    }

-- ---- version 2

digits_widen : (version : ℕ) (t : TraceId) → HasDigits version t → HasDigits 2 t
digits_widen version t has = by_version (nat_eq version 1) has
  where
    by_version : (b : Bool) → t.0 < 16 ^ cond b 16 32 → t.0 < 16 ^ 32
    by_version true h = omega (arith, h)
    by_version false h = h

all_widen : (version : ℕ) (ts : List TraceId) → AllByRecursion (HasDigits version) ts → AllByRecursion (HasDigits 2) ts
all_widen version [] has = tt
all_widen version (t ∷ ts) has = (digits_widen version t has.0, all_widen version ts has.1)

operation_widens : (version : ℕ) (given : PlainSettings) (op : Operation) → IsOperation version given op → HasTraces 2 op
operation_widens version given (Begin t) is = digits_widen version t is
operation_widens version given (Point m bytes) is = tt
operation_widens version given (Crumb node) is = tt
operation_widens version given End is = tt
operation_widens version given (Fire t) is = (digits_widen version t.lead is.2, all_widen version t.laterals is.4)
operation_widens version given (Sample m a v) is = tt

operations_widen : (version : ℕ) (given : PlainSettings) (ops : List Operation) → AllByRecursion (IsOperation version given) ops → AllByRecursion (HasTraces 2) ops
operations_widen version given [] is = tt
operations_widen version given (op ∷ ops) is = (operation_widens version given op is.0, operations_widen version given ops is.1)

clients_widen : (version : ℕ) (given : PlainSettings) (clients : List (List Operation)) → AllByRecursion (IsClient version given) clients → AllByRecursion (AllByRecursion (HasTraces 2)) clients
clients_widen version given [] is = tt
clients_widen version given (ops ∷ clients) is = (operations_widen version given ops is.0.words, clients_widen version given clients is.1)

pub widened : (W : PlainWorkload) → IsValid W → IsValid (record W { version = 2 })
widened W v = in_version 2 W (omega arith, omega arith) v (clients_widen W.version W.settings W.clients v.each)
