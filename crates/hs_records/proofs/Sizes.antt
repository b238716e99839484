-- How large a valid workload is: its nodes and clients, where the clients of a node lie, and the pieces of operations.
use Rattle.std.proofs.Common.{ℕ, ◌*◌, ◌≤◌, ◌≡◌, suc, ◌+◌, ◌<◌, length, ap, ◌∙◌, arith, false, List, [], ◌∷◌, take, drop, map, sym, Some, slice_get, unwrap_or, ◌++◌}
use Rattle.std.proofs.Math.Nat.{mul-le-mul, suc-mul, mul-le-mul_right}
use Rattle.std.specs.List.{AllByRecursion}
use Rattle.hs_base.specs.declared.limits.TheConstants.{MAX_NODES, MAX_CLIENTS}
use Rattle.hs_records.specs.Plain.{PlainWorkload, Operation, PlainSettings, Begin, Point, End, Fire, Sample}
use Rattle.hs_records.specs.Records.{AreBracketed}
use Rattle.hs_records.specs.Validity.{IsValid, IsClient, client_pieces, operation_pieces}
use Rattle.hs_records.specs.Views.{operations_of}
use Rattle.hs_base.proofs.Alls.{all_each}
use Rattle.hs_base.proofs.Places.{sliced, unwrap_map}
use Rattle.hs_base.specs.Listing.{Listing}
use Rattle.hs_records.specs.declared.setting.Setting.TheVariants as settings
use Rattle.hs_records.specs.declared.operation.Op.{Op}
use Rattle.hs_records.specs.Plain as plain

pub product_few : (a b : ℕ) → a ≤ MAX_NODES → b ≤ MAX_CLIENTS → a * b ≤ MAX_NODES * MAX_CLIENTS
product_few a b x y = mul-le-mul x y

pub few_nodes : (W : PlainWorkload) → IsValid W → W.settings.nodes ≤ MAX_NODES
few_nodes W valid = (valid.head settings.Nodes).1

-- the clients of a node are among all
pub last_low : (W : PlainWorkload) → IsValid W → (n : ℕ) → n < W.settings.nodes → n * W.settings.clients + W.settings.clients ≤ length W.clients
last_low W valid n low =
    let more : n + 1 ≤ W.settings.nodes = omega (arith, low) in
    let row = mul-le-mul_right W.settings.clients more in
    let product : (n + 1) * W.settings.clients ≡ n * W.settings.clients + W.settings.clients = let e : n + 1 ≡ suc n = omega arith in ap (λ (k : ℕ). k * W.settings.clients) e ∙ suc-mul n W.settings.clients in
    let count = valid.count in
    omega (arith, row, product, count)

pub bracketed : (version : ℕ) (set : PlainSettings) (clients : List (List Operation)) → AllByRecursion (IsClient version set) clients → AllByRecursion (AreBracketed false) clients
bracketed version set clients all = all_each (IsClient version set) (AreBracketed false) clients (λ ops client. client.bracketed) all

pub one_at_least : (size : ℕ) (op : Operation) → 1 ≤ operation_pieces size op
one_at_least size (Begin trace) = omega arith
one_at_least size (Point moment payload) = omega arith
one_at_least size (plain.Crumb node) = omega arith
one_at_least size End = omega arith
one_at_least size (Fire trigger) = omega arith
one_at_least size (Sample moment auto value) = omega arith

pub operations_few : (size : ℕ) (ops : List Operation) → length ops ≤ client_pieces size ops
operations_few size [] = omega arith
operations_few size (op ∷ ops) = omega (arith, one_at_least size op, operations_few size ops)

pub operations_sliced : (clients : List (Listing Op)) (from count client : ℕ) (ops : Listing Op) → slice_get (take count (drop from clients)) client ≡ Some ops → operations_of ops ≡ unwrap_or (slice_get (map operations_of clients) (from + client)) []
operations_sliced clients from count client ops h = sym (unwrap_map operations_of clients (from + client) ops [] (sliced clients from count client ops h).1)

pub client_more : (size : ℕ) (ops : List Operation) (op : Operation) → client_pieces size (ops ++ op ∷ []) ≡ client_pieces size ops + operation_pieces size op
client_more size [] op = omega arith
client_more size (o ∷ ops) op = omega (arith, client_more size ops op)
