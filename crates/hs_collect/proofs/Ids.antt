-- The order of records by client and number.
use Rattle.std.proofs.Common.{◌≡◌, ℕ, ◌+◌, ◌<◌, ◌≤◌, true, false, ap, ap₂, arith}
use Rattle.hs_collect.proofs.Prelude.{nat_tests, ClientId, RecordId, client_of, is_behind, is_same, Precedes}

abbrev record_of : ClientId → ℕ → RecordId
record_of client number = record { client = client; number = number }

pub same_itself : (a : RecordId) → is_same a a ≡ true
same_itself a = grind (arith, nat_tests)

pub earlier_apart : (a b : RecordId) → Precedes a b → is_same a b ≡ false
earlier_apart a b h = grind (arith, nat_tests)

pub later_apart : (a b : RecordId) → Precedes a b → is_same b a ≡ false
later_apart a b h = grind (arith, nat_tests)

pub precedes_on : (a b c : RecordId) → Precedes a b → Precedes b c → Precedes a c
precedes_on a b c h k = grind arith

-- the record of a client that a number less has
pub precedes_next : (a : RecordId) (client : ClientId) (n m : ℕ) → n ≤ m → Precedes a (record { client = client; number = n }) → Precedes a (record { client = client; number = m })
precedes_next a client n m le h = grind arith

pub next_number : (client : ClientId) (n : ℕ) → Precedes (record { client = client; number = n }) (record { client = client; number = n + 1 })
next_number client n = grind arith

-- the clients behind others stand behind them
pub behind_before : (a b : RecordId) (client : ClientId) → Precedes a b → is_behind b.client client ≡ false → is_behind a.client client ≡ false
behind_before a b client h k = grind (arith, nat_tests)

pub behind_after : (a : RecordId) (client : ClientId) (n : ℕ) → is_behind a.client client ≡ true → Precedes (record { client = client; number = n }) a
behind_after a client n h = grind (arith, nat_tests)

-- a record of a client that is not behind, whose number is lower where it is of the same client
by_number : (a : RecordId) (client : ClientId) (n : ℕ) → is_behind a.client client ≡ false → (a.client.node ≡ client.node → a.client.number ≡ client.number → a.number < n)
    → Precedes a (record { client = client; number = n })
by_number a client n h k = grind (arith, nat_tests)

by_last : (a b : RecordId) (client : ClientId) (n : ℕ) → Precedes a b → is_behind b.client client ≡ false → (b.client.node ≡ client.node → b.client.number ≡ client.number → b.number ≤ n) → Precedes a (record { client = client; number = n })
by_last a b client n h k le = grind (arith, nat_tests)

pub before_number : (a : RecordId) (client : ClientId) (n : ℕ) → is_behind a.client client ≡ false → (a.client ≡ client → a.number < n) → Precedes a (record { client = client; number = n })
before_number a client n h k = by_number a client n h (λ node number. k (ap₂ (λ x y. client_of x y) node number))

-- a record before another that is not behind a client's number
pub before_last : (a b : RecordId) (client : ClientId) (n : ℕ) → Precedes a b → is_behind b.client client ≡ false → (b.client ≡ client → b.number ≤ n) → Precedes a (record { client = client; number = n })
before_last a b client n h k le = by_last a b client n h k (λ node number. le (ap₂ (λ x y. client_of x y) node number))

pub lower_number : (a : RecordId) (client : ClientId) (n : ℕ) → is_same a (record { client = client; number = n }) ≡ false → (a.client ≡ client → a.number ≤ n) → a.client ≡ client → a.number < n
lower_number a client n apart le same =
    let node : a.client.node ≡ client.node = ap (λ (c : ClientId). c.node) same in
    let number : a.client.number ≡ client.number = ap (λ (c : ClientId). c.number) same in
    let below : a.number ≤ n = le same in
    grind (arith, nat_tests)

pub same_ids : (a b : RecordId) → is_same a b ≡ true → a ≡ b
same_ids a b h =
    let node : a.client.node ≡ b.client.node = grind (arith, nat_tests) in
    let client : a.client.number ≡ b.client.number = grind (arith, nat_tests) in
    let number : a.number ≡ b.number = grind (arith, nat_tests) in
    ap₂ (λ (c : ClientId) (n : ℕ). record_of c n) (ap₂ (λ x y. client_of x y) node client) number
