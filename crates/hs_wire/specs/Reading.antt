-- Reading from left to right. A reader gives what stands at the front of bytes and the bytes behind it, or nothing.
use Rattle.std.specs.Prelude.{◌≡◌, ℕ, zero, suc, Bool, List, [], ◌∷◌, length, take, drop, Option, Some, None, nat_lt, nat_le, ◌==◌, if◌then◌else◌, refl}
use Rattle.std.specs.Int.{Width, w16, w32, w64, w128, byte_len, from_be_bytes}
use Rattle.hs_base.specs.declared.ids.GroupId.{GroupId}
use Rattle.hs_base.specs.declared.ids.TraceId.{TraceId}
use Rattle.hs_base.specs.declared.told.Group.{Group}
use Rattle.hs_base.specs.declared.told.Ask.{Ask}
use Rattle.hs_base.specs.declared.told.Told.{Told}
use Rattle.hs_base.specs.declared.told.Why.{Why}
use Rattle.hs_base.specs.declared.told.Why.TheVariants.{Fired, Answer, Late}
use Rattle.hs_base.specs.declared.limits.TheConstants.{MOST_NODES, MAX_LATERALS}
use Rattle.hs_wire.specs.declared.message.TheConstants.{VERSION, MOST_NAME, MOST_PAGE}
use Rattle.hs_wire.specs.declared.message.Head.{Head}
use Rattle.hs_wire.specs.declared.message.Losses.{Losses}
use Rattle.hs_wire.specs.declared.message.Wholeness.{Wholeness}
use Rattle.hs_wire.specs.declared.message.Wholeness.TheVariants.{WholeSince, Lost, UnheardSince, Unknown, Open}
use Rattle.hs_wire.specs.declared.message.Standing.{Standing}
use Rattle.hs_wire.specs.Messages.{PlainHello, PlainReported, PlainMessage, Said, SaysHello, SaysTold, SaysAsk, SaysReported, SaysStanding}

infixl 10 ◌>>=◌
abbrev pub ◌>>=◌ : {A B : Type 0} → Option A → (A → Option B) → Option B
(Some x) >>= f = f x
None >>= f = None

abbrev pub Reader : Type 0 → Type 0
Reader A = List ℕ → Option (A × List ℕ)

-- What a function returned, seen by view, is what reading gives.
abbrev pub Gives : {X Y : Type 0} → (X → Y) → Option X → Option Y → Type 0
Gives view (Some x) read = read ≡ Some (view x)
Gives view None read = read ≡ None

-- ---- how readers are put together

-- one thing and then another
abbrev pub both : {A B : Type 0} → Reader A → Reader B → Reader (A × B)
both first second bytes = first bytes >>= λ a. second a.1 >>= λ b. Some ((a.0, b.0), b.1)

-- a thing made of what is read
abbrev pub making : {A B : Type 0} → (A → B) → Reader A → Reader B
making make read bytes = read bytes >>= λ a. Some (make a.0, a.1)

-- only what passes a test
abbrev pub only_if : {A : Type 0} → (A → Bool) → Reader A → Reader A
only_if test read bytes = read bytes >>= λ a. if test a.0 then Some a else None

-- what a number says, and what the number says is to follow
abbrev pub behind : {A : Type 0} → Reader ℕ → (ℕ → Reader A) → Reader A
behind size read bytes = size bytes >>= λ n. read n.0 n.1

-- what stands for a byte
abbrev pub by : {A : Type 0} → (ℕ → Option A) → Reader ℕ → Reader A
by meaning read bytes = read bytes >>= λ n. meaning n.0 >>= λ a. Some (a, n.1)

-- all of the bytes
abbrev pub all : {A : Type 0} → Reader A → List ℕ → Option A
all read bytes = read bytes >>= λ a. if length a.1 == 0 then Some a.0 else None

-- ---- fields

abbrev pub number_at : Width → Reader ℕ
number_at w bytes = if nat_lt (length bytes) (byte_len w) then None else Some (from_be_bytes w (take (byte_len w) bytes), drop (byte_len w) bytes)

abbrev pub byte_at : Reader ℕ
byte_at [] = None
byte_at (byte ∷ rest) = Some (byte, rest)

abbrev pub bytes_at : ℕ → Reader (List ℕ)
bytes_at n bytes = if nat_lt (length bytes) n then None else Some (take n bytes, drop n bytes)

abbrev pub node_at : Reader ℕ
node_at = only_if (λ n. nat_lt n MOST_NODES) (number_at w16)

unfoldable pub traces_at : ℕ → Reader (List TraceId)
traces_at zero bytes = Some ([], bytes)
traces_at (suc n) bytes = making (λ x. record { 0 = x.0 } ∷ x.1) (both (number_at w128) (traces_at n)) bytes

-- ---- parts of messages

unfoldable pub head_at : Reader Head
head_at = making (λ x. record { epoch = x.0; number = x.1.0; node = record { 0 = x.1.1 } }) (both (number_at w64) (both (number_at w64) node_at))

unfoldable pub id_at : Reader GroupId
id_at = making (λ x. record { node = x.0; number = x.1 }) (both node_at (number_at w32))

unfoldable pub group_at : Reader Group
group_at = making (λ x. record { id = x.0; trigger = record { 0 = x.1.0 }; lead = record { 0 = x.1.1 } }) (both id_at (both byte_at (number_at w128)))

unfoldable pub laterals_at : Reader (List TraceId)
laterals_at = behind (only_if (λ n. nat_le n MAX_LATERALS) byte_at) traces_at

unfoldable pub losses_at : Reader Losses
losses_at =
    making (λ x. record {
      null_pages = x.0;
      full_points = x.1.0;
      dry_points = x.1.1.0;
      long_points = x.1.1.1.0;
      refused_crumbs = x.1.1.1.1.0;
      evicted_crumbs = x.1.1.1.1.1.0;
      forgotten_crumbs = x.1.1.1.1.1.1.0;
      evicted_pages = x.1.1.1.1.1.1.1.0;
      abandoned_pages = x.1.1.1.1.1.1.1.1;
    })
    (both (number_at w64) (both (number_at w64) (both (number_at w64) (both (number_at w64) (both (number_at w64) (both (number_at w64) (both (number_at w64) (both (number_at w64) (number_at w64)))))))))

abbrev pub why_of : ℕ → Option Why
why_of zero = Some Fired
why_of (suc zero) = Some Answer
why_of (suc (suc zero)) = Some Late
why_of (suc (suc (suc n))) = None

abbrev pub wholeness_of : ℕ → Option Wholeness
wholeness_of zero = Some WholeSince
wholeness_of (suc zero) = Some Lost
wholeness_of (suc (suc zero)) = Some UnheardSince
wholeness_of (suc (suc (suc zero))) = Some Unknown
wholeness_of (suc (suc (suc (suc zero)))) = Some Open
wholeness_of (suc (suc (suc (suc (suc n))))) = None

-- ---- what messages say

unfoldable pub hello_at : Reader PlainHello
hello_at = making (λ x. record { digest = x.0; name = x.1 }) (both (bytes_at 32) (behind (only_if (λ n. nat_le n MOST_NAME) byte_at) bytes_at))

unfoldable pub told_at : Reader Told
told_at =
    making (λ x. record { group = x.0; laterals = x.1.1.1; crumbs = record { 0 = x.1.1.0 }; why = x.1.0 })
    (both group_at (both (by why_of byte_at) (both (number_at w128) laterals_at)))

unfoldable pub ask_at : Reader Ask
ask_at = making (λ x. record { group = x.0; laterals = x.1 }) (both group_at laterals_at)

unfoldable pub reported_at : Reader PlainReported
reported_at =
    making (λ x. record { group = x.0; client = x.1.0; core = x.1.1.0; page = x.1.1.1 })
    (both group_at (both (number_at w16) (both (number_at w64) (behind (only_if (λ n. nat_le n MOST_PAGE) (number_at w16)) bytes_at))))

unfoldable pub standing_at : Reader Standing
standing_at =
    making (λ x. record { trace = record { 0 = x.0 }; group = x.1.0; wholeness = x.1.1.0; open_segments = x.1.1.1.0; horizon = x.1.1.1.1.0; pages = x.1.1.1.1.1.0; crumbs = record { 0 = x.1.1.1.1.1.1.0 }; losses = x.1.1.1.1.1.1.1 })
    (both (number_at w128) (both id_at (both (by wholeness_of byte_at) (both (number_at w32) (both (number_at w64) (both (number_at w64) (both (number_at w128) losses_at)))))))

unfoldable pub said_at : ℕ → Reader Said
said_at zero bytes = None
said_at (suc zero) bytes = making SaysHello hello_at bytes
said_at (suc (suc zero)) bytes = making SaysTold told_at bytes
said_at (suc (suc (suc zero))) bytes = making SaysAsk ask_at bytes
said_at (suc (suc (suc (suc zero)))) bytes = making SaysReported reported_at bytes
said_at (suc (suc (suc (suc (suc zero))))) bytes = making SaysStanding standing_at bytes
said_at (suc (suc (suc (suc (suc (suc n)))))) bytes = None

unfoldable pub message_at : Reader PlainMessage
message_at =
    making (λ x. record { head = x.1.0; said = x.1.1 })
    (both (only_if (λ v. v == VERSION) byte_at) (behind byte_at (λ kind. both head_at (said_at kind))))

-- ---- examples

-- an id is a node and a number, and what stands behind them is still to be read
an_id_is_read : id_at (0 ∷ 3 ∷ 0 ∷ 0 ∷ 1 ∷ 7 ∷ 9 ∷ []) ≡ Some (record { node = 3; number = 263 }, 9 ∷ [])
unfolding id_at
an_id_is_read = refl

-- there is no node 128, and no number in three bytes
none_is_read : (id_at (0 ∷ 128 ∷ 0 ∷ 0 ∷ 1 ∷ 7 ∷ []) ≡ None) × (id_at (0 ∷ 3 ∷ 0 ∷ 0 ∷ 1 ∷ []) ≡ None)
unfolding id_at
none_is_read = (refl, refl)

-- a byte too many is not read over
all_is_read : (all id_at (0 ∷ 3 ∷ 0 ∷ 0 ∷ 1 ∷ 7 ∷ 9 ∷ []) ≡ None) × (all id_at (0 ∷ 3 ∷ 0 ∷ 0 ∷ 1 ∷ 7 ∷ []) ≡ Some (record { node = 3; number = 263 }))
unfolding id_at
all_is_read = (refl, refl)
