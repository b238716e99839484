-- Bytes that are put behind bytes, and how many bytes a message has.
use Rattle.std.proofs.Common.{◌≡◌, ℕ, ◌+◌, ◌-◌, ◌*◌, ◌≤◌, List, [], ◌∷◌, ◌++◌, length, take, drop, refl, sym, ap, ap₂, subst, ◌∙◌, append_assoc, arith}
use Rattle.hs_wire.proofs.Prelude.{flat_map, take_at, drop_at, length-append, length-take-le, take-append-drop, TraceId, Ask, Told, Standing, trace_bytes, PlainHello, PlainReported, Said, SaysHello, SaysTold, SaysAsk, SaysReported, SaysStanding, PlainMessage, IsSaid, group_bytes, id_bytes, head_bytes, losses_bytes, traces_bytes, hello_bytes, told_bytes, ask_bytes, reported_bytes, standing_bytes, said_bytes, message_bytes, Puts}
use Rattle.std.proofs.lemmas.List.{drop-drop, length-drop}
use Rattle.hs_wire.specs.Writing.{IsWithin}

pub puts_then : {a b c : List ℕ} {i j k : ℕ} {x y : List ℕ} → Puts a b i j x → Puts b c j k y → Puts a c i k (x ++ y)
puts_then {a} {b} {c} {i} {j} {k} {x} {y} p q =
    let front = take i a in
    let flen : length (take i a) ≡ i = length-take-le i a (omega (arith, p.end_is, p.room)) in
    let whole : b ≡ (take i a ++ x) ++ drop j a = p.new_is ∙ sym (append_assoc (take i a) x (drop j a)) in
    let jlen : length (take i a ++ x) ≡ j = omega (arith, length-append (take i a) x, flen, p.end_is) in
    let all : length b ≡ length a = omega (arith, ap length whole, length-append (take i a ++ x) (drop j a), jlen, length-drop j a, p.room) in
    let before : take j b ≡ take i a ++ x = ap (take j) whole ∙ take_at (take i a ++ x) (drop j a) j jlen in
    let same : drop j b ≡ drop j a = ap (drop j) whole ∙ drop_at (take i a ++ x) (drop j a) j jlen in
    let gap : k ≡ j + (k - j) = omega (arith, q.end_is) in
    let behind : drop k b ≡ drop k a =
    ap (λ n. drop n b) gap ∙ sym (drop-drop (k - j) j b) ∙ ap (drop (k - j)) same ∙ drop-drop (k - j) j a ∙ ap (λ n. drop n a) (sym gap) in
    record {
      end_is = omega (arith, p.end_is, q.end_is, length-append x y);
      room = omega (arith, q.room, all);
      new_is =
          q.new_is ∙ ap₂ (λ (u v : List ℕ). u ++ (y ++ v)) before behind
          ∙ append_assoc (take i a) x (y ++ drop k a)
          ∙ ap (λ (z : List ℕ). take i a ++ z) (sym (append_assoc x y (drop k a)));
    }

-- other bytes that are the same
pub puts_as : {a b : List ℕ} {i j : ℕ} {x y : List ℕ} → Puts a b i j x → x ≡ y → Puts a b i j y
puts_as {a} {b} {i} {j} p same = subst (λ (z : List ℕ). Puts a b i j z) same p

-- nothing is put
pub puts_none : (a : List ℕ) (i : ℕ) → i ≤ length a → Puts a a i i []
puts_none a i room = record { end_is = omega arith; room = room; new_is = sym (take-append-drop i a) }

-- ---- how many bytes

pub length-traces : (traces : List TraceId) → length (flat_map trace_bytes traces) ≡ 16 * length traces
length-traces [] = refl
length-traces (trace ∷ traces) =
    omega (arith, length-append (trace_bytes trace) (flat_map trace_bytes traces), length-traces traces)

pub length-hello : (h : PlainHello) → length h.digest ≡ 32 → length (hello_bytes h) ≡ 33 + length h.name
unfolding hello_bytes
length-hello h whole = omega (arith, length-append h.digest (length h.name ∷ h.name), whole)

pub length-told : (t : Told) → length (told_bytes t) ≡ 41 + 16 * length t.laterals
unfolding told_bytes group_bytes id_bytes traces_bytes
length-told t = omega (arith, length-traces t.laterals)

pub length-ask : (a : Ask) → length (ask_bytes a) ≡ 24 + 16 * length a.laterals
unfolding ask_bytes group_bytes id_bytes traces_bytes
length-ask a = omega (arith, length-traces a.laterals)

pub length-reported : (r : PlainReported) → length (reported_bytes r) ≡ 35 + length r.page
unfolding reported_bytes group_bytes id_bytes
length-reported r = omega arith

pub length-standing : (s : Standing) → length (standing_bytes s) ≡ 131
unfolding standing_bytes id_bytes losses_bytes
length-standing s = refl

pub length-message : (m : PlainMessage) (len : ℕ) → length (said_bytes m.said) ≡ len → length (message_bytes m) ≡ 20 + len
unfolding head_bytes
length-message m len said = omega (arith, said)

-- what has a spelling is within the limits
pub within : (said : Said) → IsSaid said → IsWithin said
within (SaysHello h) fits = fits.short
within (SaysTold t) fits = fits.group.id.node
within (SaysAsk a) fits = fits.group.id.node
within (SaysReported r) fits = (fits.group.id.node, fits.short)
within (SaysStanding s) fits = fits.group.node
