-- What a buffer has after a write to a part of it.
use Rattle.std.proofs.Common.{◌≡◌, ℕ, ◌+◌, ◌-◌, ◌≤◌, List, [], ◌++◌, length, take, drop, sym, ap, ◌∙◌, append_assoc, arith}
use Rattle.std.proofs.lemmas.List.{take_at, drop_at, drop-drop, length-drop, length-append, length-take-le, append-nil, take_all, drop_all, take-take, take-append-le, take-append-drop}
use borrow.Rule.Slice.PartMut.{put_mid}

-- a write from place a to the end, of what is new and then what stood behind it
pub put_next : (front part old xs ys : List ℕ) (a k : ℕ) → length front ≡ a → xs ≡ front ++ drop a old
    → ys ≡ part ++ drop k (take (length xs - a) (drop a xs)) → put_mid a (length xs - a) xs ys ≡ front ++ (part ++ drop (a + k) old)
put_next front part old xs ys a k fits xs_are ys_are =
    let n = length xs - a in
    let behind : drop a xs ≡ drop a old = ap (drop a) xs_are ∙ drop_at front (drop a old) a fits in
    let before : take a xs ≡ front = ap (take a) xs_are ∙ take_at front (drop a old) a fits in
    let none : drop n (drop a xs) ≡ [] = drop_all n (drop a xs) (omega (arith, length-drop a xs)) in
    let ys_is : ys ≡ part ++ drop (a + k) old =
    ys_are ∙ ap (λ zs. part ++ drop k zs) (take_all n (drop a xs) (omega (arith, length-drop a xs)) ∙ behind) ∙ ap (λ zs. part ++ zs) (drop-drop k a old) in
    ap (λ zs. take a xs ++ (ys ++ zs)) none ∙ ap (λ zs. take a xs ++ zs) (append-nil ys ∙ ys_is) ∙ ap (λ zs. zs ++ (part ++ drop (a + k) old)) before

-- a write of so many bytes from place a
pub put_part : (front old xs ys : List ℕ) (a k : ℕ) → length front ≡ a → xs ≡ front ++ drop a old → put_mid a k xs ys ≡ front ++ (ys ++ drop (a + k) old)
put_part front old xs ys a k fits xs_are =
    let behind : drop a xs ≡ drop a old = ap (drop a) xs_are ∙ drop_at front (drop a old) a fits in
    let before : take a xs ≡ front = ap (take a) xs_are ∙ take_at front (drop a old) a fits in
    ap (λ zs. take a xs ++ (ys ++ zs)) (ap (drop k) behind ∙ drop-drop k a old) ∙ ap (λ zs. zs ++ (ys ++ drop (a + k) old)) before

-- two copies of 16 bytes, which may overlap: the first 16 and the last 16 of the payload, behind the first a of it
pub copies_16 : (old payload xs ys : List ℕ) (a : ℕ) → length payload ≡ a + 16 → a ≤ 16 → a + 16 ≤ length old → xs ≡ take 16 payload ++ drop 16 old
    → ys ≡ take 16 (drop a payload) ++ drop 16 (take (length xs - a) (drop a xs)) → put_mid a (length xs - a) xs ys ≡ payload ++ drop (a + 16) old
copies_16 old payload xs ys a long few room xs_is ys_is =
    let first : length (take 16 payload) ≡ 16 = length-take-le 16 payload (omega (arith, long)) in
    let all : length xs ≡ length old = omega (arith, ap length xs_is, length-append (take 16 payload) (drop 16 old), first, length-drop 16 old, room) in
    let front : take a xs ≡ take a payload =
    ap (take a) xs_is ∙ take-append-le a (take 16 payload) (drop 16 old) (omega (arith, first, few)) ∙ take-take a 16 payload few in
    let last : take 16 (drop a payload) ≡ drop a payload = take_all 16 (drop a payload) (omega (arith, length-drop a payload, long)) in
    let again : drop 16 xs ≡ drop 16 old = ap (drop 16) xs_is ∙ drop_at (take 16 payload) (drop 16 old) 16 first in
    let swap : a + 16 ≡ 16 + a = omega arith in
    let behind : drop (a + 16) xs ≡ drop (a + 16) old =
    ap (λ n. drop n xs) swap ∙ sym (drop-drop a 16 xs) ∙ ap (drop a) again ∙ drop-drop a 16 old ∙ ap (λ n. drop n old) (sym swap) in
    put_next (take a xs) (take 16 (drop a payload)) xs xs ys a 16 (length-take-le a xs (omega (arith, all, room))) (sym (take-append-drop a xs)) ys_is
    ∙ ap (λ zs. zs ++ (take 16 (drop a payload) ++ drop (a + 16) xs)) front
    ∙ ap (λ zs. take a payload ++ (zs ++ drop (a + 16) xs)) last
    ∙ ap (λ zs. take a payload ++ (drop a payload ++ zs)) behind
    ∙ sym (append_assoc (take a payload) (drop a payload) (drop (a + 16) old))
    ∙ ap (λ zs. zs ++ drop (a + 16) old) (take-append-drop a payload)
