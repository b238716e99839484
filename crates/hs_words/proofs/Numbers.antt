-- Numbers as big-endian bytes: what is read is what was written, at each width.
use Rattle.std.proofs.Common.{◌≡◌, ℕ, zero, suc, ◌+◌, ◌-◌, ◌*◌, ◌/◌, ◌%◌, ◌^◌, ◌<◌, ◌≤◌, List, [], ◌∷◌, ◌++◌, length, get_or, take, drop, refl, sym, ap, ◌∙◌, arith}
use Rattle.std.specs.List.{AllByRecursion}
use Rattle.std.specs.Int.{Width, w16, w32, w64, w128, byte_at, bytes_high_first, to_be_bytes, from_be_bytes}
use Rattle.std.proofs.lemmas.Nat.{div-mul-add, pow-add}
use Rattle.std.proofs.lemmas.List.{length-take-le, take-append-drop}
use Rattle.std.proofs.Math.Nat.{mul-add-div_right, mul-add-mod_self_right, mod-eq_of_lt, one-le-pow, div-one, pow-suc}
use Rattle.hs_words.specs.Pages.{counts_bytes}
use Rattle.byteorder.specs.Endian.{big_from}
use Rattle.byteorder.specs.Numbers.{big_from-cons, big_from-lt, big_number-reads_back}

abbrev pub IsBytes : List ℕ → Type 0
IsBytes xs = (i : ℕ) → get_or xs i 0 < 256

-- ---- the two readings of std and of byteorder agree

of_16 : (xs : List ℕ) → from_be_bytes w16 xs ≡ big_from 0 2 xs
of_16 xs = omega arith

of_32 : (xs : List ℕ) → from_be_bytes w32 xs ≡ big_from 0 4 xs
of_32 xs = omega arith

of_64 : (xs : List ℕ) → from_be_bytes w64 xs ≡ big_from 0 8 xs
of_64 xs = omega arith

of_128 : (xs : List ℕ) → from_be_bytes w128 xs ≡ big_from 0 16 xs
of_128 xs = omega arith

-- ---- bytes to a number and back

byte_is : (k v : ℕ) → byte_at k v ≡ v / 256 ^ k % 256
byte_is zero v = ap (λ n. n % 256) (sym (div-one v))
byte_is (suc k) v = refl

power_pos : (n : ℕ) → zero < 256 ^ n
power_pos n = let h = one-le-pow n 256 (omega arith) in omega arith

-- what stands above the lowest bytes does not show in them
low_byte : (j m x r : ℕ) → byte_at j (x * 256 ^ (j + suc m) + r) ≡ byte_at j r
low_byte j m x r =
    let split : x * 256 ^ (j + suc m) ≡ x * 256 ^ m * 256 * 256 ^ j = rw (pow-add, pow-suc) (omega arith) in
    let quotient : (x * 256 ^ (j + suc m) + r) / 256 ^ j ≡ x * 256 ^ m * 256 + r / 256 ^ j =
    ap (λ n. (n + r) / 256 ^ j) split ∙ mul-add-div_right (power_pos j) (x * 256 ^ m * 256) r in
    byte_is j _ ∙ ap (λ n. n % 256) quotient ∙ mul-add-mod_self_right (x * 256 ^ m) 256 (r / 256 ^ j) ∙ sym (byte_is j r)

low_bytes : (k n x r : ℕ) → k ≤ n → bytes_high_first k (x * 256 ^ n + r) ≡ bytes_high_first k r
low_bytes zero n x r le = refl
low_bytes (suc k) n x r le =
    let more : k + suc (n - suc k) ≡ n = omega arith in
    let here : byte_at k (x * 256 ^ n + r) ≡ byte_at k r = ap (λ m. byte_at k (x * 256 ^ m + r)) (sym more) ∙ low_byte k (n - suc k) x r in
    let rest = low_bytes k n x r (omega arith) in
    λ i. here i ∷ rest i

IsBytes-rest : (x : ℕ) (xs : List ℕ) → IsBytes (x ∷ xs) → IsBytes xs
IsBytes-rest x xs fits i = fits (suc i)

high_first_of_big : (n : ℕ) (xs : List ℕ) → length xs ≡ n → IsBytes xs → bytes_high_first n (big_from 0 n xs) ≡ xs
high_first_of_big zero [] len fits = refl
high_first_of_big zero (x ∷ xs) len fits = absurd (omega arith)
high_first_of_big (suc n) [] len fits = absurd (omega arith)
high_first_of_big (suc n) (x ∷ xs) len fits =
    let r = big_from 0 n xs in
    let whole : big_from 0 (suc n) (x ∷ xs) ≡ x * 256 ^ n + r = ap (λ m. x * 256 ^ n + m) (big_from-cons 0 n x xs) in
    let small : r < 256 ^ n = big_from-lt 0 n xs (IsBytes-rest x xs fits) in
    let first : byte_at n (x * 256 ^ n + r) ≡ x = byte_is n _ ∙ ap (λ m. m % 256) (div-mul-add x (256 ^ n) r small) ∙ mod-eq_of_lt (fits 0) in
    let rest : bytes_high_first n (x * 256 ^ n + r) ≡ xs = low_bytes n n x r (omega arith) ∙ high_first_of_big n xs (omega arith) (IsBytes-rest x xs fits) in
    ap (bytes_high_first (suc n)) whole ∙ (λ i. first i ∷ rest i)

-- ---- each width

pub IsBytes-all : (xs : List ℕ) → IsBytes xs → AllByRecursion (λ byte. byte < 256) xs
IsBytes-all [] fits = tt
IsBytes-all (x ∷ xs) fits = (fits 0, IsBytes-all xs (IsBytes-rest x xs fits))

pub all_IsBytes : (xs : List ℕ) → AllByRecursion (λ byte. byte < 256) xs → IsBytes xs
all_IsBytes [] fits i = omega arith
all_IsBytes (x ∷ xs) fits zero = fits.0
all_IsBytes (x ∷ xs) fits (suc i) = all_IsBytes xs fits.1 i

pub again_128 : (n : ℕ) → n < 2 ^ 128 → from_be_bytes w128 (to_be_bytes w128 n) ≡ n
again_128 n fits = of_128 (to_be_bytes w128 n) ∙ big_number-reads_back 16 n [] fits

pub back_16 : (xs : List ℕ) → length xs ≡ 2 → IsBytes xs → to_be_bytes w16 (from_be_bytes w16 xs) ≡ xs
back_16 xs len fits = ap (to_be_bytes w16) (of_16 xs) ∙ high_first_of_big 2 xs len fits

pub back_32 : (xs : List ℕ) → length xs ≡ 4 → IsBytes xs → to_be_bytes w32 (from_be_bytes w32 xs) ≡ xs
back_32 xs len fits = ap (to_be_bytes w32) (of_32 xs) ∙ high_first_of_big 4 xs len fits

pub back_64 : (xs : List ℕ) → length xs ≡ 8 → IsBytes xs → to_be_bytes w64 (from_be_bytes w64 xs) ≡ xs
back_64 xs len fits = ap (to_be_bytes w64) (of_64 xs) ∙ high_first_of_big 8 xs len fits

pub back_128 : (xs : List ℕ) → length xs ≡ 16 → IsBytes xs → to_be_bytes w128 (from_be_bytes w128 xs) ≡ xs
back_128 xs len fits = ap (to_be_bytes w128) (of_128 xs) ∙ high_first_of_big 16 xs len fits

-- ---- a number at the front of bytes

pub IsBytes-take : (n : ℕ) (xs : List ℕ) → IsBytes xs → IsBytes (take n xs)
IsBytes-take zero xs fits i = omega arith
IsBytes-take (suc n) [] fits i = omega arith
IsBytes-take (suc n) (x ∷ xs) fits zero = fits 0
IsBytes-take (suc n) (x ∷ xs) fits (suc i) = IsBytes-take n xs (IsBytes-rest x xs fits) i

pub number_front : (w : Width) (k : ℕ) (bytes field rest : List ℕ) (n : ℕ) → ((xs : List ℕ) → length xs ≡ k → IsBytes xs → to_be_bytes w (from_be_bytes w xs) ≡ xs) → IsBytes bytes
    → field ≡ take k bytes → rest ≡ drop k bytes → length rest + k ≡ length bytes → n ≡ from_be_bytes w field → bytes ≡ to_be_bytes w n ++ rest
number_front w k bytes field rest n back fits field_is rest_is long n_is =
    let whole : length (take k bytes) ≡ k = length-take-le k bytes (omega (arith, long)) in
    let written : to_be_bytes w n ≡ take k bytes = ap (to_be_bytes w) (n_is ∙ ap (from_be_bytes w) field_is) ∙ back (take k bytes) whole (IsBytes-take k bytes fits) in
    sym (take-append-drop k bytes) ∙ ap (λ xs. xs ++ drop k bytes) (sym written) ∙ ap (λ xs. to_be_bytes w n ++ xs) (sym rest_is)

pub IsBytes-behind : (xs ys : List ℕ) → IsBytes (xs ++ ys) → IsBytes ys
IsBytes-behind [] ys fits i = fits i
IsBytes-behind (x ∷ xs) ys fits i = IsBytes-behind xs ys (IsBytes-rest x (xs ++ ys) fits) i

-- two numbers of two bytes, written as one of four
pub counts_as_one : (count used : ℕ) → count < 2 ^ 16 → used < 2 ^ 16 → to_be_bytes w32 (count * 65536 + used) ≡ counts_bytes count used
unfolding counts_bytes
counts_as_one count used few small =
    let a : (count * 65536 + used) / 16777216 % 256 ≡ count / 256 % 256 = omega arith in
    let b : (count * 65536 + used) / 65536 % 256 ≡ count % 256 = omega arith in
    let d : (count * 65536 + used) / 256 % 256 ≡ used / 256 % 256 = omega arith in
    let e : (count * 65536 + used) % 256 ≡ used % 256 = omega arith in
    λ i. a i ∷ b i ∷ d i ∷ e i ∷ []
