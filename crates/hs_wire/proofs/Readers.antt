-- A reader reads a spelling where what it takes is spelled so, and what is spelled so is taken, whatever follows it. Readers that
-- are put together read what their spellings give, one behind the other.
use Rattle.std.proofs.Common.{◌≡◌, ℕ, suc, ◌^◌, ◌<◌, ◌≤◌, Bool, true, false, cond, eqb, ltb, List, [], ◌∷◌, ◌++◌, length, take, drop, Option, Some, None, refl, sym, ap, subst, ◌∙◌, append_assoc, arith}
use Rattle.hs_wire.proofs.Prelude.{w16, w32, w64, w128, to_be_bytes, eqb-true, take_at, drop_at, take-append-drop, length-append, length-take-le, IsBytes, AreBytes, Reader, both, making, only_if, by, all, number_at, byte_at, bytes_at}
use Rattle.std.specs.Int.{Width, byte_len, from_be_bytes}
use Rattle.std.proofs.lemmas.Bool.{ltb-false, le-ltb}
use Rattle.std.proofs.lemmas.List.{append-nil, nil_from_length}
use Rattle.std.proofs.lemmas.Nat.{from_be_bytes-to_be_bytes_2, from_be_bytes-to_be_bytes_4, from_be_bytes-to_be_bytes_8}
use Rattle.hs_words.proofs.Numbers.{IsBytes-all, IsBytes-take, IsBytes-behind, again_128, back_16, back_32, back_64, back_128}
use Rattle.hs_wire.specs.Reading.{◌>>=◌, behind}

-- what a reader took from the front
pub record Takes (bytes text rest : List ℕ) : Type 0 where
  pub parts : bytes ≡ text ++ rest
  pub rest_fits : IsBytes rest

pub record Reads (A : Type 0) (read : Reader A) (spell : A → List ℕ) (Fits : A → Type 0) : Type 0 where
  pub takes : (bytes : List ℕ) (x : A × List ℕ) → IsBytes bytes → read bytes ≡ Some x → Takes bytes (spell x.0) x.1 × Fits x.0
  pub again : (a : A) (rest : List ℕ) → Fits a → read (spell a ++ rest) ≡ Some (a, rest)

-- The reader for a number reads what has that number, as a list has its length.
pub record ReadsAt (A : Type 0) (index : A → ℕ) (read : ℕ → Reader A) (spell : A → List ℕ) (Fits : A → Type 0) : Type 0 where
  pub takes : (n : ℕ) (bytes : List ℕ) (x : A × List ℕ) → IsBytes bytes → read n bytes ≡ Some x → Takes bytes (spell x.0) x.1 × Fits x.0 × (index x.0 ≡ n)
  pub again : (a : A) (rest : List ℕ) → Fits a → read (index a) (spell a ++ rest) ≡ Some (a, rest)

-- ---- steps

abbrev some : {A : Type 0} → A → Option A
some x = Some x

pub some_is : {A : Type 0} (x y : A) → some x ≡ some y → x ≡ y
some_is x y e = cc

pub bind_some : {A B : Type 0} (r : Option A) (f : A → Option B) (y : B) → (r >>= f) ≡ Some y → (x : A) × (r ≡ Some x) × (f x ≡ Some y)
bind_some (Some x) f y e = (x, refl, e)
bind_some None f y e = absurd cc

pub bind_is : {A B : Type 0} (r : Option A) (f : A → Option B) (x : A) → r ≡ Some x → (r >>= f) ≡ f x
bind_is r f x e = ap (λ (o : Option _). o >>= f) e

-- a test that was passed, and one that was not
pub passed : {A : Type 0} (b : Bool) (x y : A) → cond b (Some x) None ≡ Some y → (b ≡ true) × (x ≡ y)
passed true x y e = (refl, cc)
passed false x y e = absurd cc

pub not_cut : {A : Type 0} (b : Bool) (x y : A) → cond b None (Some x) ≡ Some y → (b ≡ false) × (x ≡ y)
not_cut true x y e = absurd cc
not_cut false x y e = (refl, cc)

takes_both : (a x b y c : List ℕ) → Takes a x b → Takes b y c → Takes a (x ++ y) c
takes_both a x b y c p q = record { parts = p.parts ∙ ap (λ (t : List ℕ). x ++ t) q.parts ∙ sym (append_assoc x y c); rest_fits = q.rest_fits }

-- ---- readers that are put together

pub both_reads : (A B : Type 0) (r : Reader A) (s : A → List ℕ) (F : A → Type 0) (q : Reader B) (t : B → List ℕ) (G : B → Type 0) → Reads A r s F → Reads B q t G
    → Reads (A × B) (both r q) (λ x. s x.0 ++ t x.1) (λ x. F x.0 × G x.1)
both_reads A B r s F q t G first second =
    record {
      takes = λ bytes x fits e.
          let a = bind_some (r bytes) (λ (a : A × List ℕ). q a.1 >>= λ (b : B × List ℕ). Some ((a.0, b.0), b.1)) x e in
          let b = bind_some (q a.0.1) (λ (b : B × List ℕ). Some ((a.0.0, b.0), b.1)) x a.2 in
          let one = first.takes bytes a.0 fits a.1 in
          let two = second.takes a.0.1 b.0 one.0.rest_fits b.1 in
          let made : (A × B) × List ℕ = ((a.0.0, b.0.0), b.0.1) in
          subst (λ (y : (A × B) × List ℕ). Takes bytes (s y.0.0 ++ t y.0.1) y.1 × (F y.0.0 × G y.0.1)) (some_is made x b.2) (takes_both bytes (s a.0.0) a.0.1 (t b.0.0) b.0.1 one.0 two.0, (one.1, two.1));
      again = λ x rest fits.
          ap (both r q) (append_assoc (s x.0) (t x.1) rest)
          ∙ bind_is (r (s x.0 ++ (t x.1 ++ rest))) (λ (a : A × List ℕ). q a.1 >>= λ (b : B × List ℕ). Some ((a.0, b.0), b.1)) (x.0, t x.1 ++ rest) (first.again x.0 (t x.1 ++ rest) fits.0)
          ∙ bind_is (q (t x.1 ++ rest)) (λ (b : B × List ℕ). Some ((x.0, b.0), b.1)) (x.1, rest) (second.again x.1 rest fits.1);
    }

pub beside_reads : (A B : Type 0) (r : Reader A) (s : A → List ℕ) (F : A → Type 0) (index : B → ℕ) (q : ℕ → Reader B) (t : B → List ℕ) (G : B → Type 0) → Reads A r s F → ReadsAt B index q t G
    → ReadsAt (A × B) (λ x. index x.1) (λ n. both r (q n)) (λ x. s x.0 ++ t x.1) (λ x. F x.0 × G x.1)
beside_reads A B r s F index q t G first second =
    record {
      takes = λ n bytes x fits e.
          let a = bind_some (r bytes) (λ (a : A × List ℕ). q n a.1 >>= λ (b : B × List ℕ). Some ((a.0, b.0), b.1)) x e in
          let b = bind_some (q n a.0.1) (λ (b : B × List ℕ). Some ((a.0.0, b.0), b.1)) x a.2 in
          let one = first.takes bytes a.0 fits a.1 in
          let two = second.takes n a.0.1 b.0 one.0.rest_fits b.1 in
          let made : (A × B) × List ℕ = ((a.0.0, b.0.0), b.0.1) in
          subst (λ (y : (A × B) × List ℕ). Takes bytes (s y.0.0 ++ t y.0.1) y.1 × (F y.0.0 × G y.0.1) × (index y.0.1 ≡ n)) (some_is made x b.2) (takes_both bytes (s a.0.0) a.0.1 (t b.0.0) b.0.1 one.0 two.0, (one.1, two.1), two.2);
      again = λ x rest fits.
          ap (both r (q (index x.1))) (append_assoc (s x.0) (t x.1) rest)
          ∙ bind_is (r (s x.0 ++ (t x.1 ++ rest))) (λ (a : A × List ℕ). q (index x.1) a.1 >>= λ (b : B × List ℕ). Some ((a.0, b.0), b.1)) (x.0, t x.1 ++ rest) (first.again x.0 (t x.1 ++ rest) fits.0)
          ∙ bind_is (q (index x.1) (t x.1 ++ rest)) (λ (b : B × List ℕ). Some ((x.0, b.0), b.1)) (x.1, rest) (second.again x.1 rest fits.1);
    }

-- What is made of a thing has the thing as its part.
pub making_reads : (A B : Type 0) (make : A → B) (part : B → A) (r : Reader A) (s : A → List ℕ) (F : A → Type 0) (t : B → List ℕ) (G : B → Type 0) → Reads A r s F
    → ((a : A) → F a → G (make a)) → ((b : B) → G b → F (part b)) → ((a : A) → F a → t (make a) ≡ s a) → ((b : B) → G b → t b ≡ s (part b)) → ((b : B) → G b → make (part b) ≡ b)
    → Reads B (making make r) t G
making_reads A B make part r s F t G reads up down spelled spells made =
    record {
      takes = λ bytes x fits e.
          let a = bind_some (r bytes) (λ (a : A × List ℕ). Some (make a.0, a.1)) x e in
          let one = reads.takes bytes a.0 fits a.1 in
          let y : B × List ℕ = (make a.0.0, a.0.1) in
          subst (λ (y : B × List ℕ). Takes bytes (t y.0) y.1 × G y.0) (some_is y x a.2)
          (record { parts = one.0.parts ∙ ap (λ (text : List ℕ). text ++ a.0.1) (sym (spelled a.0.0 one.1)); rest_fits = one.0.rest_fits }, up a.0.0 one.1);
      again = λ b rest fits.
          ap (λ (text : List ℕ). making make r (text ++ rest)) (spells b fits)
          ∙ bind_is (r (s (part b) ++ rest)) (λ (a : A × List ℕ). Some (make a.0, a.1)) (part b, rest) (reads.again (part b) rest (down b fits))
          ∙ ap (λ (b : B). Some (b, rest)) (made b fits);
    }

pub only_if_reads : (A : Type 0) (test : A → Bool) (r : Reader A) (s : A → List ℕ) (F G : A → Type 0) → Reads A r s F → ((a : A) → test a ≡ true → G a) → ((a : A) → G a → test a ≡ true)
    → Reads A (only_if test r) s (λ a. F a × G a)
only_if_reads A test r s F G reads passes back =
    record {
      takes = λ bytes x fits e.
          let a = bind_some (r bytes) (λ (a : A × List ℕ). cond (test a.0) (Some a) None) x e in
          let p = passed (test a.0.0) a.0 x a.2 in
          let one = reads.takes bytes a.0 fits a.1 in
          subst (λ (y : A × List ℕ). Takes bytes (s y.0) y.1 × (F y.0 × G y.0)) p.1 (one.0, (one.1, passes a.0.0 p.0));
      again = λ a rest fits.
          bind_is (r (s a ++ rest)) (λ (a : A × List ℕ). cond (test a.0) (Some a) None) (a, rest) (reads.again a rest fits.0)
          ∙ ap (λ (b : Bool). cond b (Some (a, rest)) None) (back a fits.1);
    }

pub by_reads : (A : Type 0) (meaning : ℕ → Option A) (code : A → ℕ) (r : Reader ℕ) (s : ℕ → List ℕ) (F : ℕ → Type 0) → Reads ℕ r s F
    → ((n : ℕ) (a : A) → meaning n ≡ Some a → n ≡ code a) → ((a : A) → meaning (code a) ≡ Some a) → ((a : A) → F (code a)) → Reads A (by meaning r) (λ a. s (code a)) (λ a. Unit {0})
by_reads A meaning code r s F reads means back fit =
    record {
      takes = λ bytes x fits e.
          let n = bind_some (r bytes) (λ (n : ℕ × List ℕ). meaning n.0 >>= λ (a : A). Some (a, n.1)) x e in
          let a = bind_some (meaning n.0.0) (λ (a : A). Some (a, n.0.1)) x n.2 in
          let one = reads.takes bytes n.0 fits n.1 in
          let y : A × List ℕ = (a.0, n.0.1) in
          subst (λ (y : A × List ℕ). Takes bytes (s (code y.0)) y.1 × Unit {0}) (some_is y x a.2)
          (record { parts = one.0.parts ∙ ap (λ (k : ℕ). s k ++ n.0.1) (means n.0.0 a.0 a.1); rest_fits = one.0.rest_fits }, tt);
      again = λ a rest fits.
          bind_is (r (s (code a) ++ rest)) (λ (n : ℕ × List ℕ). meaning n.0 >>= λ (a : A). Some (a, n.1)) (code a, rest) (reads.again (code a) rest (fit a))
          ∙ bind_is (meaning (code a)) (λ (a : A). Some (a, rest)) a (back a);
    }

pub at_reads : (A : Type 0) (index : A → ℕ) (r : ℕ → Reader A) (s : A → List ℕ) (F : A → Type 0) (n : ℕ) → ReadsAt A index r s F → Reads A (r n) s (λ a. F a × (index a ≡ n))
at_reads A index r s F n reads =
    record {
      takes = λ bytes x fits e. let one = reads.takes n bytes x fits e in (one.0, (one.1, one.2));
      again = λ a rest fits. subst (λ (k : ℕ). r k (s a ++ rest) ≡ Some (a, rest)) fits.1 (reads.again a rest fits.0);
    }

pub behind_reads : (A : Type 0) (size : Reader ℕ) (s : ℕ → List ℕ) (F : ℕ → Type 0) (index : A → ℕ) (r : ℕ → Reader A) (t : A → List ℕ) (G : A → Type 0) → Reads ℕ size s F → ReadsAt A index r t G
    → Reads A (behind size r) (λ a. s (index a) ++ t a) (λ a. F (index a) × G a)
behind_reads A size s F index r t G sizes reads =
    record {
      takes = λ bytes x fits e.
          let n = bind_some (size bytes) (λ (n : ℕ × List ℕ). r n.0 n.1) x e in
          let one = sizes.takes bytes n.0 fits n.1 in
          let two = reads.takes n.0.0 n.0.1 x one.0.rest_fits n.2 in
          let text = takes_both bytes (s n.0.0) n.0.1 (t x.0) x.1 one.0 two.0 in
          subst (λ (k : ℕ). Takes bytes (s k ++ t x.0) x.1 × (F k × G x.0)) (sym two.2) (text, (one.1, two.1));
      again = λ a rest fits.
          ap (behind size r) (append_assoc (s (index a)) (t a) rest)
          ∙ bind_is (size (s (index a) ++ (t a ++ rest))) (λ (n : ℕ × List ℕ). r n.0 n.1) (index a, t a ++ rest) (sizes.again (index a) (t a ++ rest) fits.0)
          ∙ reads.again a rest fits.1;
    }

-- the same reader, where what has a spelling is said in other words
pub refits : (A : Type 0) (r : Reader A) (s : A → List ℕ) (F G : A → Type 0) → Reads A r s F → ((a : A) → F a → G a) → ((a : A) → G a → F a) → Reads A r s G
refits A r s F G reads up down =
    record { takes = λ bytes x fits e. let one = reads.takes bytes x fits e in (one.0, up x.0 one.1); again = λ a rest fits. reads.again a rest (down a fits) }

-- ---- all of the bytes

pub all_takes : (A : Type 0) (r : Reader A) (s : A → List ℕ) (F : A → Type 0) → Reads A r s F → (bytes : List ℕ) (a : A) → IsBytes bytes → all r bytes ≡ Some a → F a × (bytes ≡ s a)
all_takes A r s F reads bytes a fits e =
    let x = bind_some (r bytes) (λ (x : A × List ℕ). cond (eqb (length x.1) 0) (Some x.0) None) a e in
    let p = passed (eqb (length x.0.1) 0) x.0.0 a x.2 in
    let one = reads.takes bytes x.0 fits x.1 in
    let none : x.0.1 ≡ [] = nil_from_length x.0.1 (eqb-true _ _ p.0) in
    subst (λ (a : A). F a × (bytes ≡ s a)) p.1 (one.1, one.0.parts ∙ ap (λ (rest : List ℕ). s x.0.0 ++ rest) none ∙ append-nil (s x.0.0))

pub all_again : (A : Type 0) (r : Reader A) (s : A → List ℕ) (F : A → Type 0) → Reads A r s F → (a : A) → F a → all r (s a) ≡ Some a
all_again A r s F reads a fits =
    bind_is (r (s a)) (λ (x : A × List ℕ). cond (eqb (length x.1) 0) (Some x.0) None) (a, []) (ap r (sym (append-nil (s a))) ∙ reads.again a [] fits)

-- ---- numbers and bytes

pub byte_reads : Reads ℕ byte_at (λ n. n ∷ []) (λ n. n < 256)
byte_reads = record { takes = byte_takes; again = λ n rest fits. refl }
  where
    byte_takes : (bytes : List ℕ) (x : ℕ × List ℕ) → IsBytes bytes → byte_at bytes ≡ Some x → Takes bytes (x.0 ∷ []) x.1 × (x.0 < 256)
    byte_takes [] x fits e = absurd cc
    byte_takes (byte ∷ rest) x fits e =
        let y : ℕ × List ℕ = (byte, rest) in
        subst (λ (y : ℕ × List ℕ). Takes (byte ∷ rest) (y.0 ∷ []) y.1 × (y.0 < 256)) (some_is y x e) (record { parts = refl; rest_fits = λ i. fits (suc i) }, fits 0)

cut_takes : (n : ℕ) (bytes : List ℕ) → IsBytes bytes → n ≤ length bytes → Takes bytes (take n bytes) (drop n bytes)
cut_takes n bytes fits long =
    record { parts = sym (take-append-drop n bytes); rest_fits = IsBytes-behind (take n bytes) (drop n bytes) (subst IsBytes (sym (take-append-drop n bytes)) fits) }

pub bytes_read : ReadsAt (List ℕ) length bytes_at (λ xs. xs) AreBytes
bytes_read =
    record {
      takes = λ n bytes x fits e.
          let p = not_cut (ltb (length bytes) n) (take n bytes, drop n bytes) x e in
          let long : n ≤ length bytes = ltb-false _ _ p.0 in
          subst (λ (y : List ℕ × List ℕ). Takes bytes y.0 y.1 × AreBytes y.0 × (length y.0 ≡ n)) p.1
          (cut_takes n bytes fits long, IsBytes-all (take n bytes) (IsBytes-take n bytes fits), length-take-le n bytes long);
      again = λ xs rest fits.
          let long : ltb (length (xs ++ rest)) (length xs) ≡ false = le-ltb _ _ (omega (arith, length-append xs rest)) in
          rw (long, take_at xs rest (length xs) refl, drop_at xs rest (length xs) refl) refl;
    }

-- numbers of a width, and what they are below
record IsWide (w : Width) (limit : ℕ) : Type 0 where
  pub len : (n : ℕ) → length (to_be_bytes w n) ≡ byte_len w
  pub back : (bytes : List ℕ) → length bytes ≡ byte_len w → IsBytes bytes → to_be_bytes w (from_be_bytes w bytes) ≡ bytes
  pub again : (n : ℕ) → n < limit → from_be_bytes w (to_be_bytes w n) ≡ n
  pub below : (bytes : List ℕ) → IsBytes bytes → from_be_bytes w bytes < limit

number_reads : (w : Width) (limit : ℕ) → IsWide w limit → Reads ℕ (number_at w) (to_be_bytes w) (λ n. n < limit)
number_reads w limit wide =
    record {
      takes = λ bytes x fits e.
          let k = byte_len w in
          let p = not_cut (ltb (length bytes) k) (from_be_bytes w (take k bytes), drop k bytes) x e in
          let long : k ≤ length bytes = ltb-false _ _ p.0 in
          let front : to_be_bytes w (from_be_bytes w (take k bytes)) ≡ take k bytes = wide.back (take k bytes) (length-take-le k bytes long) (IsBytes-take k bytes fits) in
          subst (λ (y : ℕ × List ℕ). Takes bytes (to_be_bytes w y.0) y.1 × (y.0 < limit)) p.1
          (subst (λ (text : List ℕ). Takes bytes text (drop k bytes)) (sym front) (cut_takes k bytes fits long), wide.below (take k bytes) (IsBytes-take k bytes fits));
      again = λ n rest fits.
          let len = wide.len n in
          let long : ltb (length (to_be_bytes w n ++ rest)) (byte_len w) ≡ false = le-ltb _ _ (omega (arith, length-append (to_be_bytes w n) rest)) in
          rw (long, take_at (to_be_bytes w n) rest (byte_len w) len, drop_at (to_be_bytes w n) rest (byte_len w) len, wide.again n fits) refl;
    }

pub u16_reads : Reads ℕ (number_at w16) (to_be_bytes w16) (λ n. n < 2 ^ 16)
u16_reads = number_reads w16 (2 ^ 16) (record { len = λ n. refl; back = back_16; again = from_be_bytes-to_be_bytes_2; below = λ bytes fits. omega (arith, fits 0, fits 1) })

pub u32_reads : Reads ℕ (number_at w32) (to_be_bytes w32) (λ n. n < 2 ^ 32)
u32_reads =
    number_reads w32 (2 ^ 32)
    (record { len = λ n. refl; back = back_32; again = from_be_bytes-to_be_bytes_4; below = λ bytes fits. omega (arith, fits 0, fits 1, fits 2, fits 3) })

pub u64_reads : Reads ℕ (number_at w64) (to_be_bytes w64) (λ n. n < 2 ^ 64)
u64_reads =
    number_reads w64 (2 ^ 64)
    (record {
      len = λ n. refl;
      back = back_64;
      again = from_be_bytes-to_be_bytes_8;
      below = λ bytes fits. omega (arith, fits 0, fits 1, fits 2, fits 3, fits 4, fits 5, fits 6, fits 7);
    })

pub u128_reads : Reads ℕ (number_at w128) (to_be_bytes w128) (λ n. n < 2 ^ 128)
u128_reads =
    number_reads w128 (2 ^ 128)
    (record { len = λ n. refl; back = back_128; again = again_128; below = λ bytes fits. omega (arith, fits 0, fits 1, fits 2, fits 3, fits 4, fits 5, fits 6, fits 7, fits 8, fits 9, fits 10, fits 11, fits 12, fits 13, fits 14, fits 15) })
