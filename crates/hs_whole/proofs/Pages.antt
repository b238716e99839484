-- The order of pages.
use Rattle.std.proofs.Common.{◌≡◌, ◌⊎◌, inl, inr, ℕ, ◌<◌, ◌≤◌, Bool, true, false, ◌&&◌, ◌||◌, eqb-true, Option, Some, None, refl, sym, ap, arith, ◌∙◌}
use Rattle.std.specs.Prelude.{nat_lt, ◌==◌, if◌then◌else◌}
use Rattle.std.specs.Option.{option_map_or}
use Rattle.hs_whole.specs.declared.page.PageName.{PageName}
use Rattle.hs_whole.specs.Pages.{is_before, later_page}

-- page a is before page b, as numbers
abbrev pub Precedes : PageName → PageName → Type 0
Precedes a b = (a.core < b.core) ⊎ ((a.core ≡ b.core) × (a.page < b.page))

lt_true : (m n : ℕ) → nat_lt m n ≡ true → m < n
lt_true m n is = grind (arith, is)

lt_is : (m n : ℕ) → m < n → nat_lt m n ≡ true
lt_is m n is = grind (arith, is)

lt_false : (m n : ℕ) → nat_lt m n ≡ false → n ≤ m
lt_false m n is = grind (arith, is)

eq_is : (m n : ℕ) → m ≡ n → (m == n) ≡ true
eq_is m n is = grind (arith, is)

eq_false : (m n : ℕ) → (m == n) ≡ false → m ≡ n → ⊥
eq_false m n off is = let on = eq_is m n is in let never : true ≡ false = sym on ∙ off in absurd cc

pub precedes : (a b : PageName) → is_before a b ≡ true → Precedes a b
precedes a b is = at (nat_lt a.core b.core) (a.core == b.core) refl refl is
  where
    at : (c e : Bool) → nat_lt a.core b.core ≡ c → (a.core == b.core) ≡ e → (c || (e && nat_lt a.page b.page)) ≡ true → Precedes a b
    at true e low same is = inl (lt_true a.core b.core low)
    at false true low same is = inr (eqb-true a.core b.core same, lt_true a.page b.page is)
    at false false low same is = absurd cc

pub before_is : (a b : PageName) → Precedes a b → is_before a b ≡ true
before_is a b (inl low) = ap (λ c. c || ((a.core == b.core) && nat_lt a.page b.page)) (lt_is a.core b.core low)
before_is a b (inr (same, low)) = at (nat_lt a.core b.core)
  where
    at : (c : Bool) → (c || ((a.core == b.core) && nat_lt a.page b.page)) ≡ true
    at true = refl
    at false = ap (λ e. e && nat_lt a.page b.page) (eq_is a.core b.core same) ∙ lt_is a.page b.page low

-- a page that is not before b is b or behind it
follows : (a b : PageName) → is_before a b ≡ false → (b.core < a.core) ⊎ ((b.core ≡ a.core) × (b.page ≤ a.page))
follows a b is = at (nat_lt a.core b.core) (a.core == b.core) refl refl is
  where
    at : (c e : Bool) → nat_lt a.core b.core ≡ c → (a.core == b.core) ≡ e → (c || (e && nat_lt a.page b.page)) ≡ false → (b.core < a.core) ⊎ ((b.core ≡ a.core) × (b.page ≤ a.page))
    at true e low same is = absurd cc
    at false true low same is = inr (sym (eqb-true a.core b.core same), lt_false a.page b.page is)
    at false false low same is = let not_below = lt_false a.core b.core low in let apart = eq_false a.core b.core same in inl (omega (arith, not_below, apart))

-- a before b, and c not before b
pub before_on : (a b c : PageName) → is_before a b ≡ true → is_before c b ≡ false → is_before a c ≡ true
before_on a b c one two = before_is a c (at (precedes a b one) (follows c b two))
  where
    at : Precedes a b → (b.core < c.core) ⊎ ((b.core ≡ c.core) × (b.page ≤ c.page)) → Precedes a c
    at (inl low) (inl up) = inl (omega (arith, low, up))
    at (inl low) (inr (same, up)) = inl (omega (arith, low, same))
    at (inr (same, low)) (inl up) = inl (omega (arith, same, up))
    at (inr (same, low)) (inr (same', up)) = inr (same ∙ same', omega (arith, low, up))

-- a not behind b, and b before c
pub not_behind : (a b c : PageName) → is_before b a ≡ false → is_before b c ≡ true → is_before a c ≡ true
not_behind a b c one two = before_is a c (at (follows b a one) (precedes b c two))
  where
    at : (a.core < b.core) ⊎ ((a.core ≡ b.core) × (a.page ≤ b.page)) → Precedes b c → Precedes a c
    at (inl low) (inl up) = inl (omega (arith, low, up))
    at (inl low) (inr (same, up)) = inl (omega (arith, low, same))
    at (inr (same, low)) (inl up) = inl (omega (arith, same, up))
    at (inr (same, low)) (inr (same', up)) = inr (same ∙ same', omega (arith, low, up))

pub before_both : (a b c : PageName) → is_before a b ≡ true → is_before b c ≡ true → is_before a c ≡ true
before_both a b c one two = before_is a c (at (precedes a b one) (precedes b c two))
  where
    at : Precedes a b → Precedes b c → Precedes a c
    at (inl low) (inl up) = inl (omega (arith, low, up))
    at (inl low) (inr (same, up)) = inl (omega (arith, low, same))
    at (inr (same, low)) (inl up) = inl (omega (arith, same, up))
    at (inr (same, low)) (inr (same', up)) = inr (same ∙ same', omega (arith, low, up))

-- what is behind the later of two pages is behind both
pub behind_later : (before : Option PageName) (page end : PageName) → is_before (later_page before page) end ≡ true → (is_before page end ≡ true) × (option_map_or (λ one. is_before one end) before true ≡ true)
behind_later None page end is = (is, refl)
behind_later (Some one) page end is = at (is_before one page) refl is
  where
    at : (b : Bool) → is_before one page ≡ b → is_before (if b then page else one) end ≡ true → (is_before page end ≡ true) × (is_before one end ≡ true)
    at true earlier is = (is, before_both one page end earlier is)
    at false earlier is = (not_behind page one end earlier is, is)
