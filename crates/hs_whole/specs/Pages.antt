-- The pages of a client in the order in which it writes them: by the number of the core, and in a core by their own number.
use Rattle.std.specs.Prelude.{◌≡◌, ℕ, Bool, true, false, ◌&&◌, ◌||◌, ◌==◌, nat_lt, Option, Some, None, if◌then◌else◌, refl}
use Rattle.std.specs.Option.{option_map_or}
use Rattle.hs_whole.specs.declared.page.PageName.{PageName}

abbrev pub first_page : PageName
first_page = record { core = 0; page = 0 }

abbrev pub is_before : PageName → PageName → Bool
is_before a b = nat_lt a.core b.core || (a.core == b.core && nat_lt a.page b.page)

-- the later of two pages, where there is a first one
abbrev pub later_page : Option PageName → PageName → PageName
later_page before page = option_map_or (λ one. if is_before one page then page else one) before page

-- ---- worked examples

-- page 3 of core 0, and others
abbrev pub p : ℕ → ℕ → PageName
p core page = record { core = core; page = page }

by_number : (is_before (p 0 3) (p 0 4) ≡ true) × (is_before (p 0 3) (p 0 3) ≡ false) × (is_before (p 0 4) (p 0 3) ≡ false)
by_number = (refl, refl, refl)

-- a later core's page 0 comes behind each page of an earlier core
by_core : (is_before (p 0 3) (p 1 0) ≡ true) × (is_before (p 1 0) (p 0 3) ≡ false)
by_core = (refl, refl)

later : (later_page None (p 0 3) ≡ p 0 3) × (later_page (Some (p 0 3)) (p 0 5) ≡ p 0 5) × (later_page (Some (p 1 0)) (p 0 5) ≡ p 1 0)
later = (refl, refl, refl)
