-- The clauses of the lawful journal by their numbers, and the word that names each.
use Rattle.std.specs.Prelude.{◌≡◌, ℕ, List, ◌++◌, codes, decimal, refl}
use Rattle.std.specs.Fmt.{digits}
use Rattle.hs_check.specs.declared.clause.Clause.{Clause}
use Rattle.hs_check.specs.declared.clause.Clause.TheVariants.{L1, L2, L3, L4, L5, L6, L7, L8, L9, L10, L11}

abbrev pub number_of : Clause → ℕ
number_of L1 = 1
number_of L2 = 2
number_of L3 = 3
number_of L4 = 4
number_of L5 = 5
number_of L6 = 6
number_of L7 = 7
number_of L8 = 8
number_of L9 = 9
number_of L10 = 10
number_of L11 = 11

-- the word of the clause with this number
abbrev pub clause_word : ℕ → List ℕ
clause_word number = codes "L" ++ decimal number

-- worked examples
words : (clause_word 1 ≡ codes "L1") × (clause_word 11 ≡ codes "L11")
unfolding digits
words = (refl, refl)
