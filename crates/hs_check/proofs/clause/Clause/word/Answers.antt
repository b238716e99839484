use Rattle.std.proofs.Common.{◌≡◌, List, ℕ, refl, sym, ap, ◌∙◌}
use Rattle.hs_check.proofs.Prelude.{number_of, Clause}
use Rattle.std.specs.Fmt.{digits}
use Rattle.hs_check.specs.Clauses.{clause_word}
use Rattle.hs_check.specs.declared.clause.Clause.TheVariants.{L1, L2, L3, L4, L5, L6, L7, L8, L9, L10, L11}
use Rattle.hs_check.proofs.clause.Clause.word.Goals as goal

-- the word of the clause that it is
of_clause : (text : List ℕ) (clause known : Clause) → clause ≡ known → text ≡ clause_word (number_of known) → text ≡ clause_word (number_of clause)
of_clause text clause known is word = word ∙ sym (ap (λ c. clause_word (number_of c)) is)

pub returns-in-L1 : goal.returns-in-L1
unfolding digits
returns-in-L1 c = of_clause _ c.args.self L1 c.in-L1.is refl

pub returns-in-L2 : goal.returns-in-L2
unfolding digits
returns-in-L2 c = of_clause _ c.args.self L2 c.in-L2.is refl

pub returns-in-L3 : goal.returns-in-L3
unfolding digits
returns-in-L3 c = of_clause _ c.args.self L3 c.in-L3.is refl

pub returns-in-L4 : goal.returns-in-L4
unfolding digits
returns-in-L4 c = of_clause _ c.args.self L4 c.in-L4.is refl

pub returns-in-L5 : goal.returns-in-L5
unfolding digits
returns-in-L5 c = of_clause _ c.args.self L5 c.in-L5.is refl

pub returns-in-L6 : goal.returns-in-L6
unfolding digits
returns-in-L6 c = of_clause _ c.args.self L6 c.in-L6.is refl

pub returns-in-L7 : goal.returns-in-L7
unfolding digits
returns-in-L7 c = of_clause _ c.args.self L7 c.in-L7.is refl

pub returns-in-L8 : goal.returns-in-L8
unfolding digits
returns-in-L8 c = of_clause _ c.args.self L8 c.in-L8.is refl

pub returns-in-L9 : goal.returns-in-L9
unfolding digits
returns-in-L9 c = of_clause _ c.args.self L9 c.in-L9.is refl

pub returns-in-L10 : goal.returns-in-L10
unfolding digits
returns-in-L10 c = of_clause _ c.args.self L10 c.in-L10.is refl

pub returns-in-L11 : goal.returns-in-L11
unfolding digits
returns-in-L11 c = of_clause _ c.args.self L11 c.in-L11.is refl
