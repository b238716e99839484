use Rattle.std.proofs.Common.{◌++◌, ◌∷◌, [], ℕ, List, map, decimal, ap, ◌∙◌}
use Rattle.hs_workload.proofs.Prelude.{line_written, spaced_more, spaced_one, keyword_text, kind_text}
use Rattle.hs_workload.specs.declared.word.Keyword.TheVariants.{Auto}
use Rattle.hs_workload.proofs.writer.push_kind.Goals as goal

pub returns : goal.returns
returns c =
    let number : List ℕ = decimal c.args.number in
    let kind : List ℕ = kind_text c.args.kind in
    let numbers : List (List ℕ) = map decimal c.args.numbers.now in
    let a : List ℕ = c.extend_from_slice.new.self.items in
    let b : List ℕ = c.push_spaced_number.new.out.items in
    let d : List ℕ = c.push_spaced.new.out.items in
    let e : List ℕ = c.push_spaced_numbers.new.out.items in
    line_written c.args.out.now.items (keyword_text Auto) (number ∷ kind ∷ numbers) a e _ (c.in_ok-extend_from_slice.ensures.items ∙ ap (λ word. c.args.out.now.items ++ word) c.text.ensures)
    (spaced_more a d e (number ∷ kind ∷ []) numbers
    (spaced_more a b d (number ∷ []) (kind ∷ []) (spaced_one a b number c.in_ok-push_spaced_number.ensures)
    (spaced_one b d kind (c.in_ok-push_spaced.ensures ∙ ap (λ word. b ++ 32 ∷ word) c.text-2.ensures))) c.in_ok-push_spaced_numbers.ensures)
    c.in_ok-end_line.ensures
