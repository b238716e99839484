use Rattle.std.proofs.Common.{◌++◌, ◌∷◌, [], ℕ, List, map, decimal, ap, ◌∙◌}
use Rattle.hs_workload.proofs.Prelude.{line_written, spaced_more, spaced_one, trace_word, keyword_text}
use Rattle.hs_workload.specs.declared.word.Keyword.TheVariants.{Trigger}
use Rattle.hs_workload.proofs.writer.push_trigger.Goals as goal

pub returns : goal.returns
returns c =
    let trigger = c.args.trigger.now in
    let moment : List ℕ = decimal trigger.moment in
    let id : List ℕ = decimal trigger.trigger.0 in
    let lead : List ℕ = trace_word c.args.version trigger.lead in
    let laterals : List (List ℕ) = map (trace_word c.args.version) trigger.laterals in
    let a : List ℕ = c.extend_from_slice.new.self.items in
    let b : List ℕ = c.push_spaced_number.new.out.items in
    let d : List ℕ = c.push_spaced_number-2.new.out.items in
    let e : List ℕ = c.push_spaced_trace.new.out.items in
    let f : List ℕ = c.push_laterals.new.out.items in
    let numbers = spaced_more a b d (moment ∷ []) (id ∷ []) (spaced_one a b moment c.in_ok-push_spaced_number.ensures) (spaced_one b d id (c.in_ok-push_spaced_number-2.ensures ∙ ap (λ (n : ℕ). b ++ 32 ∷ decimal n) c.from.ensures)) in
    let traces = spaced_more a d e (moment ∷ id ∷ []) (lead ∷ []) numbers (spaced_one d e lead c.in_ok-push_spaced_trace.ensures) in
    line_written c.args.out.now.items (keyword_text Trigger) (moment ∷ id ∷ lead ∷ laterals) a f _ (c.in_ok-extend_from_slice.ensures.items ∙ ap (λ word. c.args.out.now.items ++ word) c.text.ensures)
    (spaced_more a e f (moment ∷ id ∷ lead ∷ []) laterals traces c.in_ok-push_laterals.ensures) c.in_ok-end_line.ensures
