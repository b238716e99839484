use Rattle.std.proofs.Common.{◌≡◌, ◌∙◌, Some, None, map, string_bytes, refl, sym, inl, inr}
use Rattle.hs_cli.specs.Commands.{command_in, unwatched_in}
use Rattle.hs_cli.specs.declared.command.Command.TheVariants.{Watch}
use Rattle.hs_workload.specs.declared.status.Status.TheVariants.{Done, Usage, Refused, TooLong, Unlawful}
use Rattle.hs_cli.proofs.Clauses.{all_ends, wrote_done, wrote_usage, wrote_refused, wrote_unlawful, wrote_too_long, wrote_front, failed_reading, watch_reads, same_wrote, same_front, same_reading, same_untouched}
use Rattle.hs_cli.proofs.Completion.{completed}
use Rattle.hs_cli.proofs.Unwatching.{asked_to_watch, same_unwatched}
use Rattle.hs_cli.proofs.top.hindsight.Goals as goal

-- ---- `run --watch`

pub returns-in-Ok-true-clause-done : goal.returns-in-Ok-true-clause-done
returns-in-Ok-true-clause-done g c = wrote_done (command_in (map (λ word. string_bytes word) c.args.words.now)) (asked_to_watch (command_in (map (λ word. string_bytes word) c.args.words.now)) (sym c.in-Ok-true.ensures ∙ c.in-Ok-true.field-0-test)) _ _ _ _ _ _ _ _ c.watch.result c.watch.ensures

pub returns-in-Ok-true-clause-usage : goal.returns-in-Ok-true-clause-usage
returns-in-Ok-true-clause-usage g c = wrote_usage (command_in (map (λ word. string_bytes word) c.args.words.now)) (asked_to_watch (command_in (map (λ word. string_bytes word) c.args.words.now)) (sym c.in-Ok-true.ensures ∙ c.in-Ok-true.field-0-test)) _ _ _ _ _ _ _ _ c.watch.result c.watch.ensures

pub returns-in-Ok-true-clause-refused : goal.returns-in-Ok-true-clause-refused
returns-in-Ok-true-clause-refused g c = wrote_refused (command_in (map (λ word. string_bytes word) c.args.words.now)) (asked_to_watch (command_in (map (λ word. string_bytes word) c.args.words.now)) (sym c.in-Ok-true.ensures ∙ c.in-Ok-true.field-0-test)) _ _ _ _ _ _ _ _ c.watch.result c.watch.ensures

pub returns-in-Ok-true-clause-unlawful : goal.returns-in-Ok-true-clause-unlawful
returns-in-Ok-true-clause-unlawful g c = wrote_unlawful (command_in (map (λ word. string_bytes word) c.args.words.now)) (asked_to_watch (command_in (map (λ word. string_bytes word) c.args.words.now)) (sym c.in-Ok-true.ensures ∙ c.in-Ok-true.field-0-test)) _ _ _ _ _ _ _ _ c.watch.result c.watch.ensures

pub returns-in-Ok-true-clause-too_long : goal.returns-in-Ok-true-clause-too_long
returns-in-Ok-true-clause-too_long g c = wrote_too_long (command_in (map (λ word. string_bytes word) c.args.words.now)) (asked_to_watch (command_in (map (λ word. string_bytes word) c.args.words.now)) (sym c.in-Ok-true.ensures ∙ c.in-Ok-true.field-0-test)) _ _ _ _ _ _ _ _ c.watch.result c.watch.ensures

pub returns-in-Ok-true-clause-read_fault : goal.returns-in-Ok-true-clause-read_fault
returns-in-Ok-true-clause-read_fault g c = failed_reading (command_in (map (λ word. string_bytes word) c.args.words.now)) (asked_to_watch (command_in (map (λ word. string_bytes word) c.args.words.now)) (sym c.in-Ok-true.ensures ∙ c.in-Ok-true.field-0-test)) _ _ _ _ _ _ _ _ c.watch.result c.watch.ensures

pub returns-in-Ok-true-clause-write_fault_writes : goal.returns-in-Ok-true-clause-write_fault_writes
returns-in-Ok-true-clause-write_fault_writes g c = wrote_front (command_in (map (λ word. string_bytes word) c.args.words.now)) (asked_to_watch (command_in (map (λ word. string_bytes word) c.args.words.now)) (sym c.in-Ok-true.ensures ∙ c.in-Ok-true.field-0-test)) _ _ _ _ _ _ _ _ c.watch.result c.watch.ensures

pub returns-in-Ok-true-clause-no_command : goal.returns-in-Ok-true-clause-no_command
returns-in-Ok-true-clause-no_command g c none = let both : Some Watch ≡ None = sym (asked_to_watch (command_in (map (λ word. string_bytes word) c.args.words.now)) (sym c.in-Ok-true.ensures ∙ c.in-Ok-true.field-0-test)) ∙ none in cc

pub returns-in-Ok-true-clause-untouched : goal.returns-in-Ok-true-clause-untouched
returns-in-Ok-true-clause-untouched g c = inl (watch_reads (command_in (map (λ word. string_bytes word) c.args.words.now)) (asked_to_watch (command_in (map (λ word. string_bytes word) c.args.words.now)) (sym c.in-Ok-true.ensures ∙ c.in-Ok-true.field-0-test)))

pub returns-in-Ok-true-clause-complete : goal.returns-in-Ok-true-clause-complete
returns-in-Ok-true-clause-complete g c command W journal status is will comes steady still =
    completed c.one_workload_a_text.ensures.once c.texts_have_one_journal.ensures _ _ (command_in (map (λ word. string_bytes word) c.args.words.now)) _ _ _ _ _ _ command W journal status is will comes steady still c.watch.result
    (all_ends (command_in (map (λ word. string_bytes word) c.args.words.now)) (asked_to_watch (command_in (map (λ word. string_bytes word) c.args.words.now)) (sym c.in-Ok-true.ensures ∙ c.in-Ok-true.field-0-test)) _ _ _ _ _ _ _ _ c.watch.result c.watch.ensures)

-- ---- all other words

pub returns-in-Ok-false-clause-done : goal.returns-in-Ok-false-clause-done
returns-in-Ok-false-clause-done g c it = same_wrote (unwatched_in (map (λ word. string_bytes word) c.args.words.now)) (command_in (map (λ word. string_bytes word) c.args.words.now)) (same_unwatched (command_in (map (λ word. string_bytes word) c.args.words.now)) (sym c.in-Ok-false.ensures ∙ c.in-Ok-false.field-0-test)) _ _ _ _ Done (c.hindsight_unwatched.ensures.done it)

pub returns-in-Ok-false-clause-usage : goal.returns-in-Ok-false-clause-usage
returns-in-Ok-false-clause-usage g c it = same_wrote (unwatched_in (map (λ word. string_bytes word) c.args.words.now)) (command_in (map (λ word. string_bytes word) c.args.words.now)) (same_unwatched (command_in (map (λ word. string_bytes word) c.args.words.now)) (sym c.in-Ok-false.ensures ∙ c.in-Ok-false.field-0-test)) _ _ _ _ Usage (c.hindsight_unwatched.ensures.usage it)

pub returns-in-Ok-false-clause-refused : goal.returns-in-Ok-false-clause-refused
returns-in-Ok-false-clause-refused g c it = same_wrote (unwatched_in (map (λ word. string_bytes word) c.args.words.now)) (command_in (map (λ word. string_bytes word) c.args.words.now)) (same_unwatched (command_in (map (λ word. string_bytes word) c.args.words.now)) (sym c.in-Ok-false.ensures ∙ c.in-Ok-false.field-0-test)) _ _ _ _ Refused (c.hindsight_unwatched.ensures.refused it)

pub returns-in-Ok-false-clause-unlawful : goal.returns-in-Ok-false-clause-unlawful
returns-in-Ok-false-clause-unlawful g c it = same_wrote (unwatched_in (map (λ word. string_bytes word) c.args.words.now)) (command_in (map (λ word. string_bytes word) c.args.words.now)) (same_unwatched (command_in (map (λ word. string_bytes word) c.args.words.now)) (sym c.in-Ok-false.ensures ∙ c.in-Ok-false.field-0-test)) _ _ _ _ Unlawful (c.hindsight_unwatched.ensures.unlawful it)

pub returns-in-Ok-false-clause-too_long : goal.returns-in-Ok-false-clause-too_long
returns-in-Ok-false-clause-too_long g c it = same_wrote (unwatched_in (map (λ word. string_bytes word) c.args.words.now)) (command_in (map (λ word. string_bytes word) c.args.words.now)) (same_unwatched (command_in (map (λ word. string_bytes word) c.args.words.now)) (sym c.in-Ok-false.ensures ∙ c.in-Ok-false.field-0-test)) _ _ _ _ TooLong (c.hindsight_unwatched.ensures.too_long it)

pub returns-in-Ok-false-clause-no_command : goal.returns-in-Ok-false-clause-no_command
returns-in-Ok-false-clause-no_command g c none = c.hindsight_unwatched.ensures.no_command ((same_unwatched (command_in (map (λ word. string_bytes word) c.args.words.now)) (sym c.in-Ok-false.ensures ∙ c.in-Ok-false.field-0-test)) ∙ none)

pub returns-in-Ok-false-clause-read_fault : goal.returns-in-Ok-false-clause-read_fault
returns-in-Ok-false-clause-read_fault g c it = let (reading, rose) = c.hindsight_unwatched.ensures.read_fault it in (same_reading (unwatched_in (map (λ word. string_bytes word) c.args.words.now)) (command_in (map (λ word. string_bytes word) c.args.words.now)) (same_unwatched (command_in (map (λ word. string_bytes word) c.args.words.now)) (sym c.in-Ok-false.ensures ∙ c.in-Ok-false.field-0-test)) reading, rose)

pub returns-in-Ok-false-clause-write_fault_writes : goal.returns-in-Ok-false-clause-write_fault_writes
returns-in-Ok-false-clause-write_fault_writes g c it = same_front (unwatched_in (map (λ word. string_bytes word) c.args.words.now)) (command_in (map (λ word. string_bytes word) c.args.words.now)) (same_unwatched (command_in (map (λ word. string_bytes word) c.args.words.now)) (sym c.in-Ok-false.ensures ∙ c.in-Ok-false.field-0-test)) _ _ _ _ (c.hindsight_unwatched.ensures.write_fault_writes it)

pub returns-in-Ok-false-clause-untouched : goal.returns-in-Ok-false-clause-untouched
returns-in-Ok-false-clause-untouched g c = same_untouched (unwatched_in (map (λ word. string_bytes word) c.args.words.now)) (command_in (map (λ word. string_bytes word) c.args.words.now)) (same_unwatched (command_in (map (λ word. string_bytes word) c.args.words.now)) (sym c.in-Ok-false.ensures ∙ c.in-Ok-false.field-0-test)) _ c.hindsight_unwatched.ensures.untouched

pub returns-in-Ok-false-clause-complete : goal.returns-in-Ok-false-clause-complete
returns-in-Ok-false-clause-complete g c command W journal status is will comes steady still =
    c.hindsight_unwatched.ensures.complete command W journal status ((same_unwatched (command_in (map (λ word. string_bytes word) c.args.words.now)) (sym c.in-Ok-false.ensures ∙ c.in-Ok-false.field-0-test)) ∙ is) will comes steady still

-- ---- no memory for the words

pub returns-in-Err-clause-complete : goal.returns-in-Err-clause-complete
returns-in-Err-clause-complete g c command W journal status is will comes steady still = inr refl
