-- What the reader makes of a text that it took is a valid workload, and the text is that workload's.
use Rattle.std.proofs.Common.{◌≡◌, ℕ, true, List, [], ◌∷◌, ◌++◌, length, map, None, refl, sym, ap, subst, ◌∙◌, arith}
use Rattle.hs_workload.proofs.Prelude.{Within, first_fault_in, judging, first_fault, PlainWorkload, Setting, all_settings, setting_in, setting_of, least, most, Put, Declare, statement_line, auto_statements, client_statements, workload_statements, IsValid, Reads, Draft, closed, workload_drafted}
use Rattle.hs_text.specs.Text.{text_of}
use Rattle.hs_text.specs.JudgingLaws.{Makes, faultless_made}
use Rattle.hs_records.specs.declared.setting.Setting.TheVariants as settings
use Rattle.hs_workload.proofs.Keeps.{setting_at, nine_places, puts, ending, behind_head, draft_statements, version_in, Keeps, headed}
use Rattle.hs_workload.proofs.Kept.{clients_closed, pieces_closed}
use Rattle.hs_workload.proofs.Seen.{workload_reader}

setting_drafted : (d : Draft) (s : Setting) → setting_of (workload_drafted d) s ≡ setting_in d.head s
setting_drafted d settings.Version = refl
setting_drafted d settings.Nodes = refl
setting_drafted d settings.Clients = refl
setting_drafted d settings.Buffers = refl
setting_drafted d settings.Size = refl
setting_drafted d settings.Threshold = refl
setting_drafted d settings.Traces = refl
setting_drafted d settings.Pins = refl
setting_drafted d settings.Stride = refl

pub drafted_valid : (d : Draft) → Keeps d → d.is_done ≡ true → IsValid (workload_drafted d)
drafted_valid d keeps done =
    let ended = keeps.ended done in
    let head = headed d keeps ended.2 in
    let begun = keeps.begun in
    let within = keeps.within in
    let all = ended.1 in
    let pieces = pieces_closed d keeps in
    let few = keeps.few in
    record {
      head = λ s. subst (λ (n : ℕ). Within (least s) (most s) n) (sym (setting_drafted d s)) (keeps.least s (let nine = nine_places s in omega (arith, nine, head)), keeps.most s);
      rules = keeps.rules;
      autos = keeps.autos;
      count = omega (arith, begun, within, all);
      each = clients_closed d keeps ended.0;
      few = omega (arith, pieces, few);
    }

nine : (ns : List ℕ) → length ns ≡ 9 → puts 0 ns ≡ map (λ setting. Put setting (setting_in ns setting)) all_settings
unfolding setting_at
nine [] e = absurd (omega (arith, e))
nine (a ∷ []) e = absurd (omega (arith, e))
nine (a ∷ b ∷ []) e = absurd (omega (arith, e))
nine (a ∷ b ∷ c ∷ []) e = absurd (omega (arith, e))
nine (a ∷ b ∷ c ∷ d ∷ []) e = absurd (omega (arith, e))
nine (a ∷ b ∷ c ∷ d ∷ f ∷ []) e = absurd (omega (arith, e))
nine (a ∷ b ∷ c ∷ d ∷ f ∷ g ∷ []) e = absurd (omega (arith, e))
nine (a ∷ b ∷ c ∷ d ∷ f ∷ g ∷ h ∷ []) e = absurd (omega (arith, e))
nine (a ∷ b ∷ c ∷ d ∷ f ∷ g ∷ h ∷ i ∷ []) e = absurd (omega (arith, e))
nine (a ∷ b ∷ c ∷ d ∷ f ∷ g ∷ h ∷ i ∷ j ∷ []) e = refl
nine (a ∷ b ∷ c ∷ d ∷ f ∷ g ∷ h ∷ i ∷ j ∷ k ∷ ns) e = absurd (omega (arith, e))

pub drafted_statements : (d : Draft) → length d.head ≡ 9 → d.is_done ≡ true → draft_statements d ≡ workload_statements (workload_drafted d)
drafted_statements d head done =
    ap (λ statements. statements ++ behind_head d) (nine d.head head)
    ∙ ap (λ done. map (λ setting. Put setting (setting_in d.head setting)) all_settings
    ++ (map Declare d.rules ++ (auto_statements 0 d.autos ++ (client_statements (setting_in d.head settings.Clients) 0 (closed d) ++ ending done)))) done

-- what the reader makes of a text is the workload of the text
pub made_reads : (text : List ℕ) (d : Draft) → Makes workload_reader text d → Reads text (workload_drafted d)
made_reads text d made =
    let keeps : Keeps d = made.sees.keeps in
    let ended = keeps.ended made.ended in
    record {
      valid = drafted_valid d keeps made.ended;
      spelled = made.spelled ∙ ap text_of (made.sees.lines ∙ ap (map (statement_line (version_in d))) (drafted_statements d (headed d keeps ended.2) made.ended));
    }

pub first_fault-judged : (text : List ℕ) → first_fault text ≡ first_fault_in judging text
unfolding first_fault
first_fault-judged text = refl

-- a text without a fault is a workload's
pub clean_reads : (text : List ℕ) → first_fault text ≡ None → (W : PlainWorkload) × Reads text W
clean_reads text e =
    let made = faultless_made workload_reader text (sym (first_fault-judged text) ∙ e) in
    (workload_drafted made.0, made_reads text made.0 made.1)
