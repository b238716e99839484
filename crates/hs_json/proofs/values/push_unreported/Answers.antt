use Rattle.std.proofs.Common.{◌≡◌, ◌++◌, ◌∷◌, [], false, not, cond, map, sym, ap, ◌∙◌, subst, rules}
use Rattle.hs_report.specs.OutcomeText.{gap_json}
use Rattle.hs_json.specs.Spelling.{SpellEach}
use Rattle.hs_json.proofs.Spelled.{spell_push}
use Rattle.hs_json.proofs.values.push_unreported.Goals as goal

pub returns : goal.returns
returns c = λ texts all.
    let lost : c.is_reported.result ≡ false = search rules in
    subst (λ gaps. SpellEach c.push.new.self.items (texts ++ map (gap_json c.args.version) gaps)) (ap (λ t. cond (not t) (c.args.entry.now ∷ []) []) (sym lost ∙ c.is_reported.ensures))
    (spell_push c.args.values.now.items c.push.new.self.items _ texts _ all c.in_ok-gap_value.ensures c.in_ok-push.ensures.items)
