use Rattle.std.proofs.Common.{◌≡◌, ◌∙◌, map, string_bytes, Some, [], true, refl, ap, ap₂, sym}
use Rattle.std.specs.Option.{option_map, option_and_then}
use Rattle.clap.specs.Words.{Kinds, fault_of, found_of, is_simple, is_simple_and_free, matches_of, rows_of}
use Rattle.clap.proofs.OnLiterals.{clap_on_literals}
use Rattle.hs_cli.specs.Commands.{parser, command_by, command_of, line_in, line_of, named}
use Rattle.hs_cli.proofs.command.command_in.Goals as goal

simple : is_simple parser ≡ true
unfolding clap_on_literals
simple = refl

free : is_simple_and_free parser ≡ true
unfolding clap_on_literals
free = refl

pub returns-in-Some : goal.returns-in-Some
returns-in-Some c =
    let words = map (λ word. string_bytes word) c.args.words.now in
    let parser_is = c.in_ok-parser.ensures in
    let texts_are : map (λ word. word.now) c.as_slice.result.now ≡ named words = ap (map (λ word. word.now)) c.as_slice.ensures.value ∙ c.in_ok-named.ensures in
    let none : fault_of parser (named words) ≡ [] = sym (ap₂ fault_of parser_is texts_are) ∙ c.in-Ok.ensures.kinds (ap is_simple_and_free parser_is ∙ free) in
    let rows : rows_of (found_of c.in-Ok.matches) ≡ matches_of parser (named words) =
    (c.in-Ok.ensures.matches (ap is_simple parser_is ∙ simple)).0 ∙ ap₂ matches_of parser_is texts_are in
    let line : Some (line_in c.in-Some.line) ≡ line_of (matches_of parser (named words)) = ap (option_map line_in) (sym c.in-Some.is) ∙ c.line_in.ensures ∙ ap line_of rows in
    record {
      is = c.command.ensures.is ∙ ap (option_and_then command_of) line ∙ ap (λ (kinds : Kinds). command_by kinds (matches_of parser (named words))) (sym none);
      sized = c.command.ensures.sized;
    }
