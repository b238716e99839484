use Rattle.hs_words.specs.declared.page.PrefixFault.TheVariants.{Short, Empty, Torn}
use Rattle.hs_words.proofs.Showing.{gives_shown, short_shown, empty_shown, torn_shown, prefix_fault_of}
use Rattle.hs_words.proofs.prefix.read_prefix.Goals as goal

pub returns : goal.returns
returns c =
    let bytes = c.args.bytes.now in
    let r = c.find_shown.result in
    let found = c.find_shown.ensures in
    record {
      answers = found;
      page = gives_shown bytes r found;
      short = (prefix_fault_of bytes r Short found, short_shown bytes r found);
      empty = (prefix_fault_of bytes r Empty found, empty_shown bytes r found);
      torn = (prefix_fault_of bytes r Torn found, torn_shown bytes r found);
    }
