use Rattle.hs_words.specs.declared.page.PageFault.TheVariants.{Short, Used, Count}
use Rattle.hs_words.proofs.Answering.{gives, short_comes, used_comes, count_comes, fault_of}
use Rattle.hs_words.proofs.reading.read_page.Goals as goal

pub returns : goal.returns
returns c =
    let bytes = c.args.bytes.now in
    let r = c.find_page.result in
    let found = c.find_page.ensures in
    record {
      answers = found;
      page = gives bytes r found;
      short = (fault_of bytes r Short found, short_comes bytes r found);
      used = (fault_of bytes r Used found, used_comes bytes r found);
      count = (fault_of bytes r Count found, count_comes bytes r found);
    }
