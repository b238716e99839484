use Rattle.std.proofs.Common.{◌≡◌, List, ◌++◌, ap, ◌∙◌}
use Rattle.hs_check_follow.proofs.Prelude.{PlainClientBook, Draw}
use Rattle.hs_records.specs.Books.{client_book_of}
use Rattle.hs_check_follow.proofs.client.book_of.Goals as goal

pub returns : goal.returns
returns c =
    let noted : PlainClientBook = client_book_of c.finish-noted.result in
    let copied : c.append_slice.new.self.items ≡ c.args.draws.now = c.in_ok-append_slice.ensures.ok ∙ ap (λ (l : List Draw). l ++ c.args.draws.now) c.new-draws_noted.ensures.items in
    (noted, c.finish-noted.ensures, ap (λ (d : List Draw). record { client = noted.client; draws = d; pages = noted.pages }) copied)
