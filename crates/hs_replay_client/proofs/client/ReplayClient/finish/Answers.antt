use Rattle.std.proofs.Common.{length, sym, subst}
use Rattle.hs_replay_client.proofs.Prelude.{PlainReplayClient, replay_client_in, IsDone, ReplayClientIsAt}
use Rattle.hs_records.specs.Books.{client_book_of}
use Rattle.hs_replay_client.proofs.Finishing.{is_closed, keeps_book, noted}
use Rattle.hs_replay_client.proofs.client.ReplayClient.finish.Goals as goal

pub finish-requires-clause-closed : goal.finish-requires-clause-closed
finish-requires-clause-closed c = is_closed (replay_client_in c.self.inside) (subst IsDone (sym c.self.view_is) c.requires)

pub finish-requires-clause-keeps : goal.finish-requires-clause-keeps
finish-requires-clause-keeps c = keeps_book (replay_client_in c.self.inside) (subst IsDone (sym c.self.view_is) c.requires)

pub returns : goal.returns
returns c = λ settings client ops drawn k l m at.
    noted c.any_steps_make_the_book.ensures settings client ops drawn k l m (replay_client_in c.self.inside)
    (subst (λ (p : PlainReplayClient). ReplayClientIsAt settings client ops drawn (length ops) k l m p) (sym c.self.view_is) at) (client_book_of c.finish.result) c.finish.ensures.client c.finish.ensures.draws c.finish.ensures.pages
