use Rattle.std.proofs.Common.{◌≡◌, ℕ, ◌++◌, length, map}
use Rattle.hs_replay.proofs.Prelude.{range_with_len, client_book_of, Machine, PlainWorkload, HaveEnded, client_noted}
use Rattle.hs_replay.proofs.finishing.note_players.Given as goal

abbrev pub invariant-loop-player : goal.invariant-loop-player
invariant-loop-player l =
    (goal.iterator-loop-player).can_next l.player-iterator ×
    (goal.iterator-loop-player).is_finite l.player-iterator ×
    ((W : PlainWorkload) (m : Machine) (n : ℕ) → HaveEnded W m n l.fn.players.items
    → map client_book_of l.clients.items ≡ map client_book_of l.initial.clients.items ++ map (client_noted W m n) (range_with_len 0 (length l.yielded)))
