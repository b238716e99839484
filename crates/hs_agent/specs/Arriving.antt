-- What becomes of what is kept when a chunk comes. It is noted. A chunk of a trace that nobody claimed
-- is indexed, and then what is too much goes.
use Rattle.std.specs.Prelude.{[], ◌∷◌, ◌++◌, map, None}
use Rattle.hs_words.specs.declared.page.Header.{Header}
use Rattle.hs_index.specs.Index as index
use Rattle.hs_agent.specs.Placing.{Placed}
use Rattle.hs_agent.specs.Keeping.{Kept}
use Rattle.hs_agent.specs.LettingGo.{let_go_all, evicted_going}

-- a chunk with a page of this header was taken, last of all
abbrev pub noted : {L : Type 0} → Header → Kept L → Kept L
noted header kept =
    record kept {
      standings = kept.standings ++ record { client = header.client; page = header.page; left = None } ∷ [];
    }

abbrev pub indexed : {L : Type 0} → Placed L → Kept L → Kept L
indexed placed kept = let_go_all (record kept { index = index.settled (index.arrived kept.index placed) }) (map evicted_going (index.going (index.arrived kept.index placed)))
