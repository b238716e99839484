-- What is kept at the beginning.
use Rattle.std.proofs.Common.{ℕ, Bool, false, [], None, refl, arith}
use Rattle.hs_agent.proofs.Prelude.{PlainSettings, Pinning, Remembers, Tagged, Kept, first_point, Holds}
use Rattle.hs_pins.specs.Remembered.{fresh}
use Rattle.hs_index.specs.Index.{new_index}
use Rattle.hs_agent.proofs.Indexing.{indexed-start}

module _ {L : Type 0} (settings : PlainSettings) (node : ℕ) (keeps : Bool) (pins : Pinning (Tagged L)) where
  -- nothing was taken
  abbrev pub nothing_kept : Kept L
  nothing_kept =
      record {
        node = node;
        index = new_index settings.threshold settings.traces;
        pins = pins;
        sent = [];
        hand = [];
        offered = None;
        lefts = [];
        again = false;
        standings = [];
        claims = [];
        pages = [];
        keeps = keeps;
      }

  pub holds-start : Remembers pins (fresh node settings.pins settings.triggers) → Holds nothing_kept (first_point settings node keeps)
  holds-start remembers = record {
    node_is = refl;
    memory = fresh node settings.pins settings.triggers;
    remembers = remembers;
    pins = record { node_is = refl; rules = refl; most = refl; claims = refl; pinned = refl; groups = tt; abandoned = refl; tried = refl; admitted = refl };
    index = record { threshold = refl; most = refl; touched = indexed-start settings };
    sent = refl;
    offered = refl;
    hand = refl;
    again = refl;
    keeps = refl;
    lefts = refl;
    standings = refl;
    claims = refl;
    pages = refl;
    reported = tt;
    buffers = refl;
    each = tt;
    paged = tt;
    untouched = tt;
    few = omega arith;
    fits = omega arith;
  }
