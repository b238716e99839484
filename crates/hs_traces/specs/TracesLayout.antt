-- How the held pages lie in a cache and on a shelf. The number beside them is that of all their bytes.
use Rattle.std.specs.Prelude.{◌≡◌, ◌+◌, ◌≤◌}
use Rattle.hs_traces.specs.declared.traces.Traces.TheInside.{Inside}
use Rattle.hs_traces.specs.Traces.{PlainTraces, bytes_in}

abbrev pub traces_in : Inside → PlainTraces
traces_in a = record { limits = a.limits; waiting = a.waiting.entries; out = a.out.parts }

pub record IsKept (a : Inside) : Type 0 where
  pub bytes : a.bytes ≡ bytes_in a.waiting.entries + bytes_in a.out.parts
  pub within : a.bytes ≤ a.limits.bytes
  pub hold : a.waiting.cap ≡ a.limits.hold
  -- there is room for each part that may be out
  pub room : a.limits.outs ≤ a.out.room
