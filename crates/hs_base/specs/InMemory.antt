-- A source and a sink in memory: what each call does.
use Rattle.std.specs.Prelude.{ℕ, ◌+◌, ◌-◌, ◌^◌, min, List, ◌++◌, length, take, drop, Bool, ◌==◌, ◌||◌, nat_le, Result, Ok, Err, if◌then◌else◌}
use Rattle.std.specs.List.{list_any}
use Rattle.hs_base.specs.declared.ids.Failed.{Failed}

-- A source: the bytes left, the most that it gives in a call, the numbers of the calls that fail, and how many
-- calls and faults there were. Both counts stand still at 2^64 - 1.
pub record Tape : Type 0 where
  pub left : List ℕ
  pub most : ℕ
  pub fails : List ℕ
  pub calls : ℕ
  pub faults : ℕ

-- A sink: the bytes written and how many it can hold in all, and the rest as a source has it.
pub record Store : Type 0 where
  pub written : List ℕ
  pub room : ℕ
  pub most : ℕ
  pub fails : List ℕ
  pub calls : ℕ
  pub faults : ℕ

-- one more, up to the end of the counter
abbrev pub counted : ℕ → ℕ
counted n = min (n + 1) (2 ^ 64 - 1)

-- whether this call is to fail
abbrev pub is_to_fail : List ℕ → ℕ → Bool
is_to_fail fails call = list_any (λ k. k == call) fails

failed : Failed
failed = record {}

-- how many bytes a read into so much room gives
abbrev pub count_read : Tape → ℕ → ℕ
count_read t room = min (min room t.most) (length t.left)

-- what a read into so much room answers, and the source after it
abbrev pub read_of : Tape → ℕ → Result ℕ Failed × Tape
read_of t room =
    if is_to_fail t.fails t.calls
    then (Err (record {}), record { left = t.left; most = t.most; fails = t.fails; calls = counted t.calls; faults = counted t.faults })
    else (Ok (count_read t room), record { left = drop (count_read t room) t.left; most = t.most; fails = t.fails; calls = counted t.calls; faults = t.faults })

-- how many bytes a write of these takes
abbrev pub count_written : Store → List ℕ → ℕ
count_written s piece = min (min (length piece) s.most) (s.room - length s.written)

-- what a write answers, and the sink after it
abbrev pub write_of : Store → List ℕ → Result ℕ Failed × Store
write_of s piece =
    if is_to_fail s.fails s.calls || nat_le s.room (length s.written)
    then (Err (record {}), record { written = s.written; room = s.room; most = s.most; fails = s.fails; calls = counted s.calls; faults = counted s.faults })
    else (Ok (count_written s piece), record { written = s.written ++ take (count_written s piece) piece; room = s.room; most = s.most; fails = s.fails; calls = counted s.calls; faults = s.faults })
