-- The codes that C is answered.
use Rattle.std.specs.Prelude.{◌≡◌, ℕ, refl}
use Rattle.hs_node_client.specs.declared.answers.CallAnswer.{CallAnswer}
use Rattle.hs_node_client.specs.declared.answers.CallAnswer.TheVariants as called
use Rattle.hs_node_client.specs.declared.answers.PointAnswer.{PointAnswer}
use Rattle.hs_node_client.specs.declared.answers.PointAnswer.TheVariants as pointed
use Rattle.hs_node_client.specs.Pointing.{called_of}

abbrev pub code_of : CallAnswer → ℕ
code_of called.Done = 0
code_of called.NoTrace = 6
code_of called.AlreadyOpen = 7
code_of called.TooWide = 8
code_of called.Full = 9
code_of called.Unknown = 10
code_of called.Spent = 11

-- A point that found the pool empty has a code of its own, and any other that of its answer.
abbrev pub code_of_point : PointAnswer → ℕ
code_of_point pointed.Done = code_of called.Done
code_of_point pointed.Dry = 16
code_of_point pointed.NoTrace = code_of called.NoTrace
code_of_point pointed.TooWide = code_of called.TooWide
code_of_point pointed.Full = code_of called.Full
code_of_point pointed.Spent = code_of called.Spent

-- ---- examples

-- a dry point was done, and its code is none of those of other calls
dry_is_done : code_of (called_of pointed.Dry) ≡ 0
dry_is_done = refl

full_as_ever : code_of_point pointed.Full ≡ code_of (called_of pointed.Full)
full_as_ever = refl
