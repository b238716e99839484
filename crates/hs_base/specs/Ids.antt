-- When two ids are one, the id of a client by its node and its number there, and how many digits a trace has in a text.
use Rattle.std.specs.Prelude.{ℕ, Bool, ◌==◌, if◌then◌else◌, List}
use Rattle.std.specs.List.{list_any}
use Rattle.hs_base.specs.declared.ids.ClientId.{ClientId}
use Rattle.hs_base.specs.declared.ids.TraceId.{TraceId}

-- whether two traces are one
abbrev pub same_trace : TraceId → TraceId → Bool
same_trace a b = a.0 == b.0

-- whether a trace is one of these
abbrev pub is_among : List TraceId → TraceId → Bool
is_among traces trace = list_any (λ (other : TraceId). other.0 == trace.0) traces

-- the client of a node with this number
abbrev pub client_of : (node number : ℕ) → ClientId
client_of node number = record { node = node; number = number }

-- the digits of a trace in a text of this version
abbrev pub trace_digits : ℕ → ℕ
trace_digits version = if version == 1 then 16 else 32
