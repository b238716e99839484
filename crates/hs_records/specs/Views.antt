-- A workload as plain data, read off the one in memory.
use Rattle.std.specs.Prelude.{List, map}
use Rattle.hs_base.specs.Listing.{Listing}
use Rattle.hs_records.specs.Plain.{Operation, PlainWorkload, settings_of}
use Rattle.hs_records.specs.Plain as plain
use Rattle.hs_records.specs.declared.operation.Op.{Op}
use Rattle.hs_records.specs.declared.operation.Op.TheVariants as ops
use Rattle.hs_records.specs.declared.operation.Workload.{Workload}

abbrev pub operation_of : Op → Operation
operation_of (ops.Begin trace) = plain.Begin trace
operation_of (ops.Point moment payload) = plain.Point moment payload.items
operation_of (ops.Crumb node) = plain.Crumb node
operation_of ops.End = plain.End
operation_of (ops.Trigger trigger) = plain.Fire trigger.value
operation_of (ops.Sample moment auto value) = plain.Sample moment auto value

-- the operations of a list
abbrev pub operations_of : Listing Op → List Operation
operations_of ops = map operation_of ops.items

abbrev pub workload_of : Workload → PlainWorkload
workload_of w = record { version = w.version; settings = settings_of w.settings; clients = map operations_of w.clients.items }
