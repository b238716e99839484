-- The sheets that an input brings.
use Rattle.std.proofs.Common.{◌≡◌, map, refl}
use Rattle.hs_agent.proofs.Prelude.{Took, Input, sheet_in, input_of}
use Rattle.hs_law_agent.specs.Laws.{brought_by}
use Rattle.hs_agent.specs.declared.input.Input.TheVariants as inputs
use Rattle.hs_agent.specs.Runs.{buffers_in}

-- the pages that an input brings
pub sheets_brought : {g : _} (input : Input (Unit {0}) g) → map sheet_in (buffers_in input) ≡ brought_by (Took (input_of input))
sheets_brought (inputs.Chunk client held) = refl
sheets_brought (inputs.Crumb client crumb) = refl
sheets_brought (inputs.Trigger client trigger) = refl
sheets_brought (inputs.Ask ask) = refl
sheets_brought inputs.Turn = refl
