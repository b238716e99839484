-- A comparison as its definition has it, read off the one in memory.
use Rattle.hs_compare.specs.Lines.{PlainLine, PlainComparison}
use Rattle.hs_compare.specs.declared.comparison.Comparison.{Comparison}
use Rattle.hs_compare.specs.declared.lines.Line.{Line}

abbrev pub plain_line : Line → PlainLine
plain_line l = record { records = l.records; traces = l.traces; whole = l.whole; shipped = l.shipped }

abbrev pub plain_comparison : Comparison → PlainComparison
plain_comparison c = record {
  head = plain_line c.head;
  tail = plain_line c.tail;
  ring = plain_line c.ring;
  hindsight = plain_line c.hindsight;
  gap = c.gap;
  limited = c.limited;
}
