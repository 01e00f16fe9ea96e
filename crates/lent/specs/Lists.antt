-- What a call is lent, in terms of the lists that it is.
--     tables_of      the two tables and the rule's part of them
--     lent_monitor    the monitor: what no step changes of it, and its memory
--     SameBlank    the same forms and bounds are lent afterwards, of the same lengths
use Rattle.terms.specs.Lent.{Same}
use Rattle.monitor.specs.declared.table.Tables.{Tables}
use Rattle.monitor.specs.declared.table.Part.{Part}
use Rattle.node_step.specs.Memory.{Memory}
use Rattle.lent.specs.declared.Frame.{Frame}
use Rattle.lent.specs.declared.Blank.{Blank}
use Rattle.lent.specs.Lent.{LentTables, LentMonitor, tables, monitor_of}

abbrev pub tables_of : Tables → Part → LentTables
tables_of t p = tables t.formulas.ops.now t.formulas.nums.now p.first p.count t.nodes.now p.nfirst p.ncount

abbrev pub lent_monitor : Frame → Memory → LentMonitor
lent_monitor s mem = monitor_of s.size s.forms.now s.bounds.now mem

pub record SameBlank (old new : Blank) : Type 0 where
  pub forms : Same old.forms new.forms
  pub bounds : Same old.bounds new.bounds
