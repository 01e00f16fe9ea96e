-- A monitor's memory as the lists that it is lent as.
--     memory_of, entries_of    the lists' contents
--     SameLists    the same lists are lent afterwards, of the same lengths
use Rattle.terms.specs.Lent.{Same}
use Rattle.node_step.specs.Memory.{Memory, entries}
use Rattle.node_step.specs.declared.state.Memory.{Memory as Lists}
use Rattle.node_step.specs.declared.state.Entries.{Entries}

abbrev pub memory_of : Lists → Memory
memory_of m = entries m.held.now m.remaining.now m.failed.now m.culprits.now

abbrev pub entries_of : Entries → Memory
entries_of m = entries m.held.now m.remaining.now m.failed.now m.culprits.now

pub record SameLists (old new : Lists) : Type 0 where
  pub held : Same old.held new.held
  pub remaining : Same old.remaining new.remaining
  pub failed : Same old.failed new.failed
  pub culprits : Same old.culprits new.culprits
