-- The lent lists that reading fills, in terms of their contents.
--     tables_in, slots_in      the contents
--     SameTables, SameSlots    the same lists are lent afterwards, of the same lengths
use Rattle.terms.specs.Lent.{Same}
use Rattle.reader.specs.BookTables.{BookTables, SlotTables, columns, slot_columns}
use Rattle.reader.specs.declared.tables.BookTables.{BookTables as BookLists}
use Rattle.reader.specs.declared.tables.SlotTables.{SlotTables as SlotLists}

abbrev pub tables_in : BookLists → BookTables
tables_in t = columns t.labels.now t.lens.now t.kinds.now t.firsts.now t.counts.now t.ops.now t.nums.now

abbrev pub slots_in : SlotLists → SlotTables
slots_in t = slot_columns t.names.now t.lens.now t.widths.now

pub record SameTables (old new : BookLists) : Type 0 where
  pub labels : Same old.labels new.labels
  pub lens : Same old.lens new.lens
  pub kinds : Same old.kinds new.kinds
  pub firsts : Same old.firsts new.firsts
  pub counts : Same old.counts new.counts
  pub ops : Same old.ops new.ops
  pub nums : Same old.nums new.nums

pub record SameSlots (old new : SlotLists) : Type 0 where
  pub names : Same old.names new.names
  pub lens : Same old.lens new.lens
  pub widths : Same old.widths new.widths
