-- What reading a book into columns gives for a formula table of so many nodes.
--     Fills       for any formula table of so many nodes: the answer is that of reading into it, and the columns hold the nodes that then
--                 stand in front, or every node stays
use Rattle.std.specs.Prelude.{List, ◌≡◌, ℕ, ◌≤◌, length, Result, Ok, Err}
use Rattle.node_table.specs.Columns.{front}
use Rattle.reader.specs.Answer.{Reads}
use Rattle.reader.specs.BookTables.{SlotTables}
use Rattle.book.specs.declared.check.Refused.{Refused}
use Rattle.table_read.specs.RuleList.{RuleList, with_table}
use Rattle.table_read.specs.declared.Filling.{Filling}

-- a book that was read
pub record FillsWith (len : ℕ) (text : List ℕ) (l : RuleList) (u : SlotTables) (f : Filling) (l' : RuleList) (u' : SlotTables) : Type 0 where
  pub reads : (ops nums : List ℕ)
      → length ops ≡ len
      → length nums ≡ len
      → Reads text (with_table l ops nums) u (Ok f.read) (with_table l' (front f.columns.count f.columns.ops ops) (front f.columns.count f.columns.nums nums)) u'
  pub fits : f.columns.count ≤ len

-- a book that was refused: every node stays
pub record FillsNone (len : ℕ) (text : List ℕ) (l : RuleList) (u : SlotTables) (e : Refused) (l' : RuleList) (u' : SlotTables) : Type 0 where
  pub reads : (ops nums : List ℕ) → length ops ≡ len → length nums ≡ len → Reads text (with_table l ops nums) u (Err e) (with_table l' ops nums) u'

abbrev pub Fills : ℕ → List ℕ → RuleList → SlotTables → Result Filling Refused → RuleList → SlotTables → Type 0
Fills len text l u (Ok f) l' u' = FillsWith len text l u f l' u'
Fills len text l u (Err e) l' u' = FillsNone len text l u e l' u'
