-- The lists of a rule list; with two lists for a formula table they are the reader's tables.
use Rattle.std.specs.Prelude.{List, ℕ}
use Rattle.reader.specs.BookTables.{BookTables}

pub record RuleList : Type 0 where
  pub labels : List ℕ
  pub lens : List ℕ
  pub kinds : List ℕ
  pub firsts : List ℕ
  pub counts : List ℕ

abbrev pub with_table : RuleList → List ℕ → List ℕ → BookTables
with_table l ops nums = record { labels = l.labels; lens = l.lens; kinds = l.kinds; firsts = l.firsts; counts = l.counts; ops = ops; nums = nums }
