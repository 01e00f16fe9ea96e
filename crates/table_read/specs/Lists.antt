-- The lent rule list, in terms of its contents.
--     rules_in     the contents
--     SameRules    the same lists are lent afterwards, of the same lengths
use Rattle.terms.specs.Lent.{Same}
use Rattle.table_read.specs.RuleList.{RuleList}
use Rattle.table_read.specs.declared.RuleTables.{RuleTables}

abbrev pub rules_in : RuleTables → RuleList
rules_in t = record { labels = t.labels.now; lens = t.lens.now; kinds = t.kinds.now; firsts = t.firsts.now; counts = t.counts.now }

pub record SameRules (old new : RuleTables) : Type 0 where
  pub labels : Same old.labels new.labels
  pub lens : Same old.lens new.lens
  pub kinds : Same old.kinds new.kinds
  pub firsts : Same old.firsts new.firsts
  pub counts : Same old.counts new.counts
