-- The lists that compiling a book's rules fills.
--     SameRules    the same lists are lent afterwards, of the same lengths
use Rattle.terms.specs.Lent.{Same}
use Rattle.listing_rules.specs.declared.lists.RuleTables.{RuleTables}

pub record SameRules (old new : RuleTables) : Type 0 where
  pub nodes : Same old.nodes new.nodes
  pub nfirsts : Same old.nfirsts new.nfirsts
  pub ncounts : Same old.ncounts new.ncounts
  pub refusals : Same old.refusals new.refusals
