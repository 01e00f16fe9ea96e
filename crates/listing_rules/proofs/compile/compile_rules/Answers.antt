use Rattle.listing_rules.proofs.RuleLoop.{enterable, filling_more, filled}
use borrow.Author.Rules.{rules}
use Rattle.listing_rules.proofs.compile.compile_rules.Goals as goal

pub compile_one-at-requires : goal.compile_one-at-requires
compile_one-at-requires c = search (rules, enterable)

pub loop-r-preserved : goal.loop-r-preserved
loop-r-preserved c = search (rules, filling_more)

pub returns : goal.returns
returns c = search (rules, filled)
