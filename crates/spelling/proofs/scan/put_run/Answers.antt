use Rattle.spelling.proofs.Scans.{scan_first, scan_next, scan_all, scan_in_ops, scan_in_nums}
use borrow.Author.Rules.{rules}
use Rattle.spelling.proofs.scan.put_run.Goals as goal

pub loop-j-init : goal.loop-j-init
loop-j-init c = search (rules, scan_first)

pub bounds-table-j : goal.bounds-table-j
bounds-table-j c = search (rules, scan_in_ops)

pub bounds-table-j-in-loop-j : goal.bounds-table-j-in-loop-j
bounds-table-j-in-loop-j c = search (rules, scan_in_nums)

pub loop-j-preserved : goal.loop-j-preserved
loop-j-preserved c = search (rules, scan_next)

pub returns : goal.returns
returns c = search (rules, scan_all)
