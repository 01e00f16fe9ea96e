use Rattle.listing_nodes.proofs.Cells.{Noded}
use Rattle.text.specs.Lent.{tape_of, SameOut}
use Rattle.listing_nodes.proofs.put_nodes.Given as goal

abbrev pub invariant-loop-k : goal.invariant-loop-k
invariant-loop-k l =
    Noded l.tables.formulas.ops.now l.tables.formulas.nums.now l.tables.nodes.now l.part.nfirst l.part.ncount l.k (tape_of l.initial.tape) (tape_of l.tape) × SameOut l.initial.tape l.tape
