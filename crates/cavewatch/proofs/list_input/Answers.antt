use Rattle.std.proofs.Common.{rules, arith}
use Rattle.cavewatch.proofs.Cut.{whole_listed}
use Rattle.cavewatch.proofs.list_input.Goals as goal

pub returns-clause-lists : goal.returns-clause-lists
returns-clause-lists g c =
    whole_listed (g.R.Read.remaining c.args.input.now) (g.R.Read.remaining c.read_full.new.input) c.in_ok-n.n c.read_full.new.buf _
    (omega arith) (search rules) (search rules) (search rules) c.list.ensures.out_after
