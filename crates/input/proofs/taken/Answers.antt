use Rattle.input.proofs.OneRead.{broke, ended, more}
use Rattle.input.proofs.taken.Goals as goal

pub returns-then-n-eq0 : goal.returns-then-n-eq0
returns-then-n-eq0 g c = ended _ _ _ _ c.in-Ok.is c.min-n.ensures c.if-n-eq0.true

pub returns-in-Err : goal.returns-in-Err
returns-in-Err g c = broke _ _ _ c.in-Err.is

pub returns-else-n-eq0 : goal.returns-else-n-eq0
returns-else-n-eq0 g c = more _ _ _ _ c.in-Ok.is c.min-n.ensures c.if-n-eq0.false
