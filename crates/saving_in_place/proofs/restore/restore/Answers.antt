use Rattle.saving_in_place.proofs.Answering.{restores_in}
use Rattle.lent.specs.Lists.{tables_of}
use Rattle.saving_in_place.proofs.restore.restore.Goals as goal

pub returns : goal.returns
returns c =
    restores_in (tables_of c.args.tables.now c.args.part) c.args.m.now c.args.bytes.now c.restore-outcome.result c.unwrap_or-m.result _ _ _ _ _ _ c.restore-outcome.ensures.restored c.unwrap_or-m.ensures
