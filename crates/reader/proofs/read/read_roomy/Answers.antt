use mathlib.Core.Path.{◌≡◌}
use Rattle.std.specs.Prelude.{Err}
use Rattle.reader.proofs.Answers.{read_refused, read_fillable, read_slots_fillable, read_good}
use borrow.Author.Rules.{rules}
use Rattle.reader.proofs.read.read_roomy.Goals as goal

pub fill-requires : goal.fill-requires
fill-requires c = search (rules, read_fillable)

pub fill_slots-requires : goal.fill_slots-requires
fill_slots-requires c = search (rules, read_slots_fillable)

pub returns-in_err-read-clause-read : goal.returns-in_err-read-clause-read
returns-in_err-read-clause-read c =
    let e : c.from_residual.result ≡ Err c.in_err-read.field-0.0 = search rules in
    rw e (read_refused _ _ _ c.requires _ c.check.ensures _ c.in_err-read.was)

pub returns-clause-read : goal.returns-clause-read
returns-clause-read c = read_good _ _ _ c.requires _ c.check.ensures _ c.in_ok-read.was _ _ c.fill.ensures.put c.fill_slots.ensures.put
