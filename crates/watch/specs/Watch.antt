-- What watching a rule of a book gives, with every call on the monitor a call in place (crates/in_place).
--     Watched       no report, the first report, or the refusal that ended the watch
--     watched       from a monitor, over step lines: the first report with its step and culprit, or the first refused step
--     rule_watched   the rule is compiled, its monitor made and stepped over the step lines from a place of the text on
use Rattle.std.specs.Prelude.{Bool, true, false, Option, Some, None, Ok, Err, List, [], ◌∷◌, ℕ, ℤ, pos, get_or, replicate}
use Rattle.std.specs.Prelude.{Result as Returned}
use Rattle.terms.specs.Limits.{node_cells, rule_nodes}
use Rattle.book.specs.Book.{StepLine}
use Rattle.reader.specs.Steps.{steps_from}
use Rattle.result.specs.Result.{Result, given, refused}
use Rattle.result.specs.Refusal.{number_of}
use Rattle.result.specs.declared.Refusal.{Refusal}
use Rattle.compiler.specs.Compiled.{Call, compile_call}
use Rattle.lent.specs.Lent.{LentTables, tables}
use Rattle.in_place.specs.declared.ReferenceMonitor.{ReferenceMonitor}
use Rattle.in_place.specs.declared.step.Advanced.{Advanced}
use Rattle.in_place.specs.InPlace.{step_in, fresh_in}
use Rattle.watch.specs.declared.rule.Report.{Report}

abbrev pub Watched : Type 0
Watched = Result (Option Report)

abbrev pub no_report : Watched
no_report = given None

abbrev pub reported : ℕ → ℤ → Watched
reported s c = given (Some (record { step = s; culprit = c }))

abbrev pub ended : Refusal → Watched
ended r = refused (number_of r)

-- the culprit of the root
abbrev pub root_culprit : ReferenceMonitor → ℤ
root_culprit m = get_or m.culprits 0 (pos 0)

-- what a monitor reports at a step
abbrev pub report_of : ReferenceMonitor → ℕ → Report
report_of m s = record { step = s; culprit = root_culprit m }

-- a call's answer: a report or a refusal ends the watch
abbrev pub on_verdict : Returned Bool Refusal → ℕ → ℤ → Watched → Watched
on_verdict (Ok true) s c rest = reported s c
on_verdict (Ok false) s c rest = rest
on_verdict (Err r) s c rest = ended r

abbrev pub on_step : Advanced → ℕ → Watched → Watched
on_step a s rest = on_verdict a.verdict s (root_culprit a.monitor) rest

unfoldable pub watched : LentTables → ReferenceMonitor → List StepLine → Watched
watched t m [] = no_report
watched t m (l ∷ ls) = on_step (step_in t m l.number l.truths) l.number (watched t (step_in t m l.number l.truths).monitor ls)

-- a monitor before it is made
abbrev pub blank_monitor : ReferenceMonitor
blank_monitor = record {
  size = 0;
  forms = replicate rule_nodes 0;
  bounds = replicate rule_nodes 0;
  held = replicate rule_nodes false;
  remaining = replicate rule_nodes 0;
  failed = replicate rule_nodes false;
  culprits = replicate rule_nodes (pos 0);
}

abbrev pub on_outcome : Returned ℕ Refusal → Watched → Watched
on_outcome (Ok n) w = w
on_outcome (Err r) w = ended r

-- the compiled rule that the tables hold
unfoldable pub compiled_watched : LentTables → List StepLine → Watched
compiled_watched t ls = on_outcome (fresh_in t blank_monitor).outcome (watched t (fresh_in t blank_monitor).monitor ls)

abbrev pub on_compiled : Result ℕ → (ℕ → Watched) → Watched
on_compiled (given n) w = w n
on_compiled (refused n) w = refused n

unfoldable pub rule_watched : List ℕ → ℕ → List ℕ → List ℕ → ℕ → ℕ → Watched
rule_watched text from ops nums first count =
    let c : Call = compile_call ops nums first count (replicate node_cells 0) in
    on_compiled c.answer (λ n. compiled_watched (tables ops nums first count c.out 0 n) (steps_from text from))
