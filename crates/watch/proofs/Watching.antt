-- What a watch gives, from the answers of its calls.
use mathlib.Core.Bool.{Bool, true, false}
use mathlib.Core.List.{List}
use mathlib.Core.Path.{◌≡◌, sym, ap, ◌∙◌}
use Prim.Native.Nat.{ℕ, ◌<◌}
use native.Mathlib.Omega.{arith}
use lib.ListN.{length, replicate}
use Rattle.std.specs.Prelude.{Option, Some, None, Ok, Err}
use Rattle.std.specs.Prelude.{Result as Returned}
use Rattle.book.specs.Book.{StepLine}
use Rattle.result.specs.Result.{given}
use Rattle.result.specs.Refusal.{told}
use Rattle.result.specs.declared.Refusal.{Refusal}
use Rattle.reader.specs.Steps.{next_step, result_of as stepResult, steps_from}
use Rattle.reader.specs.declared.steps.StepLine as code
use Rattle.reader.proofs.StepsOfBook.{none_left, one_more}
use Rattle.compiler.specs.Compiled.{Answers, compile_call}
use Rattle.lent.specs.Lent.{LentTables, tables}
use Rattle.in_place.specs.declared.ReferenceMonitor.{ReferenceMonitor}
use Rattle.in_place.specs.declared.step.Advanced.{Advanced}
use Rattle.in_place.specs.declared.fresh.Started.{Started}
use Rattle.in_place.specs.InPlace.{step_in, fresh_in}
use Rattle.watch.specs.Watch.{Watched, no_report, reported, ended, root_culprit, on_verdict, on_step, watched, blank_monitor, on_outcome, compiled_watched, on_compiled, rule_watched}

-- ---- the loop: what is left from a place on, by the monitor as it stands, is what the whole gives
pub record Left (t : LentTables) (m : ReferenceMonitor) (text : List ℕ) (from : ℕ) (k : ReferenceMonitor) (at : ℕ) : Type 0 where
  pub is : watched t m (steps_from text from) ≡ watched t k (steps_from text at)

pub left_end : (t : LentTables) (m : ReferenceMonitor) (text : List ℕ) (from : ℕ) (k : ReferenceMonitor) (at : ℕ) (r : Option code.StepLine) → Left t m text from k at
    → stepResult r ≡ given (next_step text at) → r ≡ None → no_report ≡ watched t m (steps_from text from)
unfolding watched
left_end t m text from k at r l h e = sym (l.is ∙ ap (watched t k) (none_left text at r h e))

-- the next line is x
module _ (t : LentTables) (m : ReferenceMonitor) (text : List ℕ) (from : ℕ) (k : ReferenceMonitor) (at : ℕ) (r : Option code.StepLine) (h : stepResult r ≡ given (next_step text at)) (x : code.StepLine) (e : r ≡ Some x) where
  pub fewer : length (steps_from text x.next) < length (steps_from text at)
  fewer = omega (arith, ap length (one_more text at r h x e))

  module _ (l : Left t m text from k at) (a : Advanced) (d : a ≡ step_in t k x.step x.truths) where
    abbrev rest : Watched
    rest = watched t a.monitor (steps_from text x.next)

    whole : (v : Returned Bool Refusal) → a.verdict ≡ v → watched t m (steps_from text from) ≡ on_verdict v x.step (root_culprit a.monitor) rest
    unfolding watched
    whole v f =
        l.is
        ∙ ap (watched t k) (one_more text at r h x e)
        ∙ sym (ap (λ (y : Advanced). on_step y x.step (watched t y.monitor (steps_from text x.next))) d)
        ∙ ap (λ (y : Returned Bool Refusal). on_verdict y x.step (root_culprit a.monitor) rest) f

    pub left_refused : (y : Refusal) → a.verdict ≡ Err y → ended y ≡ watched t m (steps_from text from)
    left_refused y f = sym (whole (Err y) f)

    pub left_reported : (b : Bool) → a.verdict ≡ Ok b → b ≡ true → reported x.step (root_culprit a.monitor) ≡ watched t m (steps_from text from)
    left_reported b f g = sym (whole (Ok true) (f ∙ ap (λ (y : Bool). Ok y) g))

    pub left_next : (b : Bool) → a.verdict ≡ Ok b → b ≡ false → Left t m text from a.monitor x.next
    left_next b f g = record { is = whole (Ok false) (f ∙ ap (λ (y : Bool). Ok y) g) }

-- ---- a compiled rule, a rule
module _ (t : LentTables) (ls : List StepLine) (b : ReferenceMonitor) (x : Started) (d : b ≡ blank_monitor) (e : x ≡ fresh_in t b) where
  started_as : (o : Returned ℕ Refusal) → x.outcome ≡ o → on_outcome o (watched t x.monitor ls) ≡ compiled_watched t ls
  unfolding compiled_watched
  started_as o f =
      ap (λ (y : Returned ℕ Refusal). on_outcome y (watched t x.monitor ls)) (sym f)
      ∙ ap (λ (y : Started). on_outcome y.outcome (watched t y.monitor ls)) (e ∙ ap (fresh_in t) d)

  pub made_watched : (n : ℕ) → x.outcome ≡ Ok n → (r : Watched) → r ≡ watched t x.monitor ls → r ≡ compiled_watched t ls
  made_watched n f r g = g ∙ started_as (Ok n) f

  pub made_refused : (y : Refusal) → x.outcome ≡ Err y → ended y ≡ compiled_watched t ls
  made_refused y f = started_as (Err y) f

module _ (text : List ℕ) (from : ℕ) (ops nums : List ℕ) (first count : ℕ) (a : Returned ℕ Refusal) (nodes : List ℕ) (d : Answers (compile_call ops nums first count (replicate 1792 0)) a nodes) where
  abbrev at_nodes : List ℕ → ℕ → Watched
  at_nodes ns k = compiled_watched (tables ops nums first count ns 0 k) (steps_from text from)

  ends_as : (c : Returned ℕ Refusal) → a ≡ c → on_compiled (told c) (at_nodes nodes) ≡ rule_watched text from ops nums first count
  unfolding rule_watched
  ends_as c e =
      ap (λ (y : Returned ℕ Refusal). on_compiled (told y) (at_nodes nodes)) (sym e)
      ∙ (λ i. on_compiled (d.answers i) (at_nodes (d.leaves i)))

  pub rule_watched_lem : (n : ℕ) → a ≡ Ok n → (r : Watched) → r ≡ compiled_watched (tables ops nums first count nodes 0 n) (steps_from text from)
      → r ≡ rule_watched text from ops nums first count
  rule_watched_lem n e r f = f ∙ ends_as (Ok n) e

  pub rule_refused : (y : Refusal) → a ≡ Err y → ended y ≡ rule_watched text from ops nums first count
  rule_refused y e = ends_as (Err y) e
