-- From the walk's answer to the call's.
use mathlib.Core.Path.{◌≡◌, refl, sym, ap, ap₂, subst, ◌∙◌}
use mathlib.Core.Bool.{Bool, false}
use mathlib.Core.List.{List, [], ◌++◌}
use mathlib.Core.Option.{Option}
use Prim.Native.Nat.{ℕ, ◌+◌, ◌*◌, ◌≤◌}
use native.Mathlib.Omega.{arith}
use native.Mathlib.Nat.{zero-add}
use lib.ListN.{length, take, drop}
use lib.Seq.{sets, sets-eq, take_at, length-take-le}
use mir.Syntax.{w64}
use mir.Val.{Fits}
use Rattle.result.specs.Result.{given}
use Rattle.formula.specs.Tree.{size}
use Rattle.formula.specs.Formula.{Formula}
use Rattle.formula.specs.Table.{Rule, IsRule}
use Rattle.formula.proofs.Rules.{rule_inv}
use Rattle.monitor.specs.declared.range.AnchorRange.{AnchorRange}
use Rattle.compiler.specs.declared.Scope.{Scope}
use Rattle.monitor.specs.declared.node.NodeTape.{NodeTape}
use Rattle.result.specs.declared.Refusal.{Refusal}
use Rattle.result.specs.Refusal.{number_of}
use Rattle.std.specs.Prelude.{Ok, Err}
use Rattle.std.specs.Prelude.{Result as Returned}
use Rattle.monitor.specs.Range.{all_of, Shiftable}
use Rattle.monitor.specs.Mon.{count, rows}
use Rattle.monitor.specs.Compile.{faults, node, rule_faults, rule_node}
use Rattle.compiler.specs.Compiled.{CompileReady, LaidAt, CompiledAt, Call, Answers, first_or, compile_formula, rule_call, refuse}
use Rattle.compiler.proofs.Joining.{laid_upto, laid_no, rows_length, count_size}

-- the front of a list that a run was stored at is the run
take_sets : (l xs : List ℕ) → length xs ≤ length l → take (length xs) (sets l 0 xs) ≡ xs
take_sets l xs h = ap (take (length xs)) (sets-eq xs l 0 (omega arith)) ∙ take_at xs _ (length xs) refl

-- a run before what lies behind it in a list is the list with the run stored at its front
sets_front : (l xs : List ℕ) → length xs ≤ length l → xs ++ drop (length xs) l ≡ sets l 0 xs
sets_front l xs h = sym (sets-eq xs l 0 (omega arith) ∙ ap (λ (n : ℕ). xs ++ drop n l) (zero-add (length xs)))

module _ (ops nums : List ℕ) (first count' : ℕ) (u : IsRule ops nums first count') where
  rule : Rule ops nums first count' u.formula
  rule = rule_inv ops nums first count' u.formula u.is

  pub ready_rule : (sc : Scope) (tape : NodeTape) → sc.range ≡ all_of → tape.at ≡ 0 → 1792 ≤ length tape.out.now → CompileReady ops nums first sc tape
  ready_rule sc tape e o h =
      let t = rule in
      record {
        place = record { formula = u.formula; spells = t.spells; in_ops = omega (arith, t.in_ops, t.covers); in_nums = omega (arith, t.in_nums, t.covers) };
        room = omega (arith, t.few, t.covers);
        shift = subst Shiftable (sym e) (record { start = omega arith; finish = omega arith });
      }

  module _ (sc : Scope) (old new : NodeTape) (l : Returned ℕ Refusal) (e : sc.range ≡ all_of) (b : sc.temporal ≡ false) (o : old.at ≡ 0) (c : CompiledAt ops nums first sc old new l) where
    laid : LaidAt (rule_faults u.formula) (rule_node u.formula first) (first + size u.formula) old new l
    laid =
        subst (λ (x : Bool). LaidAt (faults u.formula x) (node u.formula first all_of x) (first + size u.formula) old new l) b
        (subst (λ (x : AnchorRange). LaidAt (faults u.formula sc.temporal) (node u.formula first x sc.temporal) (first + size u.formula) old new l) e (c.is u.formula rule.spells))

    called : (out : List ℕ) → rule_call ops nums first count' out ≡ first_or (rule_faults u.formula) (rule_node u.formula first) out
    called out = ap (λ (o : Option Formula). compile_formula o first out) u.is

    pub rule_refused : (k : Refusal) (out : List ℕ) → l ≡ Err k → Answers (rule_call ops nums first count' out) (Err k) out
    rule_refused k out q =
        let (ns, p) = laid_no (rule_faults u.formula) (rule_node u.formula first) (first + size u.formula) k old new l laid q in
        let s : rule_call ops nums first count' out ≡ refuse (number_of k) out = called out ∙ ap (λ (x : List Refusal). first_or x (rule_node u.formula first) out) p in
        record { answers = sym (ap (λ (x : Call). x.answer) s); leaves = sym (ap (λ (x : Call). x.out) s) }

    module _ (p : ℕ) (q : l ≡ Ok p) where
      known : (rule_faults u.formula ≡ [])
          × (p ≡ first + size u.formula)
          × (new.at ≡ old.at + count (rule_node u.formula first))
          × (new.out.now ≡ sets old.out.now (7 * old.at) (rows (rule_node u.formula first)))
      known = laid_upto (rule_faults u.formula) (rule_node u.formula first) (first + size u.formula) p old new l laid q

      pub few_nodes : new.at ≤ 256
      few_nodes = omega (arith, known.2, o, count_size u.formula first all_of false, rule.few, rule.covers)

      pub seven_fits : Fits w64 (7 * new.at)
      seven_fits = record { fits = omega (arith, few_nodes) }

      pub inside : (t : List ℕ) → 1792 ≤ length t → 7 * new.at ≤ length t
      inside t h = omega (arith, few_nodes)

      pub front : (t : List ℕ) → 1792 ≤ length t → 7 * new.at ≡ length (take (7 * new.at) t)
      front t h = sym (length-take-le (7 * new.at) t (inside t h))

      pub fronts : (s t : List ℕ) → 1792 ≤ length s → 1792 ≤ length t → length (take (7 * new.at) s) ≡ length (take (7 * new.at) t)
      fronts s t g h = sym (front s g) ∙ front t h

      pub rule_compiled : (out aside ws : List ℕ) → aside ≡ new.out.now → 1792 ≤ length old.out.now → 1792 ≤ length out → ws ≡ take (7 * new.at) aside
          → Answers (rule_call ops nums first count' out) (Ok new.at) (ws ++ drop (7 * new.at) out)
      rule_compiled out aside ws a h g w =
          let m = rule_node u.formula first in
          let s : rule_call ops nums first count' out ≡ record { answer = given (count m); out = sets out 0 (rows m) } = called out ∙ ap (λ (x : List Refusal). first_or x m out) known.0 in
          let i : new.at ≡ count m = omega (arith, known.2, o) in
          let j : 7 * new.at ≡ length (rows m) = omega (arith, rows_length m) in
          let z : new.out.now ≡ sets old.out.now 0 (rows m) = known.3 ∙ ap (λ (n : ℕ). sets old.out.now n (rows m)) (omega (arith, o)) in
          let k : ws ≡ rows m = w ∙ ap₂ take j (a ∙ z) ∙ take_sets old.out.now (rows m) (omega (arith, rows_length m, few_nodes)) in
          record {
            answers = ap given i ∙ sym (ap (λ (x : Call). x.answer) s);
            leaves = ap₂ (λ (x : List ℕ) (n : ℕ). x ++ drop n out) k j ∙ sets_front out (rows m) (omega (arith, rows_length m, few_nodes)) ∙ sym (ap (λ (x : Call). x.out) s);
          }
