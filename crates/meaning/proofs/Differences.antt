-- Where the source parts from temporal logic: for each place a small rule and record on which the two disagree.
--     FalseAlarm    the rule is true at step 0, and yet reported
--     Missing       it is false at step 0, and no alarm ever holds
use mathlib.Core.Path.{◌≡◌, refl}
use mathlib.Core.List.{List, [], ◌∷◌}
use mathlib.Core.Logic.{inl, inr}
use mathlib.Core.Option.{some}
use Prim.Native.Nat.{ℕ, zero, suc, ◌≤◌}
use native.Mathlib.Omega.{arith}
use lib.Dec.{leb}
use lib.IntN.{ℤ, pos}
use borrow.Author.Tests.{leb-true}
use lib.ListN.{get_or}
use Rattle.result.specs.declared.Refusal.TheVariants.{ZeroFor}
use Rattle.formula.specs.Tree.{leaf, one, two, size}
use Rattle.formula.specs.Formula.{Formula, var, next, always, always_for, within, or, implies}
use Rattle.formula.specs.Pure.{pure, value}
use Rattle.formula.proofs.Cases.{true_false}
use Rattle.monitor.specs.Compile.{rule_faults, rule_node, faults, consequent, node, implication}
use Rattle.meaning.specs.Alarm.{Record, truth, CheckAlarm, Alarm}
use Rattle.meaning.specs.Culprit.{minus_one}
use Rattle.meaning.specs.State.{initial_state, step, check_step, joined_step, obligation_step, unfailed_step}
use Rattle.meaning.specs.Logic.{Holds, Fails}
use Rattle.meaning.specs.Calls.{first_report}
use Rattle.meaning.proofs.Truths.{and_true}

-- the words, and signals 0 and 1 true ever after
abbrev pub endless : List ℕ → Record
endless ws s = get_or ws s 3

pub record FalseAlarm (f : Formula) (ws : List ℕ) (s : ℕ) (c : ℤ) : Type 0 where
  pub compiles : rule_faults f ≡ []
  pub holds : Holds f (endless ws) 0
  pub reported : first_report (rule_node f 0) (initial_state (rule_node f 0)) 0 ws ≡ some (s, c)

pub record Missing (f : Formula) (ws : List ℕ) : Type 0 where
  pub compiles : rule_faults f ≡ []
  pub fails : Fails f (endless ws) 0
  pub silent : (s : ℕ) → Alarm (rule_node f 0) (endless ws) s → ⊥

abbrev pub v0 : Formula
v0 = leaf (var 0)

abbrev pub v1 : Formula
v1 = leaf (var 1)

-- ---- rules with no temporal operator above are checked at every step
pub bare_check : FalseAlarm v0 (1 ∷ 0 ∷ []) 1 minus_one
unfolding Holds faults node value truth first_report step check_step
bare_check = record { compiles = refl; holds = refl; reported = refl }

pub bare_next : FalseAlarm (one next v0) (0 ∷ 1 ∷ 0 ∷ []) 2 minus_one
unfolding Holds faults node pure value truth first_report step check_step
bare_next = record { compiles = refl; holds = refl; reported = refl }

pub bare_delayed : FalseAlarm (two implies v0 (one next v1)) (0 ∷ 1 ∷ 0 ∷ []) 2 minus_one
unfolding Holds Fails faults consequent node implication pure value truth first_report step check_step
bare_delayed = record { compiles = refl; holds = inl refl; reported = refl }

-- ---- `always` under `always-for` is checked in the range alone
pub nested_always : Missing (one (always_for 1) (one always v0)) (1 ∷ 0 ∷ [])
unfolding Fails faults node value truth Alarm CheckAlarm
nested_always = record {
  compiles = refl;
  fails = (0, omega arith, omega arith, (1, omega arith, refl));
  silent = go;
}
  where
    go : (s : ℕ) → Alarm (rule_node (one (always_for 1) (one always v0)) 0) (endless (1 ∷ 0 ∷ [])) s → ⊥
    go zero h = true_false refl h.1
    go (suc s) h =
        let z : suc s ≤ 0 = leb-true (suc s) 0 (and_true (leb 0 (suc s)) (leb (suc s) 0) h.0).1 in
        omega arith

-- ---- `or` of parts that alarm at different steps
pub different_steps : Missing (two or (one always v0) (one always v1)) (2 ∷ 1 ∷ [])
unfolding Fails faults node value truth Alarm CheckAlarm
different_steps = record {
  compiles = refl;
  fails = ((0, omega arith, refl), (1, omega arith, refl));
  silent = go;
}
  where
    go : (s : ℕ) → Alarm (rule_node (two or (one always v0) (one always v1)) 0) (endless (2 ∷ 1 ∷ [])) s → ⊥
    go zero h = true_false refl h.1.1
    go (suc zero) h = true_false refl h.0.1
    go (suc (suc s)) h = true_false refl h.0.1

-- ---- inside `or` a failed obligation stays alarmed
pub stays_alarmed : FalseAlarm (one always (two or (one (within 1) v0) v1)) (2 ∷ 1 ∷ []) 1 (pos 0)
unfolding Holds faults node pure value truth first_report step check_step joined_step obligation_step unfailed_step size
stays_alarmed = record { compiles = refl; holds = go; reported = refl }
  where
    go : (u : ℕ) → 0 ≤ u → Holds (two or (one (within 1) v0) v1) (endless (2 ∷ 1 ∷ [])) u
    go zero z = inr refl
    go (suc zero) z = inl (1, omega arith, omega arith, refl)
    go (suc (suc u)) z = inr refl

-- ---- `always-for 0`, true of every record, does not compile
pub never_for : (rec : Record) → Holds (one (always_for 0) v0) rec 0
unfolding Holds
never_for rec u y z = absurd (omega arith)

pub refused_for : rule_faults (one (always_for 0) v0) ≡ ZeroFor ∷ []
unfolding faults
refused_for = refl
