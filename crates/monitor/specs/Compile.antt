-- Document 01, "Nodes and alarms" up to the alarms, and refusals 11 to 19: what a formula compiles to (`compile_formula` of
-- src/codegen/monitor.rs).
--     faults    the refusals that apply, in the order of the walk: parents first, left before right. The first is the answer
--     node      the node that a formula gives where no refusal applies
use Rattle.std.specs.Prelude.{Bool, true, false, List, [], ◌∷◌, ◌++◌, ℕ, ◌+◌, ◌-◌, eqb}
use Rattle.result.specs.declared.Refusal.{Refusal}
use Rattle.result.specs.declared.Refusal.TheVariants.{NestedFor, ZeroFor, Antecedent, WithinOperand, NextConsequent, Consequent, NextOperand, NotOperand, Liveness}
use Rattle.formula.specs.Tree.{leaf, one, two, size}
use Rattle.formula.specs.Formula.{Formula, not, next, always, eventually, always_for, within, and, or, implies, until}
use Rattle.formula.specs.Pure.{pure, unless}
use Rattle.monitor.specs.declared.range.AnchorRange.{AnchorRange}
use Rattle.monitor.specs.Range.{all_of, upto_of, shifted_of}
use Rattle.monitor.specs.Mon.{always_true, at, Check, range_check, delayed_check, obligation, Mon, check, And, Or}

-- a refusal, where the test holds
abbrev pub when : Bool → Refusal → List Refusal
when true n = n ∷ []
when false n = []

-- the right part of `implies`
unfoldable pub consequent : Formula → List Refusal
consequent (one (within b) f) = unless (pure f) WithinOperand
consequent (one next f) = unless (pure f) NextConsequent
consequent (leaf a) = unless (pure (leaf a)) Consequent
consequent (one not f) = unless (pure (one not f)) Consequent
consequent (one always f) = unless (pure (one always f)) Consequent
consequent (one eventually f) = unless (pure (one eventually f)) Consequent
consequent (one (always_for b) f) = unless (pure (one (always_for b) f)) Consequent
consequent (two o l r) = unless (pure (two o l r)) Consequent

-- `temporal`: the formula stands under a temporal operator
unfoldable pub faults : Formula → Bool → List Refusal
faults (leaf a) temporal = []
faults (one not f) temporal = unless (pure f) NotOperand
faults (one next f) temporal = unless (pure f) NextOperand
faults (one always f) temporal = faults f true
faults (one eventually f) temporal = Liveness ∷ []
faults (one (always_for b) f) temporal = when temporal NestedFor ++ (when (eqb b 0) ZeroFor ++ faults f true)
faults (one (within b) f) temporal = unless (pure f) WithinOperand
faults (two and l r) temporal = faults l temporal ++ faults r temporal
faults (two or l r) temporal = faults l temporal ++ faults r temporal
faults (two implies l r) temporal = unless (pure l) Antecedent ++ consequent r
faults (two until l r) temporal = Liveness ∷ []

-- a `within` that is not under a temporal operator has range 0 to 0
abbrev pub anchor : Bool → AnchorRange → AnchorRange
anchor true r = r
anchor false r = upto_of 0

-- `l implies c`, c standing at place j and the whole formula at i
unfoldable pub implication : Formula → Formula → ℕ → ℕ → AnchorRange → Bool → Check
implication l (one (within b) f) i j r temporal =
    obligation b (at (i + 1) l) (at (j + 1) f) (anchor temporal r)
implication l (one next f) i j r temporal =
    delayed_check (at (i + 1) l) (at (j + 1) f) (shifted_of r)
implication l (leaf a) i j r temporal = range_check (at i (two implies l (leaf a))) r
implication l (one not f) i j r temporal = range_check (at i (two implies l (one not f))) r
implication l (one always f) i j r temporal = range_check (at i (two implies l (one always f))) r
implication l (one eventually f) i j r temporal =
    range_check (at i (two implies l (one eventually f))) r
implication l (one (always_for b) f) i j r temporal =
    range_check (at i (two implies l (one (always_for b) f))) r
implication l (two o m n) i j r temporal = range_check (at i (two implies l (two o m n))) r

-- the node of the formula at place i, checked at the steps of r. (`eventually` and `until` have none: 19)
unfoldable pub node : Formula → ℕ → AnchorRange → Bool → Mon
node (leaf a) i r temporal = check (range_check (at i (leaf a)) r)
node (one not f) i r temporal = check (range_check (at i (one not f)) r)
node (one next f) i r temporal = check (range_check (at (i + 1) f) (shifted_of r))
node (one always f) i r temporal = node f (i + 1) r true
node (one eventually f) i r temporal = check (range_check (at i (one eventually f)) r)
node (one (always_for b) f) i r temporal = node f (i + 1) (upto_of (b - 1)) true
node (one (within b) f) i r temporal =
    check (obligation b always_true (at (i + 1) f) (anchor temporal r))
node (two and l c) i r temporal = And (node l (i + 1) r temporal) (node c (i + 1 + size l) r temporal)
node (two or l c) i r temporal = Or (node l (i + 1) r temporal) (node c (i + 1 + size l) r temporal)
node (two implies l c) i r temporal = check (implication l c i (i + 1 + size l) r temporal)
node (two until l c) i r temporal = check (range_check (at i (two until l c)) r)

-- a whole rule at place i
abbrev pub rule_faults : Formula → List Refusal
rule_faults f = faults f false

abbrev pub rule_node : Formula → ℕ → Mon
rule_node f i = node f i all_of false
