-- Document 01, "Nodes and alarms": a formula of atoms, not, and, or, implies only is pure; a pure formula is a signal.
use Rattle.std.specs.Prelude.{Bool, true, false, ◌&&◌, ◌||◌, List, [], ◌∷◌, ℕ, ◌/◌, ◌%◌, ◌^◌, eqb, ltb}
use Rattle.std.proofs.Math.Bool as bool
use Rattle.terms.specs.Choice.{pick}
use Rattle.terms.specs.Ops.{or_op, implies_op}
use Rattle.formula.specs.Tree.{leaf, one, two}
use Rattle.formula.specs.Formula.{Formula, signal, not, next, always, eventually, always_for, within, and, or, implies, until}

unfoldable pub pure : Formula → Bool
pure (leaf a) = true
pure (one not f) = pure f
pure (one next f) = false
pure (one always f) = false
pure (one eventually f) = false
pure (one (always_for b) f) = false
pure (one (within b) f) = false
pure (two and l r) = pure l && pure r
pure (two or l r) = pure l && pure r
pure (two implies l r) = pure l && pure r
pure (two until l r) = false

-- a refusal, unless the test holds: a walk's answer where an operand has to be pure
abbrev pub unless : {A : Type 0} → Bool → A → List A
unless true n = []
unless false n = n ∷ []

-- bit n of a word of truths, bit 0 lowest
abbrev pub bit : ℕ → ℕ → Bool
bit n w = eqb (w / 2 ^ n % 2) 1

-- a signal's value under a word of truths; a formula that is not pure has none, and reads false
unfoldable pub value : Formula → ℕ → Bool
value (leaf a) w = bit (signal a) w
value (one not f) w = bool.not (value f w)
value (one next f) w = false
value (one always f) w = false
value (one eventually f) w = false
value (one (always_for b) f) w = false
value (one (within b) f) w = false
value (two and l r) w = value l w && value r w
value (two or l r) w = value l w || value r w
value (two implies l r) w = bool.not (value l w) || value r w
value (two until l r) w = false

-- two values joined by a word's number: below or's it is and, below implies' or, from there on implies
abbrev pub joined : ℕ → Bool → Bool → Bool
joined op l r = pick (ltb op or_op) (l && r) (pick (ltb op implies_op) (l || r) (bool.not l || r))
