-- Document 01, "The book": the cases of a formula (`Formula` of src/lang/ir.rs), and the numbers that stand for them in a table.
use Rattle.std.specs.Prelude.{List, [], ◌∷◌, ℕ, get_or}
use Rattle.formula.specs.Tree.{Tree, Token, leaf_of, one_of, two_of, unknown}

-- an atom: `var`, `in` or `out` with its signal
pub data Atom : Type 0 where
  var : ℕ → Atom
  input : ℕ → Atom
  output : ℕ → Atom

-- the words with one operand; `always-for` and `within` have a bound
pub data Unary : Type 0 where
  not : Unary
  next : Unary
  always : Unary
  eventually : Unary
  always_for : ℕ → Unary
  within : ℕ → Unary

-- the words with a left operand and a right one
pub data Binary : Type 0 where
  and : Binary
  or : Binary
  implies : Binary
  until : Binary

abbrev pub Formula : Type 0
Formula = Tree Atom Unary Binary

abbrev pub Node : Type 0
Node = Token Atom Unary Binary

-- the signal that an atom reads: `var n`, `in n` and `out n` all read bit n
abbrev pub signal : Atom → ℕ
signal (var n) = n
signal (input n) = n
signal (output n) = n

-- a word's number in a table is its place in this list; n is the number that stands beside it
abbrev pub words : ℕ → List Node
words n =
    leaf_of (var n) ∷
    leaf_of (input n) ∷
    leaf_of (output n) ∷
    one_of not ∷
    one_of next ∷
    one_of always ∷
    one_of eventually ∷
    one_of (always_for n) ∷
    one_of (within n) ∷
    two_of and ∷
    two_of or ∷
    two_of implies ∷
    two_of until ∷
    []

unfoldable pub node : ℕ → ℕ → Node
node op n = get_or (words n) op unknown
