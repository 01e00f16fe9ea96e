-- Document 01, "The listing": signals are prefix text: v, i, o with the number, `!`, `&`, `|`, `T`; implies is `|!`. In operands implies is `>`.
--     spell         the bytes of a sign
--     signal_text    the text of a node's signal
--     operand_text   the text of an obligation's operand
use Rattle.std.specs.Prelude.{Bool, true, false, List, [], ◌∷◌, ◌++◌, ℕ}
use Rattle.formula.specs.Formula.{Formula, var, input, output}
use Rattle.formula.specs.Text.{Sign, atom, sign, signs_by, signs, operand}
use Rattle.monitor.specs.Mon.{Signal, always_true, at}
use Rattle.number.specs.Digits.{decimal}

abbrev pub spell : Sign → List ℕ
spell (atom (var n)) = 118 ∷ decimal n
spell (atom (input n)) = 105 ∷ decimal n
spell (atom (output n)) = 111 ∷ decimal n
spell (sign b) = b ∷ []

unfoldable pub spelled : List Sign → List ℕ
spelled [] = []
spelled (s ∷ ss) = spell s ++ spelled ss

-- what implies is written as: in an operand or a skeleton `>`, in a signal `|!`
abbrev pub implies_as : Bool → List Sign
implies_as true = sign 62 ∷ []
implies_as false = sign 124 ∷ sign 33 ∷ []

-- a pure formula's text, as an operand or as a signal: `spelled (operand f)`, `spelled (signs f)`
abbrev pub formula_text : Bool → Formula → List ℕ
formula_text owing f = spelled (signs_by (implies_as owing) f)

abbrev pub operand_text : Formula → List ℕ
operand_text f = spelled (operand f)

abbrev pub signal_text : Signal → List ℕ
signal_text always_true = 84 ∷ []
signal_text (at p f) = spelled (signs f)
