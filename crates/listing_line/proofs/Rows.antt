-- Lines of document 01's whole case.
use mathlib.Core.Path.{◌≡◌, refl}
use mathlib.Core.List.{[], ◌∷◌}
use Rattle.formula.specs.Tree.{leaf}
use Rattle.formula.specs.Formula.{var}
use Rattle.formula.specs.Text.{signs_by}
use Rattle.monitor.specs.Range.{all_of}
use Rattle.monitor.specs.Mon.{at, obligation}
use Rattle.number.specs.Digits.{digits}
use Rattle.spelling.specs.Spelling.{spelled}
use Rattle.listing_line.specs.Line.{line}
use Rattle.listing_line.specs.Node.{check_fields, line_of}
use Rattle.listing_line.specs.Rule.{compiled_as, rule_line}
use Rattle.std.specs.Prelude.{None}

-- `node 0 B 3 0 * v0 v1`
pub whole_node :
    line_of 0 (check_fields (obligation 3 (at 2 (leaf (var 0))) (at 4 (leaf (var 1))) all_of))
    ≡ 110 ∷ 111 ∷ 100 ∷ 101 ∷ 9 ∷ 48 ∷ 9 ∷ 66 ∷ 9 ∷ 51 ∷ 9 ∷ 48 ∷ 9 ∷ 42 ∷ 9 ∷ 118 ∷ 48 ∷ 9 ∷ 118 ∷ 49 ∷ 10 ∷ []
unfolding line digits spelled signs_by
whole_node = refl

-- `rule 0 trip P 0 0 3 -`
pub whole_rule :
    rule_line 0 (116 ∷ 114 ∷ 105 ∷ 112 ∷ []) 0 (compiled_as 0 3 None)
    ≡ 114 ∷ 117 ∷ 108 ∷ 101 ∷ 9 ∷ 48 ∷ 9 ∷ 116 ∷ 114 ∷ 105 ∷ 112 ∷ 9 ∷ 80 ∷ 9 ∷ 48 ∷ 9 ∷ 48 ∷ 9 ∷ 51 ∷ 9 ∷ 45 ∷ 10 ∷ []
unfolding rule_line line digits
whole_rule = refl
