-- A tape of nodes in terms of what it is lent.
--     RowLaid    one row is laid at its place, and the next goes behind it
--     SameOut    the same memory is lent afterwards
use Rattle.std.specs.Prelude.{◌≡◌, List, ℕ, ◌+◌, ◌*◌}
use Rattle.std.proofs.lemmas.List.Edits.{sets}
use Rattle.terms.specs.Limits.{row_cells}
use Rattle.terms.specs.Lent.{Same}
use Rattle.monitor.specs.declared.node.NodeTape.{NodeTape}

abbrev pub RowLaid : NodeTape → List ℕ → NodeTape → Type 0
RowLaid old row new = (new.at ≡ old.at + 1) × (new.out.now ≡ sets old.out.now (row_cells * old.at) row)

abbrev pub SameOut : NodeTape → NodeTape → Type 0
SameOut old new = Same old.out new.out
