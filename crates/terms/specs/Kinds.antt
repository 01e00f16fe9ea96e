-- The numbers of a rule's kinds, one name each; terms/src/kind.rt has the code's.
use Rattle.std.specs.Prelude.{ℕ}
use Rattle.terms.specs.declared.kind.Kind.{Kind}
use Rattle.terms.specs.declared.kind.Kind.TheVariants.{Property, Assumption}

abbrev pub property_kind : ℕ
property_kind = 0

abbrev pub assumption_kind : ℕ
assumption_kind = 1

-- from here on a number is no kind's
abbrev pub kinds : ℕ
kinds = 2

-- a kind's number in a list of kinds that is lent
abbrev pub kind_number : Kind → ℕ
kind_number Property = property_kind
kind_number Assumption = assumption_kind
