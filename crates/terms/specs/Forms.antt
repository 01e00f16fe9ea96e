-- The numbers of the forms in the rows of a compiled rule, one name each; terms/src/form.rt has the code's.
use Rattle.std.specs.Prelude.{ℕ}

abbrev pub range_form : ℕ
range_form = 0

abbrev pub delayed_form : ℕ
delayed_form = 1

abbrev pub obligation_form : ℕ
obligation_form = 2

abbrev pub and_form : ℕ
and_form = 3

abbrev pub or_form : ℕ
or_form = 4

-- from here on a number is no form's
abbrev pub forms : ℕ
forms = 5
