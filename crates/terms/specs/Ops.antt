-- The numbers of the words in a formula table, one name each; terms/src/op.rt has the code's. They stand in the order atoms, one operand, two
-- operands.
use Rattle.std.specs.Prelude.{ℕ}

abbrev pub var_op : ℕ
var_op = 0

abbrev pub in_op : ℕ
in_op = 1

abbrev pub out_op : ℕ
out_op = 2

abbrev pub not_op : ℕ
not_op = 3

abbrev pub next_op : ℕ
next_op = 4

abbrev pub always_op : ℕ
always_op = 5

abbrev pub eventually_op : ℕ
eventually_op = 6

abbrev pub always_for_op : ℕ
always_for_op = 7

abbrev pub within_op : ℕ
within_op = 8

abbrev pub and_op : ℕ
and_op = 9

abbrev pub or_op : ℕ
or_op = 10

abbrev pub implies_op : ℕ
implies_op = 11

abbrev pub until_op : ℕ
until_op = 12

-- from here on a number is no word's
abbrev pub words : ℕ
words = 13
