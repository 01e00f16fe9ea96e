-- The numbers of the words that a line can begin with, one name each; terms/src/word.rt has the code's. A node's word has its number in a
-- formula table (Ops.antt).
use Rattle.std.specs.Prelude.{ℕ}

abbrev pub word_rule : ℕ
word_rule = 13

abbrev pub word_step : ℕ
word_step = 14

abbrev pub word_states : ℕ
word_states = 15

abbrev pub word_slot : ℕ
word_slot = 16

-- from here on a number is no line word's
abbrev pub line_words : ℕ
line_words = 17
