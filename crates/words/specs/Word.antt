-- The words that a line can begin with, as bytes.
--     vocabulary      every word with its spelling
--     word_of          the word that bytes spell, none where they spell none
--     fields_behind    how many fields stand behind a word
--     spelling_of      the spelling of a word by its number, which is its place in the vocabulary; its length and its letters
use Rattle.std.specs.Prelude.{List, [], ◌∷◌, ℕ, zero, suc, length, get_or, Option, Some, None}
use Rattle.terms.specs.Choice.{pick}
use Rattle.terms.specs.Ops.{var_op, in_op, out_op, not_op, next_op, always_op, eventually_op, always_for_op, within_op, and_op, or_op, implies_op, until_op}
use Rattle.words.specs.Same.{eqbs}
use Rattle.words.specs.declared.word.Word.{Word}
use Rattle.words.specs.declared.word.Word.TheVariants.{Atom, Plain, Bounded, Rule, Step, States, Slot}

-- a word and its spelling
pub record Entry : Type 0 where
  pub spelling : List ℕ
  pub word : Word

-- the words of document 01, those of nodes in the order of their numbers in a formula table; then document 02's, order 1
abbrev pub vocabulary : List Entry
vocabulary =
    record { spelling = 118 ∷ 97 ∷ 114 ∷ []; word = Atom var_op } ∷  -- var
    record { spelling = 105 ∷ 110 ∷ []; word = Atom in_op } ∷  -- in
    record { spelling = 111 ∷ 117 ∷ 116 ∷ []; word = Atom out_op } ∷  -- out
    record { spelling = 110 ∷ 111 ∷ 116 ∷ []; word = Plain not_op } ∷  -- not
    record { spelling = 110 ∷ 101 ∷ 120 ∷ 116 ∷ []; word = Plain next_op } ∷  -- next
    record { spelling = 97 ∷ 108 ∷ 119 ∷ 97 ∷ 121 ∷ 115 ∷ []; word = Plain always_op } ∷  -- always
    record { spelling = 101 ∷ 118 ∷ 101 ∷ 110 ∷ 116 ∷ 117 ∷ 97 ∷ 108 ∷ 108 ∷ 121 ∷ []; word = Plain eventually_op } ∷  -- eventually
    record { spelling = 97 ∷ 108 ∷ 119 ∷ 97 ∷ 121 ∷ 115 ∷ 45 ∷ 102 ∷ 111 ∷ 114 ∷ []; word = Bounded always_for_op } ∷  -- always-for
    record { spelling = 119 ∷ 105 ∷ 116 ∷ 104 ∷ 105 ∷ 110 ∷ []; word = Bounded within_op } ∷  -- within
    record { spelling = 97 ∷ 110 ∷ 100 ∷ []; word = Plain and_op } ∷  -- and
    record { spelling = 111 ∷ 114 ∷ []; word = Plain or_op } ∷  -- or
    record { spelling = 105 ∷ 109 ∷ 112 ∷ 108 ∷ 105 ∷ 101 ∷ 115 ∷ []; word = Plain implies_op } ∷  -- implies
    record { spelling = 117 ∷ 110 ∷ 116 ∷ 105 ∷ 108 ∷ []; word = Plain until_op } ∷  -- until
    record { spelling = 114 ∷ 117 ∷ 108 ∷ 101 ∷ []; word = Rule } ∷  -- rule
    record { spelling = 115 ∷ 116 ∷ 101 ∷ 112 ∷ []; word = Step } ∷  -- step
    record { spelling = 115 ∷ 116 ∷ 97 ∷ 116 ∷ 101 ∷ 115 ∷ []; word = States } ∷  -- states
    record { spelling = 115 ∷ 108 ∷ 111 ∷ 116 ∷ []; word = Slot } ∷  -- slot
    []

-- how many fields stand behind a word in a line
abbrev pub fields_behind : Word → ℕ
fields_behind (Atom op) = 1
fields_behind (Plain op) = 0
fields_behind (Bounded op) = 1
fields_behind Rule = 2
fields_behind Step = 2
fields_behind States = 1
fields_behind Slot = 2

-- the first entry that is spelled so
unfoldable pub lookup : List Entry → List ℕ → Option Word
lookup [] f = None
lookup (e ∷ es) f = pick (eqbs f e.spelling) (Some e.word) (lookup es f)

unfoldable pub word_of : List ℕ → Option Word
word_of f = lookup vocabulary f

-- ---- a word by its number, its place in the vocabulary; past the last there is none, and nothing is spelled
abbrev pub entry_at : List Entry → ℕ → Option Entry
entry_at [] k = None
entry_at (e ∷ es) zero = Some e
entry_at (e ∷ es) (suc k) = entry_at es k

abbrev pub word_in : Option Entry → Option Word
word_in None = None
word_in (Some e) = Some e.word

abbrev pub spelling_in : Option Entry → List ℕ
spelling_in None = []
spelling_in (Some e) = e.spelling

abbrev pub word_at : ℕ → Option Word
word_at k = word_in (entry_at vocabulary k)

abbrev pub spelling_of : ℕ → List ℕ
spelling_of k = spelling_in (entry_at vocabulary k)

unfoldable pub length_of : ℕ → ℕ
length_of k = length (spelling_of k)

-- its letter at a place, 0 past its end
unfoldable pub letter_of : ℕ → ℕ → ℕ
letter_of k i = get_or (spelling_of k) i 0
