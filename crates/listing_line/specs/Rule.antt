-- Document 01, "The listing": the `rule` line: number from 0, label, kind, 0 or compile refusal, first bit, bit count, number of the first earlier
-- alike rule. A rule that does not compile has `-` in the three last fields. For example
--     rule 0 trip P 0 0 3 -
use Rattle.std.specs.Prelude.{List, [], ◌∷◌, ℕ, Option, Some, None, Result, Ok, Err}
use Rattle.number.specs.Digits.{decimal}
use Rattle.terms.specs.Words.{word_rule}
use Rattle.words.specs.Word.{spelling_of}
use Rattle.line.specs.Line.{kind_byte}
use Rattle.listing_line.specs.Line.{line, absent}
use Rattle.listing_line.specs.declared.rule.Compiled.{Compiled}

-- `rule`
abbrev pub rule_word : List ℕ
rule_word = spelling_of word_rule

abbrev pub alike_text : Option ℕ → List ℕ
alike_text (Some n) = decimal n
alike_text None = absent

-- what compiling gave
abbrev pub compiled_as : ℕ → ℕ → Option ℕ → Result Compiled ℕ
compiled_as first bits alike = Ok (record { first = first; bits = bits; alike = alike })

-- the four last fields, from what compiling gave: bits and likeness, or the number of the refusal
abbrev pub compiling_fields : Result Compiled ℕ → List (List ℕ)
compiling_fields (Ok c) = decimal 0 ∷ decimal c.first ∷ decimal c.bits ∷ alike_text c.alike ∷ []
compiling_fields (Err n) = decimal n ∷ absent ∷ absent ∷ absent ∷ []

-- a kind is 0 for a property, `P`, and 1 for an assumption, `A`
unfoldable pub rule_line : ℕ → List ℕ → ℕ → Result Compiled ℕ → List ℕ
rule_line number label kind c = line (rule_word ∷ decimal number ∷ label ∷ (kind_byte kind ∷ []) ∷ compiling_fields c)
