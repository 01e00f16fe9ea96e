-- Order 2 of document 02: bytes give the word that they spell, or none where they spell none.
--     Says         what is said of bytes: the word that they spell, or that they spell none
--     Spellings    a spelling determines its word, and a word its spelling
use Rattle.std.specs.Prelude.{◌≡◌, List, ℕ, ◌<◌, Option, None}
use Rattle.terms.specs.Words.{line_words}
use Rattle.words.specs.Word.{word_of, word_at, spelling_of}
use Rattle.words.specs.declared.word.Word.{Word}

pub data Says (f : List ℕ) : Option Word → Type 0 where
  spelled : (k : ℕ) → k < line_words → f ≡ spelling_of k → Says f (word_at k)
  none : ((k : ℕ) → k < line_words → f ≡ spelling_of k → ⊥) → Says f None

pub record Spellings : Type 0 where
  -- for every run of bytes
  pub says : (f : List ℕ) → Says f (word_of f)
  -- each spelling is its word's
  pub known : (k : ℕ) → k < line_words → word_of (spelling_of k) ≡ word_at k
  -- no two words have one spelling, no two spellings one word, and each has one
  pub one_word : (j k : ℕ) → j < line_words → k < line_words → spelling_of j ≡ spelling_of k → j ≡ k
  pub one_spelling : (j k : ℕ) → j < line_words → k < line_words → word_at j ≡ word_at k → j ≡ k
  pub not_unknown : (k : ℕ) → k < line_words → word_at k ≡ None → ⊥
