-- A place in an accepted text between two lines: the lines before it are read into a book, and the next line passes every test.
--     Reach        so far
--     next_reach   one line further
use mathlib.Core.Path.{◌≡◌, refl, sym, ap, subst, ◌∙◌}
use mathlib.Core.List.{List}
use mathlib.Core.Option.{none}
use Prim.Native.Nat.{ℕ, ◌+◌, ◌-◌, ◌≤◌, ◌<◌}
use native.Mathlib.Omega.{arith}
use mir.Syntax.{w64}
use mir.Val.{Fits}
use lib.ListN.{length, take, drop, length-drop, drop_of_length-le}
use Rattle.line.specs.Text.{lines, parts, Found}
use Rattle.line.specs.Line.{Content, Line, right, parse}
use Rattle.book.specs.Book.{Book, empty, fault, add, add_line, accepted, read_on, read}
use Rattle.book.proofs.Checks.{read_line}
use Rattle.reader.proofs.Sounds.{Passed, PassedLine, passed, Sound, sound_empty, sound_add}
use Rattle.reader.proofs.Runs.{accepted_lines, accepted_ended, accepted_short, unless_none}
use Rattle.reader.proofs.BookSteps.{ends}

pub record Reach (text : List ℕ) (final : Book) (at : ℕ) : Type 0 where
  pub book : Book
  pub line : ℕ
  pub sound : Sound book
  pub is : read text ≡ accepted final
  pub same : read_on empty 0 (lines text) ≡ read_on book line (lines (drop at text))

abbrev pub reach_first : (text : List ℕ) (final : Book) → read text ≡ accepted final → Reach text final 0
reach_first text final e = record { book = empty; line = 0; sound = sound_empty; is = e; same = refl }

pub right_is : {c d : Content} → right c ≡ right d → c ≡ d
right_is z = cc

module _ (text : List ℕ) (final : Book) (at : ℕ) (v : Reach text final at) where
  pub reach_on : read_on v.book v.line (lines (drop at text)) ≡ accepted final
  reach_on = sym v.same ∙ accepted_lines text final v.is

  pub reach_end : length text ≤ at → v.book ≡ final
  unfolding parts
  reach_end h =
      ends v.book final v.line (subst (λ (x : List ℕ). read_on v.book v.line (lines x) ≡ accepted final) (drop_of_length-le text h) reach_on)

  module _ (rest : List ℕ) (n : ℕ) (h : at < length text) (e : rest ≡ drop at text) (g : Found 10 rest n) where
    short : n ≤ length text - at
    short = subst (λ (i : ℕ). n ≤ i) (ap length e ∙ length-drop at text) g.inside

    pub next_fits : Fits w64 (at + (n + 1))
    next_fits = record { fits = omega (arith, short, accepted_short text final v.is) }

    pub next_falls : length text - (at + (n + 1)) < length text - at
    next_falls = omega (arith, short)

    module _ (first : List ℕ) (e' : first ≡ take n rest) where
      abbrev pub next_lines : List (List ℕ)
      next_lines = lines (drop (at + (n + 1)) text)

      none_and_on : (fault v.book (parse first) ≡ none) × (read_on (add_line (n + 1) v.book (parse first)) (v.line + 1) next_lines ≡ accepted final)
      none_and_on = unless_none _ _ _ _ (sym (read_line v.book v.line text rest first at n (accepted_ended text final v.is) h e g e') ∙ reach_on)

      pub line_passed : PassedLine v.book (parse first)
      line_passed = passed v.book (parse first) none_and_on.0

      pub passed_as : (c : Content) → parse first ≡ right c → Passed v.book c
      passed_as c q = subst (Passed v.book) (right_is (sym line_passed.is ∙ q)) line_passed.passed

      abbrev pub next_book : Book
      next_book = add (n + 1) v.book line_passed.content

      pub next_on : read_on next_book (v.line + 1) next_lines ≡ accepted final
      next_on = subst (λ (z : Line). read_on (add_line (n + 1) v.book z) (v.line + 1) next_lines ≡ accepted final) line_passed.is none_and_on.1

      pub next_sound : Sound next_book
      next_sound = subst (λ (z : Line). Sound (add_line (n + 1) v.book z)) line_passed.is (sound_add (n + 1) v.book first v.sound none_and_on.0)

      abbrev pub next_reach : Reach text final (at + (n + 1))
      next_reach = record { book = next_book; line = v.line + 1; sound = next_sound; is = v.is; same = v.same ∙ reach_on ∙ sym next_on }
