-- THE ROUND TRIP. Opening lines and a list of rules and steps within the limits, written out as lines, is a book that is accepted, and reading it gives
-- the list back. So a definition that refuses too much is shut out.
use mathlib.Core.Path.{◌≡◌, refl, ap, ◌∙◌}
use mathlib.Core.Bool.{true}
use mathlib.Core.List.{List, [], ◌∷◌, ◌++◌, map}
use Prim.Native.Nat.{ℕ}
use borrow.Author.Tests.{le-leb}
use lib.ListN.{length}
use Rattle.line.specs.Text.{lines}
use Rattle.book.specs.Book.{StepLine, empty, read_on, ended, read}
use Rattle.book_laws.specs.Write.{RuleText, OpeningText, opening_lines, rule_lines, step_text, unlines, book_text, Limited, ReadBack}
use Rattle.book_laws.proofs.Texts.{lines_unlines}
use Rattle.book_laws.proofs.Trips.{free_book, BookRead, book_read}

-- the text ends in LF
ended_lf : (u : List ℕ) → ended u ≡ true → ended (10 ∷ u) ≡ true
unfolding ended
ended_lf [] h = refl
ended_lf (c ∷ r) h = h

ended_past : (a u : List ℕ) → ended (10 ∷ u) ≡ true → ended (a ++ 10 ∷ u) ≡ true
unfolding ended
ended_past [] u h = h
ended_past (x ∷ []) u h = h
ended_past (x ∷ y ∷ a) u h = ended_past (y ∷ a) u h

ended_unlines : (ls : List (List ℕ)) → ended (unlines ls) ≡ true
unfolding ended unlines
ended_unlines [] = refl
ended_unlines (l ∷ ls) = ended_past l (unlines ls) (ended_lf (unlines ls) (ended_unlines ls))

pub round_trip : (o : OpeningText) (rs : List RuleText) (ss : List StepLine) → Limited o rs ss → ReadBack o rs ss
unfolding read book_text
round_trip o rs ss l =
    let all : List (List ℕ) = opening_lines o ++ (rule_lines rs ++ map step_text ss) in
    let t : BookRead o rs ss = book_read o rs ss l.opening l.rules l.steps l.few l.nodes in
    let back : lines (unlines all) ≡ all = lines_unlines all (free_book o rs ss l.opening l.rules l.steps) in
    record {
      book = t.book;
      is = rw (le-leb (length (unlines all)) 65535 l.short, ended_unlines all) (ap (read_on empty 0) back ∙ t.is);
      states = t.states;
      names = t.names;
      widths = t.widths;
      labels = t.labels;
      kinds = t.kinds;
      firsts = t.firsts;
      counts = t.counts;
      ops = t.ops;
      nums = t.nums;
      steps = t.steps;
    }
