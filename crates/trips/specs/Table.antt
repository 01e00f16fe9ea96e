-- Document 01, "Trips to try": all starred trips, and the one on live 23, as rows of one table.
--     Row       a trip: what it runs and what is expected of it
--     trips     the table; a trip more is a line more of `computed`
--     kept      the layers' own definitions give what the row expects
use Rattle.std.specs.Prelude.{Bool, true, false, ◌&&◌, List, [], ◌∷◌, ◌++◌, map, ℕ, eqb}
use Rattle.result.specs.Refusal.{number_of}
use Rattle.result.specs.declared.Refusal.{Refusal}
use Rattle.formula.specs.Tree.{leaf, one, two}
use Rattle.formula.specs.Formula.{Atom, var, input, output, Formula, always, eventually, always_for, within, and, or}
use Rattle.formula.specs.Text.{Sign, atom, sign}
use Rattle.monitor.specs.Compile.{rule_faults, rule_node}
use Rattle.meaning.specs.Trips.{Trip, no_faults}
use Rattle.meaning.specs.Trips as stepped
use Rattle.plan.specs.Layout.{bits}
use Rattle.liveness.specs.Split.{Answer, none, parts, refused, split_of}
use Rattle.liveness.specs.Text.{Mark, written, number, byte, skeleton_text}

pub data Row : Type 0 where
  -- a rule stepped over its words, and its report
  reports : Trip → Row
  -- a rule that does not compile, and its first refusal
  refuses : Formula → ℕ → Row
  -- a rule that compiles, and the bits of its monitor
  takes : Formula → ℕ → Row
  -- a property that is split, and the text of its skeleton
  splits : Formula → List Mark → Row
  -- a property that is not split, and its first refusal there
  live_refuses : Formula → ℕ → Row

-- ---- the table
abbrev v0 : Formula
v0 = leaf (var 0)

abbrev v1 : Formula
v1 = leaf (var 1)

-- the rows whose test is computed
abbrev pub computed : List Row
computed =
    map reports stepped.trips ++
    refuses (one (always_for 0) v0) 12 ∷
    refuses (one always (one (always_for 0) v0)) 11 ∷
    refuses (two or (one eventually v0) v1) 19 ∷
    takes (one (within 0) v1) 0 ∷
    takes (one (within 1) v1) 2 ∷
    takes (one (within 3) v1) 3 ∷
    takes (one (within 4) v1) 4 ∷
    splits (two or (one eventually v0) v1) (byte 124 ∷ byte 35 ∷ number 0 ∷ byte 115 ∷ written (atom (var 1)) ∷ []) ∷
    live_refuses (two and (one eventually v0) (one always v1)) 23 ∷
    []

-- bound 2^64 - 1: its bits are by a law of the layout, as looking for them counts down from the bound
abbrev pub largest : Row
largest = takes (one (within 18446744073709551615) v1) 65

abbrev pub trips : List Row
trips = largest ∷ computed

-- ---- the test of a row
-- the first refusal of a list is n
abbrev pub first_is : List Refusal → ℕ → Bool
first_is [] n = false
first_is (r ∷ rs) n = eqb (number_of r) n

abbrev pub same_atom : Atom → Atom → Bool
same_atom (var m) (var n) = eqb m n
same_atom (var m) (input n) = false
same_atom (var m) (output n) = false
same_atom (input m) (var n) = false
same_atom (input m) (input n) = eqb m n
same_atom (input m) (output n) = false
same_atom (output m) (var n) = false
same_atom (output m) (input n) = false
same_atom (output m) (output n) = eqb m n

abbrev pub same_sign : Sign → Sign → Bool
same_sign (atom a) (atom b) = same_atom a b
same_sign (atom a) (sign n) = false
same_sign (sign m) (atom b) = false
same_sign (sign m) (sign n) = eqb m n

abbrev pub same_mark : Mark → Mark → Bool
same_mark (written a) (written b) = same_sign a b
same_mark (written a) (number n) = false
same_mark (number m) (written b) = false
same_mark (number m) (number n) = eqb m n

unfoldable pub same_text : List Mark → List Mark → Bool
same_text [] [] = true
same_text [] (y ∷ ys) = false
same_text (x ∷ xs) [] = false
same_text (x ∷ xs) (y ∷ ys) = same_mark x y && same_text xs ys

-- the answer is a split whose skeleton has that text
abbrev pub split_is : Answer → List Mark → Bool
split_is none t = false
split_is (parts s os) t = same_text (skeleton_text s) t
split_is (refused n) t = false

-- the answer is refusal n
abbrev pub refusal_is : Answer → ℕ → Bool
refusal_is none n = false
refusal_is (parts s os) n = false
refusal_is (refused m) n = eqb m n

unfoldable pub kept : Row → Bool
kept (reports t) = stepped.kept t
kept (refuses f n) = first_is (rule_faults f) n
kept (takes f n) = no_faults (rule_faults f) && eqb (bits (rule_node f 0)) n
kept (splits f t) = split_is (split_of false f 0) t
kept (live_refuses f n) = refusal_is (split_of false f 0) n

unfoldable pub all_kept : List Row → Bool
all_kept [] = true
all_kept (r ∷ rs) = kept r && all_kept rs
