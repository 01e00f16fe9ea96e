-- How long a rule's lines can be: at most 211 bytes, and 104 for each node of its formula.
use mathlib.Core.Path.{◌≡◌, ap, ◌∙◌}
use mathlib.Core.Bool.{Bool, true, false}
use mathlib.Core.Bool as bool
use mathlib.Core.List.{List, [], ◌∷◌, ◌++◌}
use Prim.Native.Nat.{ℕ, ◌+◌, ◌-◌, ◌*◌, ◌≤◌}
use native.Mathlib.Omega.{arith}
use lib.ListN.{length, length-append}
use Rattle.terms.specs.Choice.{pick}
use Rattle.result.specs.Refusal.{number_of}
use Rattle.result.specs.declared.Refusal.{Refusal}
use Rattle.formula.specs.Tree.{leaf, one, two, size}
use Rattle.formula.specs.Formula.{Formula, not, next, always, eventually, always_for, within, and, or, implies, until}
use Rattle.formula.specs.Text.{atom}
use Rattle.formula.proofs.Trees.{size_pos}
use Rattle.monitor.specs.declared.range.End.{End}
use Rattle.monitor.specs.declared.range.End.TheVariants.{Step, Open}
use Rattle.monitor.specs.declared.range.AnchorRange.{AnchorRange}
use Rattle.monitor.specs.Range.{all_of, upto_of, shifted_of}
use Rattle.monitor.specs.Mon.{Signal, always_true, at, Check, range_check, delayed_check, obligation, check, count}
use Rattle.monitor.specs.Compile.{anchor, implication, node}
use Rattle.liveness.specs.Split.{Obligation, E, U, owed, Answer, none, parts, refused, live, faults, first_or, skeleton_of, obligations_of, split_of, owes}
use Rattle.liveness.specs.Split as split
use Rattle.liveness.specs.Text.{Mark, written, number, byte, skeleton_text}
use Rattle.number.specs.Digits.{decimal}
use Rattle.line.specs.Line.{kind_byte}
use Rattle.text.specs.Tape.{joined}
use Rattle.spelling.specs.Spelling.{signal_text, operand_text}
use Rattle.listing_line.specs.Line.{absent}
use Rattle.listing_line.specs.Node.{node_word, end_text, check_fields, join_fields, line_of, node_lines}
use Rattle.listing_line.specs.Rule.{rule_word, alike_text, rule_line}
use Rattle.std.specs.Prelude.{None, Option, Some, Result, Ok, Err}
use Rattle.listing_line.specs.declared.rule.Compiled.{Compiled}
use Rattle.listing_live.specs.Live.{mark_text, marks_text, live_word, none_word, owe_word, live_line, owe_line, owe_lines}
use Rattle.listing_live.proofs.Entries.{marks_append}
use Rattle.listing_rules.specs.Rules.{Rule, property, compiles, mon, compiling_of}
use Rattle.listing_head.specs.Head.{owes_of, nodes_text, live_text, owes_text, rule_text}
use Rattle.listing_size.proofs.TextSizes.{decimal_short, line_long, joined_one, joined_more, joined_both, spell_short, signs_short, operand_short}

-- ---- the `rule` line
alike_short : (a : Option ℕ) → length (alike_text a) ≤ 20
alike_short (Some n) = decimal_short n
alike_short None = omega arith

rule_line_short : (k : ℕ) (label : List ℕ) (kind : ℕ) (c : Result Compiled ℕ) → length label ≤ 32 → length (rule_line k label kind c) ≤ 145
unfolding rule_line
rule_line_short k label kind (Ok c) h = omega (
  arith,
  line_long rule_word (decimal k ∷ label ∷ (kind_byte kind ∷ []) ∷ decimal 0 ∷ decimal c.first ∷ decimal c.bits ∷ alike_text c.alike ∷ []),
  decimal_short k,
  decimal_short 0,
  decimal_short c.first,
  decimal_short c.bits,
  alike_short c.alike,
)
rule_line_short k label kind (Err n) h = omega (
  arith,
  line_long rule_word (decimal k ∷ label ∷ (kind_byte kind ∷ []) ∷ decimal n ∷ absent ∷ absent ∷ absent ∷ []),
  decimal_short k,
  decimal_short n,
)

-- ---- the `node` lines
end_short : (e : End) → length (end_text e) ≤ 20
end_short (Step t) = decimal_short t
end_short Open = omega arith

module _ (k : ℕ) (r : AnchorRange) where
  range_line : (s : Signal) → length (line_of k (check_fields (range_check s r))) ≤ 75 + length (signal_text s)
  range_line s = omega (
    arith,
    line_long node_word (decimal k ∷ check_fields (range_check s r)),
    decimal_short k,
    decimal_short r.from,
    end_short r.to,
  )

  delayed_line : (s t : Signal) → length (line_of k (check_fields (delayed_check s t r))) ≤ 74 + length (signal_text s) + length (signal_text t)
  delayed_line s t = omega (
    arith,
    line_long node_word (decimal k ∷ check_fields (delayed_check s t r)),
    decimal_short k,
    decimal_short r.from,
    end_short r.to,
  )

  obligation_line : (b : ℕ) (s t : Signal) → length (line_of k (check_fields (obligation b s t r))) ≤ 93 + length (signal_text s) + length (signal_text t)
  obligation_line b s t = omega (
    arith,
    line_long node_word (decimal k ∷ check_fields (obligation b s t r)),
    decimal_short k,
    decimal_short b,
    decimal_short r.from,
    end_short r.to,
  )

join_line : (k form : ℕ) → length (line_of k (join_fields form)) ≤ 38
join_line k form = omega (arith, line_long node_word (decimal k ∷ join_fields form), decimal_short k)

-- a formula that is one range check
range_short : (k i : ℕ) (r : AnchorRange) (f : Formula) → length (line_of k (check_fields (range_check (at i f) r))) ≤ 67 * size f + 29
range_short k i r f = omega (arith, range_line k r (at i f), signs_short f, size_pos f)

implication_short : (l c : Formula) (i j : ℕ) (r : AnchorRange) (t : Bool) (k : ℕ) → length (line_of k (check_fields (implication l c i j r t))) ≤ 67 * (1 + size l + size c) + 29
unfolding implication size
implication_short l (one (within b) f) i j r t k = omega (arith, obligation_line k (anchor t r) b (at (i + 1) l) (at (j + 1) f), signs_short l, signs_short f, size_pos f)
implication_short l (one next f) i j r t k = omega (arith, delayed_line k (shifted_of r) (at (i + 1) l) (at (j + 1) f), signs_short l, signs_short f)
implication_short l (leaf a) i j r t k = range_short k i r (two implies l (leaf a))
implication_short l (one not f) i j r t k = range_short k i r (two implies l (one not f))
implication_short l (one always f) i j r t k = range_short k i r (two implies l (one always f))
implication_short l (one eventually f) i j r t k = range_short k i r (two implies l (one eventually f))
implication_short l (one (always_for b) f) i j r t k = range_short k i r (two implies l (one (always_for b) f))
implication_short l (two o m n) i j r t k = range_short k i r (two implies l (two o m n))

check_short : (c : Check) (k n : ℕ) → length (line_of k (check_fields c)) ≤ n → length (joined (node_lines (check c) k)) ≤ n
unfolding node_lines
check_short c k n h = omega (arith, joined_one (line_of k (check_fields c)))

pair_short :
    (form k : ℕ) (a b : List (List ℕ)) (x y : ℕ) → length (joined a) ≤ 67 * x + 29 → length (joined b) ≤ 67 * y + 29
    → length (joined (line_of k (join_fields form) ∷ a ++ b)) ≤ 67 * (1 + x + y) + 29
pair_short form k a b x y p q = omega (arith, joined_more (line_of k (join_fields form)) (a ++ b), join_line k form, joined_both a b)

nodes_short : (f : Formula) (i : ℕ) (r : AnchorRange) (t : Bool) (k : ℕ) → length (joined (node_lines (node f i r t) k)) ≤ 67 * size f + 29
unfolding node node_lines size
nodes_short (leaf a) i r t k = check_short (range_check (at i (leaf a)) r) k _ (range_short k i r (leaf a))
nodes_short (one not f) i r t k = check_short (range_check (at i (one not f)) r) k _ (range_short k i r (one not f))
nodes_short (one next f) i r t k = check_short (range_check (at (i + 1) f) (shifted_of r)) k _ (omega (arith, range_short k (i + 1) (shifted_of r) f))
nodes_short (one always f) i r t k = omega (arith, nodes_short f (i + 1) r true k)
nodes_short (one eventually f) i r t k = check_short (range_check (at i (one eventually f)) r) k _ (range_short k i r (one eventually f))
nodes_short (one (always_for b) f) i r t k = omega (arith, nodes_short f (i + 1) (upto_of (b - 1)) true k)
nodes_short (one (within b) f) i r t k = check_short (obligation b always_true (at (i + 1) f) (anchor t r)) k _ (omega (arith, obligation_line k (anchor t r) b always_true (at (i + 1) f), signs_short f, size_pos f))
nodes_short (two and l c) i r t k = pair_short 65 k _ _ (size l) (size c) (nodes_short l (i + 1) r t (k + 1)) (nodes_short c (i + 1 + size l) r t (k + 1 + count (node l (i + 1) r t)))
nodes_short (two or l c) i r t k = pair_short 79 k _ _ (size l) (size c) (nodes_short l (i + 1) r t (k + 1)) (nodes_short c (i + 1 + size l) r t (k + 1 + count (node l (i + 1) r t)))
nodes_short (two implies l c) i r t k = check_short (implication l c i (i + 1 + size l) r t) k _ (implication_short l c i (i + 1 + size l) r t k)
nodes_short (two until l c) i r t k = check_short (range_check (at i (two until l c)) r) k _ (range_short k i r (two until l c))

-- ---- the `live` line
marks_more : (m : Mark) (ms : List Mark) → length (marks_text (m ∷ ms)) ≡ length (mark_text m) + length (marks_text ms)
unfolding marks_text
marks_more m ms = length-append (mark_text m) (marks_text ms)

marks_both : (s t : List Mark) → length (marks_text (s ++ t)) ≡ length (marks_text s) + length (marks_text t)
marks_both s t = ap length (marks_append s t) ∙ length-append (marks_text s) (marks_text t)

owed_short : (k n : ℕ) → 2 ≤ n → length (marks_text (skeleton_text (owed k))) ≤ 12 * n + 10
unfolding skeleton_text marks_text
owed_short k n h = omega (arith, marks_more (byte 35) (number k ∷ []), marks_more (number k) [], decimal_short k)

word_short :
    (b : ℕ) (s t : List Mark) (x y : ℕ) → length (marks_text s) ≤ 12 * x + 10 → length (marks_text t) ≤ 12 * y + 10
    → length (marks_text (byte b ∷ s ++ t)) ≤ 12 * (1 + x + y) + 10
word_short b s t x y p q = omega (arith, marks_more (byte b) (s ++ t), marks_both s t)

skeleton_short : (f : Formula) (i k : ℕ) → length (marks_text (skeleton_text (skeleton_of f i k))) ≤ 12 * size f + 10
unfolding skeleton_of skeleton_text marks_text size
skeleton_short (leaf a) i k = omega (arith, marks_more (byte 115) (written (atom a) ∷ []), marks_more (written (atom a)) [], spell_short (atom a))
skeleton_short (one not f) i k = omega (arith, marks_more (byte 33) (skeleton_text (skeleton_of f (i + 1) k)), skeleton_short f (i + 1) k)
skeleton_short (one next f) i k = owed_short k (1 + size f) (omega (arith, size_pos f))
skeleton_short (one always f) i k = owed_short k (1 + size f) (omega (arith, size_pos f))
skeleton_short (one eventually f) i k = owed_short k (1 + size f) (omega (arith, size_pos f))
skeleton_short (one (always_for b) f) i k = owed_short k (1 + size f) (omega (arith, size_pos f))
skeleton_short (one (within b) f) i k = owed_short k (1 + size f) (omega (arith, size_pos f))
skeleton_short (two and l r) i k = word_short 38 _ _ (size l) (size r) (skeleton_short l (i + 1) k) (skeleton_short r (i + 1 + size l) (k + owes l (i + 1)))
skeleton_short (two or l r) i k = word_short 124 _ _ (size l) (size r) (skeleton_short l (i + 1) k) (skeleton_short r (i + 1 + size l) (k + owes l (i + 1)))
skeleton_short (two implies l r) i k = word_short 62 _ _ (size l) (size r) (skeleton_short l (i + 1) k) (skeleton_short r (i + 1 + size l) (k + owes l (i + 1)))
skeleton_short (two until l r) i k = owed_short k (1 + size l + size r) (omega (arith, size_pos l))

-- ---- the `owe` lines: an obligation's operands are parts of the formula that no other obligation has
abbrev owe_most : Obligation → ℕ
owe_most (E i f) = 28 + 21 * size f
owe_most (U i f j g) = 29 + 21 * (size f + size g)

abbrev owes_most : List Obligation → ℕ
owes_most [] = 0
owes_most (o ∷ os) = owe_most o + owes_most os

most_both : (s t : List Obligation) → owes_most (s ++ t) ≡ owes_most s + owes_most t
most_both [] t = omega arith
most_both (o ∷ s) t = omega (arith, most_both s t)

owe_short : (k : ℕ) (o : Obligation) → length (owe_line k o) ≤ owe_most o
unfolding owe_line
owe_short k (E i f) = omega (arith, line_long owe_word (decimal k ∷ (69 ∷ []) ∷ operand_text f ∷ []), decimal_short k, operand_short f)
owe_short k (U i f j g) = omega (arith, line_long owe_word (decimal k ∷ (85 ∷ []) ∷ operand_text f ∷ operand_text g ∷ []), decimal_short k, operand_short f, operand_short g)

owe_lines_short : (os : List Obligation) (k : ℕ) → length (joined (owe_lines os k)) ≤ owes_most os
unfolding owe_lines joined
owe_lines_short [] k = omega arith
owe_lines_short (o ∷ os) k = omega (arith, joined_more (owe_line k o) (owe_lines os (k + 1)), owe_short k o, owe_lines_short os (k + 1))

both_most : (s t : List Obligation) (x y : ℕ) → owes_most s ≤ 25 * x → owes_most t ≤ 25 * y → owes_most (s ++ t) ≤ 25 * (1 + x + y)
both_most s t x y p q = omega (arith, most_both s t)

owes_most_lem : (f : Formula) (i : ℕ) → owes_most (obligations_of f i) ≤ 25 * size f
unfolding obligations_of size
owes_most_lem (leaf a) i = omega arith
owes_most_lem (one not f) i = omega (arith, owes_most_lem f (i + 1))
owes_most_lem (one next f) i = omega arith
owes_most_lem (one always f) i = omega arith
owes_most_lem (one eventually f) i = omega (arith, size_pos f)
owes_most_lem (one (always_for b) f) i = omega arith
owes_most_lem (one (within b) f) i = omega arith
owes_most_lem (two and l r) i = both_most _ _ (size l) (size r) (owes_most_lem l (i + 1)) (owes_most_lem r (i + 1 + size l))
owes_most_lem (two or l r) i = both_most _ _ (size l) (size r) (owes_most_lem l (i + 1)) (owes_most_lem r (i + 1 + size l))
owes_most_lem (two implies l r) i = both_most _ _ (size l) (size r) (owes_most_lem l (i + 1)) (owes_most_lem r (i + 1 + size l))
owes_most_lem (two until l r) i = omega (arith, size_pos l, size_pos r)

-- ---- both of a split
abbrev split_long : Answer → ℕ
split_long a = length (live_line a) + length (joined (owe_lines (owes_of a) 0))

none_short : (n : ℕ) → split_long none ≤ 37 + 37 * n
unfolding live_line owe_lines joined
none_short n = omega (arith, line_long live_word (none_word ∷ absent ∷ []))

refused_short : (m n : ℕ) → split_long (refused m) ≤ 37 + 37 * n
unfolding live_line owe_lines joined
refused_short m n = omega (arith, line_long live_word (decimal m ∷ absent ∷ []), decimal_short m)

parts_short : (f : Formula) (i : ℕ) → split_long (parts (skeleton_of f i 0) (obligations_of f i)) ≤ 37 + 37 * size f
unfolding live_line
parts_short f i = omega (
  arith,
  line_long live_word (decimal 0 ∷ marks_text (skeleton_text (skeleton_of f i 0)) ∷ []),
  decimal_short 0,
  skeleton_short f i 0,
  owe_lines_short (obligations_of f i) 0,
  owes_most_lem f i,
)

split_short : (t : Bool) (f : Formula) (i : ℕ) → split_long (split_of t f i) ≤ 37 + 37 * size f
split_short true f i = none_short (size f)
split_short false f i = by_live (live f)
  where
    by_faults : (ns : List Refusal) → split_long (first_or ns (parts (skeleton_of f i 0) (obligations_of f i))) ≤ 37 + 37 * size f
    by_faults [] = parts_short f i
    by_faults (n ∷ ns) = refused_short (number_of n) (size f)

    by_live : (l : Bool) → split_long (split.property l f i) ≤ 37 + 37 * size f
    by_live false = none_short (size f)
    by_live true = by_faults (faults f)

-- ---- a rule's lines
nodes_text_short : (q : Rule) → length (nodes_text q) ≤ 67 * size q.formula + 29
unfolding nodes_text mon
nodes_text_short q = go (compiles q)
  where
    go : (c : Bool) → length (pick c (joined (node_lines (mon q) 0)) []) ≤ 67 * size q.formula + 29
    go true = nodes_short q.formula q.first all_of false 0
    go false = omega arith

pub rule_text_short : (base : ℕ) (R : ℕ → Rule) (n r : ℕ) → length (R r).label ≤ 32 → length (rule_text base R n r) ≤ 211 + 104 * size (R r).formula
unfolding rule_text live_text owes_text
rule_text_short base R n r h = omega (
  arith,
  length-append (rule_line r (R r).label (R r).kind (compiling_of base R n r)) (nodes_text (R r) ++ (live_text (R r) ++ owes_text (R r))),
  length-append (nodes_text (R r)) (live_text (R r) ++ owes_text (R r)),
  length-append (live_text (R r)) (owes_text (R r)),
  rule_line_short r (R r).label (R r).kind (compiling_of base R n r) h,
  nodes_text_short (R r),
  split_short (bool.not (property (R r))) (R r).formula (R r).first,
)
