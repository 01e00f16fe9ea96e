-- THE OPENING LINES OF AN ACCEPTED BOOK. Its count of states lies below 65,536, it has at most 32 slots, as many widths as names, and each width is at
-- most 64 bits; and a `states` line is its first line (`states_first`).
use mathlib.Core.Path.{◌≡◌, refl, sym, subst, ◌∙◌}
use mathlib.Core.Bool.{true, false}
use mathlib.Core.List.{List, [], ◌∷◌, ◌++◌}
use Prim.Native.Nat.{ℕ, zero, suc, ◌+◌, ◌≤◌, ◌<◌}
use native.Mathlib.Omega.{arith}
use borrow.Author.Tests.{eqb-true}
use lib.ListN.{length, get_or}
use Rattle.terms.specs.Limits.{book_slots, slot_most, state_counts}
use Rattle.line.specs.Line.{Content, rule, step, states, slot, Line, right, parse}
use Rattle.line.specs.Line as spec
use Rattle.line.specs.Text.{lines}
use Rattle.line.proofs.Sane.{Sane}
use Rattle.book.specs.Book.{Book, empty, is_nil, count_in, opening, stands, opens, fault, add, add_line, accepted, read_on, read}
use Rattle.reader.proofs.Sounds.{both, Passed, PassedLine, passed, sane}
use Rattle.reader.proofs.Runs.{accepted_lines, unless_none}
use Rattle.reader.proofs.BookSteps.{ends}
use Rattle.book_laws.proofs.RuleLaws.{accepted_done}

abbrev pub Narrow : List ℕ → Type 0
Narrow [] = Unit
Narrow (w ∷ ws) = (w ≤ slot_most) × Narrow ws

narrow_snoc : (ws : List ℕ) (w : ℕ) → Narrow ws → w ≤ slot_most → Narrow (ws ++ w ∷ [])
narrow_snoc [] w s h = (h, tt)
narrow_snoc (v ∷ ws) w s h = (s.0, narrow_snoc ws w s.1 h)

pub narrow_at : (ws : List ℕ) (k : ℕ) → Narrow ws → get_or ws k 0 ≤ slot_most
narrow_at [] k s = omega arith
narrow_at (w ∷ ws) zero s = s.0
narrow_at (w ∷ ws) (suc k) s = narrow_at ws k s.1

pub record Opening (b : Book) : Type 0 where
  pub count : count_in b.states < state_counts
  pub narrow : Narrow b.widths

opening_by : (n : ℕ) (b : Book) (c : Content) → Opening b → Sane c → Opening (add n b c)
unfolding add
opening_by n b (rule l k) o h = record { count = o.count; narrow = o.narrow }
opening_by n b (spec.node op v) o h = record { count = o.count; narrow = o.narrow }
opening_by n b (step u w) o h = record { count = o.count; narrow = o.narrow }
opening_by n b (states c) o h = record { count = h; narrow = o.narrow }
opening_by n b (slot l w) o h = record { count = o.count; narrow = narrow_snoc b.widths w o.narrow h.width }

opening_all : (b c : Book) (k : ℕ) (ls : List (List ℕ)) → Opening b → read_on b k ls ≡ accepted c → Opening c
unfolding read_on
opening_all b c k [] o e = subst Opening (ends b c k e) o
opening_all b c k (l ∷ ls) o e =
    let (f, a) = unless_none (fault b (parse l)) k _ c e in
    let p : PassedLine b (parse l) = passed b (parse l) f in
    opening_all (add_line (length l + 1) b (parse l)) c (k + 1) ls
    (subst (λ (x : Line). Opening (add_line (length l + 1) b x)) (sym p.is) (opening_by (length l + 1) b p.content o (sane l p.content p.is))) a

module _ (text : List ℕ) (b : Book) (e : read text ≡ accepted b) where
  pub book_opening : Opening b
  book_opening = opening_all empty b 0 (lines text) (record { count = omega arith; narrow = tt }) (accepted_lines text b e)

  pub few_slots : length b.names ≤ book_slots
  few_slots = (accepted_done text b e).sound.slots_few

  pub slots_wide : length b.widths ≡ length b.names
  slots_wide = (accepted_done text b e).sound.widths_long

-- ---- a `states` line of an accepted book is its first line
snoc_nil : {A : Type 0} (l : List A) (a : A) → is_nil (l ++ a ∷ []) ≡ false
snoc_nil [] a = refl
snoc_nil (b ∷ r) a = refl

true_false : {A : Type 0} → true ≡ false → A
true_false e = let z : ◌≡◌ {A = ℕ} 0 1 = cc in absurd (omega arith)

-- as long as only opening lines are read, each has a byte at least
opening_grows : (n j : ℕ) (b : Book) (c : Content) → 1 ≤ n → (opening b ≡ true → j ≤ b.head) → opening (add n b c) ≡ true → j + 1 ≤ (add n b c).head
unfolding add opening
opening_grows n j b (rule l k) h i o = true_false (sym (both {a = is_nil (b.labels ++ l ∷ [])} {b = is_nil b.steps} o).0 ∙ snoc_nil b.labels l)
opening_grows n j b (spec.node op v) h i o = omega (arith, i o)
opening_grows n j b (step u w) h i o =
    true_false (sym (both {a = is_nil b.labels} {b = is_nil (b.steps ++ record { number = u; truths = w } ∷ [])} o).1 ∙ snoc_nil b.steps (record { number = u; truths = w }))
opening_grows n j b (states c) h i o = omega (arith, i o)
opening_grows n j b (slot l w) h i o = omega (arith, i o)

states_at : (b c : Book) (j : ℕ) (ls : List (List ℕ)) → (opening b ≡ true → j ≤ b.head) → read_on b j ls ≡ accepted c
    → (k m : ℕ) → k < length ls → parse (get_or ls k []) ≡ right (states m) → j + k ≡ 0
unfolding read_on stands opens
states_at b c j [] i e k m h p = absurd (omega arith)
states_at b c j (l ∷ ls) i e zero m h p =
    let (f, a) = unless_none (fault b (parse l)) j _ c e in
    let q : PassedLine b (parse l) = passed b (parse l) f in
    let r : Passed b (states m) = subst (Passed b) (right_is (sym q.is ∙ p)) q.passed in
    first r
  where
    right_is : {x y : Content} → right x ≡ right y → x ≡ y
    right_is z = cc

    first : Passed b (states m) → j + 0 ≡ 0
    first r = omega (arith, i r.here, eqb-true b.head 0 r.opened)
states_at b c j (l ∷ ls) i e (suc k) m h p =
    let (f, a) = unless_none (fault b (parse l)) j _ c e in
    let q : PassedLine b (parse l) = passed b (parse l) f in
    let grows : opening (add_line (length l + 1) b (parse l)) ≡ true → j + 1 ≤ (add_line (length l + 1) b (parse l)).head =
    subst (λ (x : Line). opening (add_line (length l + 1) b x) ≡ true → j + 1 ≤ (add_line (length l + 1) b x).head) (sym q.is)
    (opening_grows (length l + 1) j b q.content (omega arith) i) in
    absurd (omega (arith, states_at (add_line (length l + 1) b (parse l)) c (j + 1) ls grows a k m (omega arith) p))

pub states_first : (text : List ℕ) (b : Book) → read text ≡ accepted b → (k m : ℕ) → k < length (lines text) → parse (get_or (lines text) k []) ≡ right (states m) → k ≡ 0
states_first text b e k m h p =
    let z : 0 + k ≡ 0 = states_at empty b 0 (lines text) (λ _. omega arith) (accepted_lines text b e) k m h p in
    omega arith
