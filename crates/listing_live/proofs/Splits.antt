-- From a split's output to its lines: the skeleton that crate split leaves in lent memory is what the `live` line is written from.
--     formula_stands    the skeleton of a formula in the table stands there
--     live_answer       the line written from the output is document 01's line of the answer
--     answer_ready      what `put_live` asks holds of the output
use mathlib.Core.Path.{◌≡◌, sym, ap, subst, ◌∙◌}
use mathlib.Core.List.{List, [], ◌∷◌, ◌++◌, append_assoc}
use Prim.Native.Nat.{ℕ, zero, suc, ◌+◌, ◌-◌, ◌*◌, ◌≤◌, ◌<◌}
use mathlib.Core.Logic.{⊎_elim}
use native.Mathlib.Omega.{arith}
use native.Mathlib.Nat.{add-zero}
use lib.ListN.{length, get_or, drop, length-append}
use lib.Seq.{sets, sets-eq, get_or-append-add}
use Rattle.terms.specs.Ops.{words}
use Rattle.formula.specs.Tree.{leaf, one, two, size}
use Rattle.formula.specs.Spells.{Spells}
use Rattle.formula.specs.Formula.{Formula, not, next, always, eventually, always_for, within, and, or, implies, until}
use Rattle.formula.specs.Table.{node_at}
use Rattle.formula.proofs.Cases.{below_or}
use Rattle.liveness.specs.Split.{Skeleton, safety, owed, Not, And, Or, Implies, skeleton_of, owes, Answer, none, parts, refused}
use Rattle.liveness.specs.Text.{skeleton_text}
use Rattle.split.specs.Held.{entries, skeleton_cells, outcome, held}
use Rattle.split.proofs.Cells.{cells_length}
use Rattle.std.specs.Prelude.{Option, Some, None, Ok}
use Rattle.std.specs.Prelude.{Result as Returned}
use Rattle.result.proofs.Told.{told_given, told_refused}
use Rattle.result.specs.declared.Refusal.{Refusal}
use Rattle.split.specs.declared.parts.Parts.{Parts}
use Rattle.number.specs.Digits.{decimal}
use Rattle.text.proofs.Tapes.{append-nil}
use Rattle.listing_line.specs.Line.{line, absent}
use Rattle.listing_live.specs.Live.{live_word, marks_text, live_line}
use Rattle.listing_live.specs.Entry.{entries_text, EntryIn, EntriesIn, SkeletonStands, live_text, LiveReady}
use Rattle.listing_live.proofs.Entries.{entries_text_lem}

-- ---- the skeleton of the formula at i stands
pub formula_stands :
    (ops nums : List ℕ) (f : Formula) (i k : ℕ) → Spells (node_at ops nums) i f → i + size f ≤ length ops → i + size f ≤ length nums
    → SkeletonStands ops nums (skeleton_of f i k)
unfolding SkeletonStands skeleton_of Spells size
formula_stands ops nums (leaf a) i k s g h = (s, omega arith, omega arith)
formula_stands ops nums (one not f) i k s g h = formula_stands ops nums f (i + 1) k s.1 (omega arith) (omega arith)
formula_stands ops nums (one next f) i k s g h = tt
formula_stands ops nums (one always f) i k s g h = tt
formula_stands ops nums (one eventually f) i k s g h = tt
formula_stands ops nums (one (always_for b) f) i k s g h = tt
formula_stands ops nums (one (within b) f) i k s g h = tt
formula_stands ops nums (two and l r) i k s g h =
    (formula_stands ops nums l (i + 1) k s.1 (omega arith) (omega arith), formula_stands ops nums r (i + 1 + size l) (k + owes l (i + 1)) s.2 (omega arith) (omega arith))
formula_stands ops nums (two or l r) i k s g h =
    (formula_stands ops nums l (i + 1) k s.1 (omega arith) (omega arith), formula_stands ops nums r (i + 1 + size l) (k + owes l (i + 1)) s.2 (omega arith) (omega arith))
formula_stands ops nums (two implies l r) i k s g h =
    (formula_stands ops nums l (i + 1) k s.1 (omega arith) (omega arith), formula_stands ops nums r (i + 1 + size l) (k + owes l (i + 1)) s.2 (omega arith) (omega arith))
formula_stands ops nums (two until l r) i k s g h = tt

-- ---- its cells in lent memory
pub cells_front : (sk : Skeleton) (s : List ℕ) → 2 * entries sk ≤ length s → sets s 0 (skeleton_cells sk) ≡ skeleton_cells sk ++ drop (0 + length (skeleton_cells sk)) s
cells_front sk s h = sets-eq (skeleton_cells sk) s 0 (omega (arith, cells_length sk))

nothing_more : (ops nums t rest : List ℕ) → t ++ entries_text ops nums 0 rest ≡ t
unfolding entries_text
nothing_more ops nums t rest = append-nil t

abbrev pub Stood : List ℕ → List ℕ → Answer → List ℕ → Type 0
Stood ops nums none s = Unit
Stood ops nums (refused n) s = Unit
Stood ops nums (parts sk os) s = SkeletonStands ops nums sk × (2 * entries sk ≤ length s)

pub live_answer : (ops nums : List ℕ) (x : Answer) (r : Returned (Option Parts) Refusal) (s s' o o' : List ℕ) → outcome r s' o' ≡ held x s o → Stood ops nums x s → live_text ops nums r s' ≡ live_line x
unfolding live_text live_line
live_answer ops nums none r s s' o o' e h = let p : r ≡ Ok None = told_given r None (cc) in ap (λ (y : Returned (Option Parts) Refusal). live_text ops nums y s') p
live_answer ops nums (refused n) r s s' o o' e h =
    let (q, p, i) = told_refused r n (cc) in
    ap (λ (y : Returned (Option Parts) Refusal). live_text ops nums y s') p ∙ ap (λ (k : ℕ). line (live_word ∷ decimal k ∷ absent ∷ [])) i
live_answer ops nums (parts sk os) r s s' o o' e h =
    let p : r ≡ Ok (Some (record { skeleton = entries sk; owed = length os })) = told_given r (Some (record { skeleton = entries sk; owed = length os })) (cc) in
    let q : s' ≡ sets s 0 (skeleton_cells sk) = cc in
    let rest : List ℕ = drop (0 + length (skeleton_cells sk)) s in
    let t : entries_text ops nums (entries sk) s' ≡ marks_text (skeleton_text sk) =
    ap (entries_text ops nums (entries sk)) (q ∙ cells_front sk s h.1)
    ∙ ap (λ (n : ℕ). entries_text ops nums n (skeleton_cells sk ++ rest)) (sym (add-zero (entries sk)))
    ∙ entries_text_lem ops nums sk h.0 0 rest
    ∙ nothing_more ops nums (marks_text (skeleton_text sk)) rest in
    ap (λ (y : Returned (Option Parts) Refusal). live_text ops nums y s') p ∙ ap (λ (y : List ℕ). line (live_word ∷ decimal 0 ∷ y ∷ [])) t

-- ---- the places of the safety leaves are in the table
module _ (ops nums : List ℕ) where
  abbrev entry_of : List ℕ → ℕ → Type 0
  entry_of l k = EntryIn ops nums (get_or l (2 * k) 0) (get_or l (2 * k + 1) 0)

  moved : (l m : List ℕ) (j k : ℕ) → get_or l (2 * j) 0 ≡ get_or m (2 * k) 0 → get_or l (2 * j + 1) 0 ≡ get_or m (2 * k + 1) 0 → entry_of m k → entry_of l j
  moved l m j k p q e = rw (p, q) e

  past_two : (x y : ℕ) (l : List ℕ) (k : ℕ) → entry_of l k → entry_of (x ∷ y ∷ l) (suc k)
  past_two x y l k e =
      let p : 2 * suc k ≡ suc (suc (2 * k)) = omega arith in
      let q : 2 * suc k + 1 ≡ suc (suc (2 * k + 1)) = omega arith in
      moved (x ∷ y ∷ l) l (suc k) k (ap (λ (n : ℕ). get_or (x ∷ y ∷ l) n 0) p) (ap (λ (n : ℕ). get_or (x ∷ y ∷ l) n 0) q) e

  past_cells : (s : Skeleton) (l : List ℕ) (k : ℕ) → entries s ≤ k → entry_of l (k - entries s) → entry_of (skeleton_cells s ++ l) k
  past_cells s l k h e =
      let c : List ℕ = skeleton_cells s in
      let j : ℕ = k - entries s in
      let p : 2 * k ≡ length c + 2 * j = omega (arith, cells_length s) in
      let q : 2 * k + 1 ≡ length c + (2 * j + 1) = omega (arith, cells_length s) in
      moved (c ++ l) l k j (ap (λ (n : ℕ). get_or (c ++ l) n 0) p ∙ get_or-append-add c l (2 * j) 0) (ap (λ (n : ℕ). get_or (c ++ l) n 0) q ∙ get_or-append-add c l (2 * j + 1) 0) e

  abbrev leaves : Skeleton → Type 0
  leaves sk = (rest : List ℕ) (k : ℕ) → k < entries sk → entry_of (skeleton_cells sk ++ rest) k

  word_first : (kind : ℕ) (l : List ℕ) → 1 ≤ kind → kind < words → entry_of (kind ∷ 0 ∷ l) 0
  word_first kind l h b = record { known = b; in_ops = λ q. absurd (omega arith); in_nums = λ q. absurd (omega arith) }

  two_leaves :
      (kind : ℕ) (s t : Skeleton) → 1 ≤ kind → kind < words → leaves s → leaves t → (rest : List ℕ) (k : ℕ) → k < 1 + entries s + entries t
      → entry_of (kind ∷ 0 ∷ ((skeleton_cells s ++ skeleton_cells t) ++ rest)) k
  two_leaves kind s t g b f h rest zero q = word_first kind ((skeleton_cells s ++ skeleton_cells t) ++ rest) g b
  two_leaves kind s t g b f h rest (suc k) q =
      past_two kind 0 ((skeleton_cells s ++ skeleton_cells t) ++ rest) k
      (subst (λ (l : List ℕ). entry_of l k) (sym (append_assoc (skeleton_cells s) (skeleton_cells t) rest))
      (⊎_elim
      (λ (p : k < entries s). f (skeleton_cells t ++ rest) k p)
      (λ (p : entries s ≤ k). past_cells s (skeleton_cells t ++ rest) k p (h rest (k - entries s) (omega arith)))
      (below_or k (entries s))))

  leaves_in : (sk : Skeleton) → SkeletonStands ops nums sk → leaves sk
  unfolding SkeletonStands skeleton_cells entries
  leaves_in (safety i a) h rest zero q = record { known = omega arith; in_ops = λ _. h.1; in_nums = λ _. h.2 }
  leaves_in (safety i a) h rest (suc k) q = absurd (omega arith)
  leaves_in (owed j) h rest zero q = record { known = omega arith; in_ops = λ p. absurd (omega arith); in_nums = λ p. absurd (omega arith) }
  leaves_in (owed j) h rest (suc k) q = absurd (omega arith)
  leaves_in (Not s) h rest zero q = word_first 3 (skeleton_cells s ++ rest) (omega arith) (omega arith)
  leaves_in (Not s) h rest (suc k) q = past_two 3 0 (skeleton_cells s ++ rest) k (leaves_in s h rest k (omega arith))
  leaves_in (And s t) h rest k q = two_leaves 9 s t (omega arith) (omega arith) (leaves_in s h.0) (leaves_in t h.1) rest k q
  leaves_in (Or s t) h rest k q = two_leaves 10 s t (omega arith) (omega arith) (leaves_in s h.0) (leaves_in t h.1) rest k q
  leaves_in (Implies s t) h rest k q = two_leaves 11 s t (omega arith) (omega arith) (leaves_in s h.0) (leaves_in t h.1) rest k q

  -- what the `live` line asks, from the split's output
  pub answer_ready : (x : Answer) (r : Returned (Option Parts) Refusal) (s s' o o' : List ℕ) → outcome r s' o' ≡ held x s o → Stood ops nums x s → LiveReady ops nums r s'
  answer_ready none r s s' o o' e h = let p : r ≡ Ok None = told_given r None (cc) in subst (λ (y : Returned (Option Parts) Refusal). LiveReady ops nums y s') (sym p) (omega arith)
  answer_ready (refused n) r s s' o o' e h = let (q, p, i) = told_refused r n (cc) in subst (λ (y : Returned (Option Parts) Refusal). LiveReady ops nums y s') (sym p) (omega arith)
  answer_ready (parts sk os) r s s' o o' e h =
      let p : r ≡ Ok (Some (record { skeleton = entries sk; owed = length os })) = told_given r (Some (record { skeleton = entries sk; owed = length os })) (cc) in
      let q : s' ≡ sets s 0 (skeleton_cells sk) = cc in
      let rest : List ℕ = drop (0 + length (skeleton_cells sk)) s in
      let l : s' ≡ skeleton_cells sk ++ rest = q ∙ cells_front sk s h.1 in
      let m : length s' ≡ length (skeleton_cells sk) + length rest = ap length l ∙ length-append (skeleton_cells sk) rest in
      let g : EntriesIn ops nums s' (entries sk) = record { room = omega (arith, cells_length sk); entry = λ k b. subst (λ (c : List ℕ). entry_of c k) (sym l) (leaves_in sk h.0 rest k b) } in
      subst (λ (y : Returned (Option Parts) Refusal). LiveReady ops nums y s') (sym p) g
