-- What each entry adds to a skeleton's text, and the text of a whole skeleton.
use mathlib.Core.Path.{◌≡◌, refl, sym, ap, ap₂, ◌∙◌}
use mathlib.Core.Bool.{true}
use mathlib.Core.List.{List, [], ◌∷◌, ◌++◌, append_assoc}
use Prim.Native.Nat.{ℕ, zero, suc, ◌+◌, ◌*◌, ◌≤◌, ◌<◌}
use native.Mathlib.Omega.{arith}
use native.Mathlib.Numerals.{add-one, one-add}
use borrow.Author.Tests.{lt-ltb, le-ltb}
use lib.ListN.{length, get_or, drop}
use lib.Seq.{get_or-drop}
use Rattle.formula.specs.Formula.{Node, node}
use Rattle.formula.specs.Table.{node_at}
use Rattle.liveness.specs.Split.{Skeleton, safety, owed, Not, And, Or, Implies}
use Rattle.liveness.specs.Text.{Mark, skeleton_text}
use Rattle.split.specs.Held.{entries, skeleton_cells}
use Rattle.number.specs.Digits.{decimal}
use Rattle.text.specs.Tape.{Tape, Wrote}
use Rattle.text.proofs.Tapes.{as_text, append-nil, nothing, then}
use Rattle.spelling.specs.Spelling.{spelled}
use Rattle.spelling.specs.Scan.{node_text}
use Rattle.listing_live.specs.Live.{mark_text, marks_text}
use Rattle.listing_live.specs.Entry.{entry_text, entries_text, EntryIn, EntriesIn, SkeletonStands}

-- ---- one entry
module _ (ops nums : List ℕ) (kind n : ℕ) (a b : Tape) where
  pub entry_safety : (c : Tape) → kind < 1 → Wrote a (115 ∷ []) c → Wrote c (node_text true (node (get_or ops n 0) (get_or nums n 0))) b → Wrote a (entry_text ops nums kind n) b
  unfolding entry_text node_at
  entry_safety c h w v = rw (lt-ltb kind 1 h) (then w v)

  pub entry_owed : (c : Tape) → 1 ≤ kind → kind < 2 → Wrote a (35 ∷ []) c → Wrote c (decimal n) b → Wrote a (entry_text ops nums kind n) b
  unfolding entry_text
  entry_owed c g h w v = rw (le-ltb kind 1 g, lt-ltb kind 2 h) (then w v)

  pub entry_word : 1 ≤ kind → 2 ≤ kind → Wrote a (node_text true (node kind 0)) b → Wrote a (entry_text ops nums kind n) b
  unfolding entry_text
  entry_word g h w = rw (le-ltb kind 1 g, le-ltb kind 2 h) w

module _ (ops nums : List ℕ) (kind n : ℕ) (g : EntryIn ops nums kind n) (h : kind < 1) where
  pub leaf_in_ops : n < length ops
  leaf_in_ops = g.in_ops h

  pub leaf_in_nums : n < length nums
  leaf_in_nums = g.in_nums h

-- ---- the first k entries
entries_snoc : (ops nums : List ℕ) (n : ℕ) (l : List ℕ) → entries_text ops nums (suc n) l ≡ entries_text ops nums n l ++ entry_text ops nums (get_or l (2 * n) 0) (get_or l (2 * n + 1) 0)
unfolding entries_text
entries_snoc ops nums zero l = append-nil (entry_text ops nums (get_or l 0 0) (get_or l 1 0))
entries_snoc ops nums (suc n) l =
    let x : List ℕ = entry_text ops nums (get_or l 0 0) (get_or l 1 0) in
    let p : 2 + 2 * n ≡ 2 * suc n = omega arith in
    let q : 2 + (2 * n + 1) ≡ 2 * suc n + 1 = omega arith in
    let e : entry_text ops nums (get_or (drop 2 l) (2 * n) 0) (get_or (drop 2 l) (2 * n + 1) 0) ≡ entry_text ops nums (get_or l (2 * suc n) 0) (get_or l (2 * suc n + 1) 0) =
    ap₂ (entry_text ops nums) (get_or-drop 2 l (2 * n) 0 ∙ ap (λ (k : ℕ). get_or l k 0) p) (get_or-drop 2 l (2 * n + 1) 0 ∙ ap (λ (k : ℕ). get_or l k 0) q) in
    ap (λ (y : List ℕ). x ++ y) (entries_snoc ops nums n (drop 2 l) ∙ ap (λ (y : List ℕ). entries_text ops nums n (drop 2 l) ++ y) e)
    ∙ sym (append_assoc x (entries_text ops nums n (drop 2 l)) _)

pub record Entered (ops nums l : List ℕ) (n k : ℕ) (a b : Tape) : Type 0 where
  pub high : k ≤ n
  pub wrote : Wrote a (entries_text ops nums k l) b

pub entered_first : (ops nums l : List ℕ) (n : ℕ) (a : Tape) → Entered ops nums l n 0 a a
unfolding entries_text
entered_first ops nums l n a = record { high = omega arith; wrote = nothing a }

pub entered_next :
    (ops nums l : List ℕ) (n k : ℕ) (a b c : Tape) → Entered ops nums l n k a b → k < n
    → Wrote b (entry_text ops nums (get_or l (2 * k) 0) (get_or l (2 * k + 1) 0)) c → Entered ops nums l n (k + 1) a c
entered_next ops nums l n k a b c e h w = record {
  high = omega arith;
  wrote = as_text a c (ap (λ (m : ℕ). entries_text ops nums m l) (add-one k) ∙ entries_snoc ops nums k l) (then e.wrote w);
}

pub entered_all : (ops nums l : List ℕ) (n k : ℕ) (a b : Tape) → Entered ops nums l n k a b → n ≤ k → Wrote a (entries_text ops nums n l) b
entered_all ops nums l n k a b e h =
    let z : n ≡ k = omega (arith, e.high) in
    as_text a b (ap (λ (m : ℕ). entries_text ops nums m l) z) e.wrote

module _ (ops nums l : List ℕ) (n k : ℕ) (g : EntriesIn ops nums l n) (h : k < n) where
  pub entry_ready : EntryIn ops nums (get_or l (2 * k) 0) (get_or l (2 * k + 1) 0)
  entry_ready = g.entry k h

  pub entry_room : 2 * k < length l
  entry_room = omega (arith, g.room)

  pub entry_room_2 : 2 * k + 1 < length l
  entry_room_2 = omega (arith, g.room)

-- ---- a whole skeleton
pub marks_append : (s t : List Mark) → marks_text (s ++ t) ≡ marks_text s ++ marks_text t
unfolding marks_text
marks_append [] t = refl
marks_append (m ∷ s) t = ap (λ (x : List ℕ). mark_text m ++ x) (marks_append s t) ∙ sym (append_assoc (mark_text m) (marks_text s) (marks_text t))

module _ (ops nums : List ℕ) where
  abbrev whole : Skeleton → Type 0
  whole sk = (m : ℕ) (rest : List ℕ) → entries_text ops nums (entries sk + m) (skeleton_cells sk ++ rest) ≡ marks_text (skeleton_text sk) ++ entries_text ops nums m rest

  word_two :
      (kind b : ℕ) (s t : Skeleton) → entry_text ops nums kind 0 ≡ b ∷ [] → whole s → whole t → (m : ℕ) (rest : List ℕ)
      → entries_text ops nums (1 + entries s + entries t + m) (kind ∷ 0 ∷ ((skeleton_cells s ++ skeleton_cells t) ++ rest))
      ≡ b ∷ (marks_text (skeleton_text s ++ skeleton_text t) ++ entries_text ops nums m rest)
  unfolding entries_text
  word_two kind b s t e f g m rest =
      let n : 1 + entries s + entries t + m ≡ suc (entries s + (entries t + m)) = omega arith in
      let l : List ℕ = kind ∷ 0 ∷ ((skeleton_cells s ++ skeleton_cells t) ++ rest) in
      let tail : entries_text ops nums (entries s + (entries t + m)) ((skeleton_cells s ++ skeleton_cells t) ++ rest) ≡ marks_text (skeleton_text s ++ skeleton_text t) ++ entries_text ops nums m rest =
      ap (entries_text ops nums (entries s + (entries t + m))) (append_assoc (skeleton_cells s) (skeleton_cells t) rest)
      ∙ f (entries t + m) (skeleton_cells t ++ rest)
      ∙ ap (λ (x : List ℕ). marks_text (skeleton_text s) ++ x) (g m rest)
      ∙ sym (append_assoc (marks_text (skeleton_text s)) (marks_text (skeleton_text t)) (entries_text ops nums m rest))
      ∙ ap (λ (x : List ℕ). x ++ entries_text ops nums m rest) (sym (marks_append (skeleton_text s) (skeleton_text t))) in
      ap (λ (k : ℕ). entries_text ops nums k l) n ∙ ap₂ ◌++◌ e tail

  pub entries_text_lem : (sk : Skeleton) → SkeletonStands ops nums sk → whole sk
  unfolding entries_text entries skeleton_cells skeleton_text marks_text SkeletonStands entry_text node node_text spelled
  entries_text_lem (safety i a) h m rest =
      ap (λ (k : ℕ). entries_text ops nums k (0 ∷ i ∷ rest)) (one-add m)
      ∙ ap (λ (t : Node). (115 ∷ node_text true t) ++ entries_text ops nums m rest) h.0
  entries_text_lem (owed k) h m rest =
      ap (λ (j : ℕ). entries_text ops nums j (1 ∷ k ∷ rest)) (one-add m)
      ∙ ap (λ (x : List ℕ). 35 ∷ (x ++ entries_text ops nums m rest)) (sym (append-nil (decimal k)))
  entries_text_lem (Not s) h m rest =
      let n : 1 + entries s + m ≡ suc (entries s + m) = omega arith in
      ap (λ (k : ℕ). entries_text ops nums k (3 ∷ 0 ∷ (skeleton_cells s ++ rest))) n
      ∙ ap (33 ∷◌) (entries_text_lem s h m rest)
  entries_text_lem (And s t) h m rest = word_two 9 38 s t refl (entries_text_lem s h.0) (entries_text_lem t h.1) m rest
  entries_text_lem (Or s t) h m rest = word_two 10 124 s t refl (entries_text_lem s h.0) (entries_text_lem t h.1) m rest
  entries_text_lem (Implies s t) h m rest = word_two 11 62 s t refl (entries_text_lem s h.0) (entries_text_lem t h.1) m rest
