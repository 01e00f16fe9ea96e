-- A column laid over a table: one store is one more place of it.
use mathlib.Core.Path.{◌≡◌, refl, sym, ap, ap₂, ◌∙◌}
use mathlib.Core.List.{List, [], ◌∷◌, ◌++◌, append_assoc, map}
use Prim.Native.Nat.{ℕ, suc, ◌+◌, ◌-◌, ◌*◌, ◌≤◌, ◌<◌}
use native.Mathlib.Omega.{arith}
use native.Mathlib.Numerals.{add-one}
use lib.ListN.{length, get_or, take, drop, set, length-append, length-drop, take-append-drop}
use lib.Seq.{drop-cons, set-append_seam, set-append_left, drop-append-le, length-take-le, take-append-add, drop-append-add}
use Rattle.book.specs.Book.{last_of, bump}
use Rattle.book.proofs.States.{bump_length}
use Rattle.reader.specs.BookTables.{over, cells}
use Rattle.reader.specs.FillingPass.{placed}
use Rattle.reader.proofs.Sounds.{Short}

pub over_long : (xs l : List ℕ) → length xs ≤ length l → length (over xs l) ≡ length l
unfolding over
over_long xs l h = length-append xs (drop (length xs) l) ∙ omega (arith, length-drop (length xs) l)

pub over_snoc : (xs l : List ℕ) (i v : ℕ) → i ≡ length xs → length xs < length l → set (over xs l) i v ≡ over (xs ++ v ∷ []) l
unfolding over
over_snoc xs l i v e h =
    ap (λ (k : ℕ). set (xs ++ drop (length xs) l) k v) e
    ∙ ap (λ (z : List ℕ). set (xs ++ z) (length xs) v) (drop-cons l (length xs) 0 h)
    ∙ set-append_seam xs (get_or l (length xs) 0) (drop (suc (length xs)) l) v
    ∙ sym (append_assoc xs (v ∷ []) (drop (length (xs ++ v ∷ [])) l) ∙ ap (λ (k : ℕ). xs ++ v ∷ drop k l) (length-append xs (v ∷ []) ∙ add-one (length xs)))

bump_set : (c : List ℕ) → 1 ≤ length c → set c (length c - 1) (last_of c + 1) ≡ bump c
unfolding last_of bump
bump_set [] h = absurd (omega arith)
bump_set (a ∷ []) h = ap (◌∷ []) (add-one a)
bump_set (a ∷ b ∷ r) h =
    let z : length (a ∷ b ∷ r) - 1 ≡ suc (length (b ∷ r) - 1) = omega arith in
    ap (λ (i : ℕ). set (a ∷ b ∷ r) i (last_of (b ∷ r) + 1)) z ∙ ap (a ∷◌) (bump_set (b ∷ r) (omega arith))

pub over_bump : (c l : List ℕ) (i v : ℕ) → 1 ≤ length c → i ≡ length c - 1 → v ≡ last_of c + 1 → set (over c l) i v ≡ over (bump c) l
unfolding over
over_bump c l i v h e e' =
    ap₂ (set (c ++ drop (length c) l)) e e'
    ∙ set-append_left c (drop (length c) l) (length c - 1) (last_of c + 1) (omega arith)
    ∙ ap₂ (λ (a : List ℕ) (n : ℕ). a ++ drop n l) (bump_set c h) (sym (bump_length c))

-- ---- labels
cell_long : (x l : List ℕ) → length x ≤ 32 → 32 ≤ length l → length (x ++ drop (length x) (take 32 l)) ≡ 32
cell_long x l h k = length-append x (drop (length x) (take 32 l)) ∙ omega (arith, length-drop (length x) (take 32 l), length-take-le 32 l k)

placed_past : (a b : List ℕ) (k : ℕ) (x : List ℕ) → placed (a ++ b) (length a + k) x ≡ a ++ placed b k x
placed_past a b k x =
    ap₂ (λ (p q : List ℕ). p ++ x ++ q) (take-append-add a b k) (ap (λ (n : ℕ). drop n (a ++ b)) (native.Mathlib.Nat.add_assoc (length a) k (length x)) ∙ drop-append-add a b (k + length x))
    ∙ ap (λ (p : List ℕ). p ++ drop (k + length x) b) (append_assoc a (take k b) x)
    ∙ append_assoc a (take k b ++ x) (drop (k + length x) b)

cell_first : (x l : List ℕ) → length x ≤ 32 → 32 ≤ length l → placed l 0 x ≡ (x ++ drop (length x) (take 32 l)) ++ drop 32 l
cell_first x l h k =
    let z : drop (length x) l ≡ drop (length x) (take 32 l) ++ drop 32 l =
    ap (drop (length x)) (sym (take-append-drop 32 l)) ∙ drop-append-le (length x) (take 32 l) (drop 32 l) (omega (arith, length-take-le 32 l k)) in
    let zero-plus : 0 + length x ≡ length x = omega arith in
    ap (λ (n : ℕ). x ++ drop n l) zero-plus ∙ ap (x ++◌) z ∙ sym (append_assoc x (drop (length x) (take 32 l)) (drop 32 l))

pub cells_snoc : (xs : List (List ℕ)) (x l : List ℕ) (n : ℕ) → n ≡ length xs → Short xs → length x ≤ 32 → 32 * length xs + 32 ≤ length l → placed (cells xs l) (32 * n) x ≡ cells (xs ++ x ∷ []) l
unfolding cells
cells_snoc [] x l n e s h k = ap (λ (i : ℕ). placed l i x) (ap (λ (i : ℕ). 32 * i) e) ∙ cell_first x l h (omega arith)
cells_snoc (y ∷ ys) x l n e s h k =
    let c : List ℕ = y ++ drop (length y) (take 32 l) in
    let long : length c ≡ 32 = cell_long y l s.0 (omega arith) in
    let i : 32 * n ≡ length c + 32 * length ys = omega arith in
    ap (λ (m : ℕ). placed (c ++ cells ys (drop 32 l)) m x) i
    ∙ placed_past c (cells ys (drop 32 l)) (32 * length ys) x
    ∙ ap (c ++◌) (cells_snoc ys x (drop 32 l) (length ys) refl s.1 h (omega (arith, length-drop 32 l)))

pub cells_long : (xs : List (List ℕ)) (l : List ℕ) → Short xs → 32 * length xs ≤ length l → length (cells xs l) ≡ length l
unfolding cells
cells_long [] l s k = refl
cells_long (y ∷ ys) l s k =
    length-append (y ++ drop (length y) (take 32 l)) (cells ys (drop 32 l))
    ∙ omega (arith, cell_long y l s.0 (omega arith), cells_long ys (drop 32 l) s.1 (omega (arith, length-drop 32 l)), length-drop 32 l)

pub map_snoc : (xs : List (List ℕ)) (x : List ℕ) → map length (xs ++ x ∷ []) ≡ map length xs ++ length x ∷ []
map_snoc [] x = refl
map_snoc (y ∷ ys) x = ap (length y ∷◌) (map_snoc ys x)
