-- WHAT AN ACCEPTED BOOK HANDS TO THE LISTING.
--     book_rules, book_size     each rule is a formula within the limits, of as many nodes as its count
--     book_label, book_kind     its label has at most 32 bytes, its kind is 0 or 1
--     book_next, book_inside    the rules stand one behind the other in the formula table
--     book_held, label_held     in the tables that reading leaves, the rule list and the formula table hold the rules and their labels
use mathlib.Core.Path.{◌≡◌, sym, ap, ap₂, ◌∙◌}
use mathlib.Core.List.{List, [], ◌∷◌, ◌++◌, map, append_assoc, append-nil}
use mathlib.Core.Option.{some}
use Prim.Native.Nat.{ℕ, zero, suc, ◌+◌, ◌*◌, ◌≤◌, ◌<◌}
use native.Mathlib.Omega.{arith}
use lib.ListN.{length, get_or, take, drop, length-append, length-drop, length-map, get_or-map}
use lib.Seq.{take-append_seam, drop-append-add}
use Rattle.formula.specs.Tree.{size}
use Rattle.formula.specs.Table.{rule_of}
use Rattle.formula.proofs.Rules.{rule_of_lem, rule_inv}
use Rattle.book.specs.Book.{Book, accepted, read}
use Rattle.reader.specs.BookTables.{BookTables, SlotTables, cells, written, read_into}
use Rattle.reader.specs.Answer.{Roomy}
use Rattle.reader.proofs.Sounds.{Sound, Short}
use Rattle.reader.proofs.Columns.{over_long, cells_long}
use Rattle.reader.proofs.Runs.{roomy_is}
use Rattle.book_laws.proofs.RuleLaws.{Done, Stacked, Kinded, stacked_next, stacked_inside, formula_at, rule_at_lem, rule_in_tables, over_at, into_accepted, accepted_done}
use Rattle.listing_rules.specs.Tabled.{Held}
use Rattle.listing_text.specs.Listing.{formula_or, rule_at}

-- ---- the book's own lists
module _ (b : Book) (d : Done b) where
  own_rule : (r : ℕ) (h : r < length b.labels) → rule_of b.ops b.nums (get_or b.firsts r 0) (get_or b.counts r 0) ≡ some (formula_at b d r h)
  own_rule r h =
      ap₂ (λ (x y : List ℕ). rule_of x y (get_or b.firsts r 0) (get_or b.counts r 0)) (sym (append-nil b.ops)) (sym (append-nil b.nums))
      ∙ rule_of_lem (b.ops ++ []) (b.nums ++ []) (get_or b.firsts r 0) (get_or b.counts r 0) (formula_at b d r h) (rule_at_lem b d r h [] [])

  own_formula : (r : ℕ) (h : r < length b.labels) → (rule_at b r).formula ≡ formula_at b d r h
  unfolding rule_at
  own_formula r h = ap formula_or (own_rule r h)

short_at : (xs : List (List ℕ)) (r : ℕ) → Short xs → r < length xs → length (get_or xs r []) ≤ 32
short_at [] r s h = absurd (omega arith)
short_at (x ∷ xs) zero s h = s.0
short_at (x ∷ xs) (suc r) s h = short_at xs r s.1 (omega arith)

kinded_at : (ks : List ℕ) (r : ℕ) → Kinded ks → get_or ks r 0 < 2
kinded_at [] r s = omega arith
kinded_at (k ∷ ks) zero s = s.0
kinded_at (k ∷ ks) (suc r) s = kinded_at ks r s.1

module _ (text : List ℕ) (b : Book) (e : read text ≡ accepted b) where
  pub few_rules : length b.labels ≤ 64
  few_rules = (accepted_done text b e).sound.few

  pub few_nodes : length b.ops ≤ 1024
  few_nodes = (accepted_done text b e).sound.less

  pub stacked : Stacked 0 (length b.ops) b.firsts b.counts
  stacked = (accepted_done text b e).stacked

  pub book_rules : (r : ℕ) → r < length b.labels → rule_of b.ops b.nums (get_or b.firsts r 0) (get_or b.counts r 0) ≡ some (rule_at b r).formula
  book_rules r h = own_rule b (accepted_done text b e) r h ∙ ap some (sym (own_formula b (accepted_done text b e) r h))

  pub book_size : (r : ℕ) → r < length b.labels → size (rule_at b r).formula ≡ get_or b.counts r 0
  book_size r h = (rule_inv b.ops b.nums (get_or b.firsts r 0) (get_or b.counts r 0) (rule_at b r).formula (book_rules r h)).covers

  pub book_label : (r : ℕ) → r < length b.labels → length (rule_at b r).label ≤ 32
  unfolding rule_at
  book_label r h = short_at b.labels r (accepted_done text b e).sound.short h

  pub book_kind : (r : ℕ) → (rule_at b r).kind < 2
  unfolding rule_at
  book_kind r = kinded_at b.kinds r (accepted_done text b e).kinds

  pub book_next : (r : ℕ) → r + 1 < length b.labels → get_or b.firsts r 0 + get_or b.counts r 0 ≡ get_or b.firsts (r + 1) 0
  book_next r h = stacked_next 0 (length b.ops) b.firsts b.counts r stacked (omega (arith, h, (accepted_done text b e).sound.firsts_long))

  pub book_inside : (r : ℕ) → r < length b.labels → get_or b.firsts r 0 + get_or b.counts r 0 ≤ length b.ops
  book_inside r h = stacked_inside 0 (length b.ops) b.firsts b.counts r stacked (omega (arith, h, (accepted_done text b e).sound.firsts_long))

-- ---- labels, each in front of its own 32 bytes
cell_long : (x l : List ℕ) → length x ≤ 32 → 32 ≤ length l → length (x ++ drop (length x) (take 32 l)) ≡ 32
unfolding cells
cell_long x l h k =
    let whole : length ((x ++ drop (length x) (take 32 l)) ++ drop 32 l) ≡ length l = cells_long (x ∷ []) l (h, tt) k in
    omega (arith, whole, length-append (x ++ drop (length x) (take 32 l)) (drop 32 l), length-drop 32 l)

cells_at :
    (xs : List (List ℕ)) (l : List ℕ) (r : ℕ) → Short xs → r < length xs → 32 * length xs ≤ length l
    → take (length (get_or xs r [])) (drop (32 * r) (cells xs l)) ≡ get_or xs r []
unfolding cells
cells_at [] l r s h k = absurd (omega arith)
cells_at (x ∷ xs) l zero s h k =
    ap (take (length x)) (append_assoc x (drop (length x) (take 32 l)) (cells xs (drop 32 l)))
    ∙ take-append_seam x (drop (length x) (take 32 l) ++ cells xs (drop 32 l))
cells_at (x ∷ xs) l (suc r) s h k =
    let c : List ℕ = x ++ drop (length x) (take 32 l) in
    let long : length c ≡ 32 = cell_long x l s.0 (omega arith) in
    let i : 32 * suc r ≡ length c + 32 * r = omega arith in
    ap (take (length (get_or xs r []))) (ap (λ (m : ℕ). drop m (c ++ cells xs (drop 32 l))) i ∙ drop-append-add c (cells xs (drop 32 l)) (32 * r))
    ∙ cells_at xs (drop 32 l) r s.1 (omega arith) (omega (arith, length-drop 32 l))

-- ---- the tables that reading leaves
module _ (text : List ℕ) (t : BookTables) (u : SlotTables) (b : Book) (e : read_into text t u ≡ accepted b) where
  roomed : Roomy t
  roomed = roomy_is t (into_accepted text t u b e).0

  done : Done b
  done = accepted_done text b (into_accepted text t u b e).1

  sound : Sound b
  sound = done.sound

  pub book_held :
      length t.ops ≡ 1024 → length t.nums ≡ 1024
      → Held (written b t).ops (written b t).nums (written b t).kinds (written b t).firsts (written b t).counts (rule_at b) (length b.labels)
  unfolding written rule_at
  book_held o m =
      let s : Sound b = sound in
      let room : Roomy t = roomed in
      let st : Stacked 0 (length b.ops) b.firsts b.counts = done.stacked in
      record {
        few = s.few;
        ops_long = over_long b.ops t.ops (omega (arith, s.less)) ∙ o;
        nums_long = over_long b.nums t.nums (omega (arith, s.less, s.nums_long)) ∙ m;
        in_kinds = omega (arith, over_long b.kinds t.kinds (omega (arith, s.few, s.kinds_long, room.kinds)), room.kinds);
        in_firsts = omega (arith, over_long b.firsts t.firsts (omega (arith, s.few, s.firsts_long, room.firsts)), room.firsts);
        in_counts = omega (arith, over_long b.counts t.counts (omega (arith, s.few, s.counts_long, room.counts)), room.counts);
        kind = λ r h. sym (over_at b.kinds t.kinds r (omega (arith, h, s.kinds_long)));
        first = λ r h. sym (over_at b.firsts t.firsts r (omega (arith, h, s.firsts_long)));
        formula = λ r h. rule_in_tables b t done r h ∙ ap some (sym (own_formula b done r h));
        apart = λ r h. omega (
          arith,
          over_at b.firsts t.firsts r (omega (arith, h, s.firsts_long)),
          over_at b.counts t.counts r (omega (arith, h, s.counts_long)),
          over_at b.firsts t.firsts (r + 1) (omega (arith, h, s.firsts_long)),
          stacked_next 0 (length b.ops) b.firsts b.counts r st (omega (arith, h, s.firsts_long)),
        );
      }

  pub len_held : (r : ℕ) → r < length b.labels → get_or (written b t).lens r 0 ≡ length (rule_at b r).label
  unfolding written rule_at
  len_held r h =
      over_at (map length b.labels) t.lens r (omega (arith, h, length-map b.labels length))
      ∙ get_or-map length b.labels r []

  pub label_held : (r : ℕ) → r < length b.labels → take (get_or (written b t).lens r 0) (drop (32 * r) (written b t).labels) ≡ (rule_at b r).label
  unfolding written rule_at
  label_held r h =
      ap (λ (n : ℕ). take n (drop (32 * r) (cells b.labels t.labels))) (len_held r h)
      ∙ cells_at b.labels t.labels r sound.short h (omega (arith, sound.few, roomed.labels))

  -- its place is within the first 2,048 bytes, and these within the table
  pub label_inside : (r : ℕ) → r < length b.labels → 32 * r + get_or (written b t).lens r 0 ≤ 2048
  label_inside r h = omega (arith, len_held r h, book_label text b (into_accepted text t u b e).1 r h, sound.few)

  pub labels_long : 2048 ≤ length (written b t).labels
  unfolding written
  labels_long = omega (arith, roomed.labels, cells_long b.labels t.labels sound.short (omega (arith, sound.few, roomed.labels)))
