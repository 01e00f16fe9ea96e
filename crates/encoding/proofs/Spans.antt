-- The parts of a configuration tile its bits.
use mathlib.Core.Path.{◌≡◌, refl, sym, ap, ap₂, subst, ◌∙◌}
use mathlib.Core.Bool.{Bool, true, false, ◌&&◌, not}
use mathlib.Core.Logic.{⊎_elim}
use mathlib.Core.List.Memᴰ
use mathlib.Core.List.{List, [], ◌∷◌, ◌++◌, Memᴰ}
use Prim.Native.Nat.{ℕ, zero, suc, ◌+◌, ◌≤◌, ◌<◌}
use native.Mathlib.Omega.{arith}
use native.Mathlib.Nat.{add_assoc}
use native.Mathlib.Numerals.{add-one}
use lib.ListN.{length, get_or, take}
use lib.Seq.{take-length}
use Rattle.terms.specs.Choice.{pick}
use Rattle.formula.proofs.Cases.{below_or, true_false}
use Rattle.formula.proofs.Walks.{both_true}
use Rattle.plan.specs.Book.{bits_below, properties, assumptions, first_bit}
use Rattle.encoding.specs.Encoding.{state_bits_of, slot_bits, monitors_base, encoding_of}
use Rattle.encoding.specs.Parts.{Part, of_state, of_slot, of_rule, Span, Holds, Adjoins, numbered, span_of, IsPart, parts, total, Tiles}
use Rattle.encoding.proofs.Sums.{slots_more, kinds_add}

-- ---- parts that adjoin
module _ (span : Part → Span) where
  adjoins_append : (xs ys : List Part) (a b c : ℕ) → Adjoins span a xs b → Adjoins span b ys c → Adjoins span a (xs ++ ys) c
  unfolding Adjoins
  adjoins_append [] ys a b c p q = subst (λ (k : ℕ). Adjoins span k ys c) (sym p) q
  adjoins_append (x ∷ xs) ys a b c p q = (p.0, adjoins_append xs ys (a + (span x).width) b c p.1 q)

  adjoins_cons : (x : Part) (xs : List Part) (a b c : ℕ) → (span x).first ≡ a → a + (span x).width ≡ b → Adjoins span b xs c → Adjoins span a (x ∷ xs) c
  unfolding Adjoins
  adjoins_cons x xs a b c e f p = (e, subst (λ (k : ℕ). Adjoins span k xs c) (sym f) p)

  adjoins_upto : (xs : List Part) (a c : ℕ) → Adjoins span a xs c → a ≤ c
  unfolding Adjoins
  adjoins_upto [] a c p = omega arith
  adjoins_upto (x ∷ xs) a c p = omega (arith, adjoins_upto xs (a + (span x).width) c p.1)

  adjoins_inside : (xs : List Part) (a c : ℕ) → Adjoins span a xs c → (x : Part) → Memᴰ x xs → (a ≤ (span x).first) × ((span x).first + (span x).width ≤ c)
  unfolding Adjoins
  adjoins_inside [] a c p x m = absurd (Memᴰ.not-nil m)
  adjoins_inside (y ∷ ys) a c p x m = ⊎_elim
      (λ e.
      let f : (span x).first ≡ (span y).first = ap (λ (z : Part). (span z).first) e in
      let w : (span x).width ≡ (span y).width = ap (λ (z : Part). (span z).width) e in
      (omega (arith, p.0), omega (arith, p.0, adjoins_upto ys (a + (span y).width) c p.1)))
      (λ l.
      let r = adjoins_inside ys (a + (span y).width) c p.1 x l in
      (omega (arith, r.0), r.1))
      (Memᴰ.cases_cons m)

  adjoins_apart : (xs : List Part) (a c : ℕ) → Adjoins span a xs c → (x y : Part) → Memᴰ x xs → Memᴰ y xs → (b : ℕ) → Holds (span x) b → Holds (span y) b → x ≡ y
  unfolding Adjoins
  adjoins_apart [] a c p x y m n b g h = absurd (Memᴰ.not-nil m)
  adjoins_apart (z ∷ zs) a c p x y m n b g h = ⊎_elim
      (λ e. ⊎_elim (λ f. e ∙ sym f) (λ l. absurd (past x y e l g h)) (Memᴰ.cases_cons n))
      (λ k. ⊎_elim (λ f. absurd (past y x f k h g)) (λ l. adjoins_apart zs (a + (span z).width) c p.1 x y k l b g h) (Memᴰ.cases_cons n))
      (Memᴰ.cases_cons m)
    where
      past : (u v : Part) → u ≡ z → Memᴰ v zs → Holds (span u) b → Holds (span v) b → ⊥
      past u v e l i j =
          let f : (span u).first ≡ (span z).first = ap (λ (t : Part). (span t).first) e in
          let w : (span u).width ≡ (span z).width = ap (λ (t : Part). (span t).width) e in
          omega (arith, p.0, (adjoins_inside zs (a + (span z).width) c p.1 v l).0, i.1, j.0)

  adjoins_filled : (xs : List Part) (a c : ℕ) → Adjoins span a xs c → (b : ℕ) → a ≤ b → b < c → (x : Part) × (Memᴰ x xs × Holds (span x) b)
  unfolding Adjoins
  adjoins_filled [] a c p b g h = absurd (omega arith)
  adjoins_filled (x ∷ xs) a c p b g h = ⊎_elim
      (λ l. (x, (Memᴰ.head refl, (omega (arith, p.0), omega (arith, p.0)))))
      (λ l. let (y, (m, o)) = adjoins_filled xs (a + (span x).width) c p.1 b l h in (y, (Memᴰ.tail m, o)))
      (below_or b (a + (span x).width))

  -- parts whose first bits are behind those of the ones before
  numbered_adjoin : (chosen : ℕ → Bool) (part : ℕ → Part) (bits : ℕ → ℕ) (base n : ℕ)
      → ((r : ℕ) → r < n → chosen r ≡ true → ((span (part r)).first ≡ base + bits_below chosen bits r) × ((span (part r)).width ≡ bits r))
      → Adjoins span base (numbered chosen part n) (base + bits_below chosen bits n)
  unfolding numbered bits_below Adjoins
  numbered_adjoin chosen part bits base zero h = omega arith
  numbered_adjoin chosen part bits base (suc n) h =
      adjoins_append (numbered chosen part n) (pick (chosen n) (part n ∷ []) []) base (base + bits_below chosen bits n) _
      (numbered_adjoin chosen part bits base n (λ r l. h r (omega arith)))
      (last (chosen n) (h n (omega arith)))
    where
      last : (t : Bool) → (t ≡ true → ((span (part n)).first ≡ base + bits_below chosen bits n) × ((span (part n)).width ≡ bits n))
          → Adjoins span (base + bits_below chosen bits n) (pick t (part n ∷ []) []) (base + (bits_below chosen bits n + pick t (bits n) 0))
      last true k = ((k refl).0, omega (arith, (k refl).1))
      last false k = omega arith

-- ---- which parts are listed
numbered_in : (chosen : ℕ → Bool) (part : ℕ → Part) (n r : ℕ) → r < n → chosen r ≡ true → Memᴰ (part r) (numbered chosen part n)
unfolding numbered
numbered_in chosen part zero r h e = absurd (omega arith)
numbered_in chosen part (suc n) r h e = ⊎_elim
    (λ l. Memᴰ.append_left _ (numbered_in chosen part n r l e))
    (λ l.
    let z : r ≡ n = omega arith in
    Memᴰ.append_right (numbered chosen part n) (last (chosen n) (sym (ap chosen z) ∙ e) (ap part z)))
    (below_or r n)
  where
    last : (t : Bool) → t ≡ true → part r ≡ part n → Memᴰ (part r) (pick t (part n ∷ []) [])
    last true k z = Memᴰ.head z
    last false k z = true_false k refl

numbered_only : (chosen : ℕ → Bool) (part : ℕ → Part) (n : ℕ) (x : Part) → Memᴰ x (numbered chosen part n) → (r : ℕ) × ((r < n) × ((chosen r ≡ true) × (x ≡ part r)))
unfolding numbered
numbered_only chosen part zero x m = absurd (Memᴰ.not-nil m)
numbered_only chosen part (suc n) x m = ⊎_elim
    (λ l. let (r, (h, w)) = numbered_only chosen part n x l in (r, (omega arith, w)))
    (λ l. last (chosen n) refl l)
    (Memᴰ.append_cases (numbered chosen part n) m)
  where
    last : (t : Bool) → chosen n ≡ t → Memᴰ x (pick t (part n ∷ []) []) → (r : ℕ) × ((r < suc n) × ((chosen r ≡ true) × (x ≡ part r)))
    last true e l = (n, (omega arith, (e, Memᴰ.eq_of_singleton l)))
    last false e l = absurd (Memᴰ.not-nil l)

-- ---- a book's parts
module _ (count : ℕ) (ws : List ℕ) (n : ℕ) (property compiled : ℕ → Bool) (bits : ℕ → ℕ) where
  slots_below : (k : ℕ) → k ≤ length ws → slot_bits (take k ws) ≡ bits_below (λ (j : ℕ). true) (λ (j : ℕ). get_or ws j 0) k
  unfolding slot_bits bits_below
  slots_below zero h = refl
  slots_below (suc k) h =
      ap (λ (j : ℕ). slot_bits (take j ws)) (sym (add-one k))
      ∙ slots_more ws k (omega arith)
      ∙ ap (λ (j : ℕ). j + get_or ws k 0) (slots_below k (omega arith))

  all_slots : bits_below (λ (j : ℕ). true) (λ (j : ℕ). get_or ws j 0) (length ws) ≡ slot_bits ws
  all_slots = let h : length ws ≤ length ws = omega arith in sym (slots_below (length ws) h) ∙ ap slot_bits (take-length ws)

  slots_adjoin : Adjoins (span_of count ws n property compiled bits) (state_bits_of count) (numbered (λ (k : ℕ). true) of_slot (length ws)) (monitors_base count ws)
  slots_adjoin = subst
      (λ (k : ℕ). Adjoins (span_of count ws n property compiled bits) (state_bits_of count) (numbered (λ (k : ℕ). true) of_slot (length ws)) (state_bits_of count + k))
      all_slots
      (numbered_adjoin (span_of count ws n property compiled bits) (λ (k : ℕ). true) of_slot (λ (j : ℕ). get_or ws j 0) (state_bits_of count) (length ws)
      (λ k h e. let l : k ≤ length ws = omega arith in (ap (λ (j : ℕ). state_bits_of count + j) (slots_below k l), refl)))

  properties_adjoin : (base : ℕ) (span : Part → Span) → ((r : ℕ) → span (of_rule r) ≡ record { first = first_bit base n property compiled bits r; width = bits r })
      → Adjoins span base (numbered (properties property compiled) of_rule n) (base + bits_below (properties property compiled) bits n)
  properties_adjoin base span s = numbered_adjoin span (properties property compiled) of_rule bits base n λ r h e.
      let q : property r ≡ true = (both_true (compiled r) (property r) e).1 in (
        ap (λ (t : Span). t.first) (s r)
            ∙ ap (λ (b : Bool). base + pick b (bits_below (properties property compiled) bits r) (bits_below (properties property compiled) bits n + bits_below (assumptions property compiled) bits r)) q,
        ap (λ (t : Span). t.width) (s r),
      )

  assumptions_adjoin : (base : ℕ) (span : Part → Span) → ((r : ℕ) → span (of_rule r) ≡ record { first = first_bit base n property compiled bits r; width = bits r })
      → Adjoins span (base + bits_below (properties property compiled) bits n) (numbered (assumptions property compiled) of_rule n)
      (base + bits_below (properties property compiled) bits n + bits_below (assumptions property compiled) bits n)
  assumptions_adjoin base span s = numbered_adjoin span (assumptions property compiled) of_rule bits (base + bits_below (properties property compiled) bits n) n λ r h e.
      let q : property r ≡ false = not_so (property r) (both_true (compiled r) (not (property r)) e).1 in (
        ap (λ (t : Span). t.first) (s r)
            ∙ ap (λ (b : Bool). base + pick b (bits_below (properties property compiled) bits r) (bits_below (properties property compiled) bits n + bits_below (assumptions property compiled) bits r)) q
            ∙ sym (add_assoc base _ _),
        ap (λ (t : Span). t.width) (s r),
      )
    where
      not_so : (b : Bool) → not b ≡ true → b ≡ false
      not_so true e = sym e
      not_so false e = refl

  rules_adjoin : Adjoins (span_of count ws n property compiled bits) (monitors_base count ws)
      (numbered (properties property compiled) of_rule n ++ numbered (assumptions property compiled) of_rule n) (monitors_base count ws + bits_below compiled bits n)
  rules_adjoin =
      let base : ℕ = monitors_base count ws in
      let e : base + bits_below (properties property compiled) bits n + bits_below (assumptions property compiled) bits n ≡ base + bits_below compiled bits n =
      omega (arith, kinds_add property compiled bits n) in
      adjoins_append (span_of count ws n property compiled bits) (numbered (properties property compiled) of_rule n) (numbered (assumptions property compiled) of_rule n)
      base (base + bits_below (properties property compiled) bits n) (base + bits_below compiled bits n)
      (properties_adjoin base (span_of count ws n property compiled bits) (λ r. refl))
      (subst
      (λ (k : ℕ). Adjoins (span_of count ws n property compiled bits) (base + bits_below (properties property compiled) bits n) (numbered (assumptions property compiled) of_rule n) k)
      e
      (assumptions_adjoin base (span_of count ws n property compiled bits) (λ r. refl)))

  pub parts_adjoin : Adjoins (span_of count ws n property compiled bits) 0 (parts count ws n property compiled bits) (total count ws n property compiled bits)
  unfolding parts encoding_of
  parts_adjoin =
      let z : 0 + state_bits_of count ≡ state_bits_of count = omega arith in
      adjoins_cons (span_of count ws n property compiled bits) of_state _ 0 (state_bits_of count) (monitors_base count ws + bits_below compiled bits n) refl z
      (adjoins_append (span_of count ws n property compiled bits) (numbered (λ (k : ℕ). true) of_slot (length ws))
      (numbered (properties property compiled) of_rule n ++ numbered (assumptions property compiled) of_rule n)
      (state_bits_of count) (monitors_base count ws) (monitors_base count ws + bits_below compiled bits n)
      slots_adjoin rules_adjoin)

  part_in : (x : Part) → IsPart count ws n property compiled bits x → Memᴰ x (parts count ws n property compiled bits)
  unfolding parts
  part_in of_state h = Memᴰ.head refl
  part_in (of_slot k) h = Memᴰ.tail (Memᴰ.append_left _ (numbered_in (λ (j : ℕ). true) of_slot (length ws) k h refl))
  part_in (of_rule r) h = Memᴰ.tail (Memᴰ.append_right (numbered (λ (k : ℕ). true) of_slot (length ws)) (by_kind (property r) refl))
    where
      by_kind : (b : Bool) → property r ≡ b
          → Memᴰ (of_rule r) (numbered (properties property compiled) of_rule n ++ numbered (assumptions property compiled) of_rule n)
      by_kind true e = Memᴰ.append_left _ (numbered_in (properties property compiled) of_rule n r h.0 (ap₂ ◌&&◌ h.1 e))
      by_kind false e = Memᴰ.append_right (numbered (properties property compiled) of_rule n) (numbered_in (assumptions property compiled) of_rule n r h.0 (ap₂ (λ (c q : Bool). c && not q) h.1 e))

  part_only : (x : Part) → Memᴰ x (parts count ws n property compiled bits) → IsPart count ws n property compiled bits x
  unfolding parts
  part_only x m = ⊎_elim
      (λ e. subst (IsPart count ws n property compiled bits) (sym e) tt)
      (λ l. ⊎_elim
      (λ k.
      let (j, (h, (c, e))) = numbered_only (λ (i : ℕ). true) of_slot (length ws) x k in
      subst (IsPart count ws n property compiled bits) (sym e) h)
      (λ k. ⊎_elim
      (λ q.
      let (r, (h, (c, e))) = numbered_only (properties property compiled) of_rule n x q in
      subst (IsPart count ws n property compiled bits) (sym e) (h, (both_true (compiled r) (property r) c).0))
      (λ q.
      let (r, (h, (c, e))) = numbered_only (assumptions property compiled) of_rule n x q in
      subst (IsPart count ws n property compiled bits) (sym e) (h, (both_true (compiled r) (not (property r)) c).0))
      (Memᴰ.append_cases (numbered (properties property compiled) of_rule n) k))
      (Memᴰ.append_cases (numbered (λ (i : ℕ). true) of_slot (length ws)) l))
      (Memᴰ.cases_cons m)

  pub encoding_tiles : Tiles count ws n property compiled bits
  encoding_tiles = record {
    in_order = parts_adjoin;
    inside = λ x h. (adjoins_inside (span_of count ws n property compiled bits) (parts count ws n property compiled bits) 0 _ parts_adjoin x (part_in x h)).1;
    apart = λ x y h g b u v. adjoins_apart (span_of count ws n property compiled bits) (parts count ws n property compiled bits) 0 _ parts_adjoin x y (part_in x h) (part_in y g) b u v;
    filled = λ b h. let (x, (m, o)) = adjoins_filled (span_of count ws n property compiled bits) (parts count ws n property compiled bits) 0 _ parts_adjoin b (omega arith) h in (x, (part_only x m, o));
  }
