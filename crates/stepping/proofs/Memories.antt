-- Entries of a monitor's memory, and trees of them.
use mathlib.Core.Path.{◌≡◌, refl, sym, ap, subst, ◌∙◌}
use mathlib.Core.Bool.{Bool}
use Prim.Native.Nat.{ℕ, ◌+◌, ◌≤◌, ◌<◌}
use native.Mathlib.Omega.{arith}
use lib.IntN.{ℤ}
use Rattle.monitor.specs.Mon.{Check, range_check, delayed_check, obligation, Mon, check, And, Or, count}
use Rattle.meaning.specs.State.{State, CheckState, JoinedState, WellShaped, culprit, failed}
use Rattle.node_step.specs.declared.state.MonState.{MonState}
use Rattle.node_step.proofs.Entries.{get_put_same, get_put_other, inside_put, culprit_put, inside_less}
use Rattle.node_step.specs.Memory.{Memory, get, put, Inside}
use Rattle.node_step.specs.Check.{read_check, write_check}
use Rattle.stepping.specs.Walk.{BlamelessEntry, Blameless, ShapedAt, read_mon, write_mon}
use Rattle.node_step.specs.Joined.{joined_entry}

pub count_pos : (m : Mon) → 1 ≤ count m
unfolding count
count_pos (check c) = omega arith
count_pos (And m n) = omega arith
count_pos (Or m n) = omega arith

-- ---- a tree
pub inside_write : (m : Mon) (st : State m) (mem : Memory) (i n : ℕ) → Inside mem n → Inside (write_mon m st mem i) n
unfolding write_mon
inside_write (check c) st mem i n d = inside_put mem i _ n d
inside_write (And m k) st mem i n d = inside_put _ i _ n (inside_write k st.right _ _ n (inside_write m st.left mem (i + 1) n d))
inside_write (Or m k) st mem i n d = inside_put _ i _ n (inside_write k st.right _ _ n (inside_write m st.left mem (i + 1) n d))

-- entries outside the tree stay
pub write_before : (m : Mon) (st : State m) (mem : Memory) (i k : ℕ) → k < i → get (write_mon m st mem i) k ≡ get mem k
unfolding write_mon
write_before (check c) st mem i k h = get_put_other mem i _ k (λ e. omega arith)
write_before (And m n) st mem i k h =
    let both = write_mon n st.right (write_mon m st.left mem (i + 1)) (i + 1 + count m) in
    get_put_other both i (joined_entry st.failed st.culprit (get both i)) k (λ e. omega arith) ∙ write_before n st.right (write_mon m st.left mem (i + 1)) (i + 1 + count m) k (omega arith) ∙ write_before m st.left mem (i + 1) k (omega arith)
write_before (Or m n) st mem i k h =
    let both = write_mon n st.right (write_mon m st.left mem (i + 1)) (i + 1 + count m) in
    get_put_other both i (joined_entry st.failed st.culprit (get both i)) k (λ e. omega arith) ∙ write_before n st.right (write_mon m st.left mem (i + 1)) (i + 1 + count m) k (omega arith) ∙ write_before m st.left mem (i + 1) k (omega arith)

pub write_past : (m : Mon) (st : State m) (mem : Memory) (i k : ℕ) → i + count m ≤ k → get (write_mon m st mem i) k ≡ get mem k
unfolding write_mon count
write_past (check c) st mem i k h = get_put_other mem i _ k (λ e. omega arith)
write_past (And m n) st mem i k h =
    let both = write_mon n st.right (write_mon m st.left mem (i + 1)) (i + 1 + count m) in
    get_put_other both i (joined_entry st.failed st.culprit (get both i)) k (λ e. omega arith) ∙ write_past n st.right (write_mon m st.left mem (i + 1)) (i + 1 + count m) k (omega arith) ∙ write_past m st.left mem (i + 1) k (omega arith)
write_past (Or m n) st mem i k h =
    let both = write_mon n st.right (write_mon m st.left mem (i + 1)) (i + 1 + count m) in
    get_put_other both i (joined_entry st.failed st.culprit (get both i)) k (λ e. omega arith) ∙ write_past n st.right (write_mon m st.left mem (i + 1)) (i + 1 + count m) k (omega arith) ∙ write_past m st.left mem (i + 1) k (omega arith)

-- two memories with the same entries from i to i + n
abbrev pub SameFrom : Memory → Memory → ℕ → ℕ → Type 0
SameFrom a b i n = (k : ℕ) → i ≤ k → k < i + n → get a k ≡ get b k

pub read_same : (m : Mon) (a b : Memory) (i : ℕ) → SameFrom a b i (count m) → read_mon m a i ≡ read_mon m b i
unfolding read_mon count
read_same (check c) a b i h = ap (read_check c) (h i (omega arith) (omega arith))
read_same (And m n) a b i h = λ j. record {
  left = read_same m a b (i + 1) (λ k p q. h k (omega arith) (omega arith)) j;
  right = read_same n a b (i + 1 + count m) (λ k p q. h k (omega arith) (omega arith)) j;
  failed = (h i (omega arith) (omega arith) j).failed;
  culprit = (h i (omega arith) (omega arith) j).culprit;
}
read_same (Or m n) a b i h = λ j. record {
  left = read_same m a b (i + 1) (λ k p q. h k (omega arith) (omega arith)) j;
  right = read_same n a b (i + 1 + count m) (λ k p q. h k (omega arith) (omega arith)) j;
  failed = (h i (omega arith) (omega arith) j).failed;
  culprit = (h i (omega arith) (omega arith) j).culprit;
}

pub blameless_same : (m : Mon) (a b : Memory) (i : ℕ) → SameFrom a b i (count m) → Blameless m a i → Blameless m b i
unfolding Blameless count
blameless_same (check c) a b i h s = subst (BlamelessEntry c) (h i (omega arith) (omega arith)) s
blameless_same (And m n) a b i h s = (
  blameless_same m a b (i + 1) (λ k p q. h k (omega arith) (omega arith)) s.0,
  blameless_same n a b (i + 1 + count m) (λ k p q. h k (omega arith) (omega arith)) s.1,
)
blameless_same (Or m n) a b i h s = (
  blameless_same m a b (i + 1) (λ k p q. h k (omega arith) (omega arith)) s.0,
  blameless_same n a b (i + 1 + count m) (λ k p q. h k (omega arith) (omega arith)) s.1,
)

pub shaped_same : (m : Mon) (a b : Memory) (i : ℕ) → SameFrom a b i (count m) → ShapedAt m a i → ShapedAt m b i
shaped_same m a b i h s = record { blameless = blameless_same m a b i h s.blameless; kept = subst (WellShaped m) (read_same m a b i h) s.kept }

-- what was written is read
check_back : (c : Check) (st : CheckState c) (e : MonState) → read_check c (write_check c st e) ≡ st
check_back (range_check p r) st e = refl
check_back (delayed_check p q r) st e = refl
check_back (obligation b p q r) st e = refl

module _ (m n : Mon) (l : State m) (r : State n) (f : Bool) (c : ℤ) (mem : Memory) (i : ℕ) where
  abbrev one_written : Memory
  one_written = write_mon m l mem (i + 1)

  abbrev both_written : Memory
  both_written = write_mon n r one_written (i + 1 + count m)

  abbrev all_written : Memory
  all_written = put both_written i (joined_entry f c (get both_written i))

  left_stays : SameFrom all_written one_written (i + 1) (count m)
  left_stays k p q = get_put_other both_written i (joined_entry f c (get both_written i)) k (λ e. omega arith) ∙ write_before n r one_written (i + 1 + count m) k q

  right_stays : SameFrom all_written both_written (i + 1 + count m) (count n)
  right_stays k p q = get_put_other both_written i (joined_entry f c (get both_written i)) k (λ e. omega arith)

  joined_back : Inside mem (i + 1) → read_mon m one_written (i + 1) ≡ l → read_mon n both_written (i + 1 + count m) ≡ r → ◌≡◌ {A = JoinedState (State m) (State n)} (record { left = read_mon m all_written (i + 1); right = read_mon n all_written (i + 1 + count m); failed = (get all_written i).failed; culprit = (get all_written i).culprit }) (record { left = l; right = r; failed = f; culprit = c })
  joined_back d p q =
      let e : get all_written i ≡ joined_entry f c (get both_written i) = get_put_same both_written i _ (inside_write n r one_written (i + 1 + count m) (i + 1) (inside_write m l mem (i + 1) (i + 1) d)) in
      λ j. record {
        left = (read_same m all_written one_written (i + 1) left_stays ∙ p) j;
        right = (read_same n all_written both_written (i + 1 + count m) right_stays ∙ q) j;
        failed = (e j).failed;
        culprit = (e j).culprit;
      }

pub read_back : (m : Mon) (st : State m) (mem : Memory) (i : ℕ) → Inside mem (i + count m) → read_mon m (write_mon m st mem i) i ≡ st
unfolding read_mon write_mon count
read_back (check c) st mem i d = ap (read_check c) (get_put_same mem i _ d) ∙ check_back c st (get mem i)
read_back (And m n) st mem i d =
    joined_back m n st.left st.right st.failed st.culprit mem i (inside_less mem (i + 1) (i + (1 + count m + count n)) (omega arith) d)
    (read_back m st.left mem (i + 1) (inside_less mem (i + 1 + count m) (i + (1 + count m + count n)) (omega arith) d))
    (read_back n st.right (write_mon m st.left mem (i + 1)) (i + 1 + count m) (inside_less _ (i + 1 + count m + count n) (i + (1 + count m + count n)) (omega arith) (inside_write m st.left mem (i + 1) (i + (1 + count m + count n)) d)))
read_back (Or m n) st mem i d =
    joined_back m n st.left st.right st.failed st.culprit mem i (inside_less mem (i + 1) (i + (1 + count m + count n)) (omega arith) d)
    (read_back m st.left mem (i + 1) (inside_less mem (i + 1 + count m) (i + (1 + count m + count n)) (omega arith) d))
    (read_back n st.right (write_mon m st.left mem (i + 1)) (i + 1 + count m) (inside_less _ (i + 1 + count m + count n) (i + (1 + count m + count n)) (omega arith) (inside_write m st.left mem (i + 1) (i + (1 + count m + count n)) d)))

-- a write changes no culprit of a range or delayed check
check_blameless : (c : Check) (st : CheckState c) (e : MonState) → BlamelessEntry c e → BlamelessEntry c (write_check c st e)
check_blameless (range_check p r) st e h = h
check_blameless (delayed_check p q r) st e h = h
check_blameless (obligation b p q r) st e h = tt

pub blameless_write : (m : Mon) (st : State m) (mem : Memory) (i : ℕ) → Inside mem (i + count m) → Blameless m mem i → Blameless m (write_mon m st mem i) i
unfolding Blameless write_mon count
blameless_write (check c) st mem i d h = subst (BlamelessEntry c) (sym (get_put_same mem i _ d)) (check_blameless c st (get mem i) h)
blameless_write (And m n) st mem i d h =
    let one = write_mon m st.left mem (i + 1) in
    let i₁ : Inside one (i + 1 + count m + count n) = inside_write m st.left mem (i + 1) (i + 1 + count m + count n) (inside_less mem (i + 1 + count m + count n) (i + (1 + count m + count n)) (omega arith) d) in
    let i₀ : Inside mem (i + 1 + count m) = inside_less mem (i + 1 + count m) (i + (1 + count m + count n)) (omega arith) d in (
      blameless_same m _ _ (i + 1) (λ k p q. sym (left_stays m n st.left st.right st.failed st.culprit mem i k p q)) (blameless_write m st.left mem (i + 1) i₀ h.0),
      blameless_same n _ _ (i + 1 + count m) (λ k p q. sym (right_stays m n st.left st.right st.failed st.culprit mem i k p q))
          (blameless_write n st.right one (i + 1 + count m) i₁ (blameless_same n mem one (i + 1 + count m) (λ k p q. sym (write_past m st.left mem (i + 1) k p)) h.1)),
    )
blameless_write (Or m n) st mem i d h =
    let one = write_mon m st.left mem (i + 1) in
    let i₁ : Inside one (i + 1 + count m + count n) = inside_write m st.left mem (i + 1) (i + 1 + count m + count n) (inside_less mem (i + 1 + count m + count n) (i + (1 + count m + count n)) (omega arith) d) in
    let i₀ : Inside mem (i + 1 + count m) = inside_less mem (i + 1 + count m) (i + (1 + count m + count n)) (omega arith) d in (
      blameless_same m _ _ (i + 1) (λ k p q. sym (left_stays m n st.left st.right st.failed st.culprit mem i k p q)) (blameless_write m st.left mem (i + 1) i₀ h.0),
      blameless_same n _ _ (i + 1 + count m) (λ k p q. sym (right_stays m n st.left st.right st.failed st.culprit mem i k p q))
          (blameless_write n st.right one (i + 1 + count m) i₁ (blameless_same n mem one (i + 1 + count m) (λ k p q. sym (write_past m st.left mem (i + 1) k p)) h.1)),
    )

pub shaped_write : (m : Mon) (st : State m) (mem : Memory) (i : ℕ) → Inside mem (i + count m) → ShapedAt m mem i → WellShaped m st → ShapedAt m (write_mon m st mem i) i
shaped_write m st mem i d h s = record { blameless = blameless_write m st mem i d h.blameless; kept = subst (WellShaped m) (sym (read_back m st mem i d)) s }

-- the root's culprit after a write, where range and delayed checks held minus 1
pub culprit_written : (m : Mon) (st : State m) (mem : Memory) (i : ℕ) → Inside mem (i + count m) → Blameless m mem i → (get (write_mon m st mem i) i).culprit ≡ culprit m st
unfolding write_mon Blameless count
culprit_written (check (range_check p r)) st mem i d s = culprit_put mem i (write_check (range_check p r) st (get mem i)) d ∙ s
culprit_written (check (delayed_check p q r)) st mem i d s = culprit_put mem i (write_check (delayed_check p q r) st (get mem i)) d ∙ s
culprit_written (check (obligation b p q r)) st mem i d s = culprit_put mem i (write_check (obligation b p q r) st (get mem i)) d
culprit_written (And m n) st mem i d s =
    let both = write_mon n st.right (write_mon m st.left mem (i + 1)) (i + 1 + count m) in
    culprit_put both i (joined_entry st.failed st.culprit (get both i)) (inside_write n st.right (write_mon m st.left mem (i + 1)) (i + 1 + count m) (i + 1) (inside_write m st.left mem (i + 1) (i + 1) (inside_less mem (i + 1) (i + (1 + count m + count n)) (omega arith) d)))
culprit_written (Or m n) st mem i d s =
    let both = write_mon n st.right (write_mon m st.left mem (i + 1)) (i + 1 + count m) in
    culprit_put both i (joined_entry st.failed st.culprit (get both i)) (inside_write n st.right (write_mon m st.left mem (i + 1)) (i + 1 + count m) (i + 1) (inside_write m st.left mem (i + 1) (i + 1) (inside_less mem (i + 1) (i + (1 + count m + count n)) (omega arith) d)))

pub culprit_read : (m : Mon) (mem : Memory) (i : ℕ) → Blameless m mem i → culprit m (read_mon m mem i) ≡ (get mem i).culprit
unfolding read_mon Blameless
culprit_read (check (range_check p r)) mem i s = sym s
culprit_read (check (delayed_check p q r)) mem i s = sym s
culprit_read (check (obligation b p q r)) mem i s = refl
culprit_read (And m n) mem i s = refl
culprit_read (Or m n) mem i s = refl

pub failed_read : (m : Mon) (mem : Memory) (i : ℕ) → failed m (read_mon m mem i) ≡ (get mem i).failed
unfolding read_mon
failed_read (check (range_check p r)) mem i = refl
failed_read (check (delayed_check p q r)) mem i = refl
failed_read (check (obligation b p q r)) mem i = refl
failed_read (And m n) mem i = refl
failed_read (Or m n) mem i = refl
