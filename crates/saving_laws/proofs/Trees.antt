-- Entries over a rule's tree.
--     clean-shaped, clean-blameless, clean-unblamed    entries without mark and culprit: the state is well-shaped, and nothing is to blame
--     windowed-saved      a monitor that fits and is not spent can be saved
--     off_read            entries as they come back read as the state that comes back
--     off-alike           which is alike to the saved one
use mathlib.Core.Path.{◌≡◌, refl, sym, ap, subst, ◌∙◌}
use mathlib.Core.Bool.{Bool, true, false, ◌||◌, cond}
use mathlib.Core.List.{List, [], ◌∷◌, ◌++◌}
use mathlib.Core.Logic.{⊎_elim}
use Prim.Native.Nat.{ℕ, zero, suc, ◌+◌, ◌≤◌}
use native.Mathlib.Omega.{arith}
use native.Mathlib.Nat.{add-zero}
use lib.IntN.{ℤ}
use lib.ListN.{length}
use Rattle.formula.proofs.Cases.{true_or, true_false}
use Rattle.monitor.specs.Mon.{Check, range_check, delayed_check, obligation, Mon, check, And, Or, count, node_of}
use Rattle.meaning.specs.Culprit.{minus_one}
use Rattle.meaning.specs.State.{FromMinusOne, CheckShaped, WellShaped}
use Rattle.node_step.specs.declared.state.MonState.{MonState}
use Rattle.node_step.specs.Memory.{Memory, get}
use Rattle.node_step.specs.Check.{read_check}
use Rattle.stepping.specs.Walk.{read_mon, Blameless}
use Rattle.resumed.specs.Since.{Unblamed}
use Rattle.kept.specs.declared.Keep.{Keep}
use Rattle.kept.specs.declared.Keep.TheVariants.{Nothing}
use Rattle.kept.specs.Kept.{keep_node, keeps, spent_from}
use Rattle.saving_laws.specs.Off.{off_check, switched_off}
use Rattle.saving_laws.proofs.Keeps.{keeps_length, spent_parts}
use Rattle.saving_laws.proofs.Alike.{Alike}
use Rattle.saving_laws.proofs.Entries.{EntriesAre, Windowed, WindowedFrom, off_entry, off_entries, Clean, CleanFrom}

-- ---- a fold over the nodes of a rule falls apart at its joined nodes
module _ (P : Keep → ℕ → Type 0) where
  unfoldable pub Each : List Keep → ℕ → Type 0
  Each [] k = Unit {0}
  Each (x ∷ xs) k = P x k × Each xs (k + 1)

  each_split : (xs ys : List Keep) (k : ℕ) → Each (xs ++ ys) k → Each xs k × Each ys (k + length xs)
  unfolding Each
  each_split [] ys k e = (tt, subst (Each ys) (sym (add-zero k)) e)
  each_split (x ∷ xs) ys k e =
      let o : k + 1 + length xs ≡ k + suc (length xs) = omega arith in
      let (a, b) = each_split xs ys (k + 1) e.1 in
      ((e.0, a), subst (Each ys) o b)

  each_join : (xs ys : List Keep) (k : ℕ) → Each xs k → Each ys (k + length xs) → Each (xs ++ ys) k
  unfolding Each
  each_join [] ys k a b = subst (Each ys) (add-zero k) b
  each_join (x ∷ xs) ys k a b =
      let o : k + suc (length xs) ≡ k + 1 + length xs = omega arith in
      (a.0, each_join xs ys (k + 1) a.1 (subst (Each ys) o b))

  pub each_parts : (m n : Mon) (i : ℕ) → Each (Nothing ∷ keeps m ++ keeps n) i → P Nothing i × Each (keeps m) (i + 1) × Each (keeps n) (i + 1 + count m)
  unfolding Each
  each_parts m n i e =
      let (a, b) = each_split (keeps m) (keeps n) (i + 1) e.1 in
      (e.0, a, subst (λ (x : ℕ). Each (keeps n) (i + 1 + x)) (keeps_length m) b)

  pub each_whole : (m n : Mon) (i : ℕ) → P Nothing i → Each (keeps m) (i + 1) → Each (keeps n) (i + 1 + count m) → Each (Nothing ∷ keeps m ++ keeps n) i
  unfolding Each
  each_whole m n i p a b = (p, each_join (keeps m) (keeps n) (i + 1) a (subst (λ (x : ℕ). Each (keeps n) (i + 1 + x)) (sym (keeps_length m)) b))

-- ---- entries without mark and culprit
abbrev pub CleanAt : Memory → Keep → ℕ → Type 0
CleanAt a x k = Clean x (get a k)

from_minus : (c : ℤ) → c ≡ minus_one → FromMinusOne c
from_minus c e = subst FromMinusOne (sym e) tt

module _ (a : Memory) where
  pub clean_each : (xs : List Keep) (k : ℕ) → CleanFrom xs a k → Each (CleanAt a) xs k
  unfolding CleanFrom Each
  clean_each [] k c = tt
  clean_each (x ∷ xs) k c = (c.0, clean_each xs (k + 1) c.1)

  pub record CleanTree (m : Mon) (i : ℕ) : Type 0 where
    pub root : (get a i).failed ≡ false
    pub shaped : WellShaped m (read_mon m a i)
    pub blameless : Blameless m a i
    pub unblamed : Unblamed m (read_mon m a i)

  clean_joined : (m n : Mon) (i : ℕ) → Clean Nothing (get a i) → CleanTree m (i + 1) → CleanTree n (i + 1 + count m) → CleanTree (And m n) i
  unfolding WellShaped Blameless Unblamed read_mon
  clean_joined m n i c l r = record {
    root = c.unfailed;
    shaped = (l.shaped, r.shaped, from_minus (get a i).culprit c.blameless);
    blameless = (l.blameless, r.blameless);
    unblamed = (c.unfailed, c.blameless, l.unblamed, r.unblamed);
  }

  -- what is said of `and` is said of `or`
  clean_either : (m n : Mon) (i : ℕ) → CleanTree (And m n) i → CleanTree (Or m n) i
  unfolding WellShaped Blameless Unblamed read_mon
  clean_either m n i c = record { root = c.root; shaped = c.shaped; blameless = c.blameless; unblamed = c.unblamed }

  pub clean_tree : (m : Mon) (i : ℕ) → Each (CleanAt a) (keeps m) i → CleanTree m i
  unfolding keeps Each WellShaped CheckShaped Blameless Unblamed read_mon
  clean_tree (check (range_check p r)) i c = record { root = c.0.unfailed; shaped = tt; blameless = c.0.blameless; unblamed = c.0.unfailed }
  clean_tree (check (delayed_check p q r)) i c = record { root = c.0.unfailed; shaped = tt; blameless = c.0.blameless; unblamed = c.0.unfailed }
  clean_tree (check (obligation b p q r)) i c = record {
    root = c.0.unfailed;
    shaped = record { window = λ h f. c.0.windowed h; culprit = from_minus (get a i).culprit c.0.blameless };
    blameless = tt;
    unblamed = (c.0.unfailed, c.0.blameless);
  }
  clean_tree (And m n) i c =
      let (x, l, r) = each_parts (CleanAt a) m n i c in
      clean_joined m n i x (clean_tree m (i + 1) l) (clean_tree n (i + 1 + count m) r)
  clean_tree (Or m n) i c =
      let (x, l, r) = each_parts (CleanAt a) m n i c in
      clean_either m n i (clean_joined m n i x (clean_tree m (i + 1) l) (clean_tree n (i + 1 + count m) r))

-- ---- a monitor that fits and is not spent
abbrev pub WindowedAt : Memory → Keep → ℕ → Type 0
WindowedAt b x k = Windowed x (get b k)

pub or_false : (x y : Bool) → (x || y) ≡ false → (x ≡ false) × (y ≡ false)
or_false true y e = true_false refl e
or_false false y e = (refl, e)

module _ (b : Memory) where
  pub windowed_each : (xs : List Keep) (k : ℕ) → Each (WindowedAt b) xs k → WindowedFrom xs b k
  unfolding WindowedFrom Each
  windowed_each [] k c = tt
  windowed_each (x ∷ xs) k c = (c.0, windowed_each xs (k + 1) c.1)

  pub record Savable (m : Mon) (i : ℕ) : Type 0 where
    pub windows : Each (WindowedAt b) (keeps m) i
    pub alike : Alike m (read_mon m b i) (switched_off m (read_mon m b i))

  savable_joined : (m n : Mon) (i : ℕ) → Savable m (i + 1) → Savable n (i + 1 + count m) → Savable (And m n) i
  unfolding keeps Each Alike read_mon switched_off
  savable_joined m n i l r = record { windows = each_whole (WindowedAt b) m n i tt l.windows r.windows; alike = (l.alike, r.alike) }

  savable_either : (m n : Mon) (i : ℕ) → Savable (And m n) i → Savable (Or m n) i
  unfolding keeps Alike read_mon switched_off
  savable_either m n i c = record { windows = c.windows; alike = c.alike }

  pub saved_tree : (m : Mon) (i : ℕ) → WellShaped m (read_mon m b i) → spent_from (keeps m) b.failed i ≡ false → Savable m i
  unfolding keeps Each spent_from WellShaped CheckShaped Alike read_mon switched_off
  saved_tree (check (range_check p r)) i w s = record { windows = (tt, tt); alike = tt }
  saved_tree (check (delayed_check p q r)) i w s = record { windows = (tt, tt); alike = record { remembered = refl; failed = (or_false _ false s).0 } }
  saved_tree (check (obligation c p q r)) i w s =
      let f = (or_false (get b i).failed false s).0 in
      record {
        windows = (λ h. w.window h f, tt);
        alike = record { pending = refl; failed = f; remaining = λ h. sym (ap (λ (x : Bool). cond x (get b i).remaining 0) h) };
      }
  saved_tree (And m n) i w s =
      let (x, y) = or_false (spent_from (keeps m) b.failed (i + 1)) _ (sym (spent_parts b.failed m n i) ∙ s) in
      savable_joined m n i (saved_tree m (i + 1) w.0 x) (saved_tree n (i + 1 + count m) w.1 y)
  saved_tree (Or m n) i w s =
      let (x, y) = or_false (spent_from (keeps m) b.failed (i + 1)) _ (sym (spent_parts b.failed m n i) ∙ s) in
      savable_either m n i (savable_joined m n i (saved_tree m (i + 1) w.0 x) (saved_tree n (i + 1 + count m) w.1 y))

-- ---- entries as they come back
pub record OffAt (a b : Memory) (x : Keep) (k : ℕ) : Type 0 where
  pub is : get a k ≡ off_entry x (get b k)
  pub windowed : Windowed x (get b k)

module _ (a b : Memory) where
  pub off_each : (xs : List Keep) (k : ℕ) → EntriesAre (off_entries xs b k) a k → Each (WindowedAt b) xs k → Each (OffAt a b) xs k
  unfolding EntriesAre off_entries Each
  off_each [] k e w = tt
  off_each (x ∷ xs) k e w = (record { is = e.0; windowed = w.0 }, off_each xs (k + 1) e.1 w.1)

  shut : (e : MonState) → (e.held ≡ true → (1 ≤ e.remaining) × (e.remaining ≤ 0)) → e.held ≡ false
  shut e h = ⊎_elim (λ t. let (x, y) = h t in absurd (omega arith)) (λ f. f) (true_or e.held)

  off_check_lem : (c : Check) (k : ℕ) → OffAt a b (keep_node (node_of c)) k → read_check c (get a k) ≡ off_check c (read_check c (get b k))
  off_check_lem (range_check p r) k o = ap (read_check (range_check p r)) o.is
  off_check_lem (delayed_check p q r) k o = ap (read_check (delayed_check p q r)) o.is
  off_check_lem (obligation zero p q r) k o =
      let f = shut (get b k) o.windowed in
      ap (read_check (obligation zero p q r)) o.is
      ∙ ap (λ (h : Bool). record { pending = h; remaining = cond h (get b k).remaining 0; failed = false; culprit = minus_one }) (sym f)
  off_check_lem (obligation (suc c) p q r) k o = ap (read_check (obligation (suc c) p q r)) o.is

  pub off_read : (m : Mon) (i : ℕ) → Each (OffAt a b) (keeps m) i → read_mon m a i ≡ switched_off m (read_mon m b i)
  unfolding keeps Each read_mon switched_off
  off_read (check c) i o = off_check_lem c i o.0
  off_read (And m n) i o =
      let (x, l, r) = each_parts (OffAt a b) m n i o in
      λ j. record { left = off_read m (i + 1) l j; right = off_read n (i + 1 + count m) r j; failed = (x.is j).failed; culprit = (x.is j).culprit }
  off_read (Or m n) i o =
      let (x, l, r) = each_parts (OffAt a b) m n i o in
      λ j. record { left = off_read m (i + 1) l j; right = off_read n (i + 1 + count m) r j; failed = (x.is j).failed; culprit = (x.is j).culprit }
