-- Culprits since the start: a node names at most one, and the monitor that goes on holds it, at each node of a tree.
use mathlib.Core.Path.{◌≡◌, refl, sym, subst, ◌∙◌}
use mathlib.Core.Bool.{Bool, true}
use mathlib.Core.Logic.{◌⊎◌, inl, ◌↔◌}
use Prim.Native.Nat.{ℕ, zero, suc, ◌<◌}
use native.Mathlib.Omega.{arith}
use lib.IntN.{ℤ, pos}
use Rattle.monitor.specs.Mon.{Check, range_check, delayed_check, obligation, Mon, check, And, Or}
use Rattle.meaning.specs.Culprit.{Joined}
use Rattle.meaning.specs.State.{JoinedState, CheckState, State, check_culprit, culprit, offered, joined_step, step}
use Rattle.meaning.proofs.Culprits.{joined_unique, offers, least_is, joined_step_lem}
use Rattle.resumed.specs.Since.{Since, AlarmSince, CheckCulpritSince, CulpritSince, SaysSince, EachSince}
use Rattle.resumed.proofs.Windows.{since_unique}
use Rattle.resumed.proofs.Steps.{Resumed, ResumedParts, and_parts, or_parts, obligation_kept, answers, marked}

-- ---- at most one
check_unique : (h : Check) (start : CheckState h) (c : Since) (k : ℕ) (x y : ℤ) → CheckCulpritSince h start c k x → CheckCulpritSince h start c k y → x ≡ y
unfolding CheckCulpritSince
check_unique (range_check p r) start c k x y f g = f ∙ sym g
check_unique (delayed_check p q r) start c k x y f g = f ∙ sym g
check_unique (obligation b p q r) start c k x y f g = since_unique c.step _ k x y f g

pub unique : (m : Mon) (start : State m) (c : Since) (k : ℕ) (x y : ℤ) → CulpritSince m start c k x → CulpritSince m start c k y → x ≡ y
unfolding CulpritSince
unique (check h) start c k x y f g = check_unique h start c k x y f g
unique (And m n) start c k x y f g = joined_unique _ _ k x y f g
unique (Or m n) start c k x y f g = joined_unique _ _ k x y f g

-- ---- a joined node
-- its culprit is the one that its state names
abbrev Names : (m : Mon) → Since → (ℕ → State m) → Type 0
Names m c st = (k : ℕ) → CulpritSince m (st 0) c k (culprit m (st k))

-- a part alarms at call k and then names t
abbrev Told : (m : Mon) → Since → (ℕ → State m) → ℕ → ℕ → Type 0
Told m c st k t = AlarmSince m (st 0) c k × CulpritSince m (st 0) c (suc k) (pos t)

part_offers : (m : Mon) (c : Since) (st : ℕ → State m) → Resumed m c st → Names m c st → (k t : ℕ)
    → (offered (step m (st k) (c.step k) (c.word k)).now (culprit m (step m (st k) (c.step k) (c.word k)).state) ≡ pos t) ↔ Told m c st k t
part_offers m c st r f k =
    let g = subst (λ (s : State m). CulpritSince m (st 0) c (suc k) (culprit m s)) (r.runs k) (f (suc k)) in
    offers (AlarmSince m (st 0) c k) (CulpritSince m (st 0) c (suc k)) _ _ (answers m c st r k) g (λ d. unique m (st 0) c (suc k) _ d g)

module _ (m n : Mon) (c : Since) (st : ℕ → JoinedState (State m) (State n)) (now : ℕ → Bool) (h : ResumedParts m n c st now) (Rings : ℕ → Type 0) (rings : (k : ℕ) → (now k ≡ true) ↔ Rings k) (marks : (k : ℕ) → ((st k).failed ≡ true) ↔ ((i : ℕ) × (i < k) × Rings i)) (f : Names m c (λ k. (st k).left)) (g : Names n c (λ k. (st k).right)) where
  joined : (k : ℕ) → Joined Rings (λ i t. Told m c (λ j. (st j).left) i t ⊎ Told n c (λ j. (st j).right) i t) k (st k).culprit
  unfolding joined_step
  joined zero = inl (λ u z. absurd (omega arith), h.unnamed)
  joined (suc k) = rw (h.runs k) (joined_step_lem Rings _ k (st k).culprit _
      (least_is (Told m c (λ j. (st j).left) k) (Told n c (λ j. (st j).right) k) _ _ (part_offers m c _ h.left f k) (part_offers n c _ h.right g k))
      (st k).failed (now k) (marks k) (rings k) (joined k))

-- ---- the monitor's culprits
check_named : (h : Check) (c : Since) (st : ℕ → CheckState h) → Resumed (check h) c st → (k : ℕ) → CheckCulpritSince h (st 0) c k (check_culprit h (st k))
unfolding CheckCulpritSince
check_named (range_check p r) c st h k = refl
check_named (delayed_check p q r) c st h k = refl
check_named (obligation b p q r) c st h k = (obligation_kept b p q r c st h k).latest

named : (m : Mon) (c : Since) (st : ℕ → State m) → Resumed m c st → (k : ℕ) → CulpritSince m (st 0) c k (culprit m (st k))
unfolding CulpritSince
named (check h) c st r = check_named h c st r
named (And m n) c st r =
    let p = and_parts m n c st r in
    joined m n c st _ p _ (answers (And m n) c st r) (marked (And m n) c st r) (named m c _ p.left) (named n c _ p.right)
named (Or m n) c st r =
    let p = or_parts m n c st r in
    joined m n c st _ p _ (answers (Or m n) c st r) (marked (Or m n) c st r) (named m c _ p.left) (named n c _ p.right)

-- ---- what each node's state says
says : (m : Mon) (c : Since) (st : ℕ → State m) → Resumed m c st → (k : ℕ) → SaysSince m (st 0) c k (st k)
says m c st r k = record { marked = marked m c st r k; named = named m c st r k }

pub each : (m : Mon) (c : Since) (st : ℕ → State m) → Resumed m c st → (k : ℕ) → EachSince m (st 0) c k (st k)
unfolding EachSince
each (check h) c st r k = says (check h) c st r k
each (And m n) c st r k =
    let p = and_parts m n c st r in
    (says (And m n) c st r k, each m c _ p.left k, each n c _ p.right k)
each (Or m n) c st r k =
    let p = or_parts m n c st r in
    (says (Or m n) c st r k, each m c _ p.left k, each n c _ p.right k)
